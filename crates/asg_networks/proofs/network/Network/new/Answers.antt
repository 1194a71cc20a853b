use Rattle.asg_networks.proofs.Common.{refl}
use Rattle.asg_networks.proofs.NetworkLemmas.{nothing_kept, nothing_sound}
use Rattle.asg_networks.proofs.network.Network.new.Goals as goal

pub returns-clause-none : goal.returns-clause-none
returns-clause-none c = nothing_kept _ refl c.new.ensures.items c.new-2.ensures.items

pub returns-clause-sound : goal.returns-clause-sound
returns-clause-sound c =
    nothing_sound 0 c.new.result.items c.new-2.result.items c.in_ok-new.field-0 c.in_ok-new-2.field-0 c.new.ensures.items c.new-2.ensures.items c.in_ok-new.ensures c.in_ok-new-2.ensures
