use Rattle.asg_networks.proofs.Common.{refl, nodes_of}
use Rattle.asg_networks.proofs.NetworkLemmas.{sizes_kept, sizes_sound}
use Rattle.asg_networks.proofs.network.Network.take_sizes.Goals as goal

pub returns-clause-taken : goal.returns-clause-taken
returns-clause-taken c = λ before is number_is.
    sizes_kept before c.args.self.now _ c.args.number is number_is c.args.sizes c.if-is_some.ensures c.if-is_none.ensures refl refl refl

pub returns-clause-sound : goal.returns-clause-sound
returns-clause-sound c = sizes_sound c.args.self.now (nodes_of c.args.sizes) c.requires.sound c.if-is_some.ensures
