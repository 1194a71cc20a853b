use Rattle.asg_networks.proofs.Common.{[], ◌∷◌, ◌++◌, sym, subst, IsNetworkOf}
use Rattle.asg_networks.proofs.NetworkLemmas.{empty_kept}
use Rattle.asg_networks.proofs.network.Network.put_line.Goals as goal

pub returns-in-Empty-clause-taken : goal.returns-in-Empty-clause-taken
returns-in-Empty-clause-taken c = λ before is number_is.
    subst (λ line. IsNetworkOf (before ++ line ∷ []) c.args.self.now) (sym c.in-Empty.is) (empty_kept before c.args.self.now c.args.self.now c.args.number is number_is)
