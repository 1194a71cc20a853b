use Rattle.asg_networks.proofs.Common.{[], ◌++◌, ◌∙◌, subst, twice_faults, IsEarliest}
use Rattle.asg_networks.proofs.NetworkLemmas.{refuses_all}
use Rattle.asg_networks.proofs.network.Network.take.Goals as goal

pub returns-in-Err-clause-refused : goal.returns-in-Err-clause-refused
returns-in-Err-clause-refused c =
    refuses_all c.args.number c.args.line c.args.self.now c.in-Err.refusal c.earliest.result
    (λ faults is. subst (λ links. IsEarliest (twice_faults [] links ++ faults) c.earliest.result) (c.as_slice.ensures.value ∙ c.in-Err.ensures.kept) (c.earliest.ensures faults is))
    c.in-Err.ensures.refused
