use Rattle.asg_proof.proofs.phase_lists.Phases.from_vec.Goals as goal

pub invariant_of-result : goal.invariant_of-result
invariant_of-result c = rw c.in_ok-new.ensures.ok c.requires
