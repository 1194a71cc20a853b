use Rattle.asg_match.proofs.Common.{subst, IsMatching}
use Rattle.asg_match.proofs.PairedLemmas.{IsMatching-from_paired}
use Rattle.asg_match.proofs.matching.Matching.row_of.Goals as goal

pub returns-clause-matching : goal.returns-clause-matching
returns-clause-matching c = subst IsMatching c.self.view_is (IsMatching-from_paired c.self.invariant.0)
