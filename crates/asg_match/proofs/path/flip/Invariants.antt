use Rattle.asg_match.proofs.Common.{parents_in}
use Rattle.asg_match.proofs.PathLemmas.{IsFlipping}
use Rattle.asg_match.proofs.path.flip.Given as goal

abbrev pub invariant-links : goal.invariant-links
invariant-links l = IsFlipping l.tree.rows.items (parents_in l.tree) l.fn.exit.place l.fn.exit.column l.fn.matching l.matching l.place l.row l.column

-- the place comes nearer to the root
abbrev pub decreases-links : goal.decreases-links
decreases-links l = l.place
