-- Perfect assignments by marks and within bands.
use Rattle.asg_window.proofs.Common.{◌≡◌, ℕ, ◌<◌, List, length, get_or, is_some, Option, sym, ap, ◌∙◌, subst, arith, BitTable, IsMarked, Matches, IsPerfect, Grid, IsPerm, IsAssignmentWithin, IsMarkedAssignment, MarksWithin}
use Rattle.asg_match.specs.laws.Matchings.{AllPairs-listed}

-- a perfect matching by marked cells is one of a list of columns
pub IsMarkedAssignment-perfect : (B : BitTable) (side : ℕ) (matching : List (Option ℕ)) (perm : List ℕ) → IsPerfect (IsMarked B side) side matching → length perm ≡ side → ((r : ℕ) → r < side → Matches matching r (get_or perm r 0)) → IsMarkedAssignment B side perm
IsMarkedAssignment-perfect B side matching perm p count same = record {
  over = count;
  apart = AllPairs-listed matching perm p.columns (λ r h. same r (omega (arith, count)));
  cells = λ r h. let cell = p.cells r (get_or perm r 0) (same r h) in cell.bit;
}

-- by marks of a band, it lies within the band
pub IsAssignmentWithin-marks : (Q : Grid ℕ) (low high side : ℕ) (B : BitTable) (perm : List ℕ) → side ≡ Q.side → MarksWithin Q low high B → IsMarkedAssignment B side perm → IsAssignmentWithin Q low high perm
IsAssignmentWithin-marks Q low high side B perm same marks a = record {
  over = a.over ∙ same;
  apart = a.apart;
  cells = λ r h. (marks r (get_or perm r 0)).0 (a.cells r (subst (λ n. r < n) (sym same) h));
}

-- it is a perfect assignment of the square
pub IsPerm-within : (Q : Grid ℕ) (low high : ℕ) (perm : List ℕ) → IsAssignmentWithin Q low high perm → IsPerm Q perm
IsPerm-within Q low high perm a = record {
  over = a.over;
  apart = a.apart;
  present = λ r h. let w = a.cells r h in ap is_some w.cell;
}
