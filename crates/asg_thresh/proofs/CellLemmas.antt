-- Assignments and deficient rows among the cells of a square up to a limit.
use Rattle.asg_thresh.proofs.Common.{◌≡◌, ℕ, ◌<◌, ◌≤◌, List, length, get_or, Contains, Option, arith, IsDeficient, IsColumnBound, AreAllBelow, IsUpTo, IsUnder, IsAssignmentUpTo}
use Rattle.asg_match.specs.Matching.{Matches, IsPerfect}
use Rattle.asg_match.specs.laws.EmptyColumns.{IsDeficient-column}
use Rattle.asg_match.specs.laws.Matchings.{AllPairs-listed}

-- fewer cells leave deficient rows deficient: only the cells of the rows count
pub IsDeficient-fewer : (more fewer : ℕ → ℕ → Type 0) (side : ℕ) (rows : List ℕ) → ((r c : ℕ) → Contains rows r → fewer r c → more r c) → IsDeficient more side rows → IsDeficient fewer side rows
IsDeficient-fewer more fewer side rows weaker s =
    record {
      below = s.below;
      apart = s.apart;
      few = record {
        columns = s.few.columns;
        fewer = s.few.fewer;
        all = λ c of. s.few.all c (of.0, of.1, weaker of.0 c of.1 of.2);
      };
    }

-- all rows are deficient under the least grade of a column, which they can't have
pub IsDeficient-column_bound : (grades : List ℕ) (side column grade : ℕ) (rows : List ℕ) → IsColumnBound grades side column grade → AreAllBelow side rows → IsDeficient (IsUnder grades side grade) side rows
IsDeficient-column_bound grades side column grade rows b all =
    IsDeficient-column _ side column rows
    (λ r c under. under.column)
    b.column_below
    (λ r under. let upto = b.least r under.row in let less = under.grade in omega (arith, upto, less))
    all.length_is
    all.each

-- a perfect assignment by allowed cells is one of a list of columns
pub IsAssignmentUpTo-perfect : (grades : List ℕ) (side limit : ℕ) (allows : ℕ → ℕ → Type 0) (matching : List (Option ℕ)) (perm : List ℕ) → ((r c : ℕ) → allows r c → IsUpTo grades side limit r c) → IsPerfect allows side matching → length perm ≡ side → ((r : ℕ) → r < side → Matches matching r (get_or perm r 0)) → IsAssignmentUpTo grades side limit perm
IsAssignmentUpTo-perfect grades side limit allows matching perm upto p count same =
    record {
      over = count;
      apart = AllPairs-listed matching perm p.columns (λ r h. same r (omega (arith, count)));
      cells = λ r h. upto r (get_or perm r 0) (p.cells r (get_or perm r 0) (same r h));
    }

-- a higher limit keeps an assignment
pub IsAssignmentUpTo-more : (grades : List ℕ) (side limit more : ℕ) (perm : List ℕ) → limit ≤ more → IsAssignmentUpTo grades side limit perm → IsAssignmentUpTo grades side more perm
IsAssignmentUpTo-more grades side limit more perm h a =
    record {
      over = a.over;
      apart = a.apart;
      cells = λ r k. let cell = a.cells r k in record { row = cell.row; column = cell.column; grade = let upto = cell.grade in omega (arith, h, upto) };
    }
