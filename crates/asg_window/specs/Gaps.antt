-- Gaps: bands of grades with rows that are deficient under them.
use Rattle.std.specs.Prelude.{ℕ, ◌+◌, ◌<◌, ◌≤◌, List, length, map, All, slice_index_or}
use Rattle.asg_match.specs.Deficient.{IsDeficient}
use Rattle.asg_square.specs.Grid.{Grid}
use Rattle.asg_window.specs.declared.gaps.Gap.{Gap}
use Rattle.asg_window.specs.declared.gaps.Least.{Least}
use Rattle.asg_window.specs.declared.gaps.Swept.{Swept}
use Rattle.asg_window.specs.declared.gaps.Swept.TheVariants.{Found, Short}
use Rattle.asg_window.specs.Assignments.{IsSpread}
use Rattle.asg_window.specs.Bands.{IsWithin}
use Rattle.asg_window.specs.Grades.{no_bound}

-- the rows are deficient under the band
abbrev pub IsGap : Grid ℕ → Gap → Type 0
IsGap Q gap = IsDeficient (IsWithin Q gap.low gap.high) Q.side gap.rows.items

-- where the gap at a place begins; past the last one, where the next is to begin
abbrev pub low_at : List Gap → ℕ → ℕ → ℕ
low_at gaps low k = slice_index_or (map (λ gap. gap.low) gaps) k low

-- the gaps hold so many grades from each one on that is below `low`: the first begins at 1 at most,
-- and each reaches as many grades past the place where the next begins
pub record AreChained (gaps : List Gap) (low spread : ℕ) : Type 0 where
  pub first : low_at gaps low 0 ≤ 1
  pub links : (k : ℕ) (d : Gap) → k < length gaps
      → low_at gaps low (k + 1) + spread ≤ (slice_index_or gaps k d).high + 1

-- the gaps show that no perfect assignment has a less spread
pub record ShowLeast (Q : Grid ℕ) (gaps : List Gap) (low spread : ℕ) : Type 0 where
  pub each : All (IsGap Q) gaps
  pub chained : AreChained gaps low spread

-- a perfect assignment of this spread, and gaps up to the greatest grade
pub record IsLeast (Q : Grid ℕ) (least : Least) : Type 0 where
  pub spread : IsSpread Q least.perm.items least.spread
  pub low : ℕ
  pub all : 0 < least.spread → no_bound < low + least.spread
  pub gaps : ShowLeast Q least.gaps.items low least.spread

-- what a sweep gives: an assignment of the least spread, or rows that are deficient in the whole
-- square
abbrev pub IsSwept : Grid ℕ → Swept → Type 0
IsSwept Q (Found least) = IsLeast Q least
IsSwept Q (Short rows) = IsDeficient (IsWithin Q 1 no_bound) Q.side rows.items
