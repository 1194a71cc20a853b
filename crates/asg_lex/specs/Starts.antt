-- The start of the walk: the cells under a limit, among which a valid choice lies.
use Rattle.std.specs.Prelude.{◌≡◌, ℕ, ◌<◌, Option, Some, List}
use Rattle.asg_match.specs.Matching.{IsPerfect}
use Rattle.asg_model.specs.declared.parts.Cost.{Cost}
use Rattle.asg_model.specs.Live.{live_at}
use Rattle.asg_model.specs.Problem.{Problem}
use Rattle.asg_model.specs.ValidChoice.{Chooses, IsValid}
use Rattle.asg_square.specs.Grid.{Grid}
use Rattle.asg_live_cells.specs.Grades.{grade_of}
use Rattle.asg_live_cells.specs.Marks.{IsMarked}
use Rattle.asg_live_cells.specs.UnderWords.{MarksUnder}
use Rattle.asg_lex.specs.declared.starts.Start.{Start}

-- the costs of the cells that the first so many rows choose have grades under the limit
abbrev pub AreUnderBefore : Problem → ℕ → List (Option ℕ) → ℕ → Type 0
AreUnderBefore X limit f rows = (r c : ℕ) (cost : Cost) → r < rows → Chooses f r c → live_at X r c ≡ Some cost → grade_of cost < limit

-- those of all chosen cells have
abbrev pub AreUnder : Problem → ℕ → List (Option ℕ) → Type 0
AreUnder X limit f = (r c : ℕ) (cost : Cost) → Chooses f r c → live_at X r c ≡ Some cost → grade_of cost < limit

-- a valid choice has all its cells under the limit
pub record HasChoiceUnder (X : Problem) (limit : ℕ) : Type 0 where
  pub choice : List (Option ℕ)
  pub valid : IsValid X choice
  pub under : AreUnder X limit choice

-- exactly the cells of a square under the limit are marked, and the matching is perfect by them
pub record IsStart (Q : Grid ℕ) (start : Start) : Type 0 where
  pub some : 0 < start.limit
  pub side : start.marks.side ≡ Q.side
  pub cells : MarksUnder Q start.limit start.marks.bits
  pub perfect : IsPerfect (IsMarked start.marks.bits start.marks.side) Q.side start.matching
