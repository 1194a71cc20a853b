-- How a solver ends.
use Rattle.std.specs.Prelude.{ℕ, List, Option}
use Rattle.asg_admit.specs.declared.reduced.Reduced.{Reduced}
use Rattle.asg_match.specs.Deficient.{IsDeficient}
use Rattle.asg_match.specs.Matching.{IsPerfect}
use Rattle.asg_order.specs.Monoid.{Monoid}
use Rattle.asg_square.specs.Cells.{IsPresent}
use Rattle.asg_square.specs.Grid.{cell_at}
use Rattle.asg_algebra.specs.declared.solving.Solved.{Solved}
use Rattle.asg_algebra.specs.declared.solving.Solved.TheVariants.{Perfect, Short}
use Rattle.asg_growth.specs.Growing.{IsAbsorbed}

-- the last trail
abbrev pub last_of : Solved → Option ℕ
last_of (Perfect last) = last
last_of (Short last) = last

-- perfect: every row has an absorbed cell; short: the rows have fewer columns with present cells
-- than they are
abbrev pub EndsIn : {V : Type 0} → Monoid V → Reduced V → List (Option ℕ) → List ℕ → Solved → Type 0
EndsIn M reduced matching rows (Perfect last) =
    IsPerfect (IsAbsorbed M reduced.index (cell_at reduced.now)) reduced.now.side matching
EndsIn M reduced matching rows (Short last) =
    IsDeficient (IsPresent (cell_at reduced.now)) reduced.now.side rows

-- every row has a column
abbrev pub IsPerfectEnd : Solved → Type 0
IsPerfectEnd (Perfect last) = Unit {0}
IsPerfectEnd (Short last) = ⊥
