-- The rows of Hall sets can be written.
use Rattle.asg_answers.proofs.Common.{ℕ, ◌+◌, ◌<◌, List, length, arith, AreRows, slack, IsHall, reached_capacity, Problem, AreIds}
use Rattle.asg_model.specs.declared.bands.Band.{Band}

-- the law of Hall sets that all this rests on
abbrev pub IsHallShort : Type 0
IsHallShort = (X : Problem) (band : Band) (ids : List ℕ) → IsHall X band ids → reached_capacity X band ids + slack X < length ids

-- rows of a Hall set can be written
pub AreRows-hall : IsHallShort → (X : Problem) (band : Band) (rows : List ℕ) → IsHall X band rows → AreIds rows → AreRows rows
AreRows-hall short X band rows hall ids = record { some = omega (arith, short X band rows hall); ids = ids }
