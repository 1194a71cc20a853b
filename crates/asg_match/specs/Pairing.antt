-- What the search for a perfect assignment answers.
use Rattle.std.specs.Prelude.{ℕ}
use Rattle.asg_match.specs.declared.perfect.Pairing.{Pairing}
use Rattle.asg_match.specs.declared.perfect.Pairing.TheVariants.{Perfect, Short}
use Rattle.asg_match.specs.Matching.{IsPerfect}
use Rattle.asg_match.specs.Deficient.{IsDeficient}

-- the answer is a perfect assignment, or rows with too few allowed columns
abbrev pub Answers : (ℕ → ℕ → Type 0) → ℕ → Pairing → Type 0
Answers allows side (Perfect matching) = IsPerfect allows side matching
Answers allows side (Short rows) = IsDeficient allows side rows

-- the answer is a perfect assignment
abbrev pub IsPerfectAnswer : Pairing → Type 0
IsPerfectAnswer (Perfect _) = Unit {0}
IsPerfectAnswer (Short _) = ⊥

-- the answer is rows with too few allowed columns
abbrev pub IsShortAnswer : Pairing → Type 0
IsShortAnswer (Perfect _) = ⊥
IsShortAnswer (Short _) = Unit {0}
