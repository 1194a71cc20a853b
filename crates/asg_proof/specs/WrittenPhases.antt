-- A phase as one list of numbers.
use Rattle.std.specs.Prelude.{ℕ, ◌+◌, ◌*◌, ◌<◌, ◌≤◌, ◌^◌, List, take, drop, length, All}
use Rattle.asg_order.specs.declared.words.Word.{Word}
use Rattle.asg_proof.specs.StepWords.{short_words, as_words, AreTold}
use Rattle.asg_proof.specs.Phases.{PhaseOf, phase_of}

-- the numbers of the short words of so many steps: the first ones
abbrev pub step_numbers : ℕ → List ℕ → List ℕ
step_numbers steps numbers = take (2 * steps) numbers

-- the steps at which rows enter and columns leave: what follows
abbrev pub marks : ℕ → List ℕ → List ℕ
marks steps numbers = drop (2 * steps) numbers

-- the phase of so many steps and rows that the numbers and the long words tell
abbrev pub told_phase : ℕ → ℕ → List ℕ → List Word → PhaseOf Word
told_phase steps rows numbers long = phase_of (as_words (short_words (step_numbers steps numbers)) long)
    (take rows (marks steps numbers)) (drop rows (marks steps numbers))

-- the numbers are those of so many steps and rows at least, each short word that tells a place
-- tells that of a long one, and marks have 32 bits
pub record ArePhaseNumbers (steps rows : ℕ) (numbers : List ℕ) (long : List Word) : Type 0 where
  pub within : 2 * steps + rows ≤ length numbers
  pub told : AreTold (short_words (step_numbers steps numbers)) long
  pub below : All (λ t. t < 2 ^ 32) (marks steps numbers)
