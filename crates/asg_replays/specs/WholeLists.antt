-- Whole lists of phases: what they come to, and their index.
use Rattle.std.specs.Prelude.{◌≡◌, ℕ, List, ◌∷◌, map, Option}
use Rattle.asg_phase_totals.specs.PhaseTotals.{AreTotals, Totals}
use Rattle.asg_monoids.specs.BoundedSums.{plain_word}
use Rattle.asg_order.specs.declared.words.Word.{Word}
use Rattle.asg_order.specs.Monoid.{Monoid}
use Rattle.asg_proof.specs.Phases.{PhaseOf, index_of, worded}
use Rattle.asg_replays.specs.Replays.{AreAdmittedFrom}

-- the words are those of phases that are admitted in turn from a square, and this is their index
pub record HaveIndex {V : Type 0} (M : Monoid V) (difference : V → V → V) (word_of : V → Word)
    (side : ℕ) (square : ℕ → ℕ → Option V) (index : V) (words : List (PhaseOf Word)) : Type 0 where
  pub admitted : AreAdmittedFrom M difference word_of side square words
  pub same : index_of M admitted.phases ≡ index

-- the words are those of phases that come to the totals
pub record AreTotalsOf (words : List (PhaseOf Word)) (totals : Totals) : Type 0 where
  pub phases : List (PhaseOf ℕ)
  pub written : map (worded plain_word) phases ≡ words
  pub come : AreTotals phases totals

-- where phases come to the first totals, they come to the second with one of these words before
-- them
abbrev pub TakesIn : PhaseOf Word → Totals → Totals → Type 0
TakesIn words before after =
    (rest : List (PhaseOf Word)) → AreTotalsOf rest before → AreTotalsOf (words ∷ rest) after
