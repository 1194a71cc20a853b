-- What replaying phases tells.
use Rattle.std.specs.Prelude.{◌≡◌, ℕ, suc, ◌<◌, List, length, map, take, Option}
use Rattle.asg_model.specs.declared.parts.Cost.{Cost}
use Rattle.asg_model.specs.Problem.{Problem}
use Rattle.asg_order.specs.declared.words.Word.{Word}
use Rattle.asg_order.specs.Monoid.{Monoid}
use Rattle.asg_proof.specs.Phases.{PhaseOf, AreAdmittedPhases, IsAdmittedPhase, after_phases, index_of, worded}
use Rattle.asg_square.specs.Grid.{IsSquareOf, cell_at}
use Rattle.asg_admit.specs.declared.reduced.Reduced.{Reduced}
use Rattle.asg_admit.specs.Reduced.{IsPhaseTo, IsReduced, KeepsLabels}

-- the words are those of phases of values that are admitted in turn from a square
pub record AreAdmittedFrom {V : Type 0} (M : Monoid V) (difference : V → V → V) (word_of : V → Word)
    (side : ℕ) (square : ℕ → ℕ → Option V) (words : List (PhaseOf Word)) : Type 0 where
  pub phases : List (PhaseOf V)
  pub written : map (worded word_of) phases ≡ words
  pub admitted : AreAdmittedPhases M difference side phases square

-- the words are those of a phase of values that is admitted from a square
pub record IsAdmittedFrom {V : Type 0} (M : Monoid V) (difference : V → V → V) (word_of : V → Word)
    (side : ℕ) (square : ℕ → ℕ → Option V) (words : PhaseOf Word) : Type 0 where
  pub phase : PhaseOf V
  pub written : worded word_of phase ≡ words
  pub admitted : IsAdmittedPhase M difference side phase square

-- the words are those of an admitted phase that leads from one reduced square to another
pub record IsReplayed {V : Type 0} (M : Monoid V) (difference : V → V → V) (word_of : V → Word)
    (words : PhaseOf Word) (before after : Reduced V) : Type 0 where
  pub first : IsAdmittedFrom M difference word_of before.now.side (cell_at before.now) words
  pub leads : IsPhaseTo M difference first.phase before after

-- the words are those of phases that are admitted in turn, and lead from one reduced square to
-- another
pub record AreReplayed {V : Type 0} (M : Monoid V) (difference : V → V → V) (word_of : V → Word)
    (words : List (PhaseOf Word)) (before after : Reduced V) : Type 0 where
  pub phases : List (PhaseOf V)
  pub written : map (worded word_of) phases ≡ words
  pub admitted : AreAdmittedPhases M difference before.now.side phases (cell_at before.now)
  pub labels : KeepsLabels before.now after.now
  pub cells : cell_at after.now ≡ after_phases M difference phases (cell_at before.now)
  pub index : after.index ≡ M.product before.index (index_of M phases)
  pub reduced : IsReduced M after

-- the first of the phases that isn't admitted after those before it, from a square, has this place
pub record IsFirstBad {V : Type 0} (M : Monoid V) (difference : V → V → V) (word_of : V → Word)
    (side : ℕ) (square : ℕ → ℕ → Option V) (words : List (PhaseOf Word)) (place : ℕ) : Type 0 where
  pub there : place < length words
  pub before : AreAdmittedFrom M difference word_of side square (take place words)
  pub bad : ¬ AreAdmittedFrom M difference word_of side square (take (suc place) words)

-- the square is that of the instance, and no step was taken
pub record IsStart {V : Type 0} (M : Monoid V) (enter : Cost → V) (X : Problem) (start : Reduced V)
    : Type 0 where
  pub square : IsSquareOf X M.unit enter start.now
  pub index : start.index ≡ M.unit
  pub reduced : IsReduced M start
