-- What a session promises, by words.
use Rattle.asg_edits.proofs.Common.{◌≡◌, ℕ, ◌+◌, ◌^◌, ◌<◌, ◌≤◌, List, ◌++◌, map, length, take, Some, None, All, Option, sym, refl, ap, ◌∙◌, subst, arith, length-map, map-append, take-map, unmatched, IsBestIn, IsChoiceIn, KeepsIn, Touches, column_at, edited, refusal_of, Problem, Edit, Objective, Cost, Monoid, Word, KeepsFold, PhaseOf, worded, Phases, IsBestBy}
use Rattle.std.proofs.Common.{append_assoc, length-append}
use Rattle.asg_model.specs.Shapes.{square_side}
use Rattle.asg_proof.specs.KeptPhases.{AreKept}
use Rattle.asg_proof.specs.PhaseProofs.{IsRaised}
use Rattle.asg_proof.specs.PromisedProofs.{IsPhaseOver}
use Rattle.asg_square.specs.Cells.{square_cell}
use Rattle.asg_edits.proofs.SureRows.{ClosesColumns, one_lost, one_touched}

module _ {V : Type 0} (M : Monoid V) (difference : V → V → V) (word_of : V → Word) (enter : Cost → V) where
  -- the words of the phases that are kept
  pub kept_words : (Y : Problem) (phases kept : List (PhaseOf V)) (n : ℕ) → kept ≡ take n phases → AreKept M difference (square_side Y) phases (square_cell Y M.unit enter) n
      → KeepsFold M difference word_of enter Y (map (worded word_of) phases) (map (worded word_of) kept)
  kept_words Y phases kept n is are = record {
    phases = phases;
    written = refl;
    count = n;
    admitted = are;
    kept_are = ap (map (worded word_of)) is ∙ sym (take-map (worded word_of) n phases);
  }

  -- and how many rows lose their columns
  pub KeepsIn-edited : ClosesColumns → (objective : Objective) (X Y : Problem) (edit : Edit) (phases kept : List (PhaseOf V)) (before after : List (Option ℕ)) → Y ≡ edited X edit → refusal_of objective X edit ≡ None
      → (n : ℕ) × (kept ≡ take n phases) × AreKept M difference (square_side Y) phases (square_cell Y M.unit enter) n
      → (IsRaised M enter X Y → (r : ℕ) → ((k : ℕ) → Touches X edit r k → ⊥) → column_at after r ≡ column_at before r)
      → length after ≡ length before
      → KeepsIn M difference word_of enter X Y (map (worded word_of) phases) (map (worded word_of) kept) (unmatched before) (unmatched after)
  KeepsIn-edited closes objective X Y edit phases kept before after is passes (n, kept_is, are) columns size = record {
    kept = kept_words Y phases kept n kept_is are;
    few = λ raised sure.
        let same : (edited X edit).columns ≡ X.columns = ap (λ (Z : Problem). Z.columns) (sym is) ∙ raised.columns in
        let one = one_touched closes objective X edit passes same in
        let lost = one_lost before after one.0 size (λ r apart. columns raised r (one.1 r apart)) in
        omega (arith, lost, sure);
  }

  -- a best choice, with the words of its phases
  pub IsBestIn-by : (X : Problem) (phases : List (PhaseOf V)) (columns choice copy : List (Option ℕ)) (words : List (PhaseOf Word)) → IsBestBy M difference enter X phases columns choice → copy ≡ choice → words ≡ map (worded word_of) phases
      → length phases < 2 ^ 32 → All (IsPhaseOver (square_side X)) words
      → IsBestIn M difference word_of enter X (map (worded word_of) phases) (unmatched columns) copy (Phases words)
  IsBestIn-by X phases columns choice copy words best same written few over =
      subst (λ f. IsBestIn M difference word_of enter X (map (worded word_of) phases) (unmatched columns) f (Phases words)) (sym same)
      (record {
        valid = best.valid;
        proved = record { phases = phases; written = refl; proved = best.proof };
        phases = written;
        writable = record {
          few = let size = length-map phases (worded word_of) in omega (arith, size, few);
          each = subst (All (IsPhaseOver (square_side X))) written over;
        };
        all = best.all;
      })

  -- and without its phases written out
  pub IsChoiceIn-by : (X : Problem) (phases : List (PhaseOf V)) (columns choice copy : List (Option ℕ)) → IsBestBy M difference enter X phases columns choice → copy ≡ choice → IsChoiceIn M difference word_of enter X (map (worded word_of) phases) (Some copy)
  IsChoiceIn-by X phases columns choice copy best same =
      subst (λ f. IsChoiceIn M difference word_of enter X (map (worded word_of) phases) (Some f)) (sym same) (best.valid, record { phases = phases; written = refl; proved = best.proof })

-- the words of phases that were added
pub more_words : {V : Type 0} (word_of : V → Word) (old new : List (PhaseOf V)) (most : ℕ) → (more : List (PhaseOf V)) × (new ≡ old ++ more) × (length more ≤ most)
    → (more : List (PhaseOf Word)) × (map (worded word_of) new ≡ map (worded word_of) old ++ more) × (length more ≤ most)
more_words word_of old new most (more, is, few) = (
  map (worded word_of) more,
  ap (map (worded word_of)) is ∙ map-append (worded word_of) old more,
  let size = length-map more (worded word_of) in omega (arith, size, few),
)

-- phases that were added, and then more, so that as many fewer may still be
pub joined_more : {V : Type 0} (first second third : List (PhaseOf V)) (left most : ℕ) → (more : List (PhaseOf V)) × (second ≡ first ++ more) × (length more + left ≤ most) → (more : List (PhaseOf V)) × (third ≡ second ++ more) × (length more ≤ left) → (more : List (PhaseOf V)) × (third ≡ first ++ more) × (length more ≤ most)
joined_more first second third left most a b = (
  a.0 ++ b.0,
  b.1 ∙ ap (λ phases. phases ++ b.0) a.1 ∙ append_assoc first a.0 b.0,
  omega (arith, length-append a.0 b.0, a.2, b.2),
)
