-- Phases that stay admitted through an edit of a cell.
use Rattle.asg_check.proofs.Common.{◌≡◌, ℕ, ◌+◌, ◌<◌, ◌≤◌, List, [], ◌∷◌, Some, None, Option, option_map, same_Some, none-some, inl, inr, sym, ap, ◌∙◌, subst, arith, cond, true, lt-ltb, ℕ_discrete, Problem, column_place_of, live_at, ◌&&◌, ◌⊎◌}
use Rattle.asg_model.proofs.Kit.{cond-true}
use Rattle.std.specs.Cmp.Derive.{both_true}
use Rattle.std.specs.Prelude.{nat_lt}
use Rattle.asg_admit.specs.KeptCells.{AllowsPhases}
use Rattle.asg_admit.specs.laws.KeptPhases.{phases_admitted}
use Rattle.asg_admit.specs.laws.PhaseValues.{admitted_values}
use Rattle.asg_cell_tables.specs.LabelledCells.{labelled_cell}
use Rattle.asg_check.specs.KnownPhases.{AllowAtPlaces, AllowsWords}
use Rattle.asg_kept_phases.specs.laws.EditedSquares.{untouched_cell}
use Rattle.asg_model.specs.Counts.{capacity_at, is_counted}
use Rattle.asg_model.specs.Edits.{with_cell_of}
use Rattle.asg_model.specs.HallSet.{row_place_of}
use Rattle.asg_model.specs.Shapes.{square_side}
use Rattle.asg_model.specs.declared.parts.Cost.{Cost}
use Rattle.asg_order.specs.Monoid.{Monoid}
use Rattle.asg_order.specs.declared.words.Word.{Word}
use Rattle.asg_proof.specs.Phases.{PhaseOf}
use Rattle.asg_square.specs.Cells.{square_cell}
use Rattle.asg_square.specs.Labels.{column_label, first_copy, row_label}
use Rattle.asg_square.specs.laws.CopyRuns.{copy_within}
use Rattle.asg_verdicts.specs.PhaseReasons.{AreAdmitted}

-- a label is this one, or not
is_label : (o : Option ℕ) (q : ℕ) → Dec (o ≡ Some q)
is_label None q = no (λ e. none-some q e)
is_label (Some p) q = by (ℕ_discrete p q)
  where
    by : Dec (p ≡ q) → Dec (Some p ≡ Some q)
    by (yes e) = yes (ap Some e)
    by (no other) = no (λ e. other (same_Some p q e))

module _ {V : Type 0} (M : Monoid V) (difference : V → V → V) (word_of : V → Word) (enter : Cost → V) where
  -- the cell of a counted row in a copy of a column
  cell_is : (X : Problem) (r q k : ℕ) → is_counted X r ≡ true → r < square_side X → k < square_side X → column_label X k ≡ Some q → square_cell X M.unit enter r k ≡ option_map enter (live_at X r q)
  cell_is X r q k counted hr hk label =
      cond-true (nat_lt r (square_side X) && nat_lt k (square_side X)) (labelled_cell X M.unit enter (row_label X r) (column_label X k)) None
      (both_true (lt-ltb r (square_side X) hr) (lt-ltb k (square_side X) hk))
      ∙ ap (λ o. labelled_cell X M.unit enter o (column_label X k)) (ap (λ b. cond b (Some r) None) counted)
      ∙ ap (labelled_cell X M.unit enter (Some r)) label

  -- where it is there, phases that each copy allows with its value are allowed
  pub allow-places : (X : Problem) (words : List (PhaseOf Word)) (r q from to : ℕ) (x : V) (cost : Cost) → is_counted X r ≡ true → live_at X r q ≡ Some cost → x ≡ enter cost → from ≡ first_copy X q → to ≡ from + capacity_at X q → ((k : ℕ) → from ≤ k → k < to → AllowsWords M difference word_of words r k (Some x)) → AllowAtPlaces M difference word_of enter X words r q
  allow-places X words r q from to x cost counted live is first last each k hr hk label =
      let run = copy_within X q k label in
      let cell : square_cell X M.unit enter r k ≡ Some x = cell_is X r q k counted hr hk label ∙ ap (option_map enter) live ∙ ap Some (sym is) in
      subst (AllowsWords M difference word_of words r k) (sym cell) (each k (omega (arith, first, run.0)) (omega (arith, first, last, run.1)))

  -- where there is none, each list of phases is allowed
  pub allow-absent : (X : Problem) (words : List (PhaseOf Word)) (r q : ℕ) → is_counted X r ≡ true → live_at X r q ≡ None → AllowAtPlaces M difference word_of enter X words r q
  allow-absent X words r q counted live k hr hk label = λ phases are same.
      let cell : square_cell X M.unit enter r k ≡ None = cell_is X r q k counted hr hk label ∙ ap (option_map enter) live in
      subst (AllowsPhases M difference phases r k) (sym cell) (absent_allows phases r k)
    where
      absent_allows : (phases : List (PhaseOf V)) (r k : ℕ) → AllowsPhases M difference phases r k None
      absent_allows [] r k = tt
      absent_allows (phase ∷ rest) r k = ((λ x e. absurd (let none = e in cc)), absent_allows rest r k)

  -- phases stay admitted where the cells that stand for the changed one allow them
  module _ (X : Problem) (row col : ℕ) (cell : Option Cost) (r q : ℕ) (at_row : row_place_of X row ≡ Some r) (at_column : column_place_of X col ≡ Some q) (words : List (PhaseOf Word)) where
    abbrev Y : Problem
    Y = with_cell_of X row col cell

    abbrev before : ℕ → ℕ → Option V
    before = square_cell X M.unit enter

    abbrev after : ℕ → ℕ → Option V
    after = square_cell Y M.unit enter

    module _ (allow : AllowAtPlaces M difference word_of enter Y words r q) (a : AreAdmitted M difference word_of enter X words) where
      stays : (i k : ℕ) → ((row_place_of X row ≡ Some i) × (column_label X k ≡ column_place_of X col) → ⊥) → after i k ≡ before i k
      stays i k untouched = untouched_cell M.unit enter X row col cell i k (r, at_row) (q, at_column) untouched

      each_by : (i k : ℕ) → i < square_side X → k < square_side X → Dec (i ≡ r) → Dec (column_label X k ≡ Some q) → AllowsPhases M difference a.phases i k (after i k) ⊎ (after i k ≡ before i k)
      each_by i k hi hk (no other) column = inr (stays i k (λ touched. other (same_Some i r (sym touched.0 ∙ at_row))))
      each_by i k hi hk (yes same) (no other) = inr (stays i k (λ touched. other (touched.1 ∙ at_column)))
      each_by i k hi hk (yes same) (yes label) =
          inl (subst (λ j. AllowsPhases M difference a.phases j k (after j k)) (sym same)
          (allow k (subst (λ j. j < square_side X) same hi) hk label a.phases (admitted_values M difference (square_side X) a.phases before a.admitted) a.written))

      pub stay-admitted : AreAdmitted M difference word_of enter Y words
      stay-admitted = record {
        phases = a.phases;
        written = a.written;
        admitted = phases_admitted M difference (square_side X) a.phases before after a.admitted
            (λ i k hi hk. each_by i k hi hk (ℕ_discrete i r) (is_label (column_label X k) q));
      }
