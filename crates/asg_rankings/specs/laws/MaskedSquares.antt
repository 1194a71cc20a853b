-- Phases act on each cell by itself: cells may be taken out before them or after. So the square of
-- a child, after phases, is that of its instance after them, without the cells that the branch
-- takes out.
use Rattle.std.proofs.Common.{◌≡◌, ℕ, zero, suc, Bool, true, false, cond, ◌&&◌, List, [], ◌∷◌, length, Option, Some, None, refl, sym, ◌∙◌, ap, subst}
use Rattle.std.specs.Prelude.{nat_lt, slice_index_or}
use Rattle.std.specs.Option.{option_map}
use Rattle.asg_model.specs.declared.parts.Cost.{Cost}
use Rattle.asg_model.specs.Live.{live_at}
use Rattle.asg_model.specs.Problem.{Problem}
use Rattle.asg_model.specs.Shapes.{square_side}
use Rattle.asg_order.specs.Monoid.{Monoid}
use Rattle.asg_proof.specs.Steps.{IsAdmittedStep, moved, stepped}
use Rattle.asg_proof.specs.Phases.{AreAdmittedPhases, IsAdmittedPhase, PhaseOf, entered_at, staying_at, square_after, after_phase, after_phases}
use Rattle.asg_square.specs.Cells.{square_cell}
use Rattle.asg_cell_tables.specs.LabelledCells.{labelled_cell}
use Rattle.asg_square.specs.Labels.{row_label, column_label}
use Rattle.asg_rankings.specs.Children.{is_kept, child}
use Rattle.asg_rankings.specs.Masks.{masked, keeps_labelled, keeps_cell}
use Rattle.asg_rankings.specs.laws.ChildCells.{live_at-child}
use Rattle.asg_values.specs.laws.Options.{there_where}

option_map-masked : {A B : Type 0} (h : A → B) (b : Bool) (o : Option A) → option_map h (cond b o None) ≡ cond b (option_map h o) None
option_map-masked h true o = refl
option_map-masked h false o = refl

module _ {V : Type 0} (M : Monoid V) (difference : V → V → V) (keep : ℕ → ℕ → Bool) where
  pub square_after-masked : (phase : PhaseOf V) (square : ℕ → ℕ → Option V) (n : ℕ) → square_after M difference phase (masked keep square) n ≡ masked keep (square_after M difference phase square n)
  square_after-masked phase square zero = refl
  square_after-masked phase square (suc n) =
      ap (stepped M difference (entered_at phase.enters n) (staying_at phase.leaves n) (slice_index_or phase.steps n M.unit)) (square_after-masked phase square n)
      ∙ (λ i r k. option_map-masked (moved M difference (entered_at phase.enters n r) (staying_at phase.leaves n k) (slice_index_or phase.steps n M.unit)) (keep r k) (square_after M difference phase square n r k) i)

  -- phases of a square without some cells
  pub after_phases-masked : (phases : List (PhaseOf V)) (square : ℕ → ℕ → Option V) → after_phases M difference phases (masked keep square) ≡ masked keep (after_phases M difference phases square)
  after_phases-masked [] square = refl
  after_phases-masked (phase ∷ rest) square =
      ap (after_phases M difference rest) (square_after-masked phase square (length phase.steps))
      ∙ after_phases-masked rest (after_phase M difference phase square)

-- phases that are admitted from a square are admitted from it without some cells
module _ {V : Type 0} (M : Monoid V) (difference : V → V → V) (side : ℕ) (keep : ℕ → ℕ → Bool) where
  IsAdmittedStep-masked : (entered staying : ℕ → Bool) (c : V) (square : ℕ → ℕ → Option V) → IsAdmittedStep M side entered staying c square → IsAdmittedStep M side entered staying c (masked keep square)
  IsAdmittedStep-masked entered staying c square step = record {
    value = step.value;
    count = step.count;
    least = λ r k x hr hk er sk e. step.least r k x hr hk er sk (there_where (keep r k) (square r k) x e).1;
  }

  IsAdmittedPhase-masked : (phase : PhaseOf V) (square : ℕ → ℕ → Option V) → IsAdmittedPhase M difference side phase square → IsAdmittedPhase M difference side phase (masked keep square)
  IsAdmittedPhase-masked phase square is = record {
    rows = is.rows;
    columns = is.columns;
    admitted = λ t below.
        let entered = entered_at phase.enters t in
        let staying = staying_at phase.leaves t in
        let c = slice_index_or phase.steps t M.unit in
        subst (IsAdmittedStep M side entered staying c) (sym (square_after-masked M difference keep phase square t))
        (IsAdmittedStep-masked entered staying c (square_after M difference phase square t) (is.admitted t below));
  }

  pub AreAdmittedPhases-masked : (phases : List (PhaseOf V)) (square : ℕ → ℕ → Option V) → AreAdmittedPhases M difference side phases square → AreAdmittedPhases M difference side phases (masked keep square)
  AreAdmittedPhases-masked [] square all = tt
  AreAdmittedPhases-masked (phase ∷ rest) square all = (
    IsAdmittedPhase-masked phase square all.0,
    subst (AreAdmittedPhases M difference side rest) (sym (square_after-masked M difference keep phase square (length phase.steps)))
        (AreAdmittedPhases-masked rest (after_phase M difference phase square) all.1),
  )

always : {V : Type 0} (o : Option V) → o ≡ cond true o None
always o = refl

inside : {V : Type 0} (b keep : Bool) (o q : Option V) → o ≡ cond keep q None → cond b o None ≡ cond keep (cond b q None) None
inside true keep o q e = e
inside false true o q e = refl
inside false false o q e = refl

-- the square of a child is that of its instance without the cells that the branch takes out
pub square_cell-child : {V : Type 0} (X : Problem) (free : V) (enter : Cost → V) (f : List (Option ℕ)) (branch : ℕ) → square_cell (child X f branch) free enter ≡ masked (keeps_cell X f branch) (square_cell X free enter)
square_cell-child X free enter f branch =
    λ i r k. inside (nat_lt r (square_side X) && nat_lt k (square_side X)) (keeps_cell X f branch r k) (labelled_cell (child X f branch) free enter (row_label X r) (column_label X k)) (labelled_cell X free enter (row_label X r) (column_label X k)) (labelled (row_label X r) (column_label X k)) i
  where
    labelled : (row column : Option ℕ) → labelled_cell (child X f branch) free enter row column ≡ cond (keeps_labelled X f branch row column) (labelled_cell X free enter row column) None
    labelled (Some r) (Some d) = ap (option_map enter) (live_at-child X f branch r d) ∙ option_map-masked enter (is_kept X f branch (r, d)) (live_at X r d)
    labelled (Some r) None = refl
    labelled None (Some d) = refl
    labelled None None = refl

-- and so after phases
pub after_phases-child : {V : Type 0} (M : Monoid V) (difference : V → V → V) (enter : Cost → V) (X : Problem) (f : List (Option ℕ)) (branch : ℕ) (phases : List (PhaseOf V)) → after_phases M difference phases (square_cell (child X f branch) M.unit enter) ≡ masked (keeps_cell X f branch) (after_phases M difference phases (square_cell X M.unit enter))
after_phases-child M difference enter X f branch phases =
    ap (after_phases M difference phases) (square_cell-child X M.unit enter f branch)
    ∙ after_phases-masked M difference (keeps_cell X f branch) phases (square_cell X M.unit enter)
