-- Squares that a phase leaves, cell by cell.
use Rattle.std.proofs.Common.{◌≡◌, ℕ, ◌<◌, ◌≤◌, min, List, length, Option, Some, None, inl, refl, sym, ◌∙◌, ap, subst, arith, ⊎_elim}
use Rattle.std.specs.Prelude.{All, slice_index}
use Rattle.std.specs.Option.{option_map}
use Rattle.std.proofs.lemmas.Bool.{cases_lt}
use Rattle.asg_order.specs.Monoid.{Monoid, IsValue, IsOrderedMonoid, fold_of}
use Rattle.asg_order.specs.Differences.{HasDifferences}
use Rattle.asg_proof.specs.Phases.{PhaseOf, IsAdmittedPhase, after_phase}
use Rattle.asg_proof.specs.laws.PhaseSteps.{HasValues-after}
use Rattle.asg_square.specs.Grid.{Grid, IsGrid, cell_at}
use Rattle.asg_admit.specs.declared.reduced.Reduced.{Reduced}
use Rattle.asg_admit.specs.Reduced.{IsPhaseInPart, IsPhaseTo, IsReduced}
use Rattle.asg_admit.specs.Settled.{step_of, settled}
use Rattle.asg_admit.specs.Settling.{SettlesWaiting, SettlesEntered, SettlesPhase}
use Rattle.asg_admit.specs.laws.SettledCells.{IsTwice, cell_after-cut, after_phase-cell}
use Rattle.asg_admit.specs.laws.ProductLemmas.{settled_equal}
use Rattle.asg_admit.specs.laws.KeptLabels.{same_labels, chained_labels}
use Rattle.asg_admit.specs.laws.SquareLemmas.{everywhere}

map_same : {V : Type 0} (f : V → V) (o : Option V) → ((x : V) → o ≡ Some x → f x ≡ x) → option_map f o ≡ o
map_same f None same = refl
map_same f (Some x) same = ap Some (same x refl)

pub map_alike : {V : Type 0} (f g : V → V) (o : Option V) → ((x : V) → o ≡ Some x → f x ≡ g x) → option_map f o ≡ option_map g o
map_alike f g None same = refl
map_alike f g (Some x) same = ap Some (same x refl)

module _ {V : Type 0} (M : Monoid V) (laws : IsOrderedMonoid M) (difference : V → V → V) (has : HasDifferences M difference) (twice : IsTwice M difference) (steps : List V) (vs : All (IsValue M) steps) where
  -- where both marks are equal the cell stays
  pub equal_marks : (enter leave : ℕ) → enter ≤ length steps → enter ≡ leave → (o : Option V) → ((x : V) → o ≡ Some x → IsValue M x) → o ≡ option_map (settled M difference steps enter leave) o
  equal_marks enter leave h e o values =
      sym (map_same (settled M difference steps enter leave) o (λ x is.
      ap (λ l. settled M difference steps enter l x) (sym e)
      ∙ settled_equal M laws difference has twice steps vs enter h x (values x is)))

  -- marks count only up to the number of steps
  pub cut_marks : (enter leave e l : ℕ) → e ≡ min enter (length steps) → l ≡ min leave (length steps) → (o : Option V) → option_map (settled M difference steps e l) o ≡ option_map (settled M difference steps enter leave) o
  cut_marks enter leave e l is_e is_l o =
      map_alike (settled M difference steps e l) (settled M difference steps enter leave) o (λ x is.
      ap (λ i. settled M difference steps i l x) is_e
      ∙ ap (λ i. settled M difference steps (min enter (length steps)) i x) is_l
      ∙ cell_after-cut M laws difference has twice (step_of M steps) enter leave (length steps) x (length steps) (omega arith))

  -- where the row never enters and the column never leaves, the cell stays
  pub waiting_marks : (enter leave : ℕ) → length steps ≤ enter → length steps ≤ leave → (o : Option V) → ((x : V) → o ≡ Some x → IsValue M x) → o ≡ option_map (settled M difference steps enter leave) o
  waiting_marks enter leave h k o values =
      equal_marks (length steps) (length steps) (omega arith) refl o values
      ∙ cut_marks enter leave (length steps) (length steps) (omega arith) (omega arith) o

  -- a row that never enters is one that enters at the end
  pub late_marks : (enter leave : ℕ) → length steps ≤ enter → (o : Option V) → option_map (settled M difference steps (length steps) leave) o ≡ option_map (settled M difference steps enter leave) o
  late_marks enter leave h o =
      sym (cut_marks (length steps) leave (length steps) (min leave (length steps)) (omega arith) refl o)
      ∙ cut_marks enter leave (length steps) (min leave (length steps)) (omega (arith, h)) refl o

-- the rows that never enter and then those that enter are all rows
pub all_rows : {V : Type 0} (M : Monoid V) (difference : V → V → V) (phase : PhaseOf V) (before between after : Grid V) → SettlesWaiting M difference phase before between → SettlesEntered M difference phase between after → SettlesPhase M difference phase before after
all_rows {V} M difference phase before between after first second = record {
  labels = chained_labels before between after first.labels second.labels;
  cells = λ r k hr hk.
      ⊎_elim
      (λ (enters : slice_index phase.enters r < length phase.steps).
      second.entered r k (subst (λ n. r < n) (sym first.labels.side) hr) (subst (λ n. k < n) (sym first.labels.side) hk) enters
      ∙ ap (option_map (settled M difference phase.steps (slice_index phase.enters r) (slice_index phase.leaves k))) (first.entered r k enters))
      (λ (waits : length phase.steps ≤ slice_index phase.enters r).
      second.waiting r k waits ∙ first.waiting r k hr hk waits)
      (cases_lt (slice_index phase.enters r) (length phase.steps));
}

-- all rows were settled by an admitted phase, and the index was multiplied by all steps
pub phase_by : {V : Type 0} (M : Monoid V) (laws : IsOrderedMonoid M) (difference : V → V → V) (has : HasDifferences M difference) (phase : PhaseOf V) (before after : Reduced V) → IsReduced M before → IsAdmittedPhase M difference before.now.side phase (cell_at before.now) → IsGrid before.now → IsGrid after.now → SettlesPhase M difference phase before.now after.now → after.index ≡ M.product before.index (fold_of M phase.steps) → IsValue M after.index → IsPhaseTo M difference phase before after
phase_by {V} M laws difference has phase before after reduced admitted grid grid_after settles index is_value =
    record {
      cells = cells;
      index = index;
      labels = settles.labels;
      reduced = record {
        cells = λ r k x hr hk is.
            HasValues-after M laws difference has before.now.side phase (cell_at before.now) (length phase.steps) reduced.cells admitted.admitted
            r k x (subst (λ n. r < n) settles.labels.side hr) (subst (λ n. k < n) settles.labels.side hk) (sym (cells r k) ∙ is);
        index = is_value;
      };
    }
  where
    f : ℕ → ℕ → V → V
    f i j = settled M difference phase.steps (slice_index phase.enters i) (slice_index phase.leaves j)

    cells : (r k : ℕ) → cell_at after.now r k ≡ after_phase M difference phase (cell_at before.now) r k
    cells r k =
        everywhere before.now after.now grid grid_after settles.labels.side f settles.cells r k
        ∙ sym (after_phase-cell M difference phase (cell_at before.now) r k)

-- nothing was changed
pub unchanged : {V : Type 0} (M : Monoid V) (difference : V → V → V) (phase : PhaseOf V) (reduced : Reduced V) → IsReduced M reduced → IsPhaseInPart M difference phase reduced reduced
unchanged M difference phase reduced is =
    record { cells = λ r k hr hk. inl refl; index = refl; labels = same_labels reduced.now; reduced = is }
