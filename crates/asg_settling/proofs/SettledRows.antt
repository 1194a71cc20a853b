-- Squares whose rows that enter are settled one after another.
use Rattle.asg_settling.proofs.Common.{◌≡◌, ℕ, ◌+◌, ◌<◌, ◌≤◌, length, slice_index, option_map, sym, refl, ap, ◌∙◌, subst, inl, inr, ⊎_elim, arith, below_more, KeepsLabels, settled, settled_at, SettlesEntered, SettlesEnteredRow, SettlesRow, same_labels, chained_labels, Monoid, Grid, cell_at}
use Rattle.asg_proof.specs.Phases.{PhaseOf}

-- the rows so far that enter are settled, and the others stand
pub record SettlesEnteredTo {V : Type 0} (M : Monoid V) (difference : V → V → V) (phase : PhaseOf V) (before now : Grid V) (row : ℕ) : Type 0 where
  pub labels : KeepsLabels before now
  pub done : (r k : ℕ) → r < row → k < before.side → slice_index phase.enters r < length phase.steps → cell_at now r k ≡ settled_at M difference phase (cell_at before) r k
  pub waiting : (r k : ℕ) → length phase.steps ≤ slice_index phase.enters r → cell_at now r k ≡ cell_at before r k
  pub rest : (r k : ℕ) → row ≤ r → cell_at now r k ≡ cell_at before r k

module _ {V : Type 0} (M : Monoid V) (difference : V → V → V) (phase : PhaseOf V) (before : Grid V) where
  abbrev after_steps : ℕ → ℕ → V → V
  after_steps r k = settled M difference phase.steps (slice_index phase.enters r) (slice_index phase.leaves k)

  pub none_entered : SettlesEnteredTo M difference phase before before 0
  none_entered = record { labels = same_labels before; done = λ r k h. absurd (omega (arith, h)); waiting = λ r k h. refl; rest = λ r k h. refl }

  pub one_entered : (now next : Grid V) (row : ℕ) → SettlesEnteredTo M difference phase before now row → SettlesEnteredRow M difference phase now next row → SettlesEnteredTo M difference phase before next (row + 1)
  one_entered now next row to e =
      let Done = λ (r : ℕ). ((k : ℕ) → k < before.side → slice_index phase.enters r < length phase.steps → cell_at next r k ≡ settled_at M difference phase (cell_at before) r k) in
      let done = below_more Done row
      (λ r h k hk enters. e.stays r k (inl (λ i. omega (arith, i, h))) ∙ to.done r k h hk enters)
      (λ k hk enters.
      e.entered k (subst (λ n. k < n) (sym to.labels.side) hk) enters
      ∙ ap (option_map (after_steps row k)) (to.rest row k (omega arith))) in
      record {
        labels = chained_labels before now next to.labels e.labels;
        done = λ r k h hk enters. done r h k hk enters;
        waiting = λ r k h. e.stays r k (inr h) ∙ to.waiting r k h;
        rest = λ r k h. e.stays r k (inl (λ i. omega (arith, i, h))) ∙ to.rest r k (omega (arith, h));
      }

  pub all_entered : (now : Grid V) (row : ℕ) → before.side ≤ row → SettlesEnteredTo M difference phase before now row → SettlesEntered M difference phase before now
  all_entered now row past to = record {
    labels = to.labels;
    entered = λ r k hr hk enters. to.done r k (omega (arith, hr, past)) hk enters;
    waiting = to.waiting;
  }

-- a row that enters was settled
pub row_settled : {V : Type 0} (M : Monoid V) (difference : V → V → V) (phase : PhaseOf V) (now next : Grid V) (row : ℕ) → slice_index phase.enters row < length phase.steps → SettlesRow M difference phase.steps (slice_index phase.enters row) phase.leaves now next row → SettlesEnteredRow M difference phase now next row
row_settled M difference phase now next row enters e = record {
  labels = e.labels;
  entered = λ k hk _. e.cells k hk;
  stays = λ r k apart. e.others r k (λ is. ⊎_elim (λ n. n is) (λ (late : length phase.steps ≤ slice_index phase.enters r). (let at : length phase.steps ≤ slice_index phase.enters row = subst (λ i. length phase.steps ≤ slice_index phase.enters i) is late in omega (arith, at, enters))) apart);
}

-- a row that never enters stays
pub row_stays : {V : Type 0} (M : Monoid V) (difference : V → V → V) (phase : PhaseOf V) (now : Grid V) (row : ℕ) → length phase.steps ≤ slice_index phase.enters row → SettlesEnteredRow M difference phase now now row
row_stays M difference phase now row late = record {
  labels = same_labels now;
  entered = λ k hk enters. absurd (omega (arith, enters, late));
  stays = λ r k apart. refl;
}
