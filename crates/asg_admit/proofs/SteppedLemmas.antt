-- Squares that take the steps of a phase one after another.
use Rattle.asg_admit.proofs.Common.{◌≡◌, ℕ, suc, ◌+◌, ◌<◌, length, get_or, option_map, sym, refl, ap, ◌∙◌, subst, arith, KeepsLabels, SettlesPhase, after_phase-cell, HasDifferences, Monoid, IsOrderedMonoid, PhaseOf, AreAdmittedSteps, entered_at, square_after, staying_at, HasValues, moved, stepped, Grid, cell_at}
use Rattle.asg_proof.specs.laws.PhaseSteps.{HasValues-after}
use Rattle.asg_admit.specs.laws.KeptLabels.{same_labels, chained_labels}

-- the square is that after the first so many steps
pub record StepsTo {V : Type 0} (M : Monoid V) (difference : V → V → V) (phase : PhaseOf V) (before now : Grid V) (n : ℕ) : Type 0 where
  pub labels : KeepsLabels before now
  pub cells : (r k : ℕ) → r < before.side → k < before.side → cell_at now r k ≡ square_after M difference phase (cell_at before) n r k

module _ {V : Type 0} (M : Monoid V) (difference : V → V → V) (phase : PhaseOf V) (before : Grid V) where
  pub no_steps : StepsTo M difference phase before before 0
  no_steps = record { labels = same_labels before; cells = λ r k hr hk. refl }

  -- one step more
  pub one_step : (now next : Grid V) (n : ℕ) (c : V) → c ≡ get_or phase.steps n M.unit → StepsTo M difference phase before now n → KeepsLabels now next
      → ((r k : ℕ) → r < now.side → k < now.side → cell_at next r k ≡ stepped M difference (entered_at phase.enters n) (staying_at phase.leaves n) c (cell_at now) r k)
      → StepsTo M difference phase before next (n + 1)
  one_step now next n c is to labels cells =
      let more : suc n ≡ n + 1 = omega arith in
      let f : ℕ → ℕ → V → V → V = λ r k. moved M difference (entered_at phase.enters n r) (staying_at phase.leaves n k) in
      record {
        labels = chained_labels before now next to.labels labels;
        cells = λ r k hr hk.
            cells r k (subst (λ s. r < s) (sym to.labels.side) hr) (subst (λ s. k < s) (sym to.labels.side) hk)
            ∙ ap (λ d. option_map (f r k d) (cell_at now r k)) is
            ∙ ap (option_map (f r k (get_or phase.steps n M.unit))) (to.cells r k hr hk)
            ∙ ap (λ i. square_after M difference phase (cell_at before) i r k) more;
      }

  -- the cells are values all along
  pub stepped_values : IsOrderedMonoid M → HasDifferences M difference → (now : Grid V) (n : ℕ) → HasValues M before.side (cell_at before) → AreAdmittedSteps M difference before.side phase (cell_at before) n → StepsTo M difference phase before now n → HasValues M now.side (cell_at now)
  stepped_values laws has now n values admitted to r k x hr hk is =
      let row = subst (λ s. r < s) to.labels.side hr in
      let column = subst (λ s. k < s) to.labels.side hk in
      HasValues-after M laws difference has before.side phase (cell_at before) n values admitted r k x row column (sym (to.cells r k row column) ∙ is)

  -- all steps were taken
  pub all_steps : (now : Grid V) (n : ℕ) → n ≡ length phase.steps → StepsTo M difference phase before now n → SettlesPhase M difference phase before now
  all_steps now n all to = record {
    labels = to.labels;
    cells = λ r k hr hk.
        to.cells r k hr hk
        ∙ ap (λ i. square_after M difference phase (cell_at before) i r k) all
        ∙ after_phase-cell M difference phase (cell_at before) r k;
  }
