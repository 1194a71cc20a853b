-- Phases of one step, told by counts and by the cells of the columns that stay.
use Rattle.asg_kept_cells.proofs.Common.{◌≡◌, ℕ, zero, suc, ◌+◌, List, [], ◌∷◌, length, slice_index, slice_index_or, All, sym, ap, ◌∙◌, arith, ltb-true, lt-ltb, le-leb, leb-true, IsPhaseTo, IsReduced, KeepsLabels, Reduced, AllowsColumns, Monoid, IsOrderedMonoid, IsValue, phase_of, entered_at, staying_at, IsAdmittedPhase, AreAdmittedSteps, IsAdmittedStep, stepped, Grid, cell_at}
use Rattle.asg_proof.specs.Steps.{count_below}

module _ {V : Type 0} (M : Monoid V) (difference : V → V → V) (steps : List V) (enters leaves : List ℕ) (Q : Grid V) (one : length steps ≡ 1) where
  abbrev counted : Type 0
  counted = count_below (entered_at enters 0) (length enters) + count_below (staying_at leaves 0) (length leaves) ≡ Q.side + 1

  pub one_admitted : length enters ≡ Q.side → length leaves ≡ Q.side → All (IsValue M) steps → counted → AllowsColumns M (slice_index_or steps 0 M.unit) enters leaves Q → IsAdmittedPhase M difference Q.side (phase_of steps enters leaves) (cell_at Q)
  one_admitted rows columns values count allows = record {
    rows = rows;
    columns = columns;
    admitted = each;
  }
    where
      each : AreAdmittedSteps M difference Q.side (phase_of steps enters leaves) (cell_at Q) (length steps)
      each zero h = record {
        value = values 0 M.unit h;
        count =
            let a : count_below (entered_at enters 0) (length enters) ≡ count_below (entered_at enters 0) Q.side = ap (count_below (entered_at enters 0)) rows in
            let b : count_below (staying_at leaves 0) (length leaves) ≡ count_below (staying_at leaves 0) Q.side = ap (count_below (staying_at leaves 0)) columns in
            omega (arith, a, b, count);
        least = λ r k x hr hk entered stays is.
            let low = leb-true (slice_index enters r) 0 entered in
            allows k hk (ltb-true 0 (slice_index leaves k) stays) r hr (omega (arith, low)) x is;
      }
      each (suc t) h = absurd (omega (arith, h, one))

  pub one_counted : IsAdmittedPhase M difference Q.side (phase_of steps enters leaves) (cell_at Q) → counted
  one_counted is =
      let a : count_below (entered_at enters 0) (length enters) ≡ count_below (entered_at enters 0) Q.side = ap (count_below (entered_at enters 0)) is.rows in
      let b : count_below (staying_at leaves 0) (length leaves) ≡ count_below (staying_at leaves 0) Q.side = ap (count_below (staying_at leaves 0)) is.columns in
      omega (arith, a, b, (is.admitted 0 (omega (arith, one))).count)

  pub one_allows : IsAdmittedPhase M difference Q.side (phase_of steps enters leaves) (cell_at Q) → AllowsColumns M (slice_index_or steps 0 M.unit) enters leaves Q
  one_allows is = λ k hk stays r hr entered x at.
      (is.admitted 0 (omega (arith, one))).least r k x hr hk (le-leb (slice_index enters r) 0 (omega (arith, entered))) (lt-ltb 0 (slice_index leaves k) stays) at

  -- its step is admitted
  pub one_step : IsAdmittedPhase M difference Q.side (phase_of steps enters leaves) (cell_at Q) → IsAdmittedStep M Q.side (entered_at enters 0) (staying_at leaves 0) (slice_index_or steps 0 M.unit) (cell_at Q)
  one_step is = is.admitted 0 (omega (arith, one))

module _ {V : Type 0} (M : Monoid V) (laws : IsOrderedMonoid M) (difference : V → V → V) (enters leaves : List ℕ) (before after : Reduced V) where
  -- what the step makes of a square the phase makes of it
  pub one_applied : (steps : List V) → length steps ≡ 1 → IsValue M (slice_index_or steps 0 M.unit)
      → ((r k : ℕ) → cell_at after.now r k ≡ stepped M difference (entered_at enters 0) (staying_at leaves 0) (slice_index_or steps 0 M.unit) (cell_at before.now) r k)
      → after.index ≡ M.product before.index (slice_index_or steps 0 M.unit) → KeepsLabels before.now after.now → IsReduced M after
      → IsPhaseTo M difference (phase_of steps enters leaves) before after
  one_applied [] one value cells index labels reduced = absurd (omega (arith, one))
  one_applied (c ∷ []) one value cells index labels reduced = record {
    cells = cells;
    index = index ∙ ap (M.product before.index) (sym (laws.unit_neutral c value));
    labels = labels;
    reduced = reduced;
  }
  one_applied (c ∷ d ∷ rest) one value cells index labels reduced = absurd (omega (arith, one))
