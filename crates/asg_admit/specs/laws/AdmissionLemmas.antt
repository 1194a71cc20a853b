-- What admission asks, told by counts and by cells.
use Rattle.std.proofs.Common.{◌≡◌, ℕ, ◌/◌, ◌%◌, ◌<◌, Bool, true, false, cond, List, length, refl, sym, ◌∙◌, ap, subst, arith}
use Rattle.std.specs.Prelude.{IsTrue, Option, Some, None, is_some, All, slice_get, slice_index}
use Rattle.std.specs.Option.{option_map}
use Rattle.std.proofs.lemmas.Bool.{false≢true, leb-true, ltb-true, le-leb, lt-ltb}
use Rattle.asg_order.specs.Monoid.{Monoid, IsValue, IsLe}
use Rattle.asg_proof.specs.Phases.{PhaseOf, entered_at, staying_at, IsAdmittedPhase}
use Rattle.asg_proof.specs.Steps.{count_below}
use Rattle.asg_proof.specs.laws.PhaseSteps.{phase_has_values}
use Rattle.asg_proof.specs.laws.Stepped.{option_map_cases}
use Rattle.asg_bit_rows.specs.BitTable.{is_bit_set, AreWordsOf}
use Rattle.asg_cell_tables.specs.CellTable.{AreValuesOf}
use Rattle.asg_square.specs.Grid.{Grid, cell_at}
use Rattle.asg_admit.specs.Admission.{AllowsRows, AreCounted, IsPhaseOver, cell_in_row}
use Rattle.asg_admit.specs.Settled.{step_of, cell_after}
use Rattle.asg_admit.specs.laws.SettledCells.{square_after-cell}

pub not_both : (b : Bool) → b ≡ true → b ≡ false → ⊥
not_both b h k = false≢true (sym k ∙ h)

pub never : {P : Type 0} → (P → ⊥) → (IsTrue false → P) × (P → IsTrue false)
never f = (λ h. absurd (false≢true h), λ p. absurd (f p))

-- ---- cells

-- a cell of a row, read from its values and words
pub row_read : {V : Type 0} (row : ℕ → Option V) (side : ℕ) (values : List V) (words : List ℕ) → AreValuesOf row side values → AreWordsOf (λ k. is_some (row k)) side words → (k : ℕ) → k < side → row k ≡ cell_in_row values words k
row_read {V} row side values words are_values are_words k h = by_cell (row k) refl
  where
    bit : is_bit_set (slice_index words (k / 64)) (k % 64) ≡ is_some (row k)
    bit = are_words.each k (omega (arith, h, are_words.count))

    by_cell : (o : Option V) → row k ≡ o → row k ≡ cell_in_row values words k
    by_cell None is = is ∙ sym (ap (λ b. cond b (slice_get values k) None) (bit ∙ ap is_some is))
    by_cell (Some x) is =
        sym (are_values.each k (ap is_some is))
        ∙ sym (ap (λ b. cond b (slice_get values k) None) (bit ∙ ap is_some is))

-- ---- counts

module _ {V : Type 0} (M : Monoid V) (difference : V → V → V) (phase : PhaseOf V) (Q : Grid V) where
  pub counted_from : IsAdmittedPhase M difference Q.side phase (cell_at Q) → AreCounted phase.enters phase.leaves (length phase.steps)
  counted_from one t h =
      let a : count_below (entered_at phase.enters t) (length phase.enters) ≡ count_below (entered_at phase.enters t) Q.side = ap (count_below (entered_at phase.enters t)) one.rows in
      let b : count_below (staying_at phase.leaves t) (length phase.leaves) ≡ count_below (staying_at phase.leaves t) Q.side = ap (count_below (staying_at phase.leaves t)) one.columns in
      omega (arith, a, b, (one.admitted t h).count, one.rows)

  abbrev after : ℕ → ℕ → ℕ → V → V
  after t r k x = cell_after M difference (step_of M phase.steps) (slice_index phase.enters r) (slice_index phase.leaves k) x t

  pub allows_from : IsAdmittedPhase M difference Q.side phase (cell_at Q) → AllowsRows M difference phase Q
  allows_from one = λ r hr k hk x is t below entered stays.
      (one.admitted t below).least r k (after t r k x) hr hk (le-leb (slice_index phase.enters r) t entered) (lt-ltb t (slice_index phase.leaves k) stays)
      (square_after-cell M difference phase (cell_at Q) t r k ∙ ap (option_map (after t r k)) is)

  pub admitted_to : length phase.enters ≡ Q.side → length phase.leaves ≡ Q.side → All (IsValue M) phase.steps → AreCounted phase.enters phase.leaves (length phase.steps) → AllowsRows M difference phase Q → IsAdmittedPhase M difference Q.side phase (cell_at Q)
  admitted_to rows columns values counted allows = record {
    rows = rows;
    columns = columns;
    admitted = λ t h. record {
      value = values t M.unit h;
      count =
          let a : count_below (entered_at phase.enters t) (length phase.enters) ≡ count_below (entered_at phase.enters t) Q.side = ap (count_below (entered_at phase.enters t)) rows in
          let b : count_below (staying_at phase.leaves t) (length phase.leaves) ≡ count_below (staying_at phase.leaves t) Q.side = ap (count_below (staying_at phase.leaves t)) columns in
          omega (arith, a, b, counted t h, rows);
      least = λ r k x hr hk entered stays is.
          let found = option_map_cases (after t r k) (cell_at Q r k) x (sym (square_after-cell M difference phase (cell_at Q) t r k) ∙ is) in
          subst (IsLe M (step_of M phase.steps t)) found.2
          (allows r hr k hk found.0 found.1 t h (leb-true (slice_index phase.enters r) t entered) (ltb-true t (slice_index phase.leaves k) stays));
    };
  }

  pub over_from : IsAdmittedPhase M difference Q.side phase (cell_at Q) → IsPhaseOver M Q.side phase
  over_from one = record {
    rows = one.rows;
    columns = one.columns;
    values = phase_has_values M difference Q.side phase (cell_at Q) one;
    counted = counted_from one;
  }

  pub over_admitted : IsPhaseOver M Q.side phase → AllowsRows M difference phase Q → IsAdmittedPhase M difference Q.side phase (cell_at Q)
  over_admitted over allows = admitted_to over.rows over.columns over.values over.counted allows
