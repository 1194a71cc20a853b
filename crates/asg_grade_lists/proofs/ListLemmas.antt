-- Lists of phases of one grade are admitted.
use Rattle.asg_grade_lists.proofs.Common.{◌≡◌, ℕ, ◌^◌, ◌<◌, ◌≤◌, List, ◌∷◌, map, length, drop, Some, None, All, Option, sym, refl, ap, ◌∙◌, subst, arith, All-cons, none-some, AreOfGrade, BeginWithRise, LeadTo, RowsEndWell, bounded_sums, bounded_difference, narrow_top, graded_word, Word, Totals, CountAndRaise, EndAtLeast0, StayBelow, sum_of_steps, cell_amount, graded_phase, of_grade, rise_phase, PhaseOf, AreAdmittedPhases, entered_at, phase_of, staying_at, worded, IsPhaseOver}
use Rattle.asg_grade_lists.proofs.RiseLemmas.{side_some}
use Rattle.asg_phase_totals.proofs.TotalsLemmas.{admitted_phases, index_of_all}
use Rattle.asg_proof.proofs.GradeAmountLemmas.{joined_admitted, joined_index}

module _ (top g side : ℕ) (square : ℕ → ℕ → Option (ℕ × ℕ)) (words : List (PhaseOf Word)) (totals : Totals)
    (within : (r k : ℕ) (x : ℕ × ℕ) → square r k ≡ Some x → (r < side) × (k < side)) (count : length totals.rows ≡ side) (few : totals.sum ≤ narrow_top) (high : 2 ^ 63 ≤ top)
    (all : AreOfGrade g side (drop 1 words) totals) (ends : RowsEndWell g side side totals.rows totals.columns square)
  where
    abbrev plain : ℕ → ℕ → Option ℕ
    plain r k = cell_amount g (square r k)

    few_steps : sum_of_steps all.amounts ≤ narrow_top
    few_steps = omega (arith, all.come.sum, few)

    stay_below : StayBelow top side all.amounts plain
    stay_below r k y hr hk is =
        let well = ends r hr k hk y is in
        omega (arith, well.0, few_steps, high)

    end_at_least_0 : EndAtLeast0 side all.amounts plain
    end_at_least_0 r k y hr hk is =
        let well = ends r hr k hk y is in
        omega (arith, well.1, all.come.rows r (omega (arith, hr, count)), all.come.columns k (omega (arith, hk, count)))

    amounts_admitted : AreAdmittedPhases (bounded_sums top) bounded_difference side all.amounts plain
    amounts_admitted =
        admitted_phases top side all.amounts plain (omega (arith, few_steps, high)) stay_below end_at_least_0
        (subst (λ n. CountAndRaise n all.amounts) count all.come.right)

    amounts_few : (r k y : ℕ) → plain r k ≡ Some y → y ≤ top
    amounts_few r k y is = by_cell (square r k) refl
      where
        by_cell : (o : Option (ℕ × ℕ)) → square r k ≡ o → y ≤ top
        by_cell None e = absurd (none-some y (sym (ap (cell_amount g) e) ∙ is))
        by_cell (Some x) e =
            let inside = within r k x e in
            let well = ends r inside.0 k inside.1 y is in
            omega (arith, well.0, high)

    module _ (risen : BeginWithRise g side square words) where
      abbrev enters : List ℕ
      enters = risen.first.enters

      abbrev leaves : List ℕ
      leaves = risen.first.leaves

      abbrev list : List (PhaseOf (ℕ × ℕ))
      list = rise_phase g enters leaves ∷ map (graded_phase g) all.amounts

      written : map (worded graded_word) list ≡ words
      written =
          ap (λ ws. phase_of ws enters leaves ∷ map (worded graded_word) (map (graded_phase g) all.amounts)) (sym risen.rises.steps)
          ∙ ap (λ ps. risen.first ∷ ps) all.written
          ∙ sym risen.split

      first_over : IsPhaseOver side risen.first
      first_over =
          let one = ap length risen.rises.steps in
          let some = side_some side (entered_at enters 0) (staying_at leaves 0) risen.rises.rises.count in
          record { some = omega (arith, one); few = omega (arith, one, some); enters = risen.rises.rises.rows; leaves = risen.rises.rises.columns }

      -- the list leads to the sum of all amounts, at the grade
      pub list_leads : g < 2 ^ 64 → LeadTo top side square words (g, totals.sum)
      list_leads small = record {
        have = record {
          admitted = record {
            phases = list;
            written = written;
            admitted = joined_admitted top g side enters leaves square plain (λ r k. refl) all.amounts amounts_few small risen.rises.rises all.positive amounts_admitted;
          };
          same = joined_index top g enters leaves all.amounts
              ∙ ap (of_grade g) (index_of_all top all.amounts (omega (arith, few_steps, high)) ∙ sym all.come.sum);
        };
        sizes = subst (All (IsPhaseOver side)) (sym risen.split) (All-cons (IsPhaseOver side) risen.first (drop 1 words) first_over all.sizes);
      }
