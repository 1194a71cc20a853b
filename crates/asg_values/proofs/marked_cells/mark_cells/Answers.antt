-- One more cell.
use Rattle.asg_values.proofs.Common.{◌≡◌, ℕ, ◌<◌, ◌+◌, Bool, true, false, ◌&&◌, ◌||◌, ◌≢◌, length, get_or, set, pos, slice_get, int_le, refl, sym, ap, ◌∙◌, ⊎_elim, arith, take, length-set, get_or-set_other, get_or-set_same, to_z-of_z, w64, to_z, of_z, cases_eq, fits_signed_from_abs, list_any, list_any_more, ne_eqb, option_map_or, or-false, slice_get-get_or, no_column, Cost}
use Rattle.std.proofs.Common.{eq-eqb}
use Rattle.asg_values.specs.Marks.{is_met_at}
use Rattle.asg_values.proofs.marked_cells.mark_cells.Goals as goal

one_more : (o l x : Bool) → ((o || l) || x) ≡ (o || (l || (true && x)))
one_more true l x = refl
one_more false true x = refl
one_more false false x = refl

pub loop-cell-preserved : goal.loop-cell-preserved
loop-cell-preserved c =
    let reached = c.loop-cell.reached in
    let columns = c.args.columns.now in
    let cells = c.args.cells.now in
    let i = c.loop-cell.cell-index in
    let inv = c.loop-cell.invariant in
    let none : (ℕ × ℕ) × Cost = ((0, 0), record { a = pos 0; b = pos 0 }) in
    let cell = get_or cells i none in
    let column = cell.0.1 in
    let there : i < length cells = c.loop-cell-test.true in
    let within : column < length columns = c.requires.within i none there in
    let range = c.requires.in_range i none there in
    let low = to_z w64 (of_z w64 c.args.low) in
    let high = to_z w64 (of_z w64 c.args.high) in
    let same : to_z w64 (of_z w64 cell.1.a) ≡ cell.1.a = to_z-of_z w64 cell.1.a (fits_signed_from_abs w64 cell.1.a (omega (arith, range.a_in_range))) in
    let usable = (get_or columns column no_column).usable in
    let seen : usable ≡ option_map_or (λ column. column.usable) (slice_get columns column) false = sym (ap (λ o. option_map_or (λ column. column.usable) o false) (slice_get-get_or columns column no_column within)) in
    let between = c.is_between.ensures ∙ ap (λ a. int_le low a && int_le a high) same in
    let mark = get_or reached column false || (usable && c.is_between.result) in
    let old = c.args.reached.now in
    let met = is_met_at columns low high in
    record {
      marked = λ k.
          ⊎_elim
          (λ (here : k ≡ column).
          ap (λ n. get_or (set reached column mark) n false) here
          ∙ get_or-set_same reached column mark false (omega (arith, within, c.requires.few, inv.size))
          ∙ ap (λ b. b || (usable && c.is_between.result)) (inv.marked column)
          ∙ (λ j. (get_or old column false || list_any (met column) (take i cells)) || (seen j && between j))
          ∙ one_more (get_or old column false) (list_any (met column) (take i cells)) _
          ∙ (λ j. get_or old column false || (list_any (met column) (take i cells) || (sym (eq-eqb column column refl) j && (option_map_or (λ column. column.usable) (slice_get columns column) false && (int_le low cell.1.a && int_le cell.1.a high)))))
          ∙ ap (λ b. get_or old column false || b) (sym (list_any_more (met column) cells i none there))
          ∙ ap (λ n. get_or old n false || list_any (met n) (take (i + 1) cells)) (sym here))
          (λ (other : k ≢ column).
          get_or-set_other reached column k mark false other
          ∙ inv.marked k
          ∙ (λ j. get_or old k false || sym (or-false (list_any (met k) (take i cells))) j)
          ∙ (λ j. get_or old k false || (list_any (met k) (take i cells) || (sym (ne_eqb column k (λ e. other (sym e))) j && (option_map_or (λ column. column.usable) (slice_get columns k) false && (int_le low cell.1.a && int_le cell.1.a high)))))
          ∙ ap (λ b. get_or old k false || b) (sym (list_any_more (met k) cells i none there)))
          (cases_eq k column);
      size = length-set reached column mark ∙ inv.size;
    }
