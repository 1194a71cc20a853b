-- One more column.
use Rattle.asg_values.proofs.Common.{◌≡◌, ◌<◌, false, ◌&&◌, ◌||◌, ◌≢◌, length, get_or, set, ℤ, pos, slice_get, int_le, FitsSigned, sym, ap, ◌∙◌, subst, inl, inr, ⊎_elim, arith, length-set, get_or-set_other, get_or-set_same, to_z-of_z, w64, to_z, of_z, rules, cases_eq, fits_signed_from_abs, get_or_default, option_map_or, slice_get-get_or, absent, IsEntry, no_column}
use Rattle.asg_values.specs.Marks.{meets}
use Rattle.asg_values.proofs.reach.mark_piece.Goals as goal

entry_fits : (a : ℤ) → IsEntry a → FitsSigned w64 a
entry_fits a (inl none) = subst (FitsSigned w64) (sym none) (search rules)
entry_fits a (inr near) = fits_signed_from_abs w64 a (omega (arith, near))

pub loop-column-preserved : goal.loop-column-preserved
loop-column-preserved c =
    let reached = c.loop-column.reached in
    let columns = c.args.columns.now in
    let costs = c.args.costs.now in
    let column = c.loop-column.column in
    let inv = c.loop-column.invariant in
    let within : column < length columns = omega (arith, c.loop-column-test.true, c.requires.within) in
    let there : column < length costs = omega (arith, within, c.requires.whole) in
    let low = to_z w64 (of_z w64 c.args.low) in
    let high = to_z w64 (of_z w64 c.args.high) in
    let item = get_or costs column (pos 0) in
    let same : to_z w64 (of_z w64 item) ≡ get_or costs column absent = to_z-of_z w64 item (entry_fits item (c.requires.entries column (pos 0) there)) ∙ get_or_default costs column (pos 0) absent there in
    let usable = (get_or columns column no_column).usable in
    let seen : usable ≡ option_map_or (λ column. column.usable) (slice_get columns column) false = sym (ap (λ o. option_map_or (λ column. column.usable) o false) (slice_get-get_or columns column no_column within)) in
    let between = c.is_between.ensures ∙ ap (λ a. int_le low a && int_le a high) same in
    let mark = get_or reached column false || (usable && c.is_between.result) in
    let met = meets columns costs low high in
    let at : get_or (set reached column mark) column false ≡ (get_or c.args.reached.now column false || met column) =
    get_or-set_same reached column mark false (omega (arith, within, c.requires.few, inv.size))
    ∙ ap (λ b. b || (usable && c.is_between.result)) (inv.marked.past column (omega arith))
    ∙ (λ i. get_or c.args.reached.now column false || (seen i && between i)) in
    record {
      marked = record {
        inside = λ k from before.
            ⊎_elim
            (λ (here : k ≡ column). subst (λ n. get_or (set reached column mark) n false ≡ (get_or c.args.reached.now n false || met n)) (sym here) at)
            (λ (other : k ≢ column). get_or-set_other reached column k mark false other ∙ inv.marked.inside k from (omega arith))
            (cases_eq k column);
        before = λ k less. let other : k ≢ column = omega arith in get_or-set_other reached column k mark false other ∙ inv.marked.before k less;
        past = λ k behind. let other : k ≢ column = omega arith in get_or-set_other reached column k mark false other ∙ inv.marked.past k (omega arith);
      };
      size = length-set reached column mark ∙ inv.size;
    }
