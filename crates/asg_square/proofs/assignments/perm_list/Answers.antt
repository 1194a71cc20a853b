use Rattle.asg_square.proofs.Common.{◌≡◌, ℕ, ◌<◌, false, not, map, length, get_or, None, sym, ap, ◌∙◌, subst, arith, IfOk-weaker, length-map-range_with_len, range_with_len, square_side, passing_below, own_copy, perm_list, is_free, free_columns, completed, rows_within}
use Rattle.asg_square.proofs.PermSteps.{own_list_within, free_list_is, completed_list_is}
use Rattle.asg_square.proofs.assignments.perm_list.Goals as goal

pub mark_taken-requires-clause-within : goal.mark_taken-requires-clause-within
mark_taken-requires-clause-within c =
    own_list_within c.args.inst.now c.args.choice.now c.as_slice.result.now c.requires.valid c.rows-rows.ensures.instance.well_formed.place_in_range
    (c.as_slice.ensures.value ∙ c.in_ok-own.ensures ∙ ap (λ n. map (own_copy c.args.inst.now c.args.choice.now) (range_with_len 0 n)) c.requires.side)

pub free_columns-requires : goal.free_columns-requires
free_columns-requires c =
    let own = ap length c.in_ok-own.ensures ∙ length-map-range_with_len (own_copy c.args.inst.now c.args.choice.now) 0 c.args.side in
    let first = ap length c.as_slice.ensures.value in
    let marked = ap length c.as_slice-2.ensures.value in
    let made = c.in_ok-taken.ensures.len in
    omega (arith, own, first, marked, made, c.mark_taken.ensures.count, c.len.ensures, c.requires.few)

pub complete-requires : goal.complete-requires
complete-requires c =
    let own = c.in_ok-own.own.items in
    let taken = c.mark_taken.new.taken.items in
    let first : c.as_slice.result.now ≡ own = c.as_slice.ensures.value in
    let made = c.in_ok-taken.ensures.len in
    let size : length taken ≡ length own = omega (arith, made, c.mark_taken.ensures.count, c.len.ensures) in
    let marks : (k : ℕ) → k < length own → get_or taken k false ≡ not (is_free (λ r. get_or own r None) (length own) k) =
    subst (λ xs. (k : ℕ) → k < length xs → get_or taken k false ≡ not (is_free (λ r. get_or xs r None) (length xs) k)) first c.mark_taken.ensures.marks in
    c.as_slice-4.ensures.value
    ∙ c.in_ok-free.ensures
    ∙ ap (λ xs. passing_below (λ k. not (get_or xs k false)) (length xs)) c.as_slice-2.ensures.value
    ∙ free_list_is own taken size marks
    ∙ ap (λ xs. free_columns (λ r. get_or xs r None) (length xs)) (sym c.as_slice-3.ensures.value)

pub returns : goal.returns
returns c =
    let X = c.args.inst.now in
    let f = c.args.choice.now in
    let own = c.in_ok-own.own.items in
    let few = c.requires.valid.over in
    let within = rows_within X c.rows-rows.ensures.instance.well_formed.place_in_range in
    let are : own ≡ map (own_copy X f) (range_with_len 0 (square_side X)) =
    c.in_ok-own.ensures ∙ ap (λ n. map (own_copy X f) (range_with_len 0 n)) c.requires.side in
    IfOk-weaker c.complete.result (λ perm. perm.items ≡ map (completed (λ r. get_or c.as_slice-3.result.now r None) (length c.as_slice-3.result.now)) (range_with_len 0 (length c.as_slice-3.result.now)))
    (λ perm. perm.items ≡ perm_list X f)
    (λ perm is.
    is
    ∙ ap (λ xs. map (completed (λ r. get_or xs r None) (length xs)) (range_with_len 0 (length xs))) c.as_slice-3.ensures.value
    ∙ completed_list_is X f own (square_side X) (omega (arith, few, within)) are)
    c.complete.ensures
