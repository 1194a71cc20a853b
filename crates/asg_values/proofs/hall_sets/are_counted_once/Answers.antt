-- One more id: it names a counted row, and none of the earlier ids names it.
use Rattle.asg_values.proofs.Common.{◌≡◌, ℕ, ◌<◌, ◌≤◌, Bool, true, false, ◌||◌, ◌≢◌, List, length, get_or, take, set, ◌==◌, sym, ap, ◌∙◌, subst, ⊎_elim, arith, length-set, get_or-set_other, get_or-set_same, below_more, ne_eqb, Decides-eqb, cases_eq, cases_lt, false≢true, get_or-replicate, get_or_default, length-replicate, list_any, list_any_more, option_map_or, or-false, or-true, is_counted, row_place_of, is_counted_id, most_rows}
use Rattle.asg_values.proofs.HallRows.{names, named_twice, named_before}
use Rattle.asg_values.specs.laws.RowIds.{counted_row}
use Rattle.asg_values.proofs.hall_sets.are_counted_once.Goals as goal

pub loop-id-init : goal.loop-id-init
loop-id-init c = record {
  counted = λ k before. absurd (omega arith);
  different = λ j k d before within. absurd (omega arith);
  size = ap (λ (list : List Bool). length list) c.no_rows-named.ensures ∙ length-replicate most_rows false;
  marks = λ r below. ap (λ (list : List Bool). get_or list r false) c.no_rows-named.ensures ∙ get_or-replicate most_rows r false false below;
}

pub loop-id-preserved : goal.loop-id-preserved
loop-id-preserved c =
    let X = c.args.inst.now in
    let ids = c.args.ids.now in
    let i = c.loop-id.id-index in
    let row = c.in-Some.row in
    let named = c.loop-id.named in
    let within = c.loop-id-test.true in
    let place = (counted_row X (row_place_of X (get_or ids i 0)) row (sym c.counted_place.ensures.exact ∙ c.in-Some.is)) in
    let below : row < most_rows = rw c.in-Some.is at c.counted_place.ensures.below in
    let unseen : list_any (names X row) (take i ids) ≡ false = sym (c.loop-id.invariant.marks row below) ∙ c.if-named-row.false in
    let counted : is_counted_id X (get_or ids i 0) ≡ true = ap (λ o. option_map_or (is_counted X) o false) place.0 ∙ place.1 in
    let same = λ (j d : ℕ). λ (h : j < length ids). get_or_default ids j d 0 h in
    record {
      counted = below_more _ _ c.loop-id.invariant.counted (λ d. subst (λ id. is_counted_id X id ≡ true) (sym (same i d within)) counted);
      different = λ j k d before last.
          ⊎_elim
          (λ (earlier : k < i). c.loop-id.invariant.different j k d before earlier)
          (λ (here : i ≤ k). λ (e : get_or ids j d ≡ get_or ids k d).
          let at : k ≡ i = omega (arith, here, last) in
          let first : j < i = omega (arith, at, before) in
          let equal : get_or ids j 0 ≡ get_or ids i 0 = sym (same j d (omega (arith, first, within))) ∙ e ∙ ap (λ n. get_or ids n d) at ∙ same i d within in
          false≢true (sym unseen ∙ named_before X ids i j row first within place.0 equal))
          (cases_lt k i);
      size = length-set named row true ∙ c.loop-id.invariant.size;
      marks = λ r within_rows.
          let more = list_any_more (names X r) ids i 0 within in
          ⊎_elim
          (λ (here : r ≡ row).
          let named_here : names X r (get_or ids i 0) ≡ true = ap (λ o. option_map_or (λ k. k == r) o false) place.0 ∙ (Decides-eqb row r).1 (sym here) in
          ap (λ n. get_or (set named row true) n false) here
          ∙ get_or-set_same named row true false (omega (arith, below, c.loop-id.invariant.size))
          ∙ sym (more ∙ ap (λ b. list_any (names X r) (take i ids) || b) named_here ∙ or-true (list_any (names X r) (take i ids))))
          (λ (other : r ≢ row).
          let not_here : names X r (get_or ids i 0) ≡ false = ap (λ o. option_map_or (λ k. k == r) o false) place.0 ∙ ne_eqb row r (λ e. other (sym e)) in
          get_or-set_other named row r true false other
          ∙ c.loop-id.invariant.marks r within_rows
          ∙ sym (more ∙ ap (λ b. list_any (names X r) (take i ids) || b) not_here ∙ or-false (list_any (names X r) (take i ids))))
          (cases_eq r row);
    }

pub returns-then-named-row : goal.returns-then-named-row
returns-then-named-row c =
    let X = c.args.inst.now in
    let ids = c.args.ids.now in
    let i = c.loop-id.id-index in
    let row = c.in-Some.row in
    let place = counted_row X (row_place_of X (get_or ids i 0)) row (sym c.counted_place.ensures.exact ∙ c.in-Some.is) in
    let below : row < most_rows = rw c.in-Some.is at c.counted_place.ensures.below in (
      λ e. absurd (false≢true e),
      λ both. absurd (named_twice X ids i row c.loop-id-test.true place.0 (sym (c.loop-id.invariant.marks row below) ∙ c.if-named-row.true) both.0),
    )
