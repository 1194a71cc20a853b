-- One more row.
use Rattle.asg_table_sums.proofs.Common.{◌≡◌, ℕ, ◌+◌, ◌<◌, cond, List, length, get_or, slice_index, None, Option, sym, ap, ◌∙◌, arith, get_or-replicate, same_Some, slice_get-get_or, sum_by_more, most_columns, takes}
use Rattle.asg_table_sums.proofs.fullness.takers.Goals as goal

pub loop-row-init : goal.loop-row-init
loop-row-init c col below = ap (λ (list : List ℕ). slice_index list col) c.no_takers-taken.ensures ∙ get_or-replicate most_columns col 0 0 below

pub loop-row-preserved : goal.loop-row-preserved
loop-row-preserved c col below =
    let f = c.args.choice.now in
    let row = c.loop-row.row in
    let within : row < length f = omega (arith, c.loop-row-test.true, c.len-row-end.ensures) in
    let chosen : c.get.result ≡ get_or f row None = same_Some _ _ (sym c.get.ensures ∙ slice_get-get_or f row None within) in
    let one = λ (o : Option ℕ). cond {A = ℕ} (takes col o) 1 0 in
    c.take_one.ensures col below
    ∙ (λ i. c.loop-row.invariant col below i + one (chosen i))
    ∙ sym (sum_by_more one f row None within)
