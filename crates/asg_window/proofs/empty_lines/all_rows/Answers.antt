use Rattle.asg_window.proofs.Common.{◌≡◌, ℕ, ◌+◌, ◌<◌, List, [], ◌∷◌, ◌++◌, length, get_or, sym, ap, ◌∙◌, subst, arith, below_more, get_or_append_left, get_or_push, length_push, IsMarked}
use Rattle.asg_match.specs.laws.EmptyColumns.{IsDeficient-column}
use Rattle.asg_window.proofs.empty_lines.all_rows.Goals as goal

-- one number more, which is its place
counted_push : (xs : List ℕ) (n : ℕ) → length xs ≡ n → ((k : ℕ) → k < n → get_or xs k 0 ≡ k) → (k : ℕ) → k < n + 1 → get_or (xs ++ n ∷ []) k 0 ≡ k
counted_push xs n count each =
    below_more (λ k. get_or (xs ++ n ∷ []) k 0 ≡ k) n
    (λ k below. get_or_append_left xs (n ∷ []) 0 k (omega (arith, below, count)) ∙ each k below)
    (get_or_push xs n 0 n count)

pub loop-row-init : goal.loop-row-init
loop-row-init c = record {
  upto = omega arith;
  count = ap length c.clear.ensures.items;
  each = λ k below. absurd (omega (arith, below));
}

pub loop-row-preserved : goal.loop-row-preserved
loop-row-preserved c =
    let inv = c.loop-row.invariant in
    let row = c.loop-row.row in
    let before = c.loop-row.rows.items in
    record {
      upto = omega (arith, c.loop-row-test.true);
      count = ap length c.in_ok-push.ensures.items ∙ length_push before row ∙ ap (λ n. n + 1) inv.count;
      each = subst (λ xs. (k : ℕ) → k < row + 1 → get_or xs k 0 ≡ k) (sym c.in_ok-push.ensures.items) (counted_push before row inv.count inv.each);
    }

pub returns : goal.returns
returns c =
    let band = c.args.band.now in
    let inv = c.loop-row.invariant in
    let all : c.loop-row.row ≡ band.marks.side = omega (arith, c.loop-row-test.false, inv.upto, c.loop-row.auto.row-end) in
    let empty = c.requires in
    IsDeficient-column (IsMarked band.marks.bits band.marks.side) band.marks.side c.args.column c.loop-row.rows.items
    (λ r d h. let cell = h in cell.column)
    empty.column
    (λ r h. let cell = h in empty.none r cell.row cell.bit)
    (omega (arith, inv.count, all))
    (λ k h. inv.each k (omega (arith, h, all)))
