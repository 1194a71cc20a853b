use Rattle.asg_square.proofs.Common.{◌≡◌, ℕ, [], ◌∷◌, ◌++◌, map, length, get_or, None, sym, ap, ◌∙◌, arith, map-range_with_len_more, range_with_len, lacks, completed, free_columns, rank_within, unwrap_or}
use Rattle.asg_square.proofs.PermSteps.{count_more}
use Rattle.asg_square.proofs.assignments.complete.Goals as goal

pub column_or-column-requires : goal.column_or-column-requires
column_or-column-requires c =
    λ none.
    let g = λ (r : ℕ). get_or c.args.own.now r None in
    let rank = rank_within g (length c.args.own.now) c.loop-r.r c.loop-r-test.true none in
    let free = ap length c.requires in
    omega (arith, rank, free, c.loop-r.invariant.1)

pub loop-r-preserved : goal.loop-r-preserved
loop-r-preserved c =
    let g = λ (r : ℕ). get_or c.args.own.now r None in
    let n = length c.args.own.now in
    let r = c.loop-r.r in
    let P = completed g n in
    let column : c.column_or-column.result ≡ P r =
    c.column_or-column.ensures
    ∙ ap (λ xs. unwrap_or (g r) (get_or xs c.loop-r.used 0)) c.requires
    ∙ ap (λ k. unwrap_or (g r) (get_or (free_columns g n) k 0)) c.loop-r.invariant.1 in
    let more = count_more (lacks g) r in
    let lack = c.lacking-used.ensures.value in (
      c.in_ok-push.ensures.items
          ∙ ap (λ xs. xs ++ c.column_or-column.result ∷ []) c.loop-r.invariant.0
          ∙ ap (λ x. map P (range_with_len 0 r) ++ x ∷ []) column
          ∙ sym (map-range_with_len_more P 0 r r (omega arith)),
      omega (arith, more, lack, c.loop-r.invariant.1),
      omega (arith, c.lacking-used.ensures.bound, c.loop-r.invariant.2),
    )
