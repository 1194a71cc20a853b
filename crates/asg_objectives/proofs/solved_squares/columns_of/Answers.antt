use Rattle.asg_objectives.proofs.Common.{ℕ, ◌+◌, ◌<◌, List, [], ◌∷◌, length, get_or, sym, ap, subst, arith, length-append, Matches}
use Rattle.asg_objectives.proofs.MatchedColumns.{columns_more}
use Rattle.asg_objectives.proofs.solved_squares.columns_of.Goals as goal

pub loop-r-preserved : goal.loop-r-preserved
loop-r-preserved c =
    let m = c.args.matching.now in
    let before = c.loop-r.columns.items in
    let items = c.in_ok-push.ensures.items in
    let inv = c.loop-r.invariant in (
      omega (arith, inv.0, ap length items, length-append before (c.column_in.result ∷ [])),
      subst (λ (columns : List ℕ). (k : ℕ) → k < c.loop-r.r + 1 → Matches m k (get_or columns k 0)) (sym items)
          (columns_more m before c.loop-r.r c.column_in.result inv.0 inv.1 c.column_in.ensures),
    )
