use Rattle.asg_phase_totals.proofs.Common.{ℕ, ◌<◌, ◌≤◌, List, length, slice_index, sym, subst, arith, AreOrdered, count_is}
use Rattle.asg_phase_totals.proofs.phase_totals.PhaseTotals.is_ordered.Goals as goal

pub returns : goal.returns
returns g c =
    let N = g.N.SumNumber in
    let law = g.met.N.SumNumber.numbers_law in
    let s = c.self.inside in
    let rows = s.rows.items in
    let columns = s.columns.items in
    let row_count = count_is law rows in
    let column_count = count_is law columns in
    let Ordered = λ (rs cs : List g.row.N.Denot). (r k : ℕ) → r < length rs → k < length cs → slice_index (N.numbers rs) r ≤ slice_index (N.numbers cs) k in (
      λ yes. subst AreOrdered c.self.view_is (λ r k hr hk.
          let o = subst (λ cs. Ordered rows cs) c.as_slice-2.ensures.value (subst (λ rs. Ordered rs c.as_slice-2.result.now) c.as_slice.ensures.value (c.are_ordered.ensures.0 yes)) in
          o r k (omega (arith, hr, row_count)) (omega (arith, hk, c.self.invariant.count, column_count))),
      λ ordered. c.are_ordered.ensures.1
          (subst (λ rs. Ordered rs c.as_slice-2.result.now) (sym c.as_slice.ensures.value) (subst (λ cs. Ordered rows cs) (sym c.as_slice-2.ensures.value)
          (λ r k hr hk. (subst AreOrdered (sym c.self.view_is) ordered) r k (omega (arith, hr, row_count)) (omega (arith, hk, c.self.invariant.count, column_count, row_count))))),
    )
