use Rattle.asg_phase_totals.proofs.Common.{◌+◌, ◌≤◌, length, sym, refl, ap, ◌∙◌, subst, true≢false, arith, false≢true, AreCounted, never, not_both, Totals, AreOrdered, AreTotals, CanPrecede, CountsRight, totals_of, count_is, all_is, phase_of, sum}
use Rattle.asg_phase_totals.proofs.TotalsLemmas.{keeps_more, sum_all, totals_more}
use Rattle.asg_phase_totals.proofs.phase_totals.PhaseTotals.put_before.Goals as goal

pub returns-then-enters-side-clause-taken : goal.returns-then-enters-side-clause-taken
returns-then-enters-side-clause-taken g c =
    let N = g.N.SumNumber in
    let law = g.met.N.SumNumber.numbers_law in
    let same = ap (λ (t : Totals). length t.rows) c.self.view_is in
    never (λ can. omega (arith, can.right.rows, same, count_is law c.self.inside.rows.items, c.len-side.ensures, c.if-enters-side.true))

pub returns-then-leaves-side-clause-taken : goal.returns-then-leaves-side-clause-taken
returns-then-leaves-side-clause-taken g c =
    let N = g.N.SumNumber in
    let law = g.met.N.SumNumber.numbers_law in
    let same = ap (λ (t : Totals). length t.rows) c.self.view_is in
    never (λ can. omega (arith, can.right.columns, same, count_is law c.self.inside.rows.items, c.len-side.ensures, c.if-leaves-side.true))

pub returns-then-not-are_counted-clause-taken : goal.returns-then-not-are_counted-clause-taken
returns-then-not-are_counted-clause-taken g c =
    let N = g.N.SumNumber in
    let law = g.met.N.SumNumber.numbers_law in
    never (λ can. not_both c.are_counted.result
    (c.are_counted.ensures.1 (subst (λ n. AreCounted c.args.enters.now c.args.leaves.now n) (count_is law c.args.steps.now) can.right.counted))
    c.if-not-are_counted.true)

pub returns-then-not-is_ordered-clause-taken : goal.returns-then-not-is_ordered-clause-taken
returns-then-not-is_ordered-clause-taken g c =
    never (λ can. not_both c.is_ordered.result (c.is_ordered.ensures.1 can.ordered) c.if-not-is_ordered.true)

pub returns-in_default-clause-taken : goal.returns-in_default-clause-taken
returns-in_default-clause-taken g c =
    let N = g.N.SumNumber in
    let law = g.met.N.SumNumber.numbers_law in
    let same = ap (λ (t : Totals). t.sum) c.self.view_is in
    let all = all_is law c.args.steps.now in
    let beyond = c.sum_within.ensures.beyond c.in_default.is in
    never (λ can. omega (arith, can.few, same, all, beyond, c.minus.ensures, c.greatest_sum.ensures))

pub sum_up-requires-clause-fits : goal.sum_up-requires-clause-fits
sum_up-requires-clause-fits g c =
    omega (arith, c.in-Some.ensures.within, c.in-Some.ensures.small, c.minus.ensures, c.greatest_sum.ensures, g.met.N.SumNumber.wide_law)

pub raise-requires-clause-fits : goal.raise-requires-clause-fits
raise-requires-clause-fits g c = λ i h.
    let N = g.N.SumNumber in
    let law = g.met.N.SumNumber.numbers_law in
    let v = c.self.invariant in
    let within = v.rows_within i (omega (arith, h, count_is law c.self.inside.rows.items)) in
    omega (arith, within, c.in-Some.ensures.within, c.in-Some.ensures.small, c.minus.ensures, c.greatest_sum.ensures, v.sum_within, g.met.N.SumNumber.wide_law)

pub raise-requires-2-clause-marks : goal.raise-requires-2-clause-marks
raise-requires-2-clause-marks g c =
    let N = g.N.SumNumber in
    let law = g.met.N.SumNumber.numbers_law in
    let s = c.self.inside in
    omega (arith, c.if-leaves-side.false, c.len-side.ensures, c.self.invariant.count, count_is law s.rows.items, count_is law s.columns.items)

pub raise-requires-2-clause-fits : goal.raise-requires-2-clause-fits
raise-requires-2-clause-fits g c = λ i h.
    let N = g.N.SumNumber in
    let law = g.met.N.SumNumber.numbers_law in
    let s = c.self.inside in
    let v = c.self.invariant in
    let within = v.columns_within i (omega (arith, h, v.count, count_is law s.rows.items, count_is law s.columns.items)) in
    omega (arith, within, c.in-Some.ensures.within, c.in-Some.ensures.small, c.minus.ensures, c.greatest_sum.ensures, v.sum_within, g.met.N.SumNumber.wide_law)

pub plus-self-inside-requires : goal.plus-self-inside-requires
plus-self-inside-requires g c =
    omega (arith, c.in-Some.ensures.small, c.minus.ensures, c.greatest_sum.ensures, c.self.invariant.sum_within, g.met.N.SumNumber.wide_law)

pub returns-clause-taken : goal.returns-clause-taken
returns-clause-taken g c =
    let N = g.N.SumNumber in
    let law = g.met.N.SumNumber.numbers_law in
    let s = c.self.inside in
    let steps = N.numbers c.args.steps.now in
    let phase = phase_of steps c.args.enters.now c.args.leaves.now in
    let row_count = count_is law s.rows.items in
    let few : N.number s.sum + sum steps ≤ N.top =
    let all = all_is law c.args.steps.now in
    omega (arith, all, c.in-Some.ensures.within, c.in-Some.ensures.small, c.minus.ensures, c.greatest_sum.ensures, c.self.invariant.sum_within) in (
      λ _. subst (CanPrecede N.top phase) c.self.view_is (record {
        right = record {
          rows = omega (arith, c.if-enters-side.false, c.len-side.ensures, row_count);
          columns = omega (arith, c.if-leaves-side.false, c.len-side.ensures, row_count);
          counted = subst (λ n. AreCounted c.args.enters.now c.args.leaves.now n) (sym (count_is law c.args.steps.now)) (c.are_counted.ensures.0 c.if-not-are_counted.false);
        };
        ordered = subst AreOrdered (sym c.self.view_is) (c.is_ordered.ensures.0 c.if-not-is_ordered.false);
        few = few;
      }),
      λ _. refl,
    )

pub returns-clause-totals : goal.returns-clause-totals
returns-clause-totals g c = λ _ rest are.
    let N = g.N.SumNumber in
    let law = g.met.N.SumNumber.numbers_law in
    let s = c.self.inside in
    let steps = N.numbers c.args.steps.now in
    let enters = c.args.enters.now in
    let leaves = c.args.leaves.now in
    let before = totals_of (N.numbers s.rows.items) (N.numbers s.columns.items) (N.number s.sum) in
    let after = totals_of (N.numbers c.raise.new.duals.items) (N.numbers c.raise-2.new.duals.items) (N.number c.plus-self-inside.result) in
    let row_count = count_is law s.rows.items in
    let counts : CountsRight (length before.rows) (phase_of steps enters leaves) = record {
      rows = omega (arith, c.if-enters-side.false, c.len-side.ensures, row_count);
      columns = omega (arith, c.if-leaves-side.false, c.len-side.ensures, row_count);
      counted = subst (λ n. AreCounted enters leaves n) (sym (count_is law c.args.steps.now)) (c.are_counted.ensures.0 c.if-not-are_counted.false);
    } in
    totals_more (phase_of steps enters leaves) rest before after
    (subst (AreTotals rest) (sym c.self.view_is) are) counts
    (subst AreOrdered (sym c.self.view_is) (c.is_ordered.ensures.0 c.if-not-is_ordered.false))
    c.raise.ensures.count
    (λ r h. c.raise.ensures.each r h)
    (λ k h. c.raise-2.ensures.each k (omega (arith, h, c.self.invariant.count)))
    (omega (arith, c.plus-self-inside.ensures, c.in-Some.ensures.within, all_is law c.args.steps.now, sum_all steps))

pub invariant_of-self : goal.invariant_of-self
invariant_of-self g c =
    let N = g.N.SumNumber in
    let law = g.met.N.SumNumber.numbers_law in
    let s = c.self.inside in
    let steps = N.numbers c.args.steps.now in
    let before = totals_of (N.numbers s.rows.items) (N.numbers s.columns.items) (N.number s.sum) in
    let after = totals_of (N.numbers c.raise.new.duals.items) (N.numbers c.raise-2.new.duals.items) (N.number c.plus-self-inside.result) in
    let all = all_is law c.args.steps.now in
    keeps_more (phase_of steps c.args.enters.now c.args.leaves.now) before after c.self.invariant c.raise.ensures.count c.raise-2.ensures.count
    (λ r h. c.raise.ensures.each r h)
    (λ k h. c.raise-2.ensures.each k (omega (arith, h, c.self.invariant.count)))
    (omega (arith, c.plus-self-inside.ensures, c.in-Some.ensures.within, all))
    (omega (arith, c.in-Some.ensures.within, all, c.in-Some.ensures.small, c.minus.ensures, c.greatest_sum.ensures, c.self.invariant.sum_within))

pub returns-then-enters-side-clause-totals : goal.returns-then-enters-side-clause-totals
returns-then-enters-side-clause-totals g c = λ h. absurd (false≢true h)

pub returns-then-leaves-side-clause-totals : goal.returns-then-leaves-side-clause-totals
returns-then-leaves-side-clause-totals g c = λ h. absurd (false≢true h)

pub returns-then-not-are_counted-clause-totals : goal.returns-then-not-are_counted-clause-totals
returns-then-not-are_counted-clause-totals g c = λ h. absurd (false≢true h)

pub returns-then-not-is_ordered-clause-totals : goal.returns-then-not-is_ordered-clause-totals
returns-then-not-is_ordered-clause-totals g c = λ h. absurd (false≢true h)

pub returns-clause-kept : goal.returns-clause-kept
returns-clause-kept g c = λ h. absurd (true≢false h)

pub returns-clause-side : goal.returns-clause-side
returns-clause-side g c = c.raise.ensures.count ∙ ap (λ (t : Totals). length t.rows) c.self.view_is
