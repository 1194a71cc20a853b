use Rattle.asg_phase_totals.proofs.Common.{◌≡◌, ◌+◌, ◌<◌, All, length, sym, ap, ◌∙◌, subst, ⊎_elim, inl, inr, arith, never, not_both, CountsRight, cell_at}
use Rattle.asg_phase_totals.proofs.SegmentLemmas.{all_count_right}
use Rattle.asg_phase_totals.proofs.list_tests.ListTest.admits.Goals as goal

pub returns-then-not-all_count_right-clause-told : goal.returns-then-not-all_count_right-clause-told
returns-then-not-all_count_right-clause-told g c = λ top above.
    let N = g.N.SumNumber in
    let phases = N.phases c.args.phases.now in
    let side : c.len.result ≡ c.args.square.now.side = omega (arith, c.len.ensures, c.self.view_is, c.requires.side) in
    never (λ all. not_both c.all_count_right.result
    (c.all_count_right.ensures.1
    (subst (λ n. All (CountsRight n) phases) (sym side)
    (all_count_right top c.args.square.now.side phases (λ r k. N.present (cell_at c.args.square.now r k)) all)))
    c.if-not-all_count_right.true)

pub returns-in_default-clause-near : goal.returns-in_default-clause-near
returns-in_default-clause-near g c = λ _. inl (c.sum_of_list.ensures.beyond c.in_default.is)

pub minus-requires : goal.minus-requires
minus-requires g c = omega (arith, c.in-Some.ensures.small, c.greatest_sum.ensures)

pub returns-then-is_below-clause-near : goal.returns-then-is_below-clause-near
returns-then-is_below-clause-near g c = λ _.
    let N = g.N.SumNumber in
    let greatest = N.number c.greatest_cell.result in
    let less = c.is_below.ensures.below c.if-is_below.true in
    ⊎_elim
    (λ (none : greatest ≡ 0). absurd (omega (arith, none, less)))
    (λ some. inr (
      some.0,
      some.1,
      greatest,
      some.2,
      omega (arith, less, c.minus.ensures, c.greatest_sum.ensures, c.in-Some.ensures.within, c.in-Some.ensures.small),
    ))
    c.greatest_cell.ensures.reached

pub all_count_right-requires : goal.all_count_right-requires
all_count_right-requires g c = omega (arith, c.len.ensures, c.self.invariant.0)

pub raise_all-requires-clause-columns : goal.raise_all-requires-clause-columns
raise_all-requires-clause-columns g c = c.clear-2.ensures.count ∙ c.self.invariant.1 ∙ sym c.clear.ensures.count

pub raise_all-requires-clause-rows_clear : goal.raise_all-requires-clause-rows_clear
raise_all-requires-clause-rows_clear g c = λ r h. c.clear.ensures.each r (omega (arith, h, c.clear.ensures.count))

pub raise_all-requires-clause-columns_clear : goal.raise_all-requires-clause-columns_clear
raise_all-requires-clause-columns_clear g c = λ k h. c.clear-2.ensures.each k (omega (arith, h, c.clear.ensures.count, c.self.invariant.1))

pub raise_all-requires-clause-right : goal.raise_all-requires-clause-right
raise_all-requires-clause-right g c =
    let same : c.len.result ≡ length c.clear.new.numbers.items = omega (arith, c.len.ensures, c.clear.ensures.count) in
    subst (λ n. All (CountsRight n) (g.N.SumNumber.phases c.args.phases.now)) same
    (c.all_count_right.ensures.0 c.if-not-all_count_right.false)

pub raise_all-requires-clause-room : goal.raise_all-requires-clause-room
raise_all-requires-clause-room g c = c.requires.room

pub raise_all-requires-clause-few : goal.raise_all-requires-clause-few
raise_all-requires-clause-few g c = omega (arith, c.in-Some.ensures.within, c.in-Some.ensures.small)

pub walk_back-requires-clause-row_count : goal.walk_back-requires-clause-row_count
walk_back-requires-clause-row_count g c = c.raise_all.ensures.row_count ∙ c.clear.ensures.count ∙ c.self.view_is ∙ c.requires.side

pub walk_back-requires-clause-column_count : goal.walk_back-requires-clause-column_count
walk_back-requires-clause-column_count g c = c.raise_all.ensures.column_count ∙ c.clear.ensures.count ∙ c.self.view_is ∙ c.requires.side

pub walk_back-requires-clause-side : goal.walk_back-requires-clause-side
walk_back-requires-clause-side g c = c.self.invariant.2 ∙ c.self.view_is ∙ c.requires.side

pub walk_back-requires-clause-rows : goal.walk_back-requires-clause-rows
walk_back-requires-clause-rows g c = λ r h. c.raise_all.ensures.rows r (omega (arith, h, c.clear.ensures.count, c.self.view_is, c.requires.side))

pub walk_back-requires-clause-columns : goal.walk_back-requires-clause-columns
walk_back-requires-clause-columns g c = λ k h. c.raise_all.ensures.columns k (omega (arith, h, c.clear.ensures.count, c.self.view_is, c.requires.side))

pub walk_back-requires-clause-right : goal.walk_back-requires-clause-right
walk_back-requires-clause-right g c =
    let same : c.len.result ≡ c.args.square.now.side = omega (arith, c.len.ensures, c.self.view_is, c.requires.side) in
    subst (λ n. All (CountsRight n) (g.N.SumNumber.phases c.args.phases.now)) same
    (c.all_count_right.ensures.0 c.if-not-all_count_right.false)

pub walk_back-requires-clause-room : goal.walk_back-requires-clause-room
walk_back-requires-clause-room g c = subst (λ n. All (λ p. length p.steps < n) c.args.phases.now) (sym c.raise_all.ensures.room) c.requires.room

pub walk_back-requires-clause-few : goal.walk_back-requires-clause-few
walk_back-requires-clause-few g c = omega (arith, c.in-Some.ensures.within, c.in-Some.ensures.small)

pub walk_back-requires-clause-cells : goal.walk_back-requires-clause-cells
walk_back-requires-clause-cells g c = λ r k x hr hk is.
    let above = c.greatest_cell.ensures.above r k x hr is in
    omega (arith, above, c.is_below.ensures.not_below c.if-is_below.false, c.minus.ensures, c.greatest_sum.ensures, c.in-Some.ensures.within, c.in-Some.ensures.small)

pub returns-clause-told : goal.returns-clause-told
returns-clause-told g c = c.walk_back.ensures.told

pub returns-clause-room : goal.returns-clause-room
returns-clause-room g c = c.walk_back.ensures.room ∙ c.raise_all.ensures.room
