use Rattle.asg_kept.proofs.Common.{ℕ, ◌<◌, List, length, slice_index, sym, ap, ◌∙◌, subst, arith, count_is}
use Rattle.asg_kept.proofs.DualLemmas.{length_of_values, dual_values_at}
use Rattle.asg_kept.proofs.dual_rows.DualRow.value.Goals as goal

pub value_at-requires-clause-column : goal.value_at-requires-clause-column
value_at-requires-clause-column g c =
    let N = g.N.SumNumber in
    let s = c.self.inside in
    let within = subst (λ (xs : List ℕ). c.args.column < length xs) (sym c.self.view_is) c.requires in
    let count = length_of_values N.width (N.numbers s.values.now) (N.numbers s.columns.now) (N.number s.row) in
    omega (arith, within, count, count_is g.met.N.SumNumber.numbers_law s.values.now)

pub returns : goal.returns
returns g c =
    let N = g.N.SumNumber in
    let s = c.self.inside in
    let k = c.args.column in
    let values = N.numbers s.values.now in
    let columns = N.numbers s.columns.now in
    let row = N.number s.row in
    let within = subst (λ (xs : List ℕ). k < length xs) (sym c.self.view_is) c.requires in
    let count = length_of_values N.width values columns row in
    c.value_at.ensures
    ∙ sym (dual_values_at N.width values columns row k (omega (arith, within, count)))
    ∙ ap (λ (xs : List ℕ). slice_index xs k) c.self.view_is
