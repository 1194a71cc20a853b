use Rattle.asg_phase_totals.proofs.Common.{length, sym, ap, ◌∙◌, Totals, count_is}
use Rattle.asg_phase_totals.proofs.phase_totals.PhaseTotals.columns.Goals as goal

pub returns-clause-columns : goal.returns-clause-columns
returns-clause-columns g c = ap g.N.SumNumber.numbers c.as_slice.ensures.value ∙ ap (λ (t : Totals). t.columns) c.self.view_is

pub returns-clause-count : goal.returns-clause-count
returns-clause-count g c =
    let N = g.N.SumNumber in
    let law = g.met.N.SumNumber.numbers_law in
    sym (count_is law c.as_slice.result.now)
    ∙ ap (λ xs. length (N.numbers xs)) c.as_slice.ensures.value
    ∙ c.self.invariant.count
    ∙ ap (λ (t : Totals). length t.rows) c.self.view_is
