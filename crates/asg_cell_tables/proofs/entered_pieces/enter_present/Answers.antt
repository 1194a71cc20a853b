use Rattle.asg_cell_tables.proofs.Common.{ℕ, ◌<◌, length, get_or, Some, None, sym, ◌∙◌, arith, length-set, none-some, entered_value}
use Rattle.asg_cell_tables.proofs.CountedPieces.{may_enter, value_is}
use Rattle.asg_cell_tables.proofs.PieceLemmas.{values_more}
use Rattle.asg_cell_tables.proofs.entered_pieces.enter_present.Goals as goal

pub present_cost-cost-requires-clause-within : goal.present_cost-cost-requires-clause-within
present_cost-cost-requires-clause-within g c = omega (arith, c.loop-k-test.true, c.requires.full, c.requires.count, c.requires.parts.count)

pub enter-requires : goal.enter-requires
enter-requires g c =
    let below : c.loop-k.k < length c.args.columns.now = omega (arith, c.loop-k-test.true, c.requires.full, c.requires.count) in
    may_enter c.args.inst.now c.args.r (get_or c.args.columns.now c.loop-k.k None) (Some c.present_cost-cost.result) _ c.requires.enters (c.present_cost-cost.ensures ∙ c.requires.parts.each c.loop-k.k below)

pub loop-k-preserved : goal.loop-k-preserved
loop-k-preserved g c =
    let i = c.loop-k.invariant in
    let X = c.args.inst.now in
    let label = λ (k : ℕ). get_or c.args.columns.now k None in
    let below : c.loop-k.k < length c.args.columns.now = omega (arith, c.loop-k-test.true, c.requires.full, c.requires.count) in
    record {
      count = length-set c.loop-k.values c.loop-k.k c.enter.result ∙ i.count;
      values = λ entered enters.
          values_more c.loop-k.values c.loop-k.k (λ k. Some (entered_value X c.args.free entered c.args.r (label k))) c.enter.result
          (omega (arith, c.loop-k-test.true, c.requires.full, i.count))
          (value_is X c.args.free _ entered c.args.r (label c.loop-k.k) (Some c.present_cost-cost.result) c.enter.result enters (c.present_cost-cost.ensures ∙ c.requires.parts.each c.loop-k.k below) c.enter.ensures (λ none. absurd (none-some c.present_cost-cost.result (sym none))))
          (i.values entered enters);
    }

pub returns-clause-values : goal.returns-clause-values
returns-clause-values g c entered enters = λ k h.
    c.loop-k.invariant.values entered enters k (omega (arith, h, c.loop-k-test.false, c.requires.full))
