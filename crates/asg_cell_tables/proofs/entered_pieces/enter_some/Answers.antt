use Rattle.asg_cell_tables.proofs.Common.{ℕ, ◌<◌, length, get_or, Some, None, ◌∙◌, arith, length-set, entered_value}
use Rattle.asg_cell_tables.proofs.CountedPieces.{may_enter, value_is}
use Rattle.asg_cell_tables.proofs.PieceLemmas.{values_more}
use Rattle.asg_cell_tables.proofs.entered_pieces.enter_some.Goals as goal

pub cost_at-cost-requires : goal.cost_at-cost-requires
cost_at-cost-requires g c = omega (arith, c.loop-k-test.true, c.requires.count, c.requires.parts.count)

pub entered_or-value-requires : goal.entered_or-value-requires
entered_or-value-requires g c =
    let below : c.loop-k.k < length c.args.columns.now = omega (arith, c.loop-k-test.true, c.requires.count) in
    may_enter c.args.inst.now c.args.r (get_or c.args.columns.now c.loop-k.k None) c.cost_at-cost.result _ c.requires.enters (c.cost_at-cost.ensures ∙ c.requires.parts.each c.loop-k.k below)

pub loop-k-preserved : goal.loop-k-preserved
loop-k-preserved g c =
    let i = c.loop-k.invariant in
    let X = c.args.inst.now in
    let label = λ (k : ℕ). get_or c.args.columns.now k None in
    let below : c.loop-k.k < length c.args.columns.now = omega (arith, c.loop-k-test.true, c.requires.count) in
    record {
      count = length-set c.loop-k.values c.loop-k.k c.entered_or-value.result ∙ i.count;
      values = λ entered enters.
          values_more c.loop-k.values c.loop-k.k (λ k. Some (entered_value X c.args.free entered c.args.r (label k))) c.entered_or-value.result
          (omega (arith, c.loop-k-test.true, i.count))
          (value_is X c.args.free _ entered c.args.r (label c.loop-k.k) c.cost_at-cost.result c.entered_or-value.result enters (c.cost_at-cost.ensures ∙ c.requires.parts.each c.loop-k.k below) c.entered_or-value.ensures.entered c.entered_or-value.ensures.free)
          (i.values entered enters);
    }

pub returns-clause-values : goal.returns-clause-values
returns-clause-values g c entered enters = λ k h.
    c.loop-k.invariant.values entered enters k (omega (arith, h, c.loop-k-test.false))
