-- A row's marks are those of its costs in open columns that stand between the ends of the band.
use Rattle.asg_values.proofs.Common.{false, ◌&&◌, ◌||◌, List, length, get_or, slice_get, int_le, sym, ap, ◌∙◌, arith, to_z-of_z, w64, fits_signed_from_abs, option_map_or, absent, row-from_active}
use Rattle.asg_model.specs.declared.parts.Column.{Column}
use Rattle.asg_values.proofs.Slots.{live_between}
use Rattle.asg_values.specs.laws.RowSlots.{entries}
use Rattle.asg_values.proofs.reach.reach_parts.Goals as goal

pub reach_costs-requires : goal.reach_costs-requires
reach_costs-requires c =
    let well_formed = c.columns.ensures.instance.well_formed in
    let same = ap (λ (list : List Column). length list) c.columns.ensures.columns in
    record {
      few = omega (arith, well_formed.few_columns, same);
      whole = c.in-Some.ensures.parts.whole ∙ sym same;
      entries = entries c.args.inst.now c.args.row _ _ c.in-Some.ensures.parts well_formed.costs;
    }

pub returns-in-Some : goal.returns-in-Some
returns-in-Some c col within =
    let X = c.args.inst.now in
    let firsts = c.in-Some.parts.firsts.now in
    let old = get_or c.args.reached.now col false in
    let low = c.ends-low.result.0 in
    let high = c.ends-low.result.1 in
    let columns = c.columns.ensures.columns in
    let same = ap (λ (list : List Column). length list) columns in
    let a = get_or firsts col absent in
    let same_low = to_z-of_z w64 low (fits_signed_from_abs w64 low (omega (arith, c.ends-low.ensures.low))) in
    let same_high = to_z-of_z w64 high (fits_signed_from_abs w64 high (omega (arith, c.ends-low.ensures.high))) in
    c.reach_costs.ensures.inside col (omega arith) (omega (arith, within, same))
    ∙ (λ i. old || (option_map_or (λ column. column.usable) (slice_get (columns i) col) false && (int_le (same_low i) a && int_le a (same_high i))))
    ∙ ap (λ b. old || b)
    (live_between X c.args.row firsts _ c.in-Some.ensures.parts c.columns.ensures.instance.well_formed.costs c.args.band low high c.ends-low.ensures.within c.ends-low.ensures.low c.requires col within)

pub returns-in_default : goal.returns-in_default
returns-in_default c col within =
    let there = row-from_active c.args.inst.now c.args.row c.requires in
    absurd (omega (arith, there, c.row_parts.ensures.past c.in_default.is))
