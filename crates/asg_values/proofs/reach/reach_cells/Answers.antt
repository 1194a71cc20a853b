-- A row's marks are those of its cells in open columns that cost between the ends of the band.
use Rattle.asg_values.proofs.Common.{◌≤◌, false, ◌||◌, All, List, length, get_or, arith, ◌<◌, sym, ap, ◌∙◌, subst, to_z-of_z, w64, fits_signed_from_abs, list_any, most_columns}
use Rattle.asg_model.specs.declared.parts.Column.{Column}
use Rattle.asg_values.specs.Marks.{is_met_at}
use Rattle.asg_values.proofs.MarkedRows.{marks_are_live}
use Rattle.asg_values.proofs.reach.reach_cells.Goals as goal

pub mark_cells-requires : goal.mark_cells-requires
mark_cells-requires c =
    let well_formed = c.columns.ensures.instance.well_formed in
    let columns = c.columns.ensures.columns in
    record {
      few = subst (λ (list : List Column). length list ≤ most_columns) (sym columns) well_formed.few_columns;
      within = subst (λ (list : List Column). All (λ cell. cell.0.1 < length list) c.args.cells.now) (sym columns) c.requires.cells.within;
      in_range = c.requires.cells.in_range;
    }

pub returns : goal.returns
returns c col within =
    let X = c.args.inst.now in
    let low = c.ends-low.result.0 in
    let high = c.ends-low.result.1 in
    let old = get_or c.args.reached.now col false in
    let same_low = to_z-of_z w64 low (fits_signed_from_abs w64 low (omega (arith, c.ends-low.ensures.low))) in
    let same_high = to_z-of_z w64 high (fits_signed_from_abs w64 high (omega (arith, c.ends-low.ensures.high))) in
    c.mark_cells.ensures col
    ∙ (λ i. old || list_any (is_met_at (c.columns.ensures.columns i) (same_low i) (same_high i) col) c.args.cells.now)
    ∙ ap (λ b. old || b) (marks_are_live X c.args.row c.args.cells.now c.requires.cells c.args.band low high c.ends-low.ensures.within c.requires.active col)
