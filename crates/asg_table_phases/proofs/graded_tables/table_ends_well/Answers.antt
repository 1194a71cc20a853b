use Rattle.asg_table_phases.proofs.Common.{ℤ, length, subst, arith}
use Rattle.std.proofs.Common.{w64}
use Rattle.std.proofs.lemmas.Int.{fits_signed_from_abs, to_z-of_z}
use Rattle.asg_table_phases.proofs.GradedEnds.{table_ends}
use Rattle.asg_table_phases.specs.GradedRows.{RowsEnd}
use Rattle.asg_table_phases.proofs.graded_tables.table_ends_well.Goals as goal

pub returns : goal.returns
returns c = λ yes.
    let X = c.args.inst.now in
    let rows = c.args.rows.now in
    let columns = c.args.columns.now in
    let limit = c.in-Some.limit in
    table_ends X c.rows-rows.ensures.instance (c.is_plain.ensures c.if-not-is_plain.false) c.args.grade limit c.in-Some.ensures rows columns c.requires.rows
    (subst (λ (l : ℤ). RowsEnd X rows columns l (length rows)) (to_z-of_z w64 limit (fits_signed_from_abs w64 limit (omega (arith, c.in-Some.ensures.few)))) (c.all_end_well.ensures yes))
