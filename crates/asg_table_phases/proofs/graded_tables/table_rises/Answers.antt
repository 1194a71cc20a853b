use Rattle.asg_table_phases.proofs.Common.{ℤ, length, subst, arith}
use Rattle.std.proofs.Common.{w64}
use Rattle.std.proofs.lemmas.Int.{fits_signed_from_abs, to_z-of_z}
use Rattle.asg_table_phases.proofs.GradedEnds.{table_stays}
use Rattle.asg_table_phases.specs.GradedRows.{RowsRise}
use Rattle.asg_table_phases.proofs.graded_tables.table_rises.Goals as goal

pub returns : goal.returns
returns c = λ yes.
    let X = c.args.inst.now in
    let enters = c.args.enters.now in
    let leaves = c.args.leaves.now in
    let limit = c.in-Some.limit in
    table_stays X c.rows-rows.ensures.instance (c.is_plain.ensures c.if-not-is_plain.false) c.args.grade limit c.in-Some.ensures enters leaves c.requires.enters
    (subst (λ (l : ℤ). RowsRise X enters leaves l (length enters)) (to_z-of_z w64 limit (fits_signed_from_abs w64 limit (omega (arith, c.in-Some.ensures.few)))) (c.all_rise.ensures yes))
