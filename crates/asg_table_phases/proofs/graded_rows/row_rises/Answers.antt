use Rattle.asg_table_phases.proofs.Common.{ℤ, length, sym, ◌∙◌, subst}
use Rattle.std.proofs.Common.{w64}
use Rattle.std.proofs.lemmas.Int.{to_z-of_z}
use Rattle.asg_table_phases.proofs.GradedEnds.{row_by_firsts}
use Rattle.asg_table_phases.specs.GradedRows.{FirstsRise}
use Rattle.asg_table_phases.proofs.graded_rows.row_rises.Goals as goal

pub returns : goal.returns
returns c = λ told.
    let firsts = c.in-Some.parts.firsts.now in
    let leaves = c.args.leaves.now in
    record {
      counted = sym c.is_counted.ensures ∙ c.if-not-is_counted.false;
      each =
          row_by_firsts c.args.inst.now c.args.row firsts c.in-Some.parts.seconds.now c.in-Some.ensures.parts leaves c.args.limit
          (subst (λ (l : ℤ). FirstsRise firsts leaves l (length firsts)) (to_z-of_z w64 c.args.limit c.ranges.limit) (c.firsts_rise.ensures told));
    }
