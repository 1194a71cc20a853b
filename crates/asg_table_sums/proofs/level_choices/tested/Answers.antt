use Rattle.asg_table_sums.proofs.Common.{refl}
use Rattle.asg_table_sums.proofs.level_choices.tested.Goals as goal

pub returns-then-is_level : goal.returns-then-is_level
returns-then-is_level c =
    c.level_law.ensures c.args.objective c.args.inst.now _ c.args.rises.now _ c.requires c.rows-rows.ensures.instance (c.if-is_level.ensures refl)
