use Rattle.asg_verdicts.proofs.LevelCommon.{not, ◌&&◌, sym, ap, ◌∙◌, to_z-of_z, w64, passes_cost, is_between}
use Rattle.asg_verdicts.proofs.level_walks.stays.Goals as goal

pub returns-then-is_left : goal.returns-then-is_left
returns-then-is_left c =
    ap not (c.is_between.ensures ∙ ap (λ z. passes_cost (is_between c.args.before z) c.args.cell) (to_z-of_z w64 c.args.next c.ranges.next))
    ∙ sym (ap (λ b. b && not (passes_cost (is_between c.args.before c.args.next) c.args.cell)) c.if-is_left.true)
