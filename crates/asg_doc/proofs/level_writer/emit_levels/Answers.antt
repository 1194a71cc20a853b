use Rattle.asg_doc.proofs.Common.{sym, ap, subst, HasLevelText, ended, level_lines, Wrote-append, Wrote-as, Wrote-nothing}
use Rattle.asg_doc.proofs.ListTexts.{lines_more}
use Rattle.asg_doc.proofs.level_writer.emit_levels.Goals as goal

pub levels-init : goal.levels-init
levels-init g c = Wrote-nothing _ _ _ _

pub levels-preserved : goal.levels-preserved
levels-preserved g c =
    Wrote-as (lines_more level_lines c.args.levels.now c.levels.level-index c.level-item.result c.levels-test.true)
    (Wrote-append c.levels.invariant (Wrote-as (ap (λ level. ended (level_lines level)) c.level-item.is) c.emit_level.ensures))

pub emit_level-requires : goal.emit_level-requires
emit_level-requires g c =
    subst HasLevelText (sym c.level-item.is) (c.requires c.levels.level-index c.level-item.result c.levels-test.true)
