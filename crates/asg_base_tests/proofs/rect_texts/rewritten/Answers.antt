use Rattle.asg_base_tests.proofs.rect_texts.rewritten.Goals as goal

-- what a rect file spells is plain
pub write_rect-text-requires : goal.write_rect-text-requires
write_rect-text-requires c = c.plain_law.ensures.rect c.args.file.now c.in-Ok.inst (rw c.in-Ok.is at c.read.ensures.instance)
