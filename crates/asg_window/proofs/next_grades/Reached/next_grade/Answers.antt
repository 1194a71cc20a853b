use Rattle.asg_window.proofs.ReachLemmas.{GetNoColumn-next}
use Rattle.asg_window.proofs.next_grades.Reached.next_grade.Goals as goal

pub returns-clause-least : goal.returns-clause-least
returns-clause-least c = c.first_new.ensures.least c.args.band.now.high c.requires.band.fits c.requires.band.end.from

pub returns-clause-none : goal.returns-clause-none
returns-clause-none c =
    let b = c.requires.band in
    GetNoColumn-next c.args.cells.now.square.now c.args.cells.now.entries.now c.args.band.now.low c.args.band.now.high c.args.band.now.end c.first_new.result c.args.band.now.marks.bits c.args.rows.now c.take.new.self b.entries b.marks b.end c.take.ensures.reaches c.first_new.ensures.reached
