use Rattle.asg_edits.proofs.Common.{unmatched}
use Rattle.asg_edits.proofs.SessionFacts.{joined_more}
use Rattle.asg_edits.proofs.prepared_sessions.prepared_answer.Goals as goal

pub returns-clause-phases : goal.returns-clause-phases
returns-clause-phases g c =
    let old = c.args.session.now in
    let middle = c.prepare.new.self in
    let new = c.answer.new.self in
    joined_more old.phases middle.phases new.phases (unmatched middle.columns) (unmatched old.columns) c.prepare.ensures.phases c.answer.ensures.phases
