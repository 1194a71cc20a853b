use Rattle.asg_edits.proofs.Common.{unmatched}
use Rattle.asg_edits.proofs.SessionFacts.{more_words}
use Rattle.asg_edits.proofs.session_answers.answer_session.Goals as goal

pub returns-in-Best-clause-more : goal.returns-in-Best-clause-more
returns-in-Best-clause-more g c =
    let s = c.args.session.now in
    more_words (g.K.M.Written.word_of (g.K.Kind.monoid s.kind)) s.phases c.prepared_answer.new.session.phases (unmatched s.columns) c.prepared_answer.ensures.phases

pub returns-in-Nothing-clause-more : goal.returns-in-Nothing-clause-more
returns-in-Nothing-clause-more g c =
    let s = c.args.session.now in
    more_words (g.K.M.Written.word_of (g.K.Kind.monoid s.kind)) s.phases c.prepared_answer.new.session.phases (unmatched s.columns) c.prepared_answer.ensures.phases
