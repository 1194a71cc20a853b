use Rattle.asg_edits.proofs.SessionFacts.{KeepsIn-edited}
use Rattle.asg_edits.proofs.session_edits.edit_session.Goals as goal

pub returns-in-Ok-clause-kept : goal.returns-in-Ok-clause-kept
returns-in-Ok-clause-kept g c =
    let s = c.args.session.now in
    let t = c.edit.new.self in
    let m = g.K.Kind.monoid s.kind in
    KeepsIn-edited (g.K.M.Ordered.monoid_of m) (g.K.M.DMonoid.difference m) (g.K.M.Written.word_of m) (g.K.Kind.entered s.kind) c.edited_law.ensures.closes (g.K.Kind.objective s.kind)
    s.instance t.instance c.args.edit s.phases t.phases s.columns t.columns
    c.in-Ok.ensures.edited c.in-Ok.ensures.passes c.in-Ok.ensures.kept c.in-Ok.ensures.columns c.in-Ok.ensures.count
