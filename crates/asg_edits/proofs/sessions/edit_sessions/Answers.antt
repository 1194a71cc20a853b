use Rattle.asg_edits.proofs.Common.{OnOk, sym, subst, Edits, editor_of, Sums, Peaks, Times, Duals}
use Rattle.asg_edits.proofs.EditorFacts.{on_ok, peaks_edited, sums_edited, times_edited}
use Rattle.asg_edits.proofs.DualFacts.{duals_edited}
use Rattle.asg_edits.proofs.sessions.edit_sessions.Goals as goal

pub returns-in-Sums-clause-edits : goal.returns-in-Sums-clause-edits
returns-in-Sums-clause-edits c =
    let s = c.in-Sums.session in
    let t = c.edit_session.new.session in
    subst (λ old. OnOk c.edit_session.result (Edits (editor_of old) c.args.edit (editor_of (Sums t)))) (sym c.in-Sums.is)
    (on_ok c.edit_session.result _ _ (Edits (editor_of (Sums s)) c.args.edit (editor_of (Sums t))) (λ is keeps. sums_edited s t c.args.edit c.edit_session.ensures.kind is keeps) c.edit_session.ensures.edited c.edit_session.ensures.kept)

pub returns-in-Peaks-clause-edits : goal.returns-in-Peaks-clause-edits
returns-in-Peaks-clause-edits c =
    let s = c.in-Peaks.session in
    let t = c.edit_session-in-Peaks.new.session in
    subst (λ old. OnOk c.edit_session-in-Peaks.result (Edits (editor_of old) c.args.edit (editor_of (Peaks t)))) (sym c.in-Peaks.is)
    (on_ok c.edit_session-in-Peaks.result _ _ (Edits (editor_of (Peaks s)) c.args.edit (editor_of (Peaks t))) (λ is keeps. peaks_edited s t c.args.edit c.edit_session-in-Peaks.ensures.kind is keeps) c.edit_session-in-Peaks.ensures.edited c.edit_session-in-Peaks.ensures.kept)

pub returns-in-Times-clause-edits : goal.returns-in-Times-clause-edits
returns-in-Times-clause-edits c =
    let s = c.in-Times.session in
    let t = c.edit_session-in-Times.new.session in
    subst (λ old. OnOk c.edit_session-in-Times.result (Edits (editor_of old) c.args.edit (editor_of (Times t)))) (sym c.in-Times.is)
    (on_ok c.edit_session-in-Times.result _ _ (Edits (editor_of (Times s)) c.args.edit (editor_of (Times t))) (λ is keeps. times_edited s t c.args.edit is keeps) c.edit_session-in-Times.ensures.edited c.edit_session-in-Times.ensures.kept)

pub returns-in-Duals-clause-edits : goal.returns-in-Duals-clause-edits
returns-in-Duals-clause-edits c =
    let s = c.in-Duals.session in
    let t = c.edit.new.self in
    subst (λ old. OnOk c.edit.result (Edits (editor_of old) c.args.edit (editor_of (Duals t)))) (sym c.in-Duals.is)
    (on_ok c.edit.result _ _ (Edits (editor_of (Duals s)) c.args.edit (editor_of (Duals t))) (λ is again. duals_edited s t c.args.edit c.instance-inst.ensures.narrow c.edit.ensures.objective is) c.edit.ensures.edited c.edit.ensures.edited)
