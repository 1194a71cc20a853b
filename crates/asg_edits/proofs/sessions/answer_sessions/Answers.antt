use Rattle.asg_edits.proofs.Common.{sym, refl, ap, subst, IfOk-weaker, GoesTo, editor_of, Sums, Peaks, Times, PeakKind, SumKind}
use Rattle.asg_edits.proofs.EditorFacts.{IsAnsweredBy, goes_to, peaks_answered, sums_answered, times_answered}
use Rattle.asg_edits.proofs.sessions.answer_sessions.Goals as goal

pub returns-in-Sums-clause-goes : goal.returns-in-Sums-clause-goes
returns-in-Sums-clause-goes c =
    let s = c.in-Sums.session in
    let t = c.answer_session.new.session in
    subst (λ old. GoesTo (editor_of old) (editor_of (Sums t))) (sym c.in-Sums.is)
    (goes_to (editor_of (Sums s)) (editor_of (Sums t)) (ap (λ (k : SumKind). k.objective) c.answer_session.ensures.kind) c.answer_session.ensures.instance c.answer_session.ensures.more)

pub returns-in-Sums-clause-outcome : goal.returns-in-Sums-clause-outcome
returns-in-Sums-clause-outcome c =
    let t = c.answer_session.new.session in
    IfOk-weaker c.answer_session.result _ (IsAnsweredBy (Sums t)) (sums_answered t) c.answer_session.ensures.outcome

pub returns-in-Peaks-clause-goes : goal.returns-in-Peaks-clause-goes
returns-in-Peaks-clause-goes c =
    let s = c.in-Peaks.session in
    let t = c.answer_session-in-Peaks.new.session in
    subst (λ old. GoesTo (editor_of old) (editor_of (Peaks t))) (sym c.in-Peaks.is)
    (goes_to (editor_of (Peaks s)) (editor_of (Peaks t)) (ap (λ (k : PeakKind). k.objective) c.answer_session-in-Peaks.ensures.kind) c.answer_session-in-Peaks.ensures.instance c.answer_session-in-Peaks.ensures.more)

pub returns-in-Peaks-clause-outcome : goal.returns-in-Peaks-clause-outcome
returns-in-Peaks-clause-outcome c =
    let t = c.answer_session-in-Peaks.new.session in
    IfOk-weaker c.answer_session-in-Peaks.result _ (IsAnsweredBy (Peaks t)) (peaks_answered t) c.answer_session-in-Peaks.ensures.outcome

pub returns-in-Times-clause-goes : goal.returns-in-Times-clause-goes
returns-in-Times-clause-goes c =
    let s = c.in-Times.session in
    let t = c.answer_session-in-Times.new.session in
    subst (λ old. GoesTo (editor_of old) (editor_of (Times t))) (sym c.in-Times.is)
    (goes_to (editor_of (Times s)) (editor_of (Times t)) refl c.answer_session-in-Times.ensures.instance c.answer_session-in-Times.ensures.more)

pub returns-in-Times-clause-outcome : goal.returns-in-Times-clause-outcome
returns-in-Times-clause-outcome c =
    let t = c.answer_session-in-Times.new.session in
    IfOk-weaker c.answer_session-in-Times.result _ (IsAnsweredBy (Times t)) (times_answered t) c.answer_session-in-Times.ensures.outcome
