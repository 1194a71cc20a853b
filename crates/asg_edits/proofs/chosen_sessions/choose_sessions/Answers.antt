use Rattle.asg_edits.proofs.Common.{sym, refl, ap, subst, IfOk-weaker, GoesTo, editor_of, Sums, Peaks, Times, PeakKind, SumKind}
use Rattle.asg_edits.proofs.EditorFacts.{IsChosenBy, goes_to, peaks_chosen, sums_chosen, times_chosen}
use Rattle.asg_edits.proofs.chosen_sessions.choose_sessions.Goals as goal

pub returns-in-Sums-clause-goes : goal.returns-in-Sums-clause-goes
returns-in-Sums-clause-goes c =
    let s = c.in-Sums.session in
    let t = c.choose_session.new.session in
    subst (λ old. GoesTo (editor_of old) (editor_of (Sums t))) (sym c.in-Sums.is)
    (goes_to (editor_of (Sums s)) (editor_of (Sums t)) (ap (λ (k : SumKind). k.objective) c.choose_session.ensures.kind) c.choose_session.ensures.instance c.choose_session.ensures.more)

pub returns-in-Sums-clause-choice : goal.returns-in-Sums-clause-choice
returns-in-Sums-clause-choice c =
    let t = c.choose_session.new.session in
    IfOk-weaker c.choose_session.result _ (IsChosenBy (Sums t)) (sums_chosen t) c.choose_session.ensures.choice

pub returns-in-Peaks-clause-goes : goal.returns-in-Peaks-clause-goes
returns-in-Peaks-clause-goes c =
    let s = c.in-Peaks.session in
    let t = c.choose_session-in-Peaks.new.session in
    subst (λ old. GoesTo (editor_of old) (editor_of (Peaks t))) (sym c.in-Peaks.is)
    (goes_to (editor_of (Peaks s)) (editor_of (Peaks t)) (ap (λ (k : PeakKind). k.objective) c.choose_session-in-Peaks.ensures.kind) c.choose_session-in-Peaks.ensures.instance c.choose_session-in-Peaks.ensures.more)

pub returns-in-Peaks-clause-choice : goal.returns-in-Peaks-clause-choice
returns-in-Peaks-clause-choice c =
    let t = c.choose_session-in-Peaks.new.session in
    IfOk-weaker c.choose_session-in-Peaks.result _ (IsChosenBy (Peaks t)) (peaks_chosen t) c.choose_session-in-Peaks.ensures.choice

pub returns-in-Times-clause-goes : goal.returns-in-Times-clause-goes
returns-in-Times-clause-goes c =
    let s = c.in-Times.session in
    let t = c.choose_session-in-Times.new.session in
    subst (λ old. GoesTo (editor_of old) (editor_of (Times t))) (sym c.in-Times.is)
    (goes_to (editor_of (Times s)) (editor_of (Times t)) refl c.choose_session-in-Times.ensures.instance c.choose_session-in-Times.ensures.more)

pub returns-in-Times-clause-choice : goal.returns-in-Times-clause-choice
returns-in-Times-clause-choice c =
    let t = c.choose_session-in-Times.new.session in
    IfOk-weaker c.choose_session-in-Times.result _ (IsChosenBy (Times t)) (times_chosen t) c.choose_session-in-Times.ensures.choice
