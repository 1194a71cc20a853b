use Rattle.asg_check.proofs.Common.{IfOk, IsTrue, sym, subst, IfOk-weaker, StandsAgainst, StandsOn, Best, LevelsStand, StandsFor, takes, Levels, Phases, Windows, Tells, level_reasons, phase_reasons, proof_reasons, window_reasons}
use Rattle.asg_check.proofs.Certified.{to_levels, to_phases, to_windows}
use Rattle.asg_check.proofs.WindowTold.{spread_range}
use Rattle.asg_check.proofs.claims.proof_verdict.Goals as goal

pub returns-in-Phases : goal.returns-in-Phases
returns-in-Phases c =
    let objective = c.args.objective in
    let X = c.args.inst.now in
    let f = c.args.choice.now in
    let told = subst (λ words. IfOk c.known_phases_verdict.result (Tells (StandsFor objective X f words) phase_reasons)) c.as_slice.ensures.items c.known_phases_verdict.ensures in
    subst (λ proof. IfOk c.known_phases_verdict.result (Tells (StandsAgainst objective X (Best c.args.answer.now proof)) proof_reasons)) (sym c.in-Phases.is)
    (IfOk-weaker c.known_phases_verdict.result (Tells (StandsFor objective X f c.in-Phases.phases) phase_reasons) (Tells (StandsAgainst objective X (Best c.args.answer.now (Phases c.in-Phases.phases))) proof_reasons)
    (λ verdict one. to_phases objective X c.requires.instance c.args.answer.now c.in-Phases.phases f verdict c.requires.written one) told)

pub returns-in-Windows : goal.returns-in-Windows
returns-in-Windows c =
    let objective = c.args.objective in
    let X = c.args.inst.now in
    let told = subst (λ windows. IfOk c.windows_verdict.result (Tells (StandsOn X c.args.answer.now.value windows) window_reasons)) c.as_slice-in-Windows.ensures.items c.windows_verdict.ensures in
    subst (λ proof. IfOk c.windows_verdict.result (Tells (StandsAgainst objective X (Best c.args.answer.now proof)) proof_reasons)) (sym c.in-Windows.is)
    (IfOk-weaker c.windows_verdict.result (Tells (StandsOn X c.args.answer.now.value c.in-Windows.windows) window_reasons) (Tells (StandsAgainst objective X (Best c.args.answer.now (Windows c.in-Windows.windows))) proof_reasons)
    (λ verdict one. to_windows objective X c.requires.instance c.args.answer.now c.in-Windows.windows verdict one) told)

pub windows_verdict-requires-clause-range : goal.windows_verdict-requires-clause-range
windows_verdict-requires-clause-range c =
    spread_range c.args.objective c.args.answer.now.value (subst (λ proof. IsTrue (takes c.args.objective proof)) c.in-Windows.is c.requires.takes) c.requires.in_range

pub returns-in-Levels : goal.returns-in-Levels
returns-in-Levels c =
    let objective = c.args.objective in
    let X = c.args.inst.now in
    let f = c.args.choice.now in
    let perm = c.in-Levels.perm in
    let levels = c.in-Levels.levels in
    let told =
    subst (λ ls. IfOk c.levels_verdict.result (Tells (LevelsStand X f perm ls) level_reasons)) c.as_slice-in-Levels-2.ensures.items
    (subst (λ p. IfOk c.levels_verdict.result (Tells (LevelsStand X f p c.as_slice-in-Levels-2.result.now) level_reasons)) c.as_slice-in-Levels.ensures.items c.levels_verdict.ensures) in
    subst (λ proof. IfOk c.levels_verdict.result (Tells (StandsAgainst objective X (Best c.args.answer.now proof)) proof_reasons)) (sym c.in-Levels.is)
    (IfOk-weaker c.levels_verdict.result (Tells (LevelsStand X f perm levels) level_reasons) (Tells (StandsAgainst objective X (Best c.args.answer.now (Levels perm levels))) proof_reasons)
    (λ verdict one. to_levels objective X c.requires.instance c.args.answer.now perm levels f verdict c.requires.written one) told)

pub levels_verdict-requires-clause-rows : goal.levels_verdict-requires-clause-rows
levels_verdict-requires-clause-rows c = c.requires.written.valid.over
