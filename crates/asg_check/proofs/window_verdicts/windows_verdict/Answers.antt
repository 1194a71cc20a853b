use Rattle.asg_check.proofs.Common.{inr, Balanced, ProvesWindows, [], ◌∷◌, length, refl, IfOk-weaker, IsNoHallAt, StandsOn, Tells, window_reasons, NotHall, WindowGap, goes_on, stops_at}
use Rattle.std.proofs.lemmas.Bool.{OnTrue_at}
use Rattle.asg_check.proofs.WindowTold.{halls_nowhere, proved_halls, proved_nowhere}
use Rattle.asg_check.proofs.window_verdicts.windows_verdict.Goals as goal

pub returns-then-are_proved : goal.returns-then-are_proved
returns-then-are_proved c =
    let X = c.args.inst.now in
    let value = c.args.value.now in
    let windows = c.args.windows.now in
    let proved : ProvesWindows Balanced X value windows = OnTrue_at c.if-are_proved.true c.in_ok-are_proved.ensures in
    inr (halls_nowhere X windows (proved_halls Balanced X value windows proved), inr (proved_nowhere Balanced X value windows proved, refl))

pub returns-in-Some : goal.returns-in-Some
returns-in-Some c =
    let X = c.args.inst.now in
    let windows = c.args.windows.now in
    stops_at (StandsOn X c.args.value.now windows) (IsNoHallAt X windows) NotHall refl (WindowGap ∷ []) c.verdict_at_part.result (length windows) c.in-Some.place (rw c.in-Some.is at c.first_no_hall.ensures) c.verdict_at_part.ensures

pub returns : goal.returns
returns c =
    let X = c.args.inst.now in
    let windows = c.args.windows.now in
    let Against = StandsOn X c.args.value.now windows in
    let none = rw c.in_default.is at c.first_no_hall.ensures in
    IfOk-weaker c.gap_verdict.result (Tells Against (WindowGap ∷ [])) (Tells Against window_reasons)
    (λ verdict told. goes_on Against (IsNoHallAt X windows) NotHall refl (WindowGap ∷ []) verdict none told)
    c.gap_verdict.ensures
