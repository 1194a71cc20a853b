use Rattle.asg_window.proofs.Common.{◌+◌, ◌<◌, ◌≤◌, List, [], ◌∷◌, length, pos, IsTrue, sym, refl, ap, subst, arith, get_or_default, cost_of, is_held, Window}
use Rattle.std.proofs.lemmas.List.{length-append}
use Rattle.asg_window.proofs.WindowSteps.{AreHeld, held_none, held_skip, held_add}
use Rattle.asg_window.proofs.windows.windows_of.Goals as goal
use Rattle.asg_window.proofs.windows.windows_of.Goals.{then-reach-grade+in_ok-place, else-reach-grade}

pub loop-number-init : goal.loop-number-init
loop-number-init c =
    let g = c.requires.gaps in
    record {
      end = refl;
      held = subst (λ ws. AreHeld c.args.inst.now c.args.square.now c.args.gaps.now c.args.grades.now c.args.spread ws 0 0 0) (sym c.new-windows.ensures.items)
          (held_none c.args.inst.now c.args.square.now c.args.gaps.now c.args.grades.now c.args.spread g.0 g.1 g.2 c.requires.ascending);
      few = subst (λ (ws : List Window). length ws ≤ 0) (sym c.new-windows.ensures.items) (omega arith);
    }

pub loop-number-preserved : goal.loop-number-preserved
loop-number-preserved c =
    let X = c.args.inst.now in
    let Q = c.args.square.now in
    let gaps = c.args.gaps.now in
    let grades = c.args.grades.now in
    let spread = c.args.spread in
    let g = c.requires.gaps in
    let inv = c.loop-number.invariant in
    let here : c.loop-number.number < length grades = omega (arith, c.loop-number-test.true, inv.end, c.loop-number.auto.number-end) in
    elim c.if-reach-grade.branch [
      | then-reach-grade+in_ok-place w ↦
          record {
            end = inv.end;
            held = subst (λ ws. AreHeld X Q gaps grades spread ws (c.loop-number.number + 1) c.if-reach-grade.place c.if-reach-grade.reach) (sym (ap (λ v. v.items) w.windows-is))
                (subst (λ p. AreHeld X Q gaps grades spread w.add_window.new.windows.items (c.loop-number.number + 1) p c.if-reach-grade.reach) (sym w.place-is)
                (held_add X Q gaps grades spread g.0 g.1 g.2 c.requires.ascending c.loop-number.windows.items c.loop-number.number c.loop-number.place c.loop-number.reach here inv.held w.add_window.new.windows.items w.in_ok-place.place w.index-gaps-place.result w.in_ok-place.ensures c.if-reach-grade.reach w.reach-is));
            few =
                let adds = w.in_ok-place.ensures in
                omega (arith, inv.few, ap (λ v. length v.items) w.windows-is, ap length adds.pushed, length-append c.loop-number.windows.items (adds.window ∷ []));
          }
      | else-reach-grade w ↦
          record {
            end = inv.end;
            held = subst (λ ws. AreHeld X Q gaps grades spread ws (c.loop-number.number + 1) c.if-reach-grade.place c.if-reach-grade.reach) (sym (ap (λ v. v.items) w.windows-is))
                (subst (λ p. AreHeld X Q gaps grades spread c.loop-number.windows.items (c.loop-number.number + 1) p c.if-reach-grade.reach) (sym w.place-is)
                (subst (λ r. AreHeld X Q gaps grades spread c.loop-number.windows.items (c.loop-number.number + 1) c.loop-number.place r) (sym w.reach-is)
                (held_skip X Q gaps grades spread g.0 g.1 g.2 c.requires.ascending c.loop-number.windows.items c.loop-number.number c.loop-number.place c.loop-number.reach here inv.held w.if-reach-grade.false)));
            few = omega (arith, inv.few, ap (λ v. length v.items) w.windows-is);
          }
    ]

pub returns-clause-halls : goal.returns-clause-halls
returns-clause-halls c = let held = c.loop-number.invariant.held in held.halls

pub returns-clause-held : goal.returns-clause-held
returns-clause-held c k d h =
    let inv = c.loop-number.invariant in
    let held = inv.held in
    let all : length c.args.grades.now ≤ c.loop-number.number = omega (arith, c.loop-number-test.false, inv.end, c.loop-number.auto.number-end) in
    subst (λ v. IsTrue (is_held c.loop-number.windows.items (pos c.args.spread) (cost_of v))) (get_or_default c.args.grades.now k 0 d h) (held.held k (omega (arith, h, all)))
