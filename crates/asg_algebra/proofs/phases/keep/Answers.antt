use Rattle.asg_algebra.proofs.Common.{◌≡◌, ◌+◌, ◌<◌, ◌≤◌, List, [], length, vec_len, vec_capacity, sym, refl, ap, ◌∙◌, subst, arith, eqb-true, eqb-false, nil_from_length, IsPhaseTo, made_of, ArePushed, IsPush, phase_in, IsAdmittedPhase, phase_of, cell_at}
use Rattle.asg_algebra.proofs.PhaseEnds.{no_steps, ArePushed-made}
use Rattle.asg_algebra.proofs.phases.keep.Given.{Over}
use Rattle.asg_algebra.proofs.phases.keep.Goals as goal

no_step : (g : Over) (c : goal.Then-is_empty g) → c.args.growth.now.steps.items ≡ []
no_step g c =
    let steps = c.args.growth.now.steps in
    nil_from_length steps.items (omega (arith, steps.ok.0, eqb-true (vec_len steps) 0 (sym c.is_empty.ensures ∙ c.if-is_empty.true)))

pub returns-then-is_empty-clause-phase : goal.returns-then-is_empty-clause-phase
returns-then-is_empty-clause-phase g c =
    let m = c.args.m.now in
    no_steps (g.M.Ordered.monoid_of m) (g.met.M.Ordered.laws m) (g.M.DMonoid.difference m) (phase_in c.args.growth.now) (g.S.RowSquare.as_reduced c.args.reduced.now) c.requires.reduced (no_step g c)

pub returns-then-is_empty-clause-pushed : goal.returns-then-is_empty-clause-pushed
returns-then-is_empty-clause-pushed g c =
    let phase = phase_in c.args.growth.now in
    let region = c.args.region.now in
    subst (λ (xs : List g.row.M-Value.Denot). ArePushed (made_of phase xs) region region c.args.trail c.args.trail) (sym (no_step g c)) (refl, refl)

pub returns-then-is_empty-clause-tree : goal.returns-then-is_empty-clause-tree
returns-then-is_empty-clause-tree g c = refl

pub returns-then-is_empty-clause-roomy : goal.returns-then-is_empty-clause-roomy
returns-then-is_empty-clause-roomy g c = c.requires.roomy

pub settle-requires-clause-reduced : goal.settle-requires-clause-reduced
settle-requires-clause-reduced g c = c.requires.reduced

pub settle-requires-clause-admitted : goal.settle-requires-clause-admitted
settle-requires-clause-admitted g c =
    let m = c.args.m.now in
    let before = g.S.RowSquare.as_reduced c.args.reduced.now in
    let closes = c.close.ensures in
    let steps = c.deref.ensures.value ∙ ap (λ v. v.items) closes.steps in
    let enters = c.deref-2.ensures.value ∙ closes.enters in
    let leaves = c.deref-3.ensures.value ∙ closes.leaves in
    subst (λ A. A) (λ i. IsAdmittedPhase (g.M.Ordered.monoid_of m) (g.M.DMonoid.difference m) before.now.side (phase_of ((sym steps) i) ((sym enters) i) ((sym leaves) i)) (cell_at before.now)) c.requires.admitted

pub settle-requires-clause-room : goal.settle-requires-clause-room
settle-requires-clause-room g c =
    let steps = ap length c.deref.ensures.value in
    let room = ap length c.deref_mut.ensures.value in
    let old = c.args.growth.now in
    let new = c.close.new.growth in
    let same = ap (λ v. vec_len v) c.close.ensures.steps in
    omega (arith, steps, room, same, c.close.ensures.room, new.steps.ok.0, new.room.ok.0)

pub returns-clause-phase : goal.returns-clause-phase
returns-clause-phase g c =
    let m = c.args.m.now in
    let before = g.S.RowSquare.as_reduced c.args.reduced.now in
    let after = g.S.RowSquare.as_reduced c.settle.new.self in
    let closes = c.close.ensures in
    let steps = c.deref.ensures.value ∙ ap (λ v. v.items) closes.steps in
    let enters = c.deref-2.ensures.value ∙ closes.enters in
    let leaves = c.deref-3.ensures.value ∙ closes.leaves in
    subst (λ A. A) (λ i. IsPhaseTo (g.M.Ordered.monoid_of m) (g.M.DMonoid.difference m) (phase_of (steps i) (enters i) (leaves i)) before after) c.settle.ensures.phase

pub returns-clause-pushed : goal.returns-clause-pushed
returns-clause-pushed g c =
    let old = c.args.growth.now in
    let closes = c.close.ensures in
    let push = c.push.ensures in
    let region = c.args.region.now in
    let steps = c.deref-4.ensures.value ∙ ap (λ v. v.items) closes.steps in
    let enters = c.deref-5.ensures.value ∙ closes.enters in
    let leaves = c.deref-6.ensures.value ∙ closes.leaves in
    let some : 0 < length old.steps.items = omega (arith, old.steps.ok.0, eqb-false (vec_len old.steps) 0 (sym c.is_empty.ensures ∙ c.if-is_empty.false)) in
    ArePushed-made (phase_in old) some region c.push.new.self c.args.trail c.push.result
    (subst (λ A. A) (λ i. IsPush region c.push.new.self c.args.trail (phase_of (steps i) (enters i) (leaves i)) c.push.result)
    (record { new = push.new; trails = push.trails; spare = push.spare; side = push.side }))

pub returns-clause-tree : goal.returns-clause-tree
returns-clause-tree g c = c.close.ensures.tree

pub returns-clause-roomy : goal.returns-clause-roomy
returns-clause-roomy g c =
    let r = c.requires.roomy in
    let closes = c.close.ensures in
    let side = (g.S.RowSquare.as_reduced c.args.reduced.now).now.side in
    record {
      rows_room = subst (λ t. side ≤ vec_capacity t.rows) (sym closes.tree) r.rows_room;
      parents_side = ap (λ t. vec_len t.parents) closes.tree ∙ r.parents_side;
      unseen_side = ap (λ t. vec_len t.unseen) closes.tree ∙ r.unseen_side;
      sums_room = subst (λ v. side ≤ vec_capacity v) (sym closes.sums) r.sums_room;
      keys_room = subst (λ v. side ≤ vec_capacity v) (sym closes.keys) r.keys_room;
      keyed_side = ap (λ v. vec_len v) closes.keyed ∙ r.keyed_side;
      nearest_side = ap (λ v. vec_len v) closes.nearest ∙ r.nearest_side;
      enters_side = closes.enters_len ∙ r.enters_side;
      leaves_side = closes.leaves_len ∙ r.leaves_side;
      steps_room = subst (λ v. side ≤ vec_capacity v) (sym closes.steps) r.steps_room;
      room_room = subst (λ n. side + 1 ≤ n) (sym closes.room_room) r.room_room;
    }
