use Rattle.asg_settling.proofs.Common.{◌≡◌, length, refl, ◌∙◌, subst, inl, inr, ⊎_elim, arith, length-set, IsJoined}
use Rattle.asg_settling.proofs.JoinedLemmas.{joined_none, joined_more}
use Rattle.asg_settling.proofs.joined_steps.join_steps.Goals as goal

pub runs-init : goal.runs-init
runs-init g c =
    let M = g.M.Ordered.monoid_of c.args.m.now in
    record {
      room = refl;
      rows = c.place_marks.ensures.count;
      columns = c.place_marks-2.ensures.count;
      within = omega arith;
      few = omega arith;
      joined = joined_none M c.args.steps.now c.args.enters.now c.args.leaves.now c.args.room.now c.place_marks.new.places c.place_marks-2.new.places
          (λ r h. c.place_marks.ensures.here r h (omega arith)) (λ k h. c.place_marks-2.ensures.here k h (omega arith));
    }

pub runs-preserved : goal.runs-preserved
runs-preserved g c =
    let M = g.M.Ordered.monoid_of c.args.m.now in
    let steps = c.args.steps.now in
    let enters = c.args.enters.now in
    let leaves = c.args.leaves.now in
    let l = c.runs in
    let inv = l.invariant in
    let to = c.next_mark-to.result in
    let v = c.product_of.result in
    let rows = c.place_marks-in-runs in
    let columns = c.place_marks-in-runs-2 in
    record {
      room = length-set l.room l.count v ∙ inv.room;
      rows = rows.ensures.count ∙ inv.rows;
      columns = columns.ensures.count ∙ inv.columns;
      within = omega (arith, c.next_mark-to.ensures.within, c.next_mark.ensures.within);
      few = omega (arith, c.next_mark-to.ensures.after, inv.few);
      joined = joined_more M steps enters leaves l.from l.room l.count l.rows l.columns inv.joined to c.next_mark-to.ensures.after v c.product_of.ensures.product
          (omega (arith, inv.few, c.runs-test.true, inv.room, c.requires.room))
          (λ i h. ⊎_elim (λ by. inl by) (λ late. inr (omega (arith, late, c.next_mark-to.ensures.within))) (c.next_mark.ensures.none i h))
          c.next_mark-to.ensures.none
          rows.new.places columns.new.places rows.ensures columns.ensures;
    }

pub returns-clause-joined : goal.returns-clause-joined
returns-clause-joined g c =
    let l = c.runs in
    let last : l.from ≡ length c.args.steps.now = omega (arith, c.runs-test.false, l.invariant.within) in
    subst (λ n. IsJoined (g.M.Ordered.monoid_of c.args.m.now) c.args.steps.now c.args.enters.now c.args.leaves.now n l.room l.count l.rows l.columns) last l.invariant.joined
