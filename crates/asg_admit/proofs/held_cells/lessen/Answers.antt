use Rattle.asg_admit.proofs.Common.{◌≡◌, ◌<◌, option_map, sym, refl, ap, ◌∙◌, subst, ⊎_elim, arith, cases_lt, held_at}
use Rattle.asg_admit.proofs.held_cells.lessen.Goals as goal

pub loop-place-init : goal.loop-place-init
loop-place-init g c = record {
  room = refl;
  lessened = λ s h. absurd (omega (arith, h));
  others = λ s h. refl;
}

pub lessen_at-requires-clause-value : goal.lessen_at-requires-clause-value
lessen_at-requires-clause-value g c = λ y e.
    let l = c.loop-place in
    c.requires.values l.place y (sym (l.invariant.others l.place (omega arith)) ∙ e)

pub loop-place-preserved : goal.loop-place-preserved
loop-place-preserved g c =
    let m = c.args.m.now in
    let M = g.M.Ordered.monoid_of m in
    let d = g.M.DMonoid.difference m in
    let l = c.loop-place in
    let inv = l.invariant in
    let e = c.lessen_at.ensures in
    let now = c.lessen_at.new.room in
    let held = c.args.held.now in
    record {
      room = e.room ∙ inv.room;
      lessened = λ s h.
          ⊎_elim
          (λ (before : s < l.place). e.others s (λ i. omega (arith, i, before)) ∙ inv.lessened s before)
          (λ late.
          let at : l.place ≡ s = omega (arith, late, h) in
          subst (λ j. held_at M now held j ≡ option_map (λ y. d y c.args.product) (held_at M c.args.room.now held j)) at
          (e.here ∙ ap (option_map (λ y. d y c.args.product)) (inv.others l.place (omega arith))))
          (cases_lt s l.place);
      others = λ s h. e.others s (λ i. omega (arith, i, h)) ∙ inv.others s (omega (arith, h));
    }

pub returns-clause-lessened : goal.returns-clause-lessened
returns-clause-lessened g c = λ s h. c.loop-place.invariant.lessened s (omega (arith, h, c.loop-place-test.false))

pub returns-clause-others : goal.returns-clause-others
returns-clause-others g c = λ s h. c.loop-place.invariant.others s (omega (arith, h, c.loop-place.auto.place-end))
