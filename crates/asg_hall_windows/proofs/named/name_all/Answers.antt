use Rattle.asg_hall_windows.proofs.Common.{◌≡◌, ◌<◌, ◌≤◌, get_or, sym, subst, ⊎_elim, arith, cases_lt, get_or_default, AreNamed, Window}
use Rattle.asg_hall_windows.proofs.CellLemmas.{named_on}
use Rattle.asg_hall_windows.proofs.MarkLemmas.{keeps_both}
use Rattle.asg_hall_windows.proofs.named.name_all.Goals as goal

pub loop-place-preserved : goal.loop-place-preserved
loop-place-preserved c =
    let X = c.args.inst.now in
    let windows = c.args.windows.now in
    let place = c.loop-place.place in
    let window = c.index-windows-place.result in
    let before = c.loop-place.named in
    let after = c.name_rows.new.named in
    let kept = c.name_rows.ensures.kept in
    let here = subst (λ ids. AreNamed X ids place after) c.as_slice.ensures.items (c.name_rows.ensures.named c.if-not-name_rows.false) in
    record {
      kept = keeps_both c.args.named.now before after c.loop-place.invariant.kept kept;
      named = λ w d below.
          ⊎_elim
          (λ (early : w < place). named_on X (get_or windows w d).rows w before after kept (c.loop-place.invariant.named w d early))
          (λ (late : place ≤ w).
          let at : w ≡ place = omega (arith, late, below) in
          subst (λ k. AreNamed X (get_or windows k d).rows k after) (sym at)
          (subst (λ (v : Window). AreNamed X v.rows place after) (get_or_default windows place window d c.loop-place-test.true) here))
          (cases_lt w place);
    }
