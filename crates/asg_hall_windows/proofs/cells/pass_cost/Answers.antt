use Rattle.asg_hall_windows.proofs.Common.{◌<◌, ◌≤◌, sym, get_or, subst, get_or_read, to_z-of_z, w64, IsIn, Stretch}
use Rattle.asg_hall_windows.proofs.cells.pass_cost.Goals as goal

pub returns-in-Some : goal.returns-in-Some
returns-in-Some c =
    let stretches = c.args.table.now.stretches.items in
    let place = c.in-Some.place in
    let lies = subst (IsIn stretches place) (to_z-of_z w64 c.args.cost c.ranges.cost) c.in-Some.ensures in
    record {
      kept = c.pass_stretch.ensures.kept;
      passed = λ _. record {
        place = place;
        lies = lies;
        marked = λ w d from to has.
            let here = get_or_read stretches place c.index.result.now lies.within c.index.ensures d in
            c.pass_stretch.ensures.marked w (subst (λ (s : Stretch). s.from ≤ w) (sym here) from) (subst (λ (s : Stretch). w < s.to) (sym here) to) has;
      };
    }
