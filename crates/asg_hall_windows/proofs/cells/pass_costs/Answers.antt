use Rattle.std.proofs.Common.{of_z}
use Rattle.asg_hall_windows.proofs.Common.{◌≡◌, ◌≢◌, ◌<◌, ◌≤◌, IsTrue, get_or, pos, sym, ◌∙◌, subst, ⊎_elim, arith, cases_lt, to_z, to_z-of_z, w64, get_or_default, absent, Column, IsPassed, no_column}
use Rattle.asg_hall_windows.proofs.CellLemmas.{entry_fits, passed_on}
use Rattle.asg_hall_windows.proofs.MarkLemmas.{keeps_both}
use Rattle.asg_hall_windows.proofs.cells.pass_costs.Goals as goal

pub loop-place-preserved : goal.loop-place-preserved
loop-place-preserved c =
    let stretches = c.args.table.now.stretches.items in
    let named = c.args.named.now in
    let row = c.args.row in
    let columns = c.args.columns.now in
    let costs = c.args.costs.now in
    let place = c.loop-place.place in
    let before = c.loop-place.reached in
    let after = c.pass_cell.new.reached in
    let kept = c.pass_cell.ensures.kept in
    let within = c.loop-place-test.true in
    let item = get_or costs place (pos 0) in
    let same : to_z w64 (of_z w64 item) ≡ get_or costs place absent = to_z-of_z w64 item (entry_fits item (c.requires.entries place (pos 0) within)) ∙ get_or_default costs place (pos 0) absent within in
    record {
      kept = keeps_both c.args.reached.now before after c.loop-place.invariant.kept kept;
      passed = λ k d below usable there.
          ⊎_elim
          (λ (early : k < place). passed_on stretches named before after row k (get_or costs k absent) kept (c.loop-place.invariant.passed k d early usable there))
          (λ (late : place ≤ k).
          let at : k ≡ place = omega (arith, late, below) in
          let open_here : IsTrue (get_or columns place no_column).usable = subst (λ (column : Column). IsTrue column.usable) (get_or_default columns place d no_column (omega (arith, within, c.requires.costs))) (subst (λ i. IsTrue (get_or columns i d).usable) at usable) in
          let there_here : to_z w64 (of_z w64 item) ≢ absent = λ none. there (subst (λ i. get_or costs i absent ≡ absent) (sym at) (sym same ∙ none)) in
          subst (λ i. IsPassed stretches named row after i (get_or costs i absent)) (sym at)
          (subst (IsPassed stretches named row after place) same (c.pass_cell.ensures.passed c.if-not-pass_cell.false open_here there_here)))
          (cases_lt k place);
    }
