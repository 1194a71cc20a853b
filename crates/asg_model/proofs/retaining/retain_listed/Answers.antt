use Rattle.asg_model.proofs.Common.{ℕ, cond, pos, get_or, set, sym, ap, ◌∙◌, subst, arith, Cost}
use Rattle.asg_model.proofs.CellLists.{Cells}
use Rattle.asg_model.proofs.RetainedLists.{one_told}
use Rattle.asg_model.proofs.retaining.retain_listed.Goals as goal

pub keep-is_kept-requires : goal.keep-is_kept-requires
keep-is_kept-requires g c =
    let none : (ℕ × ℕ) × Cost = ((0, 0), record { a = pos 0; b = pos 0 }) in
    let l = c.loop-place in
    subst (λ (list : Cells). goal.F-pre g c.args.keep.now (get_or list l.place none).0.0 (get_or list l.place none).0.1) (sym c.as_slice.ensures.value)
    (subst (λ (cell : (ℕ × ℕ) × Cost). goal.F-pre g c.args.keep.now cell.0.0 cell.0.1) (sym (l.invariant.others l.place none (omega arith)))
    (c.requires l.place none (omega (arith, c.loop-place-test.true, l.invariant.count))))

pub loop-place-preserved : goal.loop-place-preserved
loop-place-preserved g c =
    let none : (ℕ × ℕ) × Cost = ((0, 0), record { a = pos 0; b = pos 0 }) in
    let l = c.loop-place in
    let kept = c.keep-is_kept.result in
    one_told (goal.F-post g c.args.keep.now) c.args.cells.now.items l.cells.items l.place l.kept none l.invariant (omega (arith, c.loop-place-test.true, l.invariant.count))
    kept c.keep_listed-kept.new.cells.items c.keep_listed-kept.result
    (subst (λ (list : Cells). goal.F-post g c.args.keep.now (get_or list l.place none).0.0 (get_or list l.place none).0.1 kept) c.as_slice.ensures.value c.keep-is_kept.ensures)
    (c.keep_listed-kept.ensures.cells ∙ ap (λ (list : Cells). cond kept (set l.cells.items l.kept (get_or list l.place none)) l.cells.items) c.as_slice.ensures.value)
    c.keep_listed-kept.ensures.count
