use Rattle.asg_admit.proofs.Common.{◌≡◌, ◌<◌, sym, ap, ◌∙◌, subst, everywhere, entered_at, staying_at, moved, stepped, assignment_fold, cell_at}
use Rattle.asg_proof.specs.laws.Squares.{HasSide-cell_at}
use Rattle.asg_admit.proofs.stepping.step.Goals as goal

pub returns-clause-cells : goal.returns-clause-cells
returns-clause-cells g c =
    let m = c.args.m.now in
    let M = g.M.Ordered.monoid_of m in
    let d = g.M.DMonoid.difference m in
    everywhere c.args.reduced.now.now c.step_rows.new.square c.side.ensures.grid c.side-2.ensures.grid c.step_rows.ensures.labels.side
    (λ r k. moved M d (entered_at c.args.enters.now c.args.t r) (staying_at c.args.leaves.now c.args.t k) c.args.c)
    c.step_rows.ensures.cells

pub returns-clause-reduced : goal.returns-clause-reduced
returns-clause-reduced g c =
    let m = c.args.m.now in
    let M = g.M.Ordered.monoid_of m in
    let d = g.M.DMonoid.difference m in
    let before = c.args.reduced.now.now in
    let after = c.step_rows.new.square in
    let entered = entered_at c.args.enters.now c.args.t in
    let staying = staying_at c.args.leaves.now c.args.t in
    let r = c.requires in
    let side = c.step_rows.ensures.labels.side in
    record {
      cells = λ row k x hr hk is.
          let hr′ = subst (λ n. row < n) side hr in
          let hk′ = subst (λ n. k < n) side hk in
          c.step_law.ensures.values before.side entered staying c.args.c (cell_at before) r.admitted.value r.reduced.cells row k x hr′ hk′ (sym (c.step_rows.ensures.cells row k hr′ hk′) ∙ is);
      index = c.op-reduced.ensures.is_value;
    }

pub returns-clause-law : goal.returns-clause-law
returns-clause-law g c = λ p assignment.
    let m = c.args.m.now in
    let M = g.M.Ordered.monoid_of m in
    let d = g.M.DMonoid.difference m in
    let before = c.args.reduced.now.now in
    let after = c.step_rows.new.square in
    let entered = entered_at c.args.enters.now c.args.t in
    let staying = staying_at c.args.leaves.now c.args.t in
    let r = c.requires in
    let each = everywhere before after c.side.ensures.grid c.side-2.ensures.grid c.step_rows.ensures.labels.side
    (λ i k. moved M d (entered i) (staying k) c.args.c) c.step_rows.ensures.cells in
    let same : cell_at after ≡ stepped M d entered staying c.args.c (cell_at before) = λ i row k. each row k i in
    c.step_law.ensures.takes before.side entered staying c.args.c (cell_at before) p (HasSide-cell_at before c.side.ensures.grid) r.reduced.cells r.admitted assignment
    ∙ ap (λ Q. M.product c.args.c (assignment_fold M before.side Q p)) (sym same)
