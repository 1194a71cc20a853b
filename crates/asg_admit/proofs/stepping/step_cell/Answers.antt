use Rattle.asg_admit.proofs.Common.{◌≡◌, Bool, true, false, not, Some, option_map, sym, refl, ap, ◌∙◌, subst, beq, booleans_Decides, IsWritten, written, moved, cell_at}
use Rattle.asg_admit.proofs.stepping.step_cell.Goals as goal

not_false : (b : Bool) → not b ≡ false → b ≡ true
not_false true h = refl
not_false false h = sym h

pub returns-in-Some : goal.returns-in-Some
returns-in-Some g c =
    let m = c.args.m.now in
    let M = g.M.Ordered.monoid_of m in
    let d = g.M.DMonoid.difference m in
    let Q = c.args.square.now in
    let r = c.requires in
    let f = moved M d c.args.entered c.args.stays c.args.c in
    let is : Some (f c.in-Some.x) ≡ option_map f (cell_at Q c.args.row c.args.column) = ap (option_map f) (sym c.in-Some.is ∙ c.at.ensures) in
    subst (IsWritten Q c.set.new.self c.args.row c.args.column) (ap Some (c.moved_value-value.ensures ∙ ap (λ b. moved M d c.args.entered b c.args.c c.in-Some.x) ((booleans_Decides c.args.entered c.args.stays).0 (not_false (beq c.args.entered c.args.stays) c.if-entered-stays.false))) ∙ is)
    (written Q c.args.row c.args.column (Some c.moved_value-value.result) c.set.new.self c.side.ensures.grid r.row r.column c.set.ensures)
