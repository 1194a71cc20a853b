use Rattle.asg_settling.proofs.Common.{◌≡◌, Some, option_map, sym, ap, ◌∙◌, subst, settled, IsWritten, equal_marks, cell_at}
use Rattle.asg_admit.specs.laws.SquareLemmas.{unwritten, written}
use Rattle.asg_settling.proofs.settling.settle_cell.Goals as goal

pub returns-then-enter-leave : goal.returns-then-enter-leave
returns-then-enter-leave g c =
    let m = c.args.m.now in
    let Q = c.args.square.now in
    let r = c.requires in
    unwritten Q c.args.row c.args.column (option_map (settled (g.M.Ordered.monoid_of m) (g.M.DMonoid.difference m) c.args.steps.now c.args.enter c.args.leave) (cell_at Q c.args.row c.args.column))
    (equal_marks (g.M.Ordered.monoid_of m) (g.met.M.Ordered.laws m) (g.M.DMonoid.difference m) (g.met.M.DMonoid.difference_laws m) c.differences.ensures.twice
    c.args.steps.now r.values c.args.enter c.args.leave r.enter c.if-enter-leave.true (cell_at Q c.args.row c.args.column) r.value)

pub returns-in-Some : goal.returns-in-Some
returns-in-Some g c =
    let m = c.args.m.now in
    let Q = c.args.square.now in
    let r = c.requires in
    let f = settled (g.M.Ordered.monoid_of m) (g.M.DMonoid.difference m) c.args.steps.now c.args.enter c.args.leave in
    let is : Some (f c.in-Some.x) ≡ option_map f (cell_at Q c.args.row c.args.column) = ap (option_map f) (sym c.in-Some.is ∙ c.at.ensures) in
    subst (IsWritten Q c.replace.new.self c.args.row c.args.column) (ap Some c.settled_value-value.ensures.settled ∙ is)
    (written Q c.args.row c.args.column (Some c.settled_value-value.result) c.replace.new.self c.side.ensures.grid r.row r.column c.replace.ensures)
