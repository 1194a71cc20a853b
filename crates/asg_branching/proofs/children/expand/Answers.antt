use Rattle.asg_branching.proofs.Common.{◌≡◌, length, sym, refl, ap, ◌∙◌, arith, fixed_for, is_active, count_below, rules_of}
use Rattle.asg_branching.proofs.ActiveRows.{active_total}
use Rattle.asg_branching.proofs.PrepareSteps.{ready_expanded}
use Rattle.asg_branching.proofs.children.expand.Goals as goal

pub rows-init : goal.rows-init
rows-init g c =
    record {
      number = refl;
      given = c.prepare.ensures.given;
      expanding = c.prepare.ensures.expanding;
    }

pub visit_row-made-requires-clause-expanding : goal.visit_row-made-requires-clause-expanding
visit_row-made-requires-clause-expanding g c =
    let i = c.rows.invariant in
    let e = c.requires.growing in
    let here = i.expanding e.0 e.1 e.2 in
    (e.0, e.1, here)

pub visit_row-made-requires-clause-number : goal.visit_row-made-requires-clause-number
visit_row-made-requires-clause-number g c =
    let i = c.rows.invariant in
    sym i.number

pub rows-preserved : goal.rows-preserved
rows-preserved g c =
    let i = c.rows.invariant in
    record {
      number = c.visit_row-made.ensures.number;
      given = c.visit_row-made.ensures.given ∙ i.given;
      expanding = λ enter count growing. c.visit_row-made.ensures.expanding enter count (i.expanding enter count growing);
    }

pub returns-clause-ready : goal.returns-clause-ready
returns-clause-ready g c =
    let m = c.args.m.now in
    let M = g.M.Ordered.monoid_of m in
    let X = c.args.inst.now in
    let i = c.rows.invariant in
    λ enter count growing.
    let R = rules_of M (g.M.DMonoid.difference m) enter in
    let here = i.expanding enter count growing in
    let rows = ap length c.rows-2.ensures.rows in
    let total = active_total X here.growing.rankable.place in
    let past = c.rows-test.false in
    let row : c.rows.row ≡ length X.rows = omega (arith, past, rows, c.rows.auto.row-end) in
    ready_expanded R X count c.rows.made (fixed_for X c.rows.made c.rows.search) c.rows.search here (i.number ∙ ap (count_below (is_active X)) row ∙ total)

pub returns-clause-given : goal.returns-clause-given
returns-clause-given g c =
    let i = c.rows.invariant in
    i.given
