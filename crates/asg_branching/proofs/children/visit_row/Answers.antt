use Rattle.asg_branching.proofs.Common.{◌≡◌, ◌+◌, cond, sym, ap, ◌∙◌, arith, is_active, count_below, rules_of}
use Rattle.asg_branching.proofs.GrowStarts.{few_children}
use Rattle.asg_nodes.specs.laws.BitSteps.{count_more}
use Rattle.asg_branching.proofs.ActiveRows.{active_less}
use Rattle.asg_branching.proofs.children.visit_row.Goals as goal

pub add_child-requires-clause-row : goal.add_child-requires-clause-row
add_child-requires-clause-row g c =
    sym c.if-is_active.ensures

pub overflow_add-result : goal.overflow_add-result
overflow_add-result g c =
    let m = c.args.m.now in
    let M = g.M.Ordered.monoid_of m in
    let X = c.args.inst.now in
    let active = sym c.if-is_active.ensures in
    let e = c.requires.expanding in
    let R = rules_of M (g.M.DMonoid.difference m) e.0 in
    let few = few_children R X e.1 c.args.made c.args.search.now e.2.growing (active_less X e.2.growing.rankable.place c.args.row c.args.made active c.requires.number) in
    omega (arith, few)

pub returns-then-is_active-clause-number : goal.returns-then-is_active-clause-number
returns-then-is_active-clause-number g c =
    let X = c.args.inst.now in
    let active = sym c.if-is_active.ensures in
    ap (λ n. n + 1) (sym c.requires.number) ∙ sym (count_more (is_active X) c.args.row ∙ ap (λ b. count_below (is_active X) c.args.row + cond b 1 0) active)

pub returns-clause-number : goal.returns-clause-number
returns-clause-number g c =
    let X = c.args.inst.now in
    let active = sym c.if-is_active.ensures in
    let none : count_below (is_active X) c.args.row + 0 ≡ count_below (is_active X) c.args.row = omega arith in
    sym c.requires.number ∙ sym (count_more (is_active X) c.args.row ∙ ap (λ b. count_below (is_active X) c.args.row + cond b 1 0) active ∙ none)
