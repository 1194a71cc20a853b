use Rattle.asg_branching.proofs.Common.{◌+◌, ◌-◌, length, slice_index_or, None, sym, ap, ◌∙◌, arith, row-from_active, rules_of}
use Rattle.asg_branching.proofs.ChildBits.{chosen_is, last_same, lost_expanding, fixed_expanding, bit_row_here, labels_here}
use Rattle.asg_branching.proofs.GrowCases.{given_count}
use Rattle.asg_branching.proofs.GrowStarts.{last_choice}
use Rattle.asg_branching.proofs.children.add_child.Goals as goal

pub overflow_sub-search : goal.overflow_sub-search
overflow_sub-search g c = let some = c.requires.expanding.2.growing.some in omega (arith, some)

pub index-requires : goal.index-requires
index-requires g c =
    let growing = c.requires.expanding.2.growing in
    let fit = growing.memory.given_fit in
    let choices = growing.memory.choices_fit in
    let some = growing.some in
    omega (arith, fit, choices, some)

pub get-chosen-requires : goal.get-chosen-requires
get-chosen-requires g c =
    let growing = c.requires.expanding.2.growing in
    let over = growing.memory.choices_over (c.args.search.now.given - 1) c.index.result.now (last_choice _ _ _ _ _ growing) in
    let count = ap length c.index.ensures in
    let there = row-from_active c.args.inst.now c.args.row c.requires.row in
    omega (arith, over, count, there)

pub put_row-requires-clause-labels : goal.put_row-requires-clause-labels
put_row-requires-clause-labels g c = labels_here _ _ _ _ _ _ c.requires.expanding.2

pub put_row-requires-clause-row : goal.put_row-requires-clause-row
put_row-requires-clause-row g c = bit_row_here _ _ _ _ _ _ c.requires.expanding.2 c.args.row c.args.made c.requires.row c.requires.number

pub put_row-requires-clause-columns : goal.put_row-requires-clause-columns
put_row-requires-clause-columns g c = c.requires.expanding.2.bits.columns

pub grow_child-requires-clause-expanding : goal.grow_child-requires-clause-expanding
grow_child-requires-clause-expanding g c =
    let e = c.requires.expanding in
    let is = chosen_is c.args.search.now e.2.growing.some (last_choice _ _ _ _ _ e.2.growing) c.index.result.now c.index.ensures c.args.row c.get-chosen.result c.get-chosen.ensures in
    (e.0, e.1, lost_expanding _ c.args.inst.now _ c.args.made c.args.row c.requires.row c.requires.number c.get-chosen.result c.args.search.now e.2 is c.put_row.new.bits c.put_row.ensures)

pub put_row-requires-2-clause-labels : goal.put_row-requires-2-clause-labels
put_row-requires-2-clause-labels g c =
    let e = c.requires.expanding in
    let is = chosen_is c.args.search.now e.2.growing.some (last_choice _ _ _ _ _ e.2.growing) c.index.result.now c.index.ensures c.args.row c.get-chosen.result c.get-chosen.ensures in
    let first = lost_expanding _ c.args.inst.now _ c.args.made c.args.row c.requires.row c.requires.number c.get-chosen.result c.args.search.now e.2 is c.put_row.new.bits c.put_row.ensures in
    labels_here _ _ _ _ _ _ (c.grow_child.ensures.expanding e.0 e.1 first)

pub put_row-requires-2-clause-row : goal.put_row-requires-2-clause-row
put_row-requires-2-clause-row g c =
    let e = c.requires.expanding in
    let is = chosen_is c.args.search.now e.2.growing.some (last_choice _ _ _ _ _ e.2.growing) c.index.result.now c.index.ensures c.args.row c.get-chosen.result c.get-chosen.ensures in
    let first = lost_expanding _ c.args.inst.now _ c.args.made c.args.row c.requires.row c.requires.number c.get-chosen.result c.args.search.now e.2 is c.put_row.new.bits c.put_row.ensures in
    bit_row_here _ _ _ _ _ _ (c.grow_child.ensures.expanding e.0 e.1 first) c.args.row c.args.made c.requires.row c.requires.number

pub put_row-requires-2-clause-columns : goal.put_row-requires-2-clause-columns
put_row-requires-2-clause-columns g c =
    let e = c.requires.expanding in
    let is = chosen_is c.args.search.now e.2.growing.some (last_choice _ _ _ _ _ e.2.growing) c.index.result.now c.index.ensures c.args.row c.get-chosen.result c.get-chosen.ensures in
    let first = lost_expanding _ c.args.inst.now _ c.args.made c.args.row c.requires.row c.requires.number c.get-chosen.result c.args.search.now e.2 is c.put_row.new.bits c.put_row.ensures in
    (c.grow_child.ensures.expanding e.0 e.1 first).bits.columns

pub returns-clause-expanding : goal.returns-clause-expanding
returns-clause-expanding g c =
    let m = c.args.m.now in
    let M = g.M.Ordered.monoid_of m in
    let X = c.args.inst.now in
    let S = c.args.search.now in
    let row = c.args.row in
    let made = c.args.made in
    λ enter count E.
    let R = rules_of M (g.M.DMonoid.difference m) enter in
    let is = chosen_is S E.growing.some (last_choice R X count made S E.growing) c.index.result.now c.index.ensures row c.get-chosen.result c.get-chosen.ensures in
    let first = lost_expanding R X count made row c.requires.row c.requires.number c.get-chosen.result S E is c.put_row.new.bits c.put_row.ensures in
    let U = c.grow_child.new.search in
    let next = c.grow_child.ensures.expanding enter count first in
    let same = c.grow_child.ensures.given in
    let counts = sym (given_count R X count (made + 1) U next.growing) ∙ ap length same ∙ given_count R X count made S E.growing in
    fixed_expanding R X count made row c.requires.row c.requires.number c.get-chosen.result U next (ap (λ f. slice_index_or f row None) (last_same S U same counts) ∙ is) c.put_row-2.new.bits c.put_row-2.ensures
