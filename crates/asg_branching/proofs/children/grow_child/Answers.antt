use Rattle.asg_branching.proofs.Common.{◌≡◌, ℕ, ◌+◌, ◌≤◌, List, [], ◌∷◌, ◌++◌, length, IfSome, vec_len, sym, refl, ap, ◌∙◌, subst, arith, IsExpanding, kept_for, given_of, Desk, IsRestOf, GivesHallSets, Matches, square_side, entry_at, rules_of, IsValue, IsLive, IsPresent, cell_at, HasLabelsOf, masked_grid}
use Rattle.asg_model.specs.Limits.{most_side}
use Rattle.asg_branching.proofs.ActiveRows.{active_less}
use Rattle.asg_branching.proofs.DeskSteps.{desk_grown, desk_closed}
use Rattle.asg_branching.proofs.GrowCases.{node_from, node_there, node_leads}
use Rattle.asg_branching.proofs.GrowEnds.{ends_still, ends_left, ends_kept, ends_empty}
use Rattle.asg_branching.proofs.GrowOutcomes.{led_value, limit_value}
use Rattle.asg_branching.proofs.GrowStarts.{last_used, few_nodes, few_children, node_fits, phase_fits, hall_fits, start_rest, start_side, start_rows, start_row, start_kept}
use Rattle.asg_match.specs.Deficient.{IsDeficient}
use Rattle.asg_branching.proofs.ChildBits.{labels_here}
use Rattle.asg_branching.proofs.children.grow_child.Goals as goal

pub overflow_sub-place : goal.overflow_sub-place
overflow_sub-place g c = let some = c.requires.expanding.2.growing.some in omega (arith, some)

pub node-node-requires : goal.node-node-requires
node-node-requires g c = last_used _ _ _ _ _ c.requires.expanding.2.growing

pub entry-parent-requires-clause-from : goal.entry-parent-requires-clause-from
entry-parent-requires-clause-from g c =
    let M = g.M.Ordered.monoid_of c.args.m.now in
    subst (λ n. 1 ≤ n) (sym (c.node-node.ensures M.unit)) (node_from _ _ _ _ _ c.requires.expanding.2.growing)

pub entry-parent-requires-clause-upto : goal.entry-parent-requires-clause-upto
entry-parent-requires-clause-upto g c =
    let M = g.M.Ordered.monoid_of c.args.m.now in
    let there = node_there _ _ _ _ _ c.requires.expanding.2.growing in
    let n = c.node-node.ensures M.unit in
    let count = ap length c.deref.ensures.value in
    omega (arith, there, n, count)

pub overflow_add-branch : goal.overflow_add-branch
overflow_add-branch g c =
    let growing = c.requires.expanding.2.growing in
    let less = active_less c.args.inst.now growing.rankable.place c.args.row c.args.made c.requires.row c.requires.number in
    let few = few_children _ _ _ _ _ growing less in
    omega (arith, few)

pub is_behind-requires-clause-index : goal.is_behind-requires-clause-index
is_behind-requires-clause-index g c =
    let m = c.args.m.now in
    let M = g.M.Ordered.monoid_of m in
    let S = c.args.search.now in
    let e = c.requires.expanding in
    let n_is = c.node-node.ensures M.unit in
    let x_is = c.entry-parent.ensures M.unit ∙ ap (λ xs. entry_at M.unit xs c.node-node.result) c.deref.ensures.value ∙ ap (entry_at M.unit S.tree.entries.items) n_is in
    let here = node_leads _ _ _ _ _ e.2.growing in
    subst (λ y. IsValue M y.index) (sym x_is) (led_value (rules_of M (g.M.DMonoid.difference m) e.0) (g.met.M.Ordered.laws m) S.tree.region _ _ _ here)

pub is_behind-requires-clause-values : goal.is_behind-requires-clause-values
is_behind-requires-clause-values g c = c.requires.expanding.2.growing.search.kept.values

pub is_behind-requires-clause-ascends : goal.is_behind-requires-clause-ascends
is_behind-requires-clause-ascends g c = c.requires.expanding.2.growing.search.kept.ascends

pub push_child-requires : goal.push_child-requires
push_child-requires g c =
    let growing = c.requires.expanding.2.growing in
    node_fits _ _ _ _ _ growing (active_less c.args.inst.now growing.rankable.place c.args.row c.args.made c.requires.row c.requires.number)

pub limit-limit-requires-clause-values : goal.limit-limit-requires-clause-values
limit-limit-requires-clause-values g c = c.requires.expanding.2.growing.search.kept.values

pub limit-limit-requires-clause-ascends : goal.limit-limit-requires-clause-ascends
limit-limit-requires-clause-ascends g c = c.requires.expanding.2.growing.search.kept.ascends

pub matching-requires : goal.matching-requires
matching-requires g c = last_used _ _ _ _ _ c.requires.expanding.2.growing

pub grow-grown-requires-clause-rest : goal.grow-grown-requires-clause-rest
grow-grown-requires-clause-rest g c =
    let M = g.M.Ordered.monoid_of c.args.m.now in
    subst (IsRestOf M c.args.search.now.desk.work) (sym (c.matching.ensures.matching M.unit)) (start_rest _ _ _ _ c.args.search.now c.requires.expanding.2)

pub grow-grown-requires-clause-kept : goal.grow-grown-requires-clause-kept
grow-grown-requires-clause-kept g c =
    let M = g.M.Ordered.monoid_of c.args.m.now in
    λ r k other matched.
    start_kept _ _ _ _ c.args.search.now c.requires.expanding.2 c.args.row c.requires.row c.requires.number r k other
    (subst (λ l. Matches l r k) (c.matching.ensures.matching M.unit) matched)

pub grow-grown-requires-clause-small : goal.grow-grown-requires-clause-small
grow-grown-requires-clause-small g c =
    let e = c.requires.expanding.2 in subst (λ n. n ≤ most_side) (sym (start_side _ _ _ _ c.args.search.now e)) e.growing.rankable.small

pub grow-grown-requires-clause-bench : goal.grow-grown-requires-clause-bench
grow-grown-requires-clause-bench g c = let e = c.requires.expanding.2 in e.growing.memory.desk.bench ∙ sym (start_side _ _ _ _ c.args.search.now e)

pub grow-grown-requires-clause-trial : goal.grow-grown-requires-clause-trial
grow-grown-requires-clause-trial g c =
    let M = g.M.Ordered.monoid_of c.args.m.now in
    let e = c.requires.expanding.2 in
    e.growing.memory.desk.trial ∙ sym (start_rows _ _ _ _ c.args.search.now e) ∙ ap length (sym (c.matching.ensures.matching M.unit))

pub grow-grown-requires-clause-row : goal.grow-grown-requires-clause-row
grow-grown-requires-clause-row g c = start_row _ _ _ _ c.args.search.now c.requires.expanding.2 c.args.row c.requires.row c.requires.number

pub grow-grown-requires-clause-limit : goal.grow-grown-requires-clause-limit
grow-grown-requires-clause-limit g c =
    limit_value (g.M.Ordered.monoid_of c.args.m.now) c.args.search.now.slots c.limit-limit.result c.limit-limit.ensures

pub grow-grown-requires-clause-spare : goal.grow-grown-requires-clause-spare
grow-grown-requires-clause-spare g c =
    let e = c.requires.expanding.2 in
    phase_fits _ _ _ _ _ e.growing (active_less c.args.inst.now e.growing.rankable.place c.args.row c.args.made c.requires.row c.requires.number) e.less

pub grow-grown-requires-clause-live : goal.grow-grown-requires-clause-live
grow-grown-requires-clause-live g c =
    let M = g.M.Ordered.monoid_of c.args.m.now in
    let S = c.args.search.now in
    let n_is = c.node-node.ensures M.unit in
    let x_is = c.entry-parent.ensures M.unit ∙ ap (λ xs. entry_at M.unit xs c.node-node.result) c.deref.ensures.value ∙ ap (entry_at M.unit S.tree.entries.items) n_is in
    subst (λ y. IfSome y.trail (IsLive S.tree.region)) (sym x_is) (node_leads _ _ _ _ _ c.requires.expanding.2.growing).live

pub grow-grown-requires-clause-region_side : goal.grow-grown-requires-clause-region_side
grow-grown-requires-clause-region_side g c = let e = c.requires.expanding.2 in e.growing.memory.region_side ∙ sym (start_side _ _ _ _ c.args.search.now e)

pub keep_child-requires-clause-room : goal.keep_child-requires-clause-room
keep_child-requires-clause-room g c =
    let growing = c.requires.expanding.2.growing in
    node_fits _ _ _ _ _ growing (active_less c.args.inst.now growing.rankable.place c.args.row c.args.made c.requires.row c.requires.number)

pub keep_child-requires-clause-small : goal.keep_child-requires-clause-small
keep_child-requires-clause-small g c =
    let growing = c.requires.expanding.2.growing in
    few_nodes _ _ _ _ _ growing (active_less c.args.inst.now growing.rankable.place c.args.row c.args.made c.requires.row c.requires.number)

pub keep_child-requires-clause-slots : goal.keep_child-requires-clause-slots
keep_child-requires-clause-slots g c = let less = c.requires.expanding.2.less in omega (arith, less)

pub keep_child-requires-clause-side : goal.keep_child-requires-clause-side
keep_child-requires-clause-side g c =
    let memory = c.requires.expanding.2.growing.memory in
    c.in-Reached.ensures.trial ∙ memory.desk.trial ∙ sym memory.slots_side

pub keep_child-requires-clause-index : goal.keep_child-requires-clause-index
keep_child-requires-clause-index g c = c.in-Reached.ensures.branches.rest.index_is_value

pub keep_child-requires-clause-values : goal.keep_child-requires-clause-values
keep_child-requires-clause-values g c = c.requires.expanding.2.growing.search.kept.values

pub keep_child-requires-clause-ascends : goal.keep_child-requires-clause-ascends
keep_child-requires-clause-ascends g c = c.requires.expanding.2.growing.search.kept.ascends

pub push_child-requires-in-Left : goal.push_child-requires-in-Left
push_child-requires-in-Left g c =
    let growing = c.requires.expanding.2.growing in
    node_fits _ _ _ _ _ growing (active_less c.args.inst.now growing.rankable.place c.args.row c.args.made c.requires.row c.requires.number)

pub close_child-requires-clause-room : goal.close_child-requires-clause-room
close_child-requires-clause-room g c =
    let growing = c.requires.expanding.2.growing in
    node_fits _ _ _ _ _ growing (active_less c.args.inst.now growing.rankable.place c.args.row c.args.made c.requires.row c.requires.number)

pub close_child-requires-clause-labels : goal.close_child-requires-clause-labels
close_child-requires-clause-labels g c =
    subst (λ d. HasLabelsOf c.args.inst.now d.work.now) (sym c.in-Short.ensures.same) (labels_here _ _ _ _ c.args.search.now _ c.requires.expanding.2)

pub close_child-requires-clause-bit_rows : goal.close_child-requires-clause-bit_rows
close_child-requires-clause-bit_rows g c =
    let e = c.requires.expanding.2 in
    subst (λ d. d.bits.rows ≡ d.work.now.side) (sym c.in-Short.ensures.same) (e.growing.memory.desk.bit_rows ∙ sym (start_side _ _ _ _ c.args.search.now e))

pub close_child-requires-clause-bit_columns : goal.close_child-requires-clause-bit_columns
close_child-requires-clause-bit_columns g c =
    let e = c.requires.expanding.2 in
    subst (λ d. d.bits.columns ≡ d.work.now.side) (sym c.in-Short.ensures.same) (e.growing.memory.desk.bit_columns ∙ sym (start_side _ _ _ _ c.args.search.now e))

pub close_child-requires-clause-short : goal.close_child-requires-clause-short
close_child-requires-clause-short g c =
    let s = c.in-Short.ensures.same in
    let d = c.grow-grown.new.desk in
    subst (λ (x : Desk _). IsDeficient (IsPresent (cell_at (masked_grid x.work.now x.bits.words))) x.work.now.side d.bench.rows) (sym s) c.in-Short.ensures.branches.1

pub close_child-requires-clause-ids : goal.close_child-requires-clause-ids
close_child-requires-clause-ids g c =
    subst (λ d. 1001 ≤ vec_len d.ids) (sym c.in-Short.ensures.same) c.requires.expanding.2.growing.memory.desk.ids

pub close_child-requires-clause-halls : goal.close_child-requires-clause-halls
close_child-requires-clause-halls g c =
    let e = c.requires.expanding.2 in
    hall_fits _ _ _ _ _ e.growing (active_less c.args.inst.now e.growing.rankable.place c.args.row c.args.made c.requires.row c.requires.number) e.less

pub close_child-requires-clause-width : goal.close_child-requires-clause-width
close_child-requires-clause-width g c = c.requires.expanding.2.growing.memory.halls_width

pub returns-then-is_behind-clause-expanding : goal.returns-then-is_behind-clause-expanding
returns-then-is_behind-clause-expanding g c =
    let m = c.args.m.now in
    let M = g.M.Ordered.monoid_of m in
    let X = c.args.inst.now in
    let S = c.args.search.now in
    let made = c.args.made in
    λ enter count expanding.
    let R = rules_of M (g.M.DMonoid.difference m) enter in
    let laws = g.met.M.Ordered.laws m in
    let raises = c.raised_law.ensures.instances enter in
    let less = active_less X expanding.growing.rankable.place c.args.row made c.requires.row c.requires.number in
    let n_is = c.node-node.ensures M.unit in
    let x_is = c.entry-parent.ensures M.unit ∙ ap (λ xs. entry_at M.unit xs c.node-node.result) c.deref.ensures.value ∙ ap (entry_at M.unit S.tree.entries.items) n_is in
    ends_still R laws raises X count made S expanding less c.node-node.result c.entry-parent.result n_is x_is c.push_child.new.tree S.desk c.push_child.ensures.capacity
    (record { work = refl; node = refl; bits = refl; is = expanding.growing.memory.desk })
    c.push_child.ensures.entries c.push_child.ensures.region c.push_child.ensures.halls
    (c.if-is_behind.ensures.behind refl)

pub returns-in-Left-clause-expanding : goal.returns-in-Left-clause-expanding
returns-in-Left-clause-expanding g c =
    let m = c.args.m.now in
    let M = g.M.Ordered.monoid_of m in
    let X = c.args.inst.now in
    let S = c.args.search.now in
    let made = c.args.made in
    λ enter count expanding.
    let R = rules_of M (g.M.DMonoid.difference m) enter in
    let laws = g.met.M.Ordered.laws m in
    let raises = c.raised_law.ensures.instances enter in
    let less = active_less X expanding.growing.rankable.place c.args.row made c.requires.row c.requires.number in
    let n_is = c.node-node.ensures M.unit in
    let x_is = c.entry-parent.ensures M.unit ∙ ap (λ xs. entry_at M.unit xs c.node-node.result) c.deref.ensures.value ∙ ap (entry_at M.unit S.tree.entries.items) n_is in
    let grow = c.in-Left.ensures in
    let desk = c.grow-grown.new.desk in
    ends_left R laws raises X count made S expanding less c.node-node.result c.entry-parent.result n_is x_is c.push_child-in-Left.new.tree desk c.push_child-in-Left.ensures.capacity
    (desk_grown (square_side X) S.desk desk expanding.growing.memory.desk grow.same grow.trial grow.bench)
    c.grow-grown.new.region c.push_child-in-Left.ensures.region c.push_child-in-Left.ensures.halls c.matching.result.now desk.trial (c.matching.ensures.matching M.unit) c.args.row c.in-Left.index c.in-Left.trail
    c.push_child-in-Left.ensures.entries c.limit-limit.result c.limit-limit.ensures grow.branches

pub returns-in-Reached-clause-expanding : goal.returns-in-Reached-clause-expanding
returns-in-Reached-clause-expanding g c =
    let m = c.args.m.now in
    let M = g.M.Ordered.monoid_of m in
    let X = c.args.inst.now in
    let S = c.args.search.now in
    let made = c.args.made in
    λ enter count expanding.
    let R = rules_of M (g.M.DMonoid.difference m) enter in
    let laws = g.met.M.Ordered.laws m in
    let raises = c.raised_law.ensures.instances enter in
    let less = active_less X expanding.growing.rankable.place c.args.row made c.requires.row c.requires.number in
    let n_is = c.node-node.ensures M.unit in
    let x_is = c.entry-parent.ensures M.unit ∙ ap (λ xs. entry_at M.unit xs c.node-node.result) c.deref.ensures.value ∙ ap (entry_at M.unit S.tree.entries.items) n_is in
    let grow = c.in-Reached.ensures in
    let keep = c.keep_child.ensures in
    let desk = c.grow-grown.new.desk in
    let U = c.keep_child.new.search in
    subst (λ U. IsExpanding R X count (made + 1) (kept_for X made U) U) (sym keep.same)
    (ends_kept R laws raises X count made S expanding less c.node-node.result c.entry-parent.result n_is x_is U.tree desk keep.capacity
    (desk_grown (square_side X) S.desk desk expanding.growing.memory.desk grow.same grow.trial grow.bench)
    c.grow-grown.new.region keep.region keep.halls c.matching.result.now desk.trial (c.matching.ensures.matching M.unit) c.args.row c.in-Reached.index c.in-Reached.trail
    keep.entries U.slots keep.slots_side keep.slots_room keep.offers grow.branches)

pub returns-in-Reached-clause-given : goal.returns-in-Reached-clause-given
returns-in-Reached-clause-given g c =
    ap given_of c.keep_child.ensures.same

pub returns-in-Short-clause-expanding : goal.returns-in-Short-clause-expanding
returns-in-Short-clause-expanding g c =
    let m = c.args.m.now in
    let M = g.M.Ordered.monoid_of m in
    let X = c.args.inst.now in
    let S = c.args.search.now in
    let made = c.args.made in
    λ enter count expanding.
    let R = rules_of M (g.M.DMonoid.difference m) enter in
    let laws = g.met.M.Ordered.laws m in
    let raises = c.raised_law.ensures.instances enter in
    let less = active_less X expanding.growing.rankable.place c.args.row made c.requires.row c.requires.number in
    let n_is = c.node-node.ensures M.unit in
    let x_is = c.entry-parent.ensures M.unit ∙ ap (λ xs. entry_at M.unit xs c.node-node.result) c.deref.ensures.value ∙ ap (entry_at M.unit S.tree.entries.items) n_is in
    let grow = c.in-Short.ensures in
    let close = c.close_child.ensures in
    let desk = c.grow-grown.new.desk in
    let stays = desk_grown (square_side X) S.desk desk expanding.growing.memory.desk grow.same grow.trial grow.bench in
    let sets = subst (λ (d : Desk _). (set : List ℕ) × (c.close_child.new.tree.halls ≡ record S.tree.halls { sets = S.tree.halls.sets ++ set ∷ [] }) × GivesHallSets X (IsPresent (cell_at (masked_grid d.work.now d.bits.words))) set) grow.same close.sets in
    ends_empty R laws raises X count made S expanding less c.node-node.result c.entry-parent.result n_is x_is c.close_child.new.tree c.close_child.new.desk close.capacity
    (desk_closed (square_side X) desk c.close_child.new.desk S.desk stays close.same close.ids)
    c.infeasible_law.ensures c.square_law.ensures.presence close.entries (close.region ∙ ap (λ s. s.forest) grow.branches.0) sets
