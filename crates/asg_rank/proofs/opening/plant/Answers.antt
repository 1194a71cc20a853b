use Rattle.asg_rank.proofs.Common.{[], ◌∷◌, ◌++◌, length, None, sym, refl, ap, ◌∙◌, subst, arith, Whole, entry_of, rules_of, Empty, IsRootOf}
use Rattle.asg_rank.proofs.PlantSteps.{room_some, no_used, entry_fits, hall_fits, best_ready, closed_ready}
use Rattle.asg_rank.proofs.opening.plant.Goals as goal

pub push_child-requires : goal.push_child-requires
push_child-requires g c =
    entry_fits _ (g.met.M.Ordered.laws c.args.m.now) _ _ _ _ _ c.requires.planted.2

pub offer-requires-clause-room : goal.offer-requires-clause-room
offer-requires-clause-room g c =
    room_some _ (g.met.M.Ordered.laws c.args.m.now) _ _ _ _ _ c.requires.planted.2

pub offer-requires-clause-side : goal.offer-requires-clause-side
offer-requires-clause-side g c =
    let m = c.args.m.now in
    let R = rules_of (g.M.Ordered.monoid_of m) (g.M.DMonoid.difference m) c.requires.planted.0 in
    let root = subst (IsRootOf R c.args.inst.now c.args.search.now c.args.matching.now) c.in-Perfect.is c.requires.planted.2.root in
    root.2.rows ∙ sym c.requires.planted.2.memory.slots_side

pub offer-requires-clause-index : goal.offer-requires-clause-index
offer-requires-clause-index g c =
    let m = c.args.m.now in
    let R = rules_of (g.M.Ordered.monoid_of m) (g.M.DMonoid.difference m) c.requires.planted.0 in
    let root = subst (IsRootOf R c.args.inst.now c.args.search.now c.args.matching.now) c.in-Perfect.is c.requires.planted.2.root in
    root.0.values.index

pub offer-requires-clause-values : goal.offer-requires-clause-values
offer-requires-clause-values g c =
    let none = no_used _ (g.met.M.Ordered.laws c.args.m.now) _ _ _ _ _ c.requires.planted.2 in
    λ k d within. absurd (omega (arith, within, none))

pub offer-requires-clause-ascends : goal.offer-requires-clause-ascends
offer-requires-clause-ascends g c =
    let none = no_used _ (g.met.M.Ordered.laws c.args.m.now) _ _ _ _ _ c.requires.planted.2 in
    λ i j less within. absurd (omega (arith, within, none))

pub returns-in-Perfect-clause-ready : goal.returns-in-Perfect-clause-ready
returns-in-Perfect-clause-ready g c enter count is =
    let m = c.args.m.now in
    let S = c.args.search.now in
    let X = c.args.inst.now in
    let R = rules_of (g.M.Ordered.monoid_of m) (g.M.DMonoid.difference m) enter in
    let root = subst (IsRootOf R X S c.args.matching.now) c.in-Perfect.is is.root in
    let pushed = c.push_child.ensures in
    let offered = c.offer.ensures in
    best_ready R (g.met.M.Ordered.laws m) X count S c.args.ended c.args.matching.now is
    c.in-Perfect.last root.0 root.1 root.2
    c.push_child.new.tree pushed.entries pushed.capacity pushed.region pushed.halls
    c.offer.new.slots offered.side offered.room offered.offers

pub close_child-requires-clause-room : goal.close_child-requires-clause-room
close_child-requires-clause-room g c =
    entry_fits _ (g.met.M.Ordered.laws c.args.m.now) _ _ _ _ _ c.requires.planted.2

pub close_child-requires-clause-labels : goal.close_child-requires-clause-labels
close_child-requires-clause-labels g c =
    let m = c.args.m.now in
    let R = rules_of (g.M.Ordered.monoid_of m) (g.M.DMonoid.difference m) c.requires.planted.0 in
    let root = subst (IsRootOf R c.args.inst.now c.args.search.now c.args.matching.now) c.in-Short.is c.requires.planted.2.root in
    root.0

pub close_child-requires-clause-bit_rows : goal.close_child-requires-clause-bit_rows
close_child-requires-clause-bit_rows g c =
    let desk = c.requires.planted.2.memory.desk in
    desk.bit_rows ∙ sym desk.work

pub close_child-requires-clause-bit_columns : goal.close_child-requires-clause-bit_columns
close_child-requires-clause-bit_columns g c =
    let desk = c.requires.planted.2.memory.desk in
    desk.bit_columns ∙ sym desk.work

pub close_child-requires-clause-short : goal.close_child-requires-clause-short
close_child-requires-clause-short g c =
    let m = c.args.m.now in
    let R = rules_of (g.M.Ordered.monoid_of m) (g.M.DMonoid.difference m) c.requires.planted.0 in
    let root = subst (IsRootOf R c.args.inst.now c.args.search.now c.args.matching.now) c.in-Short.is c.requires.planted.2.root in
    root.1

pub close_child-requires-clause-ids : goal.close_child-requires-clause-ids
close_child-requires-clause-ids g c = c.requires.planted.2.memory.desk.ids

pub close_child-requires-clause-halls : goal.close_child-requires-clause-halls
close_child-requires-clause-halls g c =
    hall_fits _ (g.met.M.Ordered.laws c.args.m.now) _ _ _ _ _ c.requires.planted.2

pub close_child-requires-clause-width : goal.close_child-requires-clause-width
close_child-requires-clause-width g c = c.requires.planted.2.memory.halls_width

pub returns-in-Short-clause-ready : goal.returns-in-Short-clause-ready
returns-in-Short-clause-ready g c enter count is =
    let m = c.args.m.now in
    let S = c.args.search.now in
    let X = c.args.inst.now in
    let M = g.M.Ordered.monoid_of m in
    let R = rules_of M (g.M.DMonoid.difference m) enter in
    let root = subst (IsRootOf R X S c.args.matching.now) c.in-Short.is is.root in
    let closed = c.close_child.ensures in
    let sets = closed.sets in
    let hall = sets.2 X Whole refl refl refl root.2 in
    closed_ready R (g.met.M.Ordered.laws m) X count S c.args.ended c.args.matching.now is
    c.close_child.new.tree sets.0 hall (λ h valid. c.infeasible_law.ensures X sets.0 h hall valid)
    (closed.entries ∙ ap (λ u. S.tree.entries.items ++ entry_of 0 0 (Empty (length S.tree.halls.sets)) None u ∷ []) c.unit.ensures.unit)
    closed.capacity closed.region sets.1 c.close_child.new.desk closed.same closed.ids
