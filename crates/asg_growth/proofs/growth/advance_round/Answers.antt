use Rattle.asg_growth.proofs.Common.{◌≡◌, ◌+◌, ◌<◌, ◌≤◌, [], ◌∷◌, length, get_or, vec_len, vec_capacity, sym, ap, ◌∙◌, subst, arith, get_or_append_left, column_below, IsColumnSet, most_side}
use Rattle.std.proofs.lemmas.List.{length-append}
use Rattle.asg_match.specs.laws.Matchings.{Matches-below}
use Rattle.asg_growth.proofs.EnteringLaws.{can_enter, can_renew, search_entered}
use Rattle.asg_growth.proofs.growth.advance_round.Given.{Over}
use Rattle.asg_growth.proofs.growth.advance_round.Goals.{In-Some-row_of}
use Rattle.asg_growth.proofs.growth.advance_round.Goals as goal

room : (g : Over) (c : In-Some-row_of g) → let b = c.reach.new.growth in (vec_len b.tree.rows < vec_capacity b.tree.rows) × (vec_len b.sums < vec_capacity b.sums) × (vec_len b.steps ≤ most_side)
room g c =
    let m = c.args.m.now in
    let rows : vec_len c.reach.new.growth.tree.rows ≡ c.args.place + 1 = ap (λ v. vec_len v) c.reach.ensures.rows ∙ c.requires.last in
    let ready = c.in-Some.ensures.found in
    can_enter (g.met.M.Ordered.laws m) (g.met.M.DMonoid.difference_laws m) c.reach.ensures.search rows ready.least ready.low c.in-Some-row_of.next c.in-Some-row_of.ensures.taken

pub enter-requires-clause-room : goal.enter-requires-clause-room
enter-requires-clause-room g c = (room g (goal.at.enter-requires-clause-room g c).In-Some-row_of).0

pub enter-requires-clause-sums_room : goal.enter-requires-clause-sums_room
enter-requires-clause-sums_room g c = (room g (goal.at.enter-requires-clause-sums_room g c).In-Some-row_of).1

pub enter-requires-clause-steps : goal.enter-requires-clause-steps
enter-requires-clause-steps g c = (room g (goal.at.enter-requires-clause-steps g c).In-Some-row_of).2

pub renew-requires : goal.renew-requires
renew-requires g c =
    let m = c.args.m.now in
    let rows : vec_len c.reach.new.growth.tree.rows ≡ c.args.place + 1 = ap (λ v. vec_len v) c.reach.ensures.rows ∙ c.requires.last in
    let ready = c.in-Some.ensures.found in
    can_renew (g.met.M.Ordered.laws m) (g.met.M.DMonoid.difference_laws m) c.reach.ensures.search rows ready.least ready.low c.in-Some-row_of.next c.in-Some-row_of.ensures.taken c.enter.ensures

pub returns-in-Some-row_of-clause-search : goal.returns-in-Some-row_of-clause-search
returns-in-Some-row_of-clause-search g c =
    let m = c.args.m.now in
    let rows : vec_len c.reach.new.growth.tree.rows ≡ c.args.place + 1 = ap (λ v. vec_len v) c.reach.ensures.rows ∙ c.requires.last in
    let ready = c.in-Some.ensures.found in
    search_entered (g.met.M.Ordered.laws m) (g.met.M.DMonoid.difference_laws m) c.reach.ensures.search rows ready.least ready.low c.in-Some-row_of.next c.in-Some-row_of.ensures.taken c.enter.ensures c.renew.new.growth c.renew.ensures

pub returns-in-Some-row_of-clause-first : goal.returns-in-Some-row_of-clause-first
returns-in-Some-row_of-clause-first g c =
    let rows = c.reach.new.growth.tree.rows in
    let some : 0 < length rows.items = omega (arith, rows.ok.0, ap (λ v. vec_len v) c.reach.ensures.rows, c.requires.last) in
    ap (λ v. get_or v.tree.rows.items 0 0) c.renew.ensures.kept
    ∙ ap (λ xs. get_or xs 0 0) c.enter.ensures.rows
    ∙ get_or_append_left rows.items (c.in-Some-row_of.next ∷ []) 0 0 some
    ∙ ap (λ v. get_or v.items 0 0) c.reach.ensures.rows

pub row_of-requires : goal.row_of-requires
row_of-requires g c =
    let m = c.args.m.now in
    let s = c.reach.ensures.search in
    let rows : vec_len c.reach.new.growth.tree.rows ≡ c.args.place + 1 = ap (λ v. vec_len v) c.reach.ensures.rows ∙ c.requires.last in
    let column = column_below (g.met.M.Ordered.laws m) (g.met.M.DMonoid.difference_laws m) s rows c.in-Some.ensures.found.least in
    omega (arith, column, s.underway.searching.growing.matching_side)

pub enter-requires-clause-unseen : goal.enter-requires-clause-unseen
enter-requires-clause-unseen g c =
    let s = c.reach.ensures.search in
    subst (λ n. IsColumnSet n c.reach.new.growth.tree.unseen.items) (sym s.roomy.parents_side) s.unseen

pub enter-requires-clause-column : goal.enter-requires-clause-column
enter-requires-clause-column g c =
    let m = c.args.m.now in
    let s = c.reach.ensures.search in
    let rows : vec_len c.reach.new.growth.tree.rows ≡ c.args.place + 1 = ap (λ v. vec_len v) c.reach.ensures.rows ∙ c.requires.last in
    let column = column_below (g.met.M.Ordered.laws m) (g.met.M.DMonoid.difference_laws m) s rows c.in-Some.ensures.found.least in
    omega (arith, column, s.roomy.parents_side)

pub enter-requires-clause-leaves : goal.enter-requires-clause-leaves
enter-requires-clause-leaves g c =
    let m = c.args.m.now in
    let s = c.reach.ensures.search in
    let rows : vec_len c.reach.new.growth.tree.rows ≡ c.args.place + 1 = ap (λ v. vec_len v) c.reach.ensures.rows ∙ c.requires.last in
    let column = column_below (g.met.M.Ordered.laws m) (g.met.M.DMonoid.difference_laws m) s rows c.in-Some.ensures.found.least in
    omega (arith, column, s.roomy.leaves_side)

pub enter-requires-clause-enters : goal.enter-requires-clause-enters
enter-requires-clause-enters g c =
    let s = c.reach.ensures.search in
    omega (arith, Matches-below c.args.matching.now c.in-Some-row_of.next c.in-Some.column c.in-Some-row_of.ensures.taken, s.underway.searching.growing.matching_side, s.roomy.enters_side)

pub returns-in-None-clause-search : goal.returns-in-None-clause-search
returns-in-None-clause-search g c = c.reach.ensures.search

pub returns-in-None-clause-first : goal.returns-in-None-clause-first
returns-in-None-clause-first g c = ap (λ v. get_or v.items 0 0) c.reach.ensures.rows

pub returns-in-None-clause-ends : goal.returns-in-None-clause-ends
returns-in-None-clause-ends g c =
    let rows : vec_len c.reach.new.growth.tree.rows ≡ c.args.place + 1 = ap (λ v. vec_len v) c.reach.ensures.rows ∙ c.requires.last in
    (c.in-None.ensures.none, rows)

pub returns-in-None-row_of-clause-search : goal.returns-in-None-row_of-clause-search
returns-in-None-row_of-clause-search g c = c.reach.ensures.search

pub returns-in-None-row_of-clause-first : goal.returns-in-None-row_of-clause-first
returns-in-None-row_of-clause-first g c = ap (λ v. get_or v.items 0 0) c.reach.ensures.rows

pub returns-in-None-row_of-clause-ends : goal.returns-in-None-row_of-clause-ends
returns-in-None-row_of-clause-ends g c =
    let rows : vec_len c.reach.new.growth.tree.rows ≡ c.args.place + 1 = ap (λ v. vec_len v) c.reach.ensures.rows ∙ c.requires.last in
    (c.in-Some.ensures.found, c.in-None-row_of.ensures.free, rows)

pub returns-in-Some-row_of-clause-ends : goal.returns-in-Some-row_of-clause-ends
returns-in-Some-row_of-clause-ends g c =
    let rows : vec_len c.reach.new.growth.tree.rows ≡ c.args.place + 1 = ap (λ v. vec_len v) c.reach.ensures.rows ∙ c.requires.last in
    let kept = ap (λ v. vec_len v.tree.rows) c.renew.ensures.kept in
    let pushed = ap length c.enter.ensures.rows ∙ length-append c.reach.new.growth.tree.rows.items (c.in-Some-row_of.next ∷ []) in
    omega (arith, rows, kept, pushed, c.enter.new.growth.tree.rows.ok.0, c.reach.new.growth.tree.rows.ok.0)
