use Rattle.asg_growth.proofs.Common.{◌≡◌, ◌+◌, ◌<◌, IfNone, vec_len, sym, ap, ◌∙◌, subst, arith, leads_in, IsSearch, IsReady, HasNoLead, lead_at, Picks, search_leads, few_rows, key_read, search_climbed, HasColumn, IsValue}
use Rattle.asg_growth.proofs.growth.reach.Given.{Over}
use Rattle.asg_growth.proofs.growth.reach.Goals as goal

pub climb-requires-clause-key : goal.climb-requires-clause-key
climb-requires-clause-key g c =
    let m = c.args.m.now in
    let M = g.M.Ordered.monoid_of m in
    let laws = g.met.M.Ordered.laws m in
    let has = g.met.M.DMonoid.difference_laws m in
    let b = c.look-found.new.growth in
    let s = c.look-found.ensures.search in
    let seen = c.args.place + 1 in
    let picked = c.look-found.ensures.found in
    let w = subst (Picks M (lead_at M (leads_in b)) (HasColumn b.tree.unseen.items)) c.in-Some.is picked in
    let rows : vec_len b.tree.rows ≡ seen = ap (λ v. vec_len v) c.look-found.ensures.rows ∙ c.requires.last in
    subst (IsValue M) (sym (key_read laws has s rows w))
    (search_leads laws has s c.in-Some.column w.key w.among w.has)

pub climb-requires-clause-room : goal.climb-requires-clause-room
climb-requires-clause-room g c =
    let m = c.args.m.now in
    let laws = g.met.M.Ordered.laws m in
    let has = g.met.M.DMonoid.difference_laws m in
    let b = c.look-found.new.growth in
    let s = c.look-found.ensures.search in
    let seen = c.args.place + 1 in
    let rows : vec_len b.tree.rows ≡ seen = ap (λ v. vec_len v) c.look-found.ensures.rows ∙ c.requires.last in
    omega (arith, c.look-found.ensures.steps, s.roomy.steps_room, few_rows laws has s, rows)

pub returns-in_default-clause-none : goal.returns-in_default-clause-none
returns-in_default-clause-none g c =
    let m = c.args.m.now in
    let M = g.M.Ordered.monoid_of m in
    let b = c.look-found.new.growth in
    let picked = c.look-found.ensures.found in
    subst (λ o. IfNone o (HasNoLead M b)) (sym c.in_default.is)
    (subst (Picks M (lead_at M (leads_in b)) (HasColumn b.tree.unseen.items)) c.in_default.is picked)

climbed : (g : Over) (c : goal.After-climb g) → IsSearch (g.M.Ordered.monoid_of c.args.m.now) (g.M.DMonoid.difference c.args.m.now) (g.S.RowSquare.as_reduced c.args.reduced.now).now (g.S.RowSquare.as_reduced c.args.reduced.now).index c.args.matching.now c.climb.new.growth c.climb.new.sum (c.args.place + 1) × IsReady (g.M.Ordered.monoid_of c.args.m.now) c.climb.new.growth c.climb.new.sum c.in-Some.column
climbed g c =
    let m = c.args.m.now in
    let M = g.M.Ordered.monoid_of m in
    let laws = g.met.M.Ordered.laws m in
    let has = g.met.M.DMonoid.difference_laws m in
    let b = c.look-found.new.growth in
    let s = c.look-found.ensures.search in
    let seen = c.args.place + 1 in
    let picked = c.look-found.ensures.found in
    let w = subst (Picks M (lead_at M (leads_in b)) (HasColumn b.tree.unseen.items)) c.in-Some.is picked in
    let rows : vec_len b.tree.rows ≡ seen = ap (λ v. vec_len v) c.look-found.ensures.rows ∙ c.requires.last in
    let few : vec_len b.steps < seen = omega (arith, c.look-found.ensures.steps) in
    search_climbed laws has s rows w c.climb.new.growth c.climb.new.sum few c.climb.ensures

pub returns-in-Some-clause-search : goal.returns-in-Some-clause-search
returns-in-Some-clause-search g c = (climbed g c).0

pub returns-in-Some-clause-found : goal.returns-in-Some-clause-found
returns-in-Some-clause-found g c = (climbed g c).1
