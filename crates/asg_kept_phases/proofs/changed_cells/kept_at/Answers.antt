use Rattle.asg_kept_phases.proofs.Common.{◌≤◌, length, Some, All, sym, ◌∙◌, subst, arith, length-take-le, All-take, length-map, AllowsSoMany, AreOfValues, phases_along, IsValue, phases_of, last_phase}
use Rattle.asg_kept_phases.proofs.LeftLemmas.{map_take, IsLeftAt-absent, IsLeftAt-present}
use Rattle.asg_kept_phases.proofs.changed_cells.kept_at.Goals as goal

pub kept_cell-requires-clause-values : goal.kept_cell-requires-clause-values
kept_cell-requires-clause-values g c =
    let M = g.M.Ordered.monoid_of c.args.m.now in
    let F = c.args.region.now in
    subst (AreOfValues M) (sym (map_take (λ t. last_phase (phases_of F t)) c.args.trails.now c.args.count))
    (All-take (λ phase. All (IsValue M) phase.steps) c.args.count (phases_along F c.args.trails.now) c.requires.values)

pub returns-in-None : goal.returns-in-None
returns-in-None g c =
    let m = c.args.m.now in
    IsLeftAt-absent (g.M.Ordered.monoid_of m) (g.M.DMonoid.difference m) (phases_along c.args.region.now c.args.trails.now) (g.C.ChangedCells.before c.args.cells.now) (g.C.ChangedCells.after c.args.cells.now)
    c.args.r c.args.k c.args.count (sym c.now.ensures ∙ c.in-None.is)

pub returns-in-Some : goal.returns-in-Some
returns-in-Some g c =
    let m = c.args.m.now in
    let M = g.M.Ordered.monoid_of m in
    let d = g.M.DMonoid.difference m in
    let F = c.args.region.now in
    let phases = phases_along F c.args.trails.now in
    let left = c.kept_cell.result.count in
    let size = length-map c.args.trails.now (λ t. last_phase (phases_of F t)) in
    let within : c.args.count ≤ length phases = omega (arith, size, c.requires.count) in
    let so_many = subst (λ list. AllowsSoMany M d list c.args.r c.args.k (Some c.in-Some.x) left) (map_take (λ t. last_phase (phases_of F t)) c.args.trails.now c.args.count) c.kept_cell.ensures.count in
    IsLeftAt-present M d phases (g.C.ChangedCells.before c.args.cells.now) (g.C.ChangedCells.after c.args.cells.now)
    c.args.r c.args.k c.args.count left c.in-Some.x within (sym c.now.ensures ∙ c.in-Some.is) so_many
    (omega (arith, so_many.within, length-take-le c.args.count phases within))
