use Rattle.asg_kept_phases.proofs.Common.{Some, sym, ap, ◌∙◌, subst, AllowsPhases, cell_after_phases, phases_along}
use Rattle.asg_kept_phases.proofs.MendLemmas.{absent_after, allows_all}
use Rattle.asg_kept_phases.proofs.mended_cells.cell_through.Goals as goal

pub returns-in-Some : goal.returns-in-Some
returns-in-Some g c =
    let m = c.args.m.now in
    let M = g.M.Ordered.monoid_of m in
    let d = g.M.DMonoid.difference m in
    let phases = phases_along c.args.region.now c.args.trails.now in
    let kept = c.kept_cell.ensures in
    let all = allows_all M d phases c.args.r c.args.k (Some c.in-Some.x) c.kept_cell.result.count (subst (AllowsPhases M d phases c.args.r c.args.k) c.in-Some.is c.requires.allows) kept.count in
    kept.cell_is
    ∙ ap (λ list. cell_after_phases M d list c.args.r c.args.k (Some c.in-Some.x)) all
    ∙ ap (cell_after_phases M d phases c.args.r c.args.k) (sym c.in-Some.is)

pub returns-in-None : goal.returns-in-None
returns-in-None g c =
    let m = c.args.m.now in
    let M = g.M.Ordered.monoid_of m in
    let d = g.M.DMonoid.difference m in
    let phases = phases_along c.args.region.now c.args.trails.now in
    sym (ap (cell_after_phases M d phases c.args.r c.args.k) c.in-None.is ∙ absent_after M d phases c.args.r c.args.k)
