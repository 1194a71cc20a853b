use Rattle.asg_networks.proofs.Common.{◌+◌, ◌++◌, ◌∷◌, [], Some, get_or, pos, sym, ap, ◌∙◌, subst, arith, to_z-of_z, w64, rules, no_link}
use Rattle.asg_networks.proofs.ListedCells.{AreListed, none_listed, one_listed}
use Rattle.asg_networks.proofs.TwiceLemmas.{link_at}
use Rattle.asg_networks.proofs.layouts.Layout.cells.Goals as goal

pub loop-link-init : goal.loop-link-init
loop-link-init c =
    let layout = c.args.self.now in
    subst (AreListed layout.sources.now layout.targets.now c.args.links.now 0 0) (sym c.in_ok-cells.ensures.items)
    (none_listed c.last_cell_law.ensures.none layout.sources.now layout.targets.now c.args.links.now)

pub loop-link-preserved : goal.loop-link-preserved
loop-link-preserved c =
    let layout = c.args.self.now in
    let links = c.args.links.now in
    let i = c.loop-link.link-index in
    let link = get_or links i no_link in
    let place = c.in-Some.places in
    let there = c.in-Some.ensures.place in
    let told = sym c.in-Some.ensures.cell ∙ ap Some there in
    let more = one_listed layout c.requires.layout links i link c.loop-link-test.true (link_at links i c.loop-link-test.true) c.loop-link.next c.loop-link.cells.items c.loop-link.invariant place.0 place.1 told c.in-Some.ensures.column (omega (arith, there, c.if-cell-next.false)) (c.requires.cells i no_link c.loop-link-test.true).in_range c.last_cell_law.ensures.last in
    let told_items = c.in_ok-push.ensures.items ∙ ap (λ a. c.loop-link.cells.items ++ (place, record { a = a; b = pos 0 }) ∷ []) (to_z-of_z w64 link.cost (search rules)) in
    subst (AreListed layout.sources.now layout.targets.now links (i + 1) (c.in-Some.cell + 1)) (sym told_items)
    (subst (λ cell. AreListed layout.sources.now layout.targets.now links (i + 1) (cell + 1) (c.loop-link.cells.items ++ (place, record { a = link.cost; b = pos 0 }) ∷ [])) (sym there) more)
