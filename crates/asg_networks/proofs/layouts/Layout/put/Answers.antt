use Rattle.asg_networks.proofs.Common.{◌||◌, get_or, set, pos, int_eq, sym, ap, ◌∙◌, arith, to_z-of_z, w64, rules, absent}
use Rattle.asg_networks.proofs.LayoutLemmas.{place_within, put_cell, told_alike}
use Rattle.asg_networks.proofs.layouts.Layout.put.Goals as goal

pub put_at-requires : goal.put_at-requires
put_at-requires c =
    omega (arith, place_within c.args.self.now c.requires.layout (c.args.link.now.source, c.args.link.now.target) c.in-Some.cell (sym c.cell.ensures ∙ c.in-Some.is), c.requires.whole)

pub returns-clause-put : goal.returns-clause-put
returns-clause-put c = λ known is.
    c.put_at.ensures.put ∙ ap (set c.args.firsts.now.items c.in-Some.cell) (to_z-of_z w64 c.args.link.now.cost (search rules))
    ∙ ap (λ xs. set xs c.in-Some.cell c.args.link.now.cost) is
    ∙ put_cell c.args.self.now c.requires.layout (c.args.link.now.source, c.args.link.now.target) known c.args.link.now.cost c.in-Some.cell (sym c.cell.ensures ∙ c.in-Some.is)

pub returns-clause-alike : goal.returns-clause-alike
returns-clause-alike c = λ known is in_range.
    c.put_at.ensures.alike
    ∙ ap (λ cost. int_eq (get_or c.args.firsts.now.items c.in-Some.cell (pos 0)) absent || int_eq (get_or c.args.firsts.now.items c.in-Some.cell (pos 0)) cost) (to_z-of_z w64 c.args.link.now.cost (search rules))
    ∙ told_alike c.args.self.now c.requires.layout (c.args.link.now.source, c.args.link.now.target) known c.args.link.now.cost c.in-Some.cell (sym c.cell.ensures ∙ c.in-Some.is) c.args.firsts.now.items is in_range
