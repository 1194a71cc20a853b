use Rattle.asg_algebra.proofs.Common.{sym, ap, ◌∙◌, subst, IsValue}
use Rattle.asg_algebra.proofs.absorbed_cells.is_absorbed.Goals as goal

pub absorbs-requires-clause-index : goal.absorbs-requires-clause-index
absorbs-requires-clause-index g c =
    subst (IsValue (g.M.Ordered.monoid_of c.args.m.now)) (sym c.index.ensures) c.requires.reduced.index

pub absorbs-requires-clause-value : goal.absorbs-requires-clause-value
absorbs-requires-clause-value g c =
    let r = c.requires in
    r.reduced.cells c.args.row c.args.column c.in-Some.value r.row r.column (sym c.cell_of.ensures ∙ c.in-Some.is)

pub returns-in-Some : goal.returns-in-Some
returns-in-Some g c = λ is.
    let M = g.M.Ordered.monoid_of c.args.m.now in
    record {
      value = c.in-Some.value;
      there = sym c.cell_of.ensures ∙ c.in-Some.is;
      is = ap (λ index. M.product index c.in-Some.value) (sym c.index.ensures) ∙ c.absorbs.ensures is ∙ c.index.ensures;
    }
