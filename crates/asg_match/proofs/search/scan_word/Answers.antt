use Rattle.asg_match.proofs.Common.{sym, refl, ◌∙◌, subst, arith, get_or_read, length-le_from_below}
use Rattle.asg_match.proofs.SearchLemmas.{Extends-join}
use Rattle.asg_match.proofs.search.scan_word.Goals as goal

pub step-requires-clause-cell : goal.step-requires-clause-cell
step-requires-clause-cell g c =
    let inv = c.columns.invariant in
    let first = inv.extends.rows c.args.place c.requires.place_within in
    let row = get_or_read c.args.tree.now.rows.items c.args.place _ c.requires.place_within c.index-row.ensures 0 in
    subst (λ r. g.A.Allowed.allows c.args.allowed.now r c.in-Some.column) (row ∙ sym first) c.in-Some.ensures.there

pub columns-preserved : goal.columns-preserved
columns-preserved g c =
    record {
      search = c.step.ensures.search;
      extends = Extends-join _ _ _ c.columns.invariant.extends c.step.ensures.extends;
    }

pub returns-in-Some-step-clause-extends : goal.returns-in-Some-step-clause-extends
returns-in-Some-step-clause-extends g c = Extends-join _ _ _ c.columns.invariant.extends c.step.ensures.extends

pub columns-smaller : goal.columns-smaller
columns-smaller g c =
    let grown = c.step.ensures.search.tree_grown.grown in
    let few = length-le_from_below _ _ grown.apart grown.below in
    let longer = c.in_default-step.ensures.longer refl in
    omega (arith, few, longer)
