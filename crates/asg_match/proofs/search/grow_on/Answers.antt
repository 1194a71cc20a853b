use Rattle.asg_match.proofs.Common.{◌<◌, length, get_or, subst, arith, below_more, IsClosed, parents_in, length-le_from_below}
use Rattle.asg_match.proofs.SearchLemmas.{Extends-join, IsReached-later}
use Rattle.asg_match.proofs.search.grow_on.Goals as goal

-- a tree has at most as many rows as the side
pub returns-clause-none : goal.returns-clause-none
returns-clause-none g c =
    λ k within.
    let grown = c.loop-place.invariant.search.tree_grown.grown in
    let few = length-le_from_below _ _ grown.apart grown.below in
    c.loop-place.invariant.closed k (omega (arith, few))

pub returns-in-Some-clause-extends : goal.returns-in-Some-clause-extends
returns-in-Some-clause-extends g c = Extends-join _ _ _ c.loop-place.invariant.extends c.scan.ensures.extends

pub loop-place-preserved : goal.loop-place-preserved
loop-place-preserved g c =
    let old = c.loop-place.tree in
    let new = c.scan.new.tree in
    let allows = g.A.Allowed.allows c.args.allowed.now in
    let further = c.scan.ensures.extends in
    let here : c.loop-place.place < length old.rows.items = omega (arith, old.rows.ok.0) in
    record {
      search = c.scan.ensures.search;
      extends = Extends-join _ _ _ c.loop-place.invariant.extends further;
      closed = below_more (λ k. IsClosed allows (parents_in new) (get_or new.rows.items k 0)) _
          (λ k h.
          let there : k < length old.rows.items = omega (arith, here) in
          λ d cell. IsReached-later _ _ further d (c.loop-place.invariant.closed k h d (subst (λ r. allows r d) (further.rows k there) cell)))
          (λ d cell. c.in_default.ensures.none d (subst (λ r. allows r d) (further.rows c.loop-place.place here) cell));
    }
