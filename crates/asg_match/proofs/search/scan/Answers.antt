use Rattle.asg_match.proofs.Common.{◌/◌, sym, subst, ⊎_elim, arith, cases_lt}
use Rattle.asg_match.proofs.SearchLemmas.{Extends-join, IsReached-later}
use Rattle.asg_match.proofs.search.scan.Goals as goal

pub overflow_cast-number-end : goal.overflow_cast-number-end
overflow_cast-number-end g c =
    omega (arith, c.requires.search.tree_grown.unseen.count, c.len-number-end.ensures, c.args.tree.now.unseen.ok.0, c.requires.side_fits)

pub returns-in-Some-clause-extends : goal.returns-in-Some-clause-extends
returns-in-Some-clause-extends g c = Extends-join _ _ _ c.loop-number.invariant.extends c.scan_word.ensures.extends

pub loop-number-preserved : goal.loop-number-preserved
loop-number-preserved g c =
    let inv = c.loop-number.invariant in
    let first = inv.extends.rows c.args.place c.requires.place_within in
    record {
      search = c.scan_word.ensures.search;
      extends = Extends-join _ _ _ inv.extends c.scan_word.ensures.extends;
      end = inv.end;
      closed = λ d h cell.
          ⊎_elim
          (λ earlier. IsReached-later _ _ c.scan_word.ensures.extends d (inv.closed d earlier cell))
          (λ here. c.in_default.ensures.none d (omega arith) (subst (λ r. g.A.Allowed.allows c.args.allowed.now r d) (sym first) cell))
          (cases_lt (d / 64) c.loop-number.number);
    }

pub returns-clause-none : goal.returns-clause-none
returns-clause-none g c d cell =
    let inv = c.loop-number.invariant in
    let below = (g.met.A.Allowed.within c.args.allowed.now _ d cell).1 in
    inv.closed d (omega (arith, below, inv.end, c.requires.search.tree_grown.unseen.count, c.requires.side)) cell
