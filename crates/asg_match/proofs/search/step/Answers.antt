use Rattle.asg_match.proofs.Common.{sym, subst, arith, length-le_from_below}
use Rattle.asg_match.proofs.SearchLemmas.{IsSearch-more}
use Rattle.asg_match.proofs.search.step.Goals as goal

pub overflow_cast-last : goal.overflow_cast-last
overflow_cast-last g c =
    let grown = c.requires.search.tree_grown.grown in
    let few = length-le_from_below _ _ grown.apart grown.below in
    omega (arith, few, c.side-side.ensures.side, c.side-side.type_inv, c.len-last.ensures, c.args.tree.now.rows.ok.0)

pub exit_from-requires-clause-place_within : goal.exit_from-requires-clause-place_within
exit_from-requires-clause-place_within g c =
    omega (arith, c.reach.ensures.longer c.if-reach.false, c.len-last.ensures, c.args.tree.now.rows.ok.0)

pub returns-then-reach-clause-found : goal.returns-then-reach-clause-found
returns-then-reach-clause-found g c =
    let further = c.reach.ensures.extends in
    record {
      within = omega (arith, further.longer, c.requires.place_within);
      open_cell = record {
        cell = subst (λ r. g.A.Allowed.allows c.args.allowed.now r c.args.column) (sym (further.rows c.args.place c.requires.place_within)) c.requires.cell;
        free = c.reach.ensures.yes c.if-reach.true;
      };
    }

pub returns-clause-longer : goal.returns-clause-longer
returns-clause-longer g c = λ _. c.reach.ensures.longer c.if-reach.false

pub returns-then-reach-clause-search : goal.returns-then-reach-clause-search
returns-then-reach-clause-search g c =
    IsSearch-more (g.A.Allowed.allows c.args.allowed.now) c.args.matching.now c.args.tree.now c.reach.new.tree c.args.place c.args.column c.requires.search c.requires.cell c.reach.ensures.grown c.reach.ensures.extends c.reach.ensures.only c.requires.place_within

pub returns-clause-search : goal.returns-clause-search
returns-clause-search g c =
    IsSearch-more (g.A.Allowed.allows c.args.allowed.now) c.args.matching.now c.args.tree.now c.reach.new.tree c.args.place c.args.column c.requires.search c.requires.cell c.reach.ensures.grown c.reach.ensures.extends c.reach.ensures.only c.requires.place_within
