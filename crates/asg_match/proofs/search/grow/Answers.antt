use Rattle.asg_match.proofs.Common.{refl, arith}
use Rattle.asg_match.proofs.search.grow.Goals as goal

pub exit_from-requires-clause-grown : goal.exit_from-requires-clause-grown
exit_from-requires-clause-grown g c = c.requires.search.tree_grown

pub exit_from-requires-clause-place_within : goal.exit_from-requires-clause-place_within
exit_from-requires-clause-place_within g c = c.requires.search.tree_grown.grown.rooted

pub returns-in-Some-clause-extends : goal.returns-in-Some-clause-extends
returns-in-Some-clause-extends g c =
    record {
      rows = λ k h. refl;
      longer = omega arith;
      parents = λ d p h. h;
      room = refl;
      side = refl;
      words = refl;
    }
