use Rattle.asg_lex.specs.Guesses.{IsOver}
use Rattle.asg_lex.proofs.guesses.near_limit.Given as goal

-- the search stays over the square
abbrev pub invariant-loop : goal.invariant-loop
invariant-loop l =
    record {
      over : IsOver l.square.side l.search;
    }
