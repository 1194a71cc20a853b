use Rattle.asg_rank.proofs.Common.{◌≡◌, length, All}
use Rattle.asg_rank.proofs.opening.choices_for.Given as goal

-- so many choices over the rows
abbrev pub invariant-choices : goal.invariant-choices
invariant-choices l = record {
  count : length l.choices.items ≡ l.counter;
  over : All (λ f. length f ≡ l.rows) l.choices.items;
}
