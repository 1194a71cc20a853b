use Rattle.asg_tokens.proofs.Common.{◌+◌, ◌-◌, ◌≤◌, length, tokens, AreRead}
use Rattle.asg_tokens.proofs.tables.fill_costs.Given as goal

abbrev pub invariant-parts : goal.invariant-parts
invariant-parts l = record {
  within : l.place ≤ length l.firsts.items;
  few : length l.firsts.items ≤ l.room;
  read : AreRead (l.cells.header + 1) (tokens l.cells.text.now) (tokens l.rest) l.place l.firsts.items l.seconds.items;
}

abbrev pub decreases-parts : goal.decreases-parts
decreases-parts l = l.room - l.place
