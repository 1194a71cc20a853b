use Rattle.asg_tokens.proofs.Common.{◌≡◌, ◌+◌, length, tokens, AreRead}
use Rattle.asg_tokens.proofs.tables.fill_upto.Given as goal

abbrev pub invariant-loop-place : goal.invariant-loop-place
invariant-loop-place l = record {
  room : length l.firsts.items ≡ length l.fn.firsts.items;
  read : AreRead (l.cells.header + 1) (tokens l.cells.text.now) (tokens l.rest) l.place l.firsts.items l.seconds.items;
}
