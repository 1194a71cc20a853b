use Rattle.asg_text.proofs.Common.{◌≡◌, ◌+◌, ◌≤◌, map, length, lines, numbered_from, most_script_lines, fields}
use Rattle.asg_text.proofs.ScriptLemmas.{AreTaken}
use Rattle.asg_text.proofs.scripts.read_script.Given as goal

-- so many lines are read, and those that aren't blank are kept
abbrev pub invariant-loop-first : goal.invariant-loop-first
invariant-loop-first l = record {
  within : l.number + length (lines l.rest) ≡ length (lines l.bytes);
  few : length l.script.items ≤ most_script_lines;
  taken : AreTaken (numbered_from 1 (map fields (lines l.bytes))) l.number (map fields (lines l.rest)) l.script.items;
}

abbrev pub decreases-loop-first : goal.decreases-loop-first
decreases-loop-first l = length (lines l.rest)
