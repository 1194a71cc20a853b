-- What the lines of each script keep.
use Rattle.std.specs.Prelude.{◌≡◌, ℕ, ◌≤◌, true, List, length, All}
use Rattle.asg_text.specs.declared.script_lines.Line.{Line}
use Rattle.asg_text.specs.ScriptLines.{is_line_in_range}
use Rattle.asg_text.specs.Scripts.{most_script_lines}

-- no more lines than a script may have, each cost in range
pub record AreLinesOfScript (script : List (ℕ × Line)) : Type 0 where
  pub few : length script ≤ most_script_lines
  pub in_range : All (λ line. is_line_in_range line.1 ≡ true) script
