use Rattle.asg_text.proofs.Common.{map, lines, numbered_from, fields}
use Rattle.asg_text.specs.Scripts.{reading_of_script}
use Rattle.asg_text.proofs.ScriptLaw.{lines_keep}
use Rattle.asg_text.proofs.laws.script_law.Goals as goal

pub returns : goal.returns
unfolding reading_of_script
returns c = λ bytes script is. lines_keep (numbered_from 1 (map fields (lines bytes))) script is
