-- What the refusal of a script tells.
use Rattle.std.specs.Prelude.{ℕ, List, [], ◌∷◌, Option, Some, None}
use Rattle.asg_text.specs.declared.tried_scripts.ScriptRefused.{ScriptRefused}
use Rattle.asg_text.specs.declared.tried_scripts.ScriptRefused.TheVariants.{At, NoMemory}

-- the number and the line that it tells; want of memory tells none
abbrev pub numbers_of : ScriptRefused → Option (List ℕ)
numbers_of (At number line) = Some (number ∷ line ∷ [])
numbers_of NoMemory = None
