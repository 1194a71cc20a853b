-- The faults of scripts.
use Rattle.std.specs.Prelude.{ℕ, List, [], ◌∷◌, Option, Some, None}
use Rattle.asg_text.specs.declared.script_refusals.ScriptRefusal.{ScriptRefusal}
use Rattle.asg_text.specs.declared.script_refusals.ScriptRefusal.TheVariants as refusals

-- what is wrong with a script, at a line; lines count from 1
pub data ScriptFault : Type 0 where
  -- a line of no form
  BadScriptLine : (line : ℕ) → ScriptFault
  -- a line beyond those that a script may have
  TooManyEdits : (line : ℕ) → ScriptFault
  -- a cost below -10^9 or above 10^9
  CostRange : (line : ℕ) → ScriptFault

-- the number of a fault, and its line
abbrev pub script_refusal_numbers : ScriptFault → List ℕ
script_refusal_numbers (BadScriptLine line) = 1 ∷ line ∷ []
script_refusal_numbers (TooManyEdits line) = 2 ∷ line ∷ []
script_refusal_numbers (CostRange line) = 3 ∷ line ∷ []

-- the fault for which a script is refused; want of memory is none
abbrev pub script_fault_of : ScriptRefusal → Option ScriptFault
script_fault_of (refusals.BadScriptLine line) = Some (BadScriptLine line)
script_fault_of (refusals.TooManyEdits line) = Some (TooManyEdits line)
script_fault_of (refusals.CostRange line) = Some (CostRange line)
script_fault_of refusals.NoMemory = None
