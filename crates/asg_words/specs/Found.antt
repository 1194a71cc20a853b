-- What is found in the words of a command line.
use Rattle.std.specs.Prelude.{ℕ, Bool, List, Option}

-- the command's name, the words after it, the values of the options, and whether the flag stands
pub record Found : Type 0 where
  pub command : Option (List ℕ)
  pub words : List (List ℕ)
  pub format : Option (List ℕ)
  pub place : Option (List ℕ)
  pub each : Option (List ℕ)
  pub count : Option (List ℕ)
  pub script : Option (List ℕ)
  pub brief : Bool
