-- Lists, options and phases of numbers that are kept as they are.
use Rattle.std.specs.Prelude.{◌≡◌, ℕ, List, Option, Some, None, map, refl}
use Rattle.std.specs.Option.{option_map}
use Rattle.asg_proof.specs.Phases.{PhaseOf}
use Rattle.asg_phase_totals.specs.SumNumbers.{numbered}
use mathlib.Core.List.{map-id}
use mathlib.Core.Path.{sym}

-- a list mapped by what changes nothing is the list
pub same_list : (xs : List ℕ) → xs ≡ map (λ x. x) xs
same_list xs = sym (map-id xs)

-- so is an option
pub same_option : (x : Option ℕ) → x ≡ option_map (λ x. x) x
same_option (Some x) = refl
same_option None = refl

-- so is a list of options
pub same_cells : (xs : List (Option ℕ)) → xs ≡ map (λ x. x) xs
same_cells xs = sym (map-id xs)

-- and so are phases
pub same_phases : (ps : List (PhaseOf ℕ)) → ps ≡ map (numbered (λ xs. xs)) ps
same_phases ps = sym (map-id ps)
