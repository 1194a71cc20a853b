-- What a proof of each kind must hold for a choice, and which objectives take the kind.
use Rattle.std.specs.Prelude.{ℕ, Bool, true, false, List, Option}
use Rattle.asg_model.specs.declared.objectives.Objective.{Objective}
use Rattle.asg_model.specs.declared.objectives.Objective.TheVariants.{Balanced, Lex}
use Rattle.asg_model.specs.Problem.{Problem}
use Rattle.asg_model.specs.Values.{choice_value}
use Rattle.asg_model.specs.Objectives.{is_algebraic, is_bottleneck}
use Rattle.asg_proof.specs.declared.outcomes.Proof.{Proof}
use Rattle.asg_proof.specs.declared.outcomes.Proof.TheVariants.{Below, Levels, Phases, Windows}
use Rattle.asg_proof.specs.FoldProofs.{ProvesPhases}
use Rattle.asg_proof.specs.Levels.{ProvesRanks}
use Rattle.asg_proof.specs.Threshold.{ProvesBelow}
use Rattle.asg_proof.specs.Windows.{ProvesWindows}

-- the objective whose values are spreads
abbrev pub is_spread_objective : Objective → Bool
is_spread_objective Balanced = true
is_spread_objective _ = false

-- the objective whose values are sorted lists
abbrev pub is_rank_objective : Objective → Bool
is_rank_objective Lex = true
is_rank_objective _ = false

-- the objective takes proofs of this kind: phases for the algebraic objectives, `below` for the two
-- bottleneck objectives, windows for `balanced`, levels for `lex`
abbrev pub takes : Objective → Proof → Bool
takes objective (Phases words) = is_algebraic objective
takes objective (Below rows) = is_bottleneck objective
takes objective (Windows windows) = is_spread_objective objective
takes objective (Levels perm levels) = is_rank_objective objective

-- the proof proves that no valid choice is better than this one: phases prove its fold, `below` is
-- a threshold proof of its value, windows prove its spread, and levels prove it by an assignment
abbrev pub Proves : Objective → Problem → List (Option ℕ) → Proof → Type 0
Proves objective X choice (Phases words) = ProvesPhases objective X choice words
Proves objective X choice (Below rows) =
    ProvesBelow objective X (choice_value objective X choice) rows
Proves objective X choice (Windows windows) =
    ProvesWindows objective X (choice_value objective X choice) windows
Proves objective X choice (Levels perm levels) = ProvesRanks objective X choice perm levels
