-- What contracts see of an editor.
use Rattle.std.specs.Prelude.{◌≡◌, ℕ, ◌+◌, ◌^◌, ◌≤◌, ◌++◌, Bool, true, false, List, [], length, map}
use Rattle.asg_algebra.specs.Solved.{unmatched}
use Rattle.asg_model.specs.declared.objectives.Objective.{Objective}
use Rattle.asg_model.specs.declared.objectives.Objective.TheVariants.{TimeCost}
use Rattle.asg_model.specs.declared.edits.Edit.{Edit}
use Rattle.asg_model.specs.Edits.{edited}
use Rattle.asg_model.specs.Problem.{Problem}
use Rattle.asg_model.specs.Shapes.{square_side}
use Rattle.asg_monoids.specs.BoundedSums.{plain_word}
use Rattle.asg_monoids.specs.Grades.{graded_word}
use Rattle.asg_order.specs.declared.words.Word.{Word}
use Rattle.asg_proof.specs.KeptWords.{IsRaisedFor, KeepsPhases}
use Rattle.asg_proof.specs.Phases.{PhaseOf, worded}
use Rattle.asg_repair.specs.Sessions.{SessionOf}
use Rattle.asg_sum_edits.specs.Sessions.{SumsOf}
use Rattle.asg_edits.specs.declared.sessions.Sessions.{Sessions}
use Rattle.asg_edits.specs.declared.sessions.Sessions.TheVariants.{Sums, Peaks, Times, Duals}

-- the objective, the instance as edited, the phases so far as words, and how many rows of its
-- square aren't sure to keep a column
pub record EditorOf : Type 0 where
  pub objective : Objective
  pub instance : Problem
  pub phases : List (PhaseOf Word)
  pub unsure : ℕ

-- a session seen so, by the words of its monoid's values
abbrev pub seen_by : {K V : Type 0} → Objective → (V → Word) → SessionOf K V → EditorOf
seen_by objective word_of session = record {
  objective = objective;
  instance = session.instance;
  phases = map (worded word_of) session.phases;
  unsure = unmatched session.columns;
}

-- more than how many rows of a square are unsure of a column
abbrev pub most_unsure : ℕ
most_unsure = 2 ^ 32

-- a session of sums by dual variables seen so: it has no phases, and what stands behind it may have
-- one for each row of the square and still be unsure of any number
abbrev pub seen_by_duals : SumsOf → EditorOf
seen_by_duals session = record {
  objective = session.objective;
  instance = session.instance;
  phases = [];
  unsure = square_side session.instance + most_unsure;
}

-- the session of an objective's kind, seen so
abbrev pub editor_of : Sessions → EditorOf
editor_of (Sums session) = seen_by session.kind.objective plain_word session
editor_of (Peaks session) = seen_by session.kind.objective plain_word session
editor_of (Times session) = seen_by TimeCost graded_word session
editor_of (Duals session) = seen_by_duals session

-- the session has phases
abbrev pub has_phases : Sessions → Bool
has_phases (Duals session) = false
has_phases _ = true

-- an edit was carried out: of the phases the longest prefix is kept that is admitted from the square
-- of the edited instance; and where each row was sure of its column, and live cells were raised or
-- removed, at most one isn't then
pub record Edits (old : EditorOf) (edit : Edit) (new : EditorOf) : Type 0 where
  pub objective : new.objective ≡ old.objective
  pub instance : new.instance ≡ edited old.instance edit
  pub kept : KeepsPhases old.objective new.instance old.phases new.phases
  pub few : IsRaisedFor old.objective old.instance new.instance → old.unsure ≡ 0 → new.unsure ≤ 1

-- the instance was answered: to the phases at most one was added for each row that wasn't sure of
-- its column
pub record GoesTo (old new : EditorOf) : Type 0 where
  pub objective : new.objective ≡ old.objective
  pub instance : new.instance ≡ old.instance
  pub more : List (PhaseOf Word)
  pub phases : new.phases ≡ old.phases ++ more
  pub few : length more ≤ old.unsure

-- the session stands as before, and phases were added so that as many fewer may still be
pub record SettlesTo (old new : EditorOf) : Type 0 where
  pub objective : new.objective ≡ old.objective
  pub instance : new.instance ≡ old.instance
  pub more : List (PhaseOf Word)
  pub phases : new.phases ≡ old.phases ++ more
  pub few : length more + new.unsure ≤ old.unsure
