-- What is kept from cost to cost.
use Rattle.std.specs.Prelude.{◌≡◌, ℕ, ℤ, ◌≤◌, List, [], ◌∷◌, ◌++◌, length, All}
use Rattle.asg_match.specs.Matching.{IsPerfect}
use Rattle.asg_model.specs.Problem.{Problem}
use Rattle.asg_model.specs.Shapes.{square_side}
use Rattle.asg_proof.specs.declared.levels.Level.{Level}
use Rattle.asg_proof.specs.LevelLists.{AreLevelParts}
use Rattle.asg_proof.specs.PromisedProofs.{IsUnitLevel}
use Rattle.asg_lex.specs.declared.level_work.Work.{Work}
use Rattle.asg_live_cells.specs.declared.live_cells.Entry.{Entry}
use Rattle.asg_lex.specs.declared.runs.Run.{Run}
use Rattle.asg_live_cells.specs.Marks.{IsMarked}
use Rattle.asg_lex.specs.LevelWork.{AreSized}
use Rattle.asg_live_cells.specs.LiveCells.{IsPlaceOf}
use Rattle.asg_lex.specs.Runs.{AreMarksOf}

-- the costs from a bound on, whose entries stand from a place on, were gone through
pub record IsRun (X : Problem) (limit : ℕ) (entries : List Entry) (bound to : ℕ) (run : Run) : Type 0 where
  pub reach : bound ≤ limit
  pub upper : IsPlaceOf entries bound to
  pub marks : AreMarksOf X (square_side X) bound run.levels.items run.work.marks.bits
  pub parts : AreLevelParts run.levels.items
  pub units : All (IsUnitLevel (square_side X)) run.levels.items
  pub sized : AreSized (square_side X) run.work
  pub matching_side : length run.matching ≡ square_side X
  pub tree_side : run.tree.side ≡ square_side X
  pub perfect : IsPerfect (IsMarked run.work.marks.bits run.work.marks.side) (square_side X) run.matching

-- a level of this cost with the phases of the work was added, and nothing else of the work changed
-- but the phases
pub record AddsLevel (before after : Work) (levels longer : List Level) (cost : ℤ) : Type 0 where
  pub level : Level
  pub pushed : longer ≡ levels ++ level ∷ []
  pub cost_is : level.cost ≡ cost
  pub phases : level.phases ≡ before.phases.items
  pub count : level.count ≡ length before.phases.items
  pub marks : after.marks ≡ before.marks
  pub zeros : after.zeros ≡ before.zeros
  pub ones : after.ones ≡ before.ones
  pub ins : after.ins ≡ before.ins
  pub outs : after.outs ≡ before.outs

-- all costs were gone through
abbrev pub IsDone : Problem → ℕ → List Entry → Run → Type 0
IsDone X limit entries run = (bound : ℕ) × IsRun X limit entries bound 0 run
