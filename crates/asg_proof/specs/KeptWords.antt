-- What is kept of phases that are written as words, and how documents of one session go on.
use Rattle.std.specs.Prelude.{◌≡◌, ℕ, ◌++◌, ◌≤◌, List, [], ◌∷◌, length, map, take, Option, Some, None}
use Rattle.asg_model.specs.declared.objectives.Objective.{Objective}
use Rattle.asg_model.specs.declared.parts.Cost.{Cost}
use Rattle.asg_model.specs.Problem.{Problem}
use Rattle.asg_model.specs.Shapes.{square_side}
use Rattle.asg_order.specs.declared.words.Word.{Word}
use Rattle.asg_order.specs.Monoid.{Monoid}
use Rattle.asg_monoids.specs.ObjectiveMonoids.{Fact, InMonoidOf}
use Rattle.asg_proof.specs.KeptPhases.{AreKept}
use Rattle.asg_proof.specs.PhaseProofs.{IsRaised}
use Rattle.asg_proof.specs.Phases.{PhaseOf, worded}
use Rattle.asg_square.specs.Cells.{square_cell}

-- of phases written as words the longest prefix that is admitted from the square of the instance is this
pub record KeepsFold {V : Type 0} (M : Monoid V) (difference : V → V → V) (word_of : V → Word)
    (enter : Cost → V) (Y : Problem) (words kept : List (PhaseOf Word)) : Type 0 where
  pub phases : List (PhaseOf V)
  pub written : map (worded word_of) phases ≡ words
  pub count : ℕ
  pub admitted :
      AreKept M difference (square_side Y) phases (square_cell Y M.unit enter) count
  pub kept_are : kept ≡ take count words

-- the same as a fact of a monoid
abbrev pub KeepsFact : Problem → List (PhaseOf Word) → List (PhaseOf Word) → Fact
KeepsFact Y words kept V M difference word_of enter =
    KeepsFold M difference word_of enter Y words kept

-- the same in the objective's monoid; `balanced` and `lex` have no phases
abbrev pub KeepsPhases : Objective → Problem → List (PhaseOf Word) → List (PhaseOf Word) → Type 0
KeepsPhases objective Y words kept = InMonoidOf objective (KeepsFact Y words kept)

-- live cells were raised or removed, as a fact of a monoid
abbrev pub RaisedFact : Problem → Problem → Fact
RaisedFact X Y V M difference word_of enter = IsRaised M enter X Y

-- the same as the objective's monoid has it
abbrev pub IsRaisedFor : Objective → Problem → Problem → Type 0
IsRaisedFor objective X Y = InMonoidOf objective (RaisedFact X Y)

-- what the next document must go on from: the phases that are kept so far of the last document, if that has
-- a best choice, and how many edits came since
pub record Standing : Type 0 where
  pub kept : Option (List (PhaseOf Word))
  pub edits : List (Problem × Problem)

-- after an edit: of the phases kept so far the longest prefix that is admitted is kept
abbrev pub KeepsOn : Objective → Problem → Option (List (PhaseOf Word))
    → Option (List (PhaseOf Word)) → Type 0
KeepsOn objective Y None left = left ≡ None
KeepsOn objective Y (Some words) left =
    (kept : List (PhaseOf Word)) × KeepsPhases objective Y words kept × (left ≡ Some kept)

-- phases that go on from those that were kept: where no edit came none is added, and where one came that
-- only raised or removed cells, at most one
abbrev pub AddsFew : Objective → List (Problem × Problem) → List (PhaseOf Word) → Type 0
AddsFew objective [] more = length more ≡ 0
AddsFew objective (step ∷ []) more = IsRaisedFor objective step.0 step.1 → length more ≤ 1
AddsFew objective (step ∷ other ∷ rest) more = Unit {0}

abbrev pub GoesOnFrom : Objective → List (Problem × Problem) → Option (List (PhaseOf Word))
    → List (PhaseOf Word) → Type 0
GoesOnFrom objective edits None words = Unit {0}
GoesOnFrom objective edits (Some kept) words =
    (more : List (PhaseOf Word)) × (words ≡ kept ++ more) × AddsFew objective edits more

abbrev pub GoesOn : Objective → Standing → List (PhaseOf Word) → Type 0
GoesOn objective standing words = GoesOnFrom objective standing.edits standing.kept words
