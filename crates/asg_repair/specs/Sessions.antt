-- What contracts see of a session, and what it keeps.
use Rattle.std.specs.Prelude.{◌≡◌, ℕ, ◌≤◌, ◌<◌, Bool, true, false, List, length, take, replicate, Option, None}
use Rattle.asg_admit.specs.declared.reduced.Reduced.{Reduced}
use Rattle.asg_growth.specs.Growing.{IsAbsorbed}
use Rattle.asg_algebra.specs.Solved.{unmatched}
use Rattle.asg_match.specs.Matching.{IsMatching, AllAllowed}
use Rattle.asg_model.specs.declared.bands.Band.TheVariants.{Whole}
use Rattle.asg_model.specs.declared.objectives.Objective.{Objective}
use Rattle.asg_model.specs.declared.parts.Cost.{Cost}
use Rattle.asg_model.specs.HallSet.{IsHall}
use Rattle.asg_model.specs.Problem.{Problem}
use Rattle.asg_model.specs.Shapes.{square_side}
use Rattle.asg_model.specs.ValidChoice.{IsValid}
use Rattle.asg_order.specs.Bridge.{choice_fold}
use Rattle.asg_order.specs.Monoid.{Monoid}
use Rattle.asg_proof.specs.PhaseProofs.{ProvesIndex}
use Rattle.asg_proof.specs.Phases.{PhaseOf, AreAdmittedPhases, after_phases, index_of}
use Rattle.asg_square.specs.Cells.{square_cell}
use Rattle.asg_square.specs.Grid.{cell_at}
use Rattle.asg_repair.specs.declared.answers.Answered.{Answered}
use Rattle.asg_repair.specs.declared.answers.Answered.TheVariants.{Best, Nothing}
use Rattle.asg_repair.specs.declared.answers.AnswerRoom.{AnswerRoom}
use Rattle.asg_repair.specs.declared.answers.Given.{Given}
use Rattle.asg_repair.specs.declared.answers.Given.TheVariants.{Chosen, Stuck, Open}
use Rattle.asg_kept_phases.specs.declared.phase_chains.PhaseChain.{PhaseChain}
use Rattle.asg_repair.specs.declared.works.Work.{Work}
use Rattle.asg_kept_phases.specs.Led.{IsLed, MaySolve}
use Rattle.asg_kept_phases.specs.NamedPlaces.{HasColumnsOf}
use Rattle.asg_kept_phases.specs.PhaseChains.{phases_in, IsPhaseChain}

-- what contracts see of a session: the kind of its objective, its instance, the phases so far, the
-- columns that rows are sure to keep, and what was answered since it was opened or edited
pub record SessionOf (K V : Type 0) : Type 0 where
  pub kind : K
  pub instance : Problem
  pub phases : List (PhaseOf V)
  pub columns : List (Option ℕ)
  pub given : Given
  pub choice : List (Option ℕ)
  pub hall : List ℕ

-- the columns that rows are sure to keep: none after phases were cut
abbrev pub sure_columns : Bool → List (Option ℕ) → List (Option ℕ)
sure_columns true matching = replicate (length matching) None
sure_columns false matching = matching

-- what an answer leaves
abbrev pub given_of : Answered → Given
given_of Best = Chosen
given_of Nothing = Stuck

-- the columns of the rows are a matching in absorbed cells
pub record AreAbsorbed {V : Type 0} (M : Monoid V) (reduced : Reduced V) (matching : List (Option ℕ))
    : Type 0 where
  pub side : length matching ≡ reduced.now.side
  pub columns : IsMatching matching
  pub absorbed : AllAllowed (IsAbsorbed M reduced.index (cell_at reduced.now)) matching

-- matched cells are absorbed on the square of an instance after phases
abbrev pub AreAbsorbedAfter : {V : Type 0} → Monoid V → (V → V → V) → (Cost → V) → Problem
    → List (PhaseOf V) → List (Option ℕ) → Type 0
AreAbsorbedAfter M difference enter X phases matching =
    AllAllowed
    (IsAbsorbed M (index_of M phases) (after_phases M difference phases (square_cell X M.unit enter)))
    matching

-- phases are admitted in turn from the square of an instance
abbrev pub AreAdmittedOn : {V : Type 0} → Monoid V → (V → V → V) → (Cost → V) → Problem
    → List (PhaseOf V) → Type 0
AreAdmittedOn M difference enter X phases =
    AreAdmittedPhases M difference (square_side X) phases (square_cell X M.unit enter)

-- a choice is valid, phases prove its fold, and every row has a column
pub record IsBestBy {V : Type 0} (M : Monoid V) (difference : V → V → V) (enter : Cost → V)
    (X : Problem) (phases : List (PhaseOf V)) (columns choice : List (Option ℕ)) : Type 0 where
  pub valid : IsValid X choice
  pub proof : ProvesIndex M difference enter X phases (choice_fold M enter X choice)
  pub all : unmatched columns ≡ 0

-- what was answered is true: a best choice, or a Hall set of the whole instance
abbrev pub IsGiven : {V : Type 0} → Monoid V → (V → V → V) → (Cost → V) → Problem
    → List (PhaseOf V) → List (Option ℕ) → Given → List (Option ℕ) → List ℕ → Type 0
IsGiven M difference enter X phases columns Open choice hall = Unit {0}
IsGiven M difference enter X phases columns Chosen choice hall =
    IsBestBy M difference enter X phases columns choice
IsGiven M difference enter X phases columns Stuck choice hall = IsHall X Whole hall

-- the ids of the Hall set that was written last
abbrev pub ids_in : AnswerRoom → List ℕ
ids_in room = take room.count room.ids.items

-- there is room for every answer: a choice over the rows, and the ids of 1,001 rows
pub record IsAnswerRoom (X : Problem) (room : AnswerRoom) : Type 0 where
  pub choice_rows : length room.choice ≡ length X.rows
  pub ids_room : 1001 ≤ length room.ids.items

-- what a session solves in fits the square of the instance
pub record IsSized {V : Type 0} (X : Problem) (work : Work V) : Type 0 where
  pub square : HasColumnsOf X work.reduced.now
  pub matching_side : length work.matching ≡ square_side X
  pub is_matching : IsMatching work.matching
  pub bench_side : work.bench.side ≡ square_side X
  pub columns_side : length work.columns.items ≡ square_side X
  pub steps_room : square_side X < length work.room.items

-- the square, its matching and the phases belong together: where it isn't led by them the way to
-- the last one is told, and where no phase was cut the matched cells are absorbed after them
pub record AreTogether {V : Type 0} (M : Monoid V) (difference : V → V → V) (enter : Cost → V)
    (X : Problem) (work : Work V) (phases : PhaseChain V) (led cut : Bool) : Type 0 where
  pub admitted : AreAdmittedPhases M difference (square_side X) (phases_in phases)
      (square_cell X M.unit enter)
  pub is_led : led ≡ true → IsLed M difference enter X (phases_in phases) work.reduced
  pub is_told : led ≡ false → phases.is_told ≡ true
  pub is_whole : led ≡ true → cut ≡ false
  pub absorbed : cut ≡ false
      → AreAbsorbedAfter M difference enter X (phases_in phases) work.matching

-- the parts of a session: what it solves in, its phases, whether they led to the square, whether
-- one was cut, and the room of its answers
pub record Parts (V : Type 0) : Type 0 where
  pub work : Work V
  pub phases : PhaseChain V
  pub led : Bool
  pub was_cut : Bool
  pub room : AnswerRoom

abbrev pub parts_of : {V : Type 0} → Work V → PhaseChain V → Bool → Bool → AnswerRoom → Parts V
parts_of work phases led was_cut room =
    record { work = work; phases = phases; led = led; was_cut = was_cut; room = room }

-- what a session keeps
pub record IsSession {V : Type 0} (M : Monoid V) (difference : V → V → V) (enter : Cost → V)
    (objective : Objective) (reach : ℕ) (X : Problem) (parts : Parts V) : Type 0 where
  pub may_solve : MaySolve M enter objective reach X
  pub sized : IsSized X parts.work
  pub chain : IsPhaseChain parts.phases
  pub region_side : parts.phases.region.side ≡ square_side X
  pub together : AreTogether M difference enter X parts.work parts.phases parts.led parts.was_cut
  pub spare : parts.room.given ≡ Open → square_side X ≤ parts.phases.region.spare
  pub answer_room : IsAnswerRoom X parts.room
  pub given_is : IsGiven M difference enter X (phases_in parts.phases)
      (sure_columns parts.was_cut parts.work.matching) parts.room.given parts.room.choice
      (ids_in parts.room)
