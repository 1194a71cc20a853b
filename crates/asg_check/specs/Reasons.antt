-- Why a document doesn't certify: what stands against it, and the first reason that does.
use Rattle.std.specs.Prelude.{◌≡◌, ◌≢◌, ℕ, ℤ, false, List, Option, All}
use Rattle.asg_model.specs.declared.bands.Band.TheVariants.{Whole}
use Rattle.asg_model.specs.declared.objectives.Objective.{Objective}
use Rattle.asg_model.specs.HallSet.{IsHall}
use Rattle.asg_model.specs.Problem.{Problem}
use Rattle.asg_proof.specs.Threshold.{ProvesBelow}
use Rattle.asg_proof.specs.declared.outcomes.Proof.TheVariants.{Below, Levels, Phases, Windows}
use Rattle.asg_proof.specs.Windows.{IsHallWindow}
use Rattle.asg_doc.specs.declared.documents.Claim.{Claim}
use Rattle.asg_doc.specs.declared.documents.Claim.TheVariants.{Best, Nothing, Ranked}
use Rattle.asg_doc.specs.declared.documents.Document.{Document}
use Rattle.asg_check.specs.declared.document_forms.Form.{Form}
use Rattle.asg_verdicts.specs.declared.verdicts.Reason.{Reason}
use Rattle.asg_verdicts.specs.declared.verdicts.Reason.TheVariants.{OtherObjective, WrongForm, NotValid, WrongValue, Repeated, OutOfOrder, NotHall, WindowGap, BadPhase, IndexDiffers, BadLevel, BadNode, BetterLeft}
use Rattle.asg_verdicts.specs.declared.verdicts.Verdict.TheVariants.{No}
use Rattle.asg_verdicts.specs.Verdicts.{Tells, reasons_in_order}
use Rattle.asg_check.specs.DocumentForm.{has_form}
use Rattle.asg_verdicts.specs.PhaseReasons.{AreAdmittedFor, HaveOtherIndexFor, IsBadAt}
use Rattle.asg_check.specs.RankingReasons.{AreBadNodesAt, IsNoChoiceAt, IsOutOfOrderAt, IsRepeatedAt, IsWrongValueAt, LeaveBetterAt}
use Rattle.asg_check.specs.WindowReasons.{IsNoHallAt, LeaveGapAt}
use Rattle.asg_verdicts.specs.LevelReasons.{AreBadLevelsAt}
use Rattle.asg_verdicts.specs.Spots.{AtParts, ForWhole, Spot}
use Rattle.asg_check.specs.Written.{AreWrittenAs, HasWrongValue, IsWrittenAs, SpellNone}

-- where no valid choice has an answer's cells, in the order of the rows
abbrev pub LacksChoice : Problem → Claim → Spot → Type 0
LacksChoice X (Best answer proof) = ForWhole (SpellNone X answer.cells)
LacksChoice X (Nothing rows) = λ spot. ⊥
LacksChoice X (Ranked count answers nodes) = AtParts (IsNoChoiceAt X answers)

-- where an answer's cells are those of a valid choice, and its value is another than the choice's
abbrev pub HasOtherValue : Objective → Problem → Claim → Spot → Type 0
HasOtherValue objective X (Best answer proof) = ForWhole (HasWrongValue objective X answer)
HasOtherValue objective X (Nothing rows) = λ spot. ⊥
HasOtherValue objective X (Ranked count answers nodes) = AtParts (IsWrongValueAt objective X answers)

-- where a ranked answer has the cells of an earlier one
abbrev pub Repeats : Claim → Spot → Type 0
Repeats (Ranked count answers nodes) = AtParts (IsRepeatedAt answers)
Repeats claim = λ spot. ⊥

-- where a ranked answer is better than the one before it
abbrev pub LeavesOrder : Objective → Claim → Spot → Type 0
LeavesOrder objective (Ranked count answers nodes) = AtParts (IsOutOfOrderAt objective answers)
LeavesOrder objective claim = λ spot. ⊥

-- the rows, where the claim names some, are the Hall set that they must be: of the costs strictly
-- better than the answer's value, of the bands of windows, or of the whole instance
abbrev pub HasHallSet : Objective → Problem → Claim → Type 0
HasHallSet objective X (Best answer (Phases words)) = Unit {0}
HasHallSet objective X (Best answer (Below rows)) = ProvesBelow objective X answer.value rows
HasHallSet objective X (Best answer (Windows windows)) = All (IsHallWindow X) windows
HasHallSet objective X (Best answer (Levels perm levels)) = Unit {0}
HasHallSet objective X (Nothing rows) = IsHall X Whole rows
HasHallSet objective X (Ranked count answers nodes) = Unit {0}

-- where they aren't: at a window, or for the whole
abbrev pub LacksHallSet : Objective → Problem → Claim → Spot → Type 0
LacksHallSet objective X (Best answer (Windows windows)) = AtParts (IsNoHallAt X windows)
LacksHallSet objective X claim = ForWhole (¬ HasHallSet objective X claim)

-- where the answer's windows leave a gap
abbrev pub LeavesGap : Problem → Claim → Spot → Type 0
LeavesGap X (Best answer (Windows windows)) = LeaveGapAt X answer.value windows
LeavesGap X claim = λ spot. ⊥

-- where the answer's phases are bad
abbrev pub HasBadPhase : Objective → Problem → Claim → Spot → Type 0
HasBadPhase objective X (Best answer (Phases words)) =
    AtParts (IsBadAt (AreAdmittedFor objective X) words)
HasBadPhase objective X claim = λ spot. ⊥

-- the answer's cells are those of a valid choice, its phases are admitted, and their index is
-- another value than the choice's fold
abbrev pub HasOtherIndex : Objective → Problem → Claim → Type 0
HasOtherIndex objective X (Best answer (Phases words)) =
    (f : List (Option ℕ)) × IsWrittenAs X answer.cells f × HaveOtherIndexFor objective X f words
HasOtherIndex objective X claim = ⊥

-- the answer's cells are those of a valid choice, for which its assignment with levels is bad there
abbrev pub HasBadLevel : Problem → Claim → Spot → Type 0
HasBadLevel X (Best answer (Levels perm levels)) = λ spot.
    (f : List (Option ℕ)) × IsWrittenAs X answer.cells f × AreBadLevelsAt X f perm levels spot
HasBadLevel X claim = λ spot. ⊥

-- where the answers' cells are those of valid choices, for which a node is at fault or some answer
-- has no node
abbrev pub HasBadNode : Objective → Problem → Claim → Spot → Type 0
HasBadNode objective X (Ranked count answers nodes) = λ spot.
    (choices : List (List (Option ℕ))) × AreWrittenAs X answers choices
    × AreBadNodesAt objective X choices nodes spot
HasBadNode objective X claim = λ spot. ⊥

-- where the answers' cells are those of valid choices, for which a node is open and may not be
abbrev pub LeavesBetter : Objective → Problem → Claim → Spot → Type 0
LeavesBetter objective X (Ranked count answers nodes) = λ spot.
    (choices : List (List (Option ℕ))) × AreWrittenAs X answers choices
    × LeaveBetterAt objective X count choices nodes spot
LeavesBetter objective X claim = λ spot. ⊥

-- where a reason stands against a claim, each by itself
abbrev pub StandsAgainst : Objective → Problem → Claim → Reason → Spot → Type 0
StandsAgainst objective X claim NotValid = LacksChoice X claim
StandsAgainst objective X claim WrongValue = HasOtherValue objective X claim
StandsAgainst objective X claim Repeated = Repeats claim
StandsAgainst objective X claim OutOfOrder = LeavesOrder objective claim
StandsAgainst objective X claim NotHall = LacksHallSet objective X claim
StandsAgainst objective X claim WindowGap = LeavesGap X claim
StandsAgainst objective X claim BadPhase = HasBadPhase objective X claim
StandsAgainst objective X claim IndexDiffers = ForWhole (HasOtherIndex objective X claim)
StandsAgainst objective X claim BadLevel = HasBadLevel X claim
StandsAgainst objective X claim BadNode = HasBadNode objective X claim
StandsAgainst objective X claim BetterLeft = LeavesBetter objective X claim
StandsAgainst objective X claim reason = ForWhole ⊥

-- where a reason stands against a document, each by itself: it is of another objective than the
-- asked one, it doesn't have the asked form, or the reason stands against its claim
abbrev pub Stands : Objective → Problem → Form → Document → Reason → Spot → Type 0
Stands objective X form document OtherObjective = ForWhole (document.objective ≢ objective)
Stands objective X form document WrongForm = ForWhole (has_form objective form document ≡ false)
Stands objective X form document reason = StandsAgainst objective X document.claim reason

-- a number and a place tell the first reason against a document, and where it stands
pub record IsFirstReason (objective : Objective) (X : Problem) (form : Form)
    (document : Document) (number : ℕ) (place : ℤ) : Type 0 where
  pub told : Tells (Stands objective X form document) reasons_in_order (No number place)
