-- The place of a reason against a document that has a text fits its type: it is 0, the number of an
-- answer, a phase, a window, a level or a node, or a cost of an instance.
use Rattle.asg_commands.proofs.Common.{◌≡◌, ℕ, suc, ◌^◌, ◌<◌, List, [], ◌∷◌, length, ℤ, pos, IfSome, FitsSigned, Some, Option, sym, subst, inl, inr, arith, rules, fits_signed_from_abs, slice_get_within, HasBadLevel, HasBadNode, HasBadPhase, HasOtherValue, IsFirstReason, LacksChoice, LacksHallSet, LeavesBetter, LeavesGap, LeavesOrder, Repeats, Stands, Form, HasClaimText, HasText, IsInstance, IsCostInRange, Problem, Objective, Balanced, Lex, w64}
use Rattle.asg_model.specs.declared.objectives.Value.{Value}
use Rattle.asg_model.specs.declared.objectives.Value.TheVariants.{One}
use Rattle.asg_model.specs.declared.parts.Cost.{Cost}
use Rattle.asg_model.specs.Live.{live_at}
use Rattle.asg_proof.specs.declared.outcomes.Proof.TheVariants.{Levels, Phases, Windows}
use Rattle.asg_proof.specs.declared.windows.Window.{Window}
use Rattle.asg_proof.specs.laws.LiveCosts.{live_in_range}
use Rattle.asg_monoids.specs.ObjectiveMonoids.{InMonoidOf}
use Rattle.asg_rankings.specs.declared.nodes.Node.{Node}
use Rattle.asg_rankings.specs.Nodes.{IsNumber}
use Rattle.asg_rankings.specs.TreeFaults.{IsAtFault, IsLeftOpen}
use Rattle.asg_doc.specs.declared.documents.Answer.{Answer}
use Rattle.asg_doc.specs.declared.documents.Claim.{Claim}
use Rattle.asg_doc.specs.declared.documents.Claim.TheVariants.{Best, Ranked}
use Rattle.asg_doc.specs.declared.documents.Document.{Document}
use Rattle.asg_verdicts.specs.declared.verdicts.Reason.{Reason}
use Rattle.asg_verdicts.specs.declared.verdicts.Reason.TheVariants.{OtherObjective, WrongForm, NotValid, WrongValue, Repeated, OutOfOrder, NotHall, WindowGap, BadPhase, IndexDiffers, BadLevel, BadNode, BetterLeft}
use Rattle.asg_verdicts.specs.declared.verdicts.Verdict.TheVariants.{No}
use Rattle.asg_verdicts.specs.Verdicts.{Tells, reasons_in_order}
use Rattle.asg_check.specs.RankingReasons.{IsNoChoiceAt, IsOutOfOrderAt, IsRepeatedAt, IsWrongValueAt}
use Rattle.asg_verdicts.specs.Spots.{At, AtParts, Overall, Spot, place_of}
use Rattle.asg_check.specs.WindowReasons.{IsNoHallAt, LeaveGapAt}

-- zero, and the number of one of the phases
zero_fits : FitsSigned w64 (pos 0)
zero_fits = search rules

number_fits : (n count : ℕ) → n < count → count < 2 ^ 32 → FitsSigned w64 (pos (suc n))
number_fits n count below few = fits_signed_from_abs w64 (pos (suc n)) (omega (arith, below, few))

-- the first part of a live cost
live_fits : (X : Problem) → IsInstance X → (r c : ℕ) (cost : Cost) → live_at X r c ≡ Some cost → FitsSigned w64 cost.a
live_fits X instance r c cost live =
    let range : IsCostInRange cost = subst (λ o. IfSome o IsCostInRange) live (live_in_range X instance r c) in
    fits_signed_from_abs w64 cost.a (omega (arith, range.a_in_range))

-- the place of a bad phase
bad_fits : (objective own : Objective) (X : Problem) (claim : Claim) (place : ℤ) → HasClaimText own claim → HasBadPhase objective X claim (At place) → FitsSigned w64 place
bad_fits objective own X (Best answer (Phases words)) place text bad = subst (FitsSigned w64) (sym bad.1) (number_fits bad.0 (length words) bad.2.0 text.1.few)
bad_fits objective own X claim place text bad = absurd bad

-- the place of a window that is no Hall set
no_hall_fits : (X : Problem) (windows : List Window) (place : ℤ) → length windows < 2 ^ 32 → AtParts (IsNoHallAt X windows) (At place) → FitsSigned w64 place
no_hall_fits X windows place few at =
    let below : at.0 < length windows = slice_get_within windows at.0 at.2.window at.2.there in
    subst (FitsSigned w64) (sym at.1) (number_fits at.0 (length windows) below few)

lacks_fits : (objective own : Objective) (X : Problem) (claim : Claim) (place : ℤ) → HasClaimText own claim → LacksHallSet objective X claim (At place) → FitsSigned w64 place
lacks_fits objective own X (Best answer (Windows windows)) place text lacks = no_hall_fits X windows place text.1.few lacks
lacks_fits objective own X claim place text lacks = absurd lacks

-- the cost of a live cell
gap_fits : (X : Problem) (value : Value) (windows : List Window) (place : ℤ) → IsInstance X → LeaveGapAt X value windows (At place) → FitsSigned w64 place
gap_fits X (One d) windows place instance gap = subst (FitsSigned w64) gap.live.is (live_fits X instance gap.live.row gap.live.column gap.live.cost gap.live.live)
gap_fits X value windows place instance gap = absurd gap

leaves_fits : (X : Problem) (claim : Claim) (place : ℤ) → IsInstance X → LeavesGap X claim (At place) → FitsSigned w64 place
leaves_fits X (Best answer (Windows windows)) place instance leaves = gap_fits X answer.value windows place instance leaves
leaves_fits X claim place instance leaves = absurd leaves

-- the place of a level that is none
level_fits : (own : Objective) (X : Problem) (claim : Claim) (place : ℤ) → HasClaimText own claim → HasBadLevel X claim (At place) → FitsSigned w64 place
level_fits own X (Best answer (Levels perm levels)) place text bad =
    let at = bad.2.1 in
    let below : at.0 < length levels = slice_get_within levels at.0 at.2.level at.2.there in
    subst (FitsSigned w64) (sym at.1) (number_fits at.0 (length levels) below text.1.few)
level_fits own X claim place text bad = absurd bad

-- the number of an answer
answer_fits : (answers : List Answer) (Fails : ℕ → Type 0) (place : ℤ) → length answers < 2 ^ 32 → ((n : ℕ) → Fails n → n < length answers) → AtParts Fails (At place) → FitsSigned w64 place
answer_fits answers Fails place few within at = subst (FitsSigned w64) (sym at.1) (number_fits at.0 (length answers) (within at.0 at.2) few)

no_choice_fits : (own : Objective) (X : Problem) (claim : Claim) (place : ℤ) → HasClaimText own claim → LacksChoice X claim (At place) → FitsSigned w64 place
no_choice_fits own X (Ranked count answers nodes) place text lacks =
    answer_fits answers (IsNoChoiceAt X answers) place text.1.0.few (λ n fails. slice_get_within answers n fails.answer fails.there) lacks
no_choice_fits own X claim place text lacks = absurd lacks

wrong_value_fits : (objective own : Objective) (X : Problem) (claim : Claim) (place : ℤ) → HasClaimText own claim → HasOtherValue objective X claim (At place) → FitsSigned w64 place
wrong_value_fits objective own X (Ranked count answers nodes) place text wrong =
    answer_fits answers (IsWrongValueAt objective X answers) place text.1.0.few (λ n fails. slice_get_within answers n fails.answer fails.there) wrong
wrong_value_fits objective own X claim place text wrong = absurd wrong

repeated_fits : (own : Objective) (claim : Claim) (place : ℤ) → HasClaimText own claim → Repeats claim (At place) → FitsSigned w64 place
repeated_fits own (Ranked count answers nodes) place text repeats =
    answer_fits answers (IsRepeatedAt answers) place text.1.0.few (λ n fails. slice_get_within answers n fails.answer fails.there) repeats
repeated_fits own claim place text repeats = absurd repeats

out_of_order_fits : (objective own : Objective) (claim : Claim) (place : ℤ) → HasClaimText own claim → LeavesOrder objective claim (At place) → FitsSigned w64 place
out_of_order_fits objective own (Ranked count answers nodes) place text leaves =
    answer_fits answers (IsOutOfOrderAt objective answers) place text.1.0.few (λ n fails. slice_get_within answers n fails.answer fails.there) leaves
out_of_order_fits objective own claim place text leaves = absurd leaves

-- the number of a node
node_fits : (nodes : List Node) (n : ℕ) (place : ℤ) → place ≡ pos n → length nodes < 2 ^ 32 → IsNumber nodes n → FitsSigned w64 place
node_fits nodes n place is few there = subst (FitsSigned w64) (sym is) (fits_signed_from_abs w64 (pos n) (omega (arith, there.1, few)))

fault_there : (objective : Objective) (X : Problem) (choices : List (List (Option ℕ))) (nodes : List Node) (n : ℕ) → InMonoidOf objective (λ V M difference word_of enter. IsAtFault M difference word_of enter X choices nodes n) → IsNumber nodes n
fault_there Balanced X choices nodes n fault = absurd fault
fault_there Lex X choices nodes n fault = absurd fault
fault_there objective X choices nodes n fault = fault.there

left_there : (objective : Objective) (X : Problem) (count : ℕ) (choices : List (List (Option ℕ))) (nodes : List Node) (n : ℕ) → InMonoidOf objective (λ V M difference word_of enter. IsLeftOpen M difference word_of enter X count choices nodes n) → IsNumber nodes n
left_there Balanced X count choices nodes n left = absurd left
left_there Lex X count choices nodes n left = absurd left
left_there objective X count choices nodes n left = left.there

bad_node_fits : (objective own : Objective) (X : Problem) (claim : Claim) (place : ℤ) → HasClaimText own claim → HasBadNode objective X claim (At place) → FitsSigned w64 place
bad_node_fits objective own X (Ranked count answers nodes) place text bad =
    let at = bad.2 in node_fits nodes at.0 place at.1 text.1.1.few (fault_there objective X bad.0 nodes at.0 at.2)
bad_node_fits objective own X claim place text bad = absurd bad

better_left_fits : (objective own : Objective) (X : Problem) (claim : Claim) (place : ℤ) → HasClaimText own claim → LeavesBetter objective X claim (At place) → FitsSigned w64 place
better_left_fits objective own X (Ranked count answers nodes) place text leaves =
    let at = leaves.2 in node_fits nodes at.0 place at.1 text.1.1.few (left_there objective X count leaves.0 nodes at.0 at.2)
better_left_fits objective own X claim place text leaves = absurd leaves

pub place_fits : (objective : Objective) (X : Problem) (form : Form) (document : Document) (number : ℕ) (place : ℤ) → IsInstance X → HasText document → IsFirstReason objective X form document number place → FitsSigned w64 place
place_fits objective X form document number place instance text first = by_reasons reasons_in_order first.told
  where
    by_spot : (reason : Reason) (spot : Spot) → Stands objective X form document reason spot → FitsSigned w64 (place_of spot)
    by_spot reason Overall stands = zero_fits
    by_spot OtherObjective (At p) stands = absurd stands
    by_spot WrongForm (At p) stands = absurd stands
    by_spot NotValid (At p) stands = no_choice_fits document.objective X document.claim p text.claim stands
    by_spot WrongValue (At p) stands = wrong_value_fits objective document.objective X document.claim p text.claim stands
    by_spot Repeated (At p) stands = repeated_fits document.objective document.claim p text.claim stands
    by_spot OutOfOrder (At p) stands = out_of_order_fits objective document.objective document.claim p text.claim stands
    by_spot NotHall (At p) stands = lacks_fits objective document.objective X document.claim p text.claim stands
    by_spot WindowGap (At p) stands = leaves_fits X document.claim p instance stands
    by_spot BadPhase (At p) stands = bad_fits objective document.objective X document.claim p text.claim stands
    by_spot IndexDiffers (At p) stands = absurd stands
    by_spot BadLevel (At p) stands = level_fits document.objective X document.claim p text.claim stands
    by_spot BadNode (At p) stands = bad_node_fits objective document.objective X document.claim p text.claim stands
    by_spot BetterLeft (At p) stands = better_left_fits objective document.objective X document.claim p text.claim stands

    by_reasons : (reasons : List Reason) → Tells (Stands objective X form document) reasons (No number place) → FitsSigned w64 place
    by_reasons [] told = absurd (cc)
    by_reasons (reason ∷ rest) (inl here) =
        let named = here.told in
        let same : place_of here.spot ≡ place = cc in
        subst (FitsSigned w64) same (by_spot reason here.spot here.stands)
    by_reasons (reason ∷ rest) (inr later) = by_reasons rest later.1
