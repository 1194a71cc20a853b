-- Reasons in the order in which they are tested, and what a verdict tells of them.
use Rattle.std.specs.Prelude.{◌≡◌, ◌⊎◌, ℕ, List, [], ◌∷◌}
use Rattle.asg_verdicts.specs.declared.verdicts.Reason.{Reason}
use Rattle.asg_verdicts.specs.declared.verdicts.Reason.TheVariants.{OtherObjective, WrongForm, NotValid, WrongValue, Repeated, OutOfOrder, NotHall, WindowGap, BadPhase, IndexDiffers, BadLevel, BadNode, BetterLeft}
use Rattle.asg_verdicts.specs.declared.verdicts.Verdict.{Verdict}
use Rattle.asg_verdicts.specs.declared.verdicts.Verdict.TheVariants.{No, Yes}
use Rattle.asg_verdicts.specs.Spots.{IsNoLater, Spot, place_of}

-- the number of a reason
abbrev pub reason_number : Reason → ℕ
reason_number OtherObjective = 1
reason_number WrongForm = 2
reason_number NotValid = 3
reason_number WrongValue = 4
reason_number Repeated = 12
reason_number OutOfOrder = 13
reason_number NotHall = 5
reason_number WindowGap = 8
reason_number BadPhase = 6
reason_number IndexDiffers = 7
reason_number BadLevel = 9
reason_number BadNode = 10
reason_number BetterLeft = 11

-- the reasons in the order in which they are tested: against phases, windows, levels and nodes,
-- against a proof of any kind, against the order of answers, and against a claim
abbrev pub phase_reasons : List Reason
phase_reasons = BadPhase ∷ (IndexDiffers ∷ [])

abbrev pub window_reasons : List Reason
window_reasons = NotHall ∷ (WindowGap ∷ [])

abbrev pub level_reasons : List Reason
level_reasons = BadLevel ∷ []

abbrev pub node_reasons : List Reason
node_reasons = BadNode ∷ (BetterLeft ∷ [])

abbrev pub proof_reasons : List Reason
proof_reasons =
    NotHall ∷ (WindowGap ∷ (BadPhase ∷ (IndexDiffers ∷ (BadLevel ∷ node_reasons))))

abbrev pub order_reasons : List Reason
order_reasons = Repeated ∷ (OutOfOrder ∷ proof_reasons)

abbrev pub claim_reasons : List Reason
claim_reasons = NotValid ∷ (WrongValue ∷ order_reasons)

abbrev pub reasons_in_order : List Reason
reasons_in_order = OtherObjective ∷ (WrongForm ∷ claim_reasons)

-- a verdict tells of a reason: it stands, and the verdict names its number and its least spot
pub record IsToldOf (Against : Spot → Type 0) (reason : Reason) (verdict : Verdict) : Type 0 where
  pub spot : Spot
  pub stands : Against spot
  pub least : (other : Spot) → Against other → IsNoLater spot other
  pub told : verdict ≡ No (reason_number reason) (place_of spot)

-- a verdict on reasons, one after the other: it tells of the first that stands, or is `Yes` where
-- none does
abbrev pub Tells : (Reason → Spot → Type 0) → List Reason → Verdict → Type 0
Tells Against [] verdict = verdict ≡ Yes
Tells Against (reason ∷ rest) verdict =
    IsToldOf (Against reason) reason verdict
    ⊎ (((spot : Spot) → ¬ Against reason spot) × Tells Against rest verdict)
