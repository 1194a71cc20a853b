-- A document certifies exactly where no reason stands against it, and each reason is tested.
use Rattle.asg_check.proofs.Common.{◌≡◌, ℕ, suc, ◌<◌, ◌≤◌, Bool, true, false, ◌&&◌, ◌≢◌, ◌⊎◌, ◌↔◌, List, [], ◌∷◌, length, take, ℤ, pos, IsTrue, nat_le, ◌==◌, Option, sym, refl, ap, ◌∙◌, subst, inl, inr, arith, take_all, leb-true, Bool-discrete, and, dec→stable, false_from_ne_true, of_iff, slice_get_within, answers_form, has_form, is_answer_count, is_command_of, takes_claim, AreBadNodesAt, IsNoChoiceAt, IsOutOfOrderAt, IsRepeatedAt, IsWrongValueAt, LeaveBetterAt, NodesStand, HasBadLevel, HasBadNode, HasBadPhase, HasHallSet, HasOtherIndex, HasOtherValue, IsFirstReason, LacksChoice, LacksHallSet, LeavesBetter, LeavesGap, LeavesOrder, Repeats, Stands, StandsAgainst, LeaveGapAt, StandsOn, AreWrittenAs, HasWrongValue, IsWrittenAs, Form, Answer, Best, Nothing, Ranked, AreBadLevelsAt, LevelsStand, IsHall, IsInstance, is_algebraic, Problem, IsValid, choice_value, Band, Whole, Under, Over, Between, Objective, Bottleneck, BottleneckMax, Value, One, Word, StandsFor, admitted_for, dec_admitted_for, dec_other_for, none_admitted, one_index_for, proves_for, take_for, PhaseOf, Proves, takes, IsHallWindow, ProvesWindows, Below, Levels, Phases, Windows, Window, Node, At, AtParts, ForWhole, Overall, Spot, IsToldOf, Tells, claim_reasons, level_reasons, node_reasons, phase_reasons, proof_reasons, reasons_in_order, window_reasons, OtherObjective, WrongForm, NotValid, WrongValue, Repeated, OutOfOrder, NotHall, WindowGap, BadPhase, IndexDiffers, BadLevel, BadNode, BetterLeft, Verdict, No, Yes, dec_le, no_part, none_at_part, tested_for, tested_part, told_for, NoneOf, Nowhere, Tested, least_below, none_stands, nowhere, one_verdict, overall, some_verdict, tested, told_same, yes_told, not}
use Rattle.asg_proof.specs.declared.outcomes.Proof.{Proof}
use Rattle.asg_proof.specs.declared.levels.Level.{Level}
use Rattle.asg_proof.specs.Threshold.{ProvesBelow}
use Rattle.asg_doc.specs.declared.documents.Claim.{Claim}
use Rattle.asg_doc.specs.declared.documents.Document.{Document}
use Rattle.asg_verdicts.specs.declared.verdicts.Reason.{Reason}
use Rattle.asg_check.specs.Certifies.{Certifies, CertifiesClaim}
use Rattle.asg_verdicts.specs.PhaseReasons.{AreAdmittedFor, HaveOtherIndexFor, IsBadAt}
use Rattle.asg_check.proofs.AnswersTold.{dec_no_choice_at, dec_none, dec_out_of_order_at, dec_repeated_at, dec_value, dec_written, dec_wrong, dec_wrong_at, is_read, read_choice, unwritten}
use Rattle.asg_check.proofs.Decisions.{same_objective}
use Rattle.asg_check.proofs.RankingTold.{all_valued, all_written, choices_once, none_out_of_order, none_repeated, read_choices, read_listed, read_values, read_written}
use Rattle.asg_check.proofs.TreesByObjective.{proof_bad_nowhere, proof_left_nowhere, proved_by_nodes, tested_left, tested_nodes}
use Rattle.asg_check.proofs.Reading.{written-once}
use Rattle.asg_verdicts.specs.laws.LevelTold.{levels_nowhere, levels_prove, ranks_prove, tested_levels}
use Rattle.asg_check.proofs.WindowTold.{halls_from_nowhere, halls_nowhere, proved_halls, proved_nowhere, tested_gap, tested_halls, windows_prove}
use Rattle.asg_check.specs.declared.document_forms.Form.TheVariants as forms

module _ (objective : Objective) (X : Problem) (form : Form) (document : Document) (verdict : Verdict) where
  -- against a document of another objective stands that
  pub of_other : (document.objective ≢ objective) → verdict ≡ No 1 (pos 0) → Tells (Stands objective X form document) reasons_in_order verdict
  of_other other is = inl (subst (IsToldOf (ForWhole (document.objective ≢ objective)) OtherObjective) (sym is) (overall OtherObjective other))

  -- against one of the objective and of another form that
  pub of_wrong_form : document.objective ≡ objective → has_form objective form document ≡ false → verdict ≡ No 2 (pos 0) → Tells (Stands objective X form document) reasons_in_order verdict
  of_wrong_form same wrong is =
      inr (nowhere (λ other. other same), inl (subst (IsToldOf (ForWhole (has_form objective form document ≡ false)) WrongForm) (sym is) (overall WrongForm wrong)))

  -- against any other what stands against its claim
  pub to_claim : document.objective ≡ objective → has_form objective form document ≡ true → Tells (StandsAgainst objective X document.claim) claim_reasons verdict → Tells (Stands objective X form document) reasons_in_order verdict
  to_claim same formed told = inr (nowhere (λ other. other same), inr (nowhere (λ wrong. let both = sym formed ∙ wrong in absurd (cc)), told))

module _ (objective : Objective) (X : Problem) (i : IsInstance X) where
  -- an answer that has the value of the choice that its cells spell has no other
  pub one_value : (answer : Answer) (f : List (Option ℕ)) → IsWrittenAs X answer.cells f → answer.value ≡ choice_value objective X f → ¬ HasWrongValue objective X answer
  one_value answer f w same other = other.2 (same ∙ ap (choice_value objective X) (written-once X answer.cells f other.0 i w other.1))

  -- against such an answer stands what stands against its proof
  pub to_proof : (answer : Answer) (proof : Proof) (f : List (Option ℕ)) (verdict : Verdict) → IsWrittenAs X answer.cells f → answer.value ≡ choice_value objective X f
      → Tells (StandsAgainst objective X (Best answer proof)) proof_reasons verdict → Tells (StandsAgainst objective X (Best answer proof)) claim_reasons verdict
  to_proof answer proof f verdict w same told = inr (nowhere (λ none. none f w), inr (nowhere (one_value answer f w same), inr (λ spot none. none, inr (λ spot none. none, told))))

  -- against an answer with phases stands what stands against those for its choice
  pub to_phases : (answer : Answer) (words : List (PhaseOf Word)) (f : List (Option ℕ)) (verdict : Verdict) → IsWrittenAs X answer.cells f
      → Tells (StandsFor objective X f words) phase_reasons verdict → Tells (StandsAgainst objective X (Best answer (Phases words))) proof_reasons verdict
  to_phases answer words f verdict w told = inr (nowhere (λ fails. fails tt), inr (λ spot none. none, by told))
    where
      by : Tells (StandsFor objective X f words) phase_reasons verdict → Tells (StandsAgainst objective X (Best answer (Phases words))) (BadPhase ∷ (IndexDiffers ∷ (BadLevel ∷ node_reasons))) verdict
      by (inl bad) = inl bad
      by (inr (none, inl other)) = inr (none, inl (told_same IndexDiffers verdict (λ differs. (f, w, differs)) other))
      by (inr (none, inr (one, is_yes))) =
          inr (none, inr (nowhere (λ other. one Overall (subst (λ g. HaveOtherIndexFor objective X g words) (written-once X answer.cells other.0 f i other.1 w) other.2)), inr (λ spot bad. bad, inr (λ spot bad. bad, inr (λ spot bad. bad, is_yes)))))

  -- against an answer with windows stands what stands against those for its value
  pub to_windows : (answer : Answer) (windows : List Window) (verdict : Verdict) → Tells (StandsOn X answer.value windows) window_reasons verdict → Tells (StandsAgainst objective X (Best answer (Windows windows))) proof_reasons verdict
  to_windows answer windows verdict (inl bad) = inl bad
  to_windows answer windows verdict (inr (halls, inl gap)) = inr (halls, inl gap)
  to_windows answer windows verdict (inr (halls, inr (none, is_yes))) = inr (halls, inr (none, inr (λ spot bad. bad, inr (nowhere (λ other. other), inr (λ spot bad. bad, inr (λ spot bad. bad, inr (λ spot bad. bad, is_yes)))))))

  -- against an answer with levels stands what stands against those for its choice
  pub to_levels : (answer : Answer) (perm : List ℕ) (levels : List Level) (f : List (Option ℕ)) (verdict : Verdict) → IsWrittenAs X answer.cells f
      → Tells (LevelsStand X f perm levels) level_reasons verdict → Tells (StandsAgainst objective X (Best answer (Levels perm levels))) proof_reasons verdict
  to_levels answer perm levels f verdict w told = inr (nowhere (λ fails. fails tt), inr (λ spot none. none, inr (λ spot none. none, inr (nowhere (λ none. none), by told))))
    where
      for_it : (spot : Spot) → HasBadLevel X (Best answer (Levels perm levels)) spot → AreBadLevelsAt X f perm levels spot
      for_it spot bad = subst (λ g. AreBadLevelsAt X g perm levels spot) (written-once X answer.cells bad.0 f i bad.1 w) bad.2

      by : Tells (LevelsStand X f perm levels) level_reasons verdict → Tells (StandsAgainst objective X (Best answer (Levels perm levels))) (BadLevel ∷ node_reasons) verdict
      by (inl bad) = inl (record { spot = bad.spot; stands = (f, w, bad.stands); least = λ other stands. bad.least other (for_it other stands); told = bad.told })
      by (inr (none, is_yes)) = inr (λ spot bad. none spot (for_it spot bad), inr (λ spot bad. bad, inr (λ spot bad. bad, is_yes)))

  -- against a ranking whose choices are listed stands what stands against its nodes for them
  pub to_nodes : (count : ℕ) (answers : List Answer) (nodes : List Node) (choices : List (List (Option ℕ))) (verdict : Verdict) → AreWrittenAs X answers choices
      → Tells (NodesStand objective X count choices nodes) node_reasons verdict → Tells (StandsAgainst objective X (Ranked count answers nodes)) proof_reasons verdict
  to_nodes count answers nodes choices verdict w told = inr (nowhere (λ fails. fails tt), inr (λ spot none. none, inr (λ spot none. none, inr (nowhere (λ none. none), inr (λ spot none. none, by told)))))
    where
      bad_for : (spot : Spot) → HasBadNode objective X (Ranked count answers nodes) spot → AreBadNodesAt objective X choices nodes spot
      bad_for spot bad = subst (λ fs. AreBadNodesAt objective X fs nodes spot) (choices_once X i answers bad.0 choices bad.1 w) bad.2

      left_for : (spot : Spot) → LeavesBetter objective X (Ranked count answers nodes) spot → LeaveBetterAt objective X count choices nodes spot
      left_for spot left = subst (λ fs. LeaveBetterAt objective X count fs nodes spot) (choices_once X i answers left.0 choices left.1 w) left.2

      last : Tells (NodesStand objective X count choices nodes) (BetterLeft ∷ []) verdict → Tells (StandsAgainst objective X (Ranked count answers nodes)) (BetterLeft ∷ []) verdict
      last (inl left) = inl (told_for (LeaveBetterAt objective X count choices nodes) (LeavesBetter objective X (Ranked count answers nodes)) (λ spot there. (choices, w, there)) left_for BetterLeft verdict left)
      last (inr (none, is_yes)) = inr (λ spot left. none spot (left_for spot left), is_yes)

      by : Tells (NodesStand objective X count choices nodes) node_reasons verdict → Tells (StandsAgainst objective X (Ranked count answers nodes)) node_reasons verdict
      by (inl bad) = inl (told_for (AreBadNodesAt objective X choices nodes) (HasBadNode objective X (Ranked count answers nodes)) (λ spot there. (choices, w, there)) bad_for BadNode verdict bad)
      by (inr (none, rest)) = inr (λ spot bad. none spot (bad_for spot bad), last rest)

  -- nothing stands against a claim that certifies
  stands_nowhere : (claim : Claim) → CertifiesClaim objective X claim → (reason : Reason) → Nowhere (StandsAgainst objective X claim reason)
  stands_nowhere (Best answer proof) w NotValid = nowhere (λ none. none w.choice w.written)
  stands_nowhere (Best answer proof) w WrongValue = nowhere (one_value answer w.choice w.written w.value)
  stands_nowhere (Best answer (Below rows)) w NotHall = nowhere (λ fails. fails (subst (λ value. ProvesBelow objective X value rows) (sym w.value) w.proved))
  stands_nowhere (Best answer (Windows windows)) w NotHall = halls_nowhere X windows (proved_halls objective X (choice_value objective X w.choice) windows w.proved)
  stands_nowhere (Best answer (Windows windows)) w WindowGap = proved_nowhere objective X answer.value windows (subst (λ value. ProvesWindows objective X value windows) (sym w.value) w.proved)
  stands_nowhere (Best answer (Phases words)) w BadPhase =
      no_part (IsBadAt (AreAdmittedFor objective X) words) (λ n bad. bad.1 (take_for objective X words (suc n) (admitted_for objective X words w.choice w.proved)))
  stands_nowhere (Best answer (Phases words)) w IndexDiffers =
      nowhere (λ other.
      one_index_for objective X words w.choice w.proved (subst (λ f. HaveOtherIndexFor objective X f words) (written-once X answer.cells other.0 w.choice i other.1 w.written) other.2))
  stands_nowhere (Best answer (Levels perm levels)) w BadLevel = λ spot bad.
      levels_nowhere X w.choice perm levels (ranks_prove objective X w.choice perm levels w.proved) spot
      (subst (λ f. AreBadLevelsAt X f perm levels spot) (written-once X answer.cells bad.0 w.choice i bad.1 w.written) bad.2)
  stands_nowhere (Nothing rows) hall NotHall = nowhere (λ fails. fails hall)
  stands_nowhere (Ranked count answers nodes) w NotValid = no_part (IsNoChoiceAt X answers) (all_written objective X i answers w.choices w.written)
  stands_nowhere (Ranked count answers nodes) w WrongValue = no_part (IsWrongValueAt objective X answers) (all_valued objective X i answers w.choices w.written w.values)
  stands_nowhere (Ranked count answers nodes) w Repeated = no_part (IsRepeatedAt answers) (none_repeated objective X i answers w.choices w.written w.values count w.listed)
  stands_nowhere (Ranked count answers nodes) w OutOfOrder = no_part (IsOutOfOrderAt objective answers) (none_out_of_order objective X i answers w.choices w.written w.values count w.listed)
  stands_nowhere (Ranked count answers nodes) w BadNode = λ spot bad.
      proof_bad_nowhere X count w.choices nodes objective w.proved spot (subst (λ fs. AreBadNodesAt objective X fs nodes spot) (choices_once X i answers bad.0 w.choices bad.1 w.written) bad.2)
  stands_nowhere (Ranked count answers nodes) w BetterLeft = λ spot left.
      proof_left_nowhere X count w.choices nodes objective w.proved spot (subst (λ fs. LeaveBetterAt objective X count fs nodes spot) (choices_once X i answers left.0 w.choices left.1 w.written) left.2)
  stands_nowhere claim w NotHall = nowhere (λ fails. fails tt)
  stands_nowhere claim w IndexDiffers = nowhere (λ none. none)
  stands_nowhere claim w OtherObjective = nowhere (λ none. none)
  stands_nowhere claim w WrongForm = nowhere (λ none. none)
  stands_nowhere claim w reason = λ spot none. none

  pub certified_nowhere : (form : Form) (document : Document) → Certifies objective X form document → (reason : Reason) → Nowhere (Stands objective X form document reason)
  certified_nowhere form document w OtherObjective = nowhere (λ other. other w.of_objective)
  certified_nowhere form document w WrongForm = nowhere (λ wrong. let both = sym w.of_form ∙ wrong in absurd (cc))
  certified_nowhere form document w reason = stands_nowhere document.claim w.claim reason

pub left_of : (a b : Bool) → IsTrue (a && b) → IsTrue a
left_of true b both = refl
left_of false b both = absurd (cc)

pub right_of : (a b : Bool) → IsTrue (a && b) → IsTrue b
right_of true b both = both
right_of false b both = absurd (cc)

-- of all reasons in order none stands
each_none : (Against : Reason → Spot → Type 0) → NoneOf Against reasons_in_order → (reason : Reason) → Nowhere (Against reason)
each_none Against none OtherObjective = none.0
each_none Against none WrongForm = none.1.0
each_none Against none NotValid = none.1.1.0
each_none Against none WrongValue = none.1.1.1.0
each_none Against none Repeated = none.1.1.1.1.0
each_none Against none OutOfOrder = none.1.1.1.1.1.0
each_none Against none NotHall = none.1.1.1.1.1.1.0
each_none Against none WindowGap = none.1.1.1.1.1.1.1.0
each_none Against none BadPhase = none.1.1.1.1.1.1.1.1.0
each_none Against none IndexDiffers = none.1.1.1.1.1.1.1.1.1.0
each_none Against none BadLevel = none.1.1.1.1.1.1.1.1.1.1.0
each_none Against none BadNode = none.1.1.1.1.1.1.1.1.1.1.1.0
each_none Against none BetterLeft = none.1.1.1.1.1.1.1.1.1.1.1.1.0

-- so many answers, at least one and at most so many
pub counted : (count answers : ℕ) → IsTrue (is_answer_count count answers) → (1 ≤ answers) × (answers ≤ count)
counted count answers is = (leb-true 1 answers (left_of (nat_le 1 answers) (nat_le answers count) is), leb-true answers count (right_of (nat_le 1 answers) (nat_le answers count) is))

-- where valid choices and Hall sets are decided
module _ (decided : record { valid : (X : Problem) (f : List (Option ℕ)) → Dec (IsValid X f); hall : (X : Problem) (band : Band) (ids : List ℕ) → Dec (IsHall X band ids) }) where
  proves_below : (objective : Objective) (X : Problem) (value : Value) (rows : List ℕ) → Dec (ProvesBelow objective X value rows)
  proves_below Bottleneck X (One value) rows = decided.hall X (Under value) rows
  proves_below BottleneckMax X (One value) rows = decided.hall X (Over value) rows
  proves_below objective X value rows = no (λ none. none)

  module _ (objective : Objective) (X : Problem) (i : IsInstance X) where
    hall_window : (window : Window) → Dec (IsHallWindow X window)
    hall_window window = decided.hall X (Between window.lo window.hi) window.rows

    -- rows that aren't the Hall set that they must be
    no_hall_set : (claim : Claim) → Tested (LacksHallSet objective X claim) NotHall
    no_hall_set (Best answer (Below rows)) = tested NotHall (not (proves_below objective X answer.value rows))
    no_hall_set (Best answer (Windows windows)) = tested_halls X windows hall_window
    no_hall_set (Nothing rows) = tested NotHall (not (decided.hall X Whole rows))
    no_hall_set claim = inr (nowhere (λ fails. fails tt))

    hall_set : (claim : Claim) → Nowhere (LacksHallSet objective X claim) → HasHallSet objective X claim
    hall_set (Best answer (Below rows)) none = dec→stable (proves_below objective X answer.value rows) (none Overall)
    hall_set (Best answer (Windows windows)) none = halls_from_nowhere X windows hall_window none
    hall_set (Nothing rows) none = dec→stable (decided.hall X Whole rows) (none Overall)
    hall_set claim none = tt

    -- windows that leave a gap
    gap : (claim : Claim) → Tested (LeavesGap X claim) WindowGap
    gap (Best answer (Windows windows)) = tested_gap X answer.value windows
    gap claim = inr (λ spot none. none)

    -- of one answer, by the choice that is read
    written : (answer : Answer) → Dec (IsWrittenAs X answer.cells (read_choice X answer))
    written answer = dec_written decided.valid objective X i answer

    read_is : (answer : Answer) (f : List (Option ℕ)) → IsWrittenAs X answer.cells f → f ≡ read_choice X answer
    read_is answer f w = is_read decided.valid objective X i answer f w

    no_choice : (claim : Claim) → Tested (LacksChoice X claim) NotValid
    no_choice (Best answer proof) = tested NotValid (dec_none decided.valid objective X i answer)
    no_choice (Nothing rows) = inr (λ spot none. none)
    no_choice (Ranked count answers nodes) = tested_part (IsNoChoiceAt X answers) NotValid (length answers) (λ n is. slice_get_within answers n is.answer is.there) (dec_no_choice_at decided.valid objective X i answers)

    other_value : (claim : Claim) → Tested (HasOtherValue objective X claim) WrongValue
    other_value (Best answer proof) = tested WrongValue (dec_wrong decided.valid objective X i answer)
    other_value (Nothing rows) = inr (λ spot none. none)
    other_value (Ranked count answers nodes) = tested_part (IsWrongValueAt objective X answers) WrongValue (length answers) (λ n is. slice_get_within answers n is.answer is.there) (dec_wrong_at decided.valid objective X i answers)

    -- answers that are repeated or out of order
    repeats : (claim : Claim) → Tested (Repeats claim) Repeated
    repeats (Ranked count answers nodes) = tested_part (IsRepeatedAt answers) Repeated (length answers) (λ n is. slice_get_within answers n is.answer is.there) (dec_repeated_at decided.valid objective X i answers)
    repeats claim = inr (λ spot none. none)

    unordered : (claim : Claim) → Tested (LeavesOrder objective claim) OutOfOrder
    unordered (Ranked count answers nodes) = tested_part (IsOutOfOrderAt objective answers) OutOfOrder (length answers) (λ n is. slice_get_within answers n is.answer is.there) (dec_out_of_order_at decided.valid objective X i answers)
    unordered claim = inr (λ spot none. none)

    -- nodes that are bad, or left open, for the choices that are read
    module _ (count : ℕ) (answers : List Answer) (nodes : List Node) where
      all_read : AreWrittenAs X answers (read_choices X answers) ⊎ ((choices : List (List (Option ℕ))) → ¬ AreWrittenAs X answers choices)
      all_read = by (least_below (IsNoChoiceAt X answers) (dec_no_choice_at decided.valid objective X i answers) (length answers))
        where
          by : ((k : ℕ) × (k < length answers) × IsNoChoiceAt X answers k × ((m : ℕ) → m < k → ¬ IsNoChoiceAt X answers m)) ⊎ ((k : ℕ) → k < length answers → ¬ IsNoChoiceAt X answers k) → AreWrittenAs X answers (read_choices X answers) ⊎ ((choices : List (List (Option ℕ))) → ¬ AreWrittenAs X answers choices)
          by (inl found) = inr (λ choices w. all_written objective X i answers choices w found.0 found.2)
          by (inr none) = inl (read_written decided.valid objective X i answers (λ n is. none n (slice_get_within answers n is.answer is.there) is))

      bad_node_of : Tested (HasBadNode objective X (Ranked count answers nodes)) BadNode
      bad_node_of = by all_read
        where
          by : AreWrittenAs X answers (read_choices X answers) ⊎ ((choices : List (List (Option ℕ))) → ¬ AreWrittenAs X answers choices) → Tested (HasBadNode objective X (Ranked count answers nodes)) BadNode
          by (inr none) = inr (λ spot bad. none bad.0 bad.1)
          by (inl w) =
              tested_for (AreBadNodesAt objective X (read_choices X answers) nodes) (HasBadNode objective X (Ranked count answers nodes)) (λ spot there. (read_choices X answers, w, there))
              (λ spot bad. subst (λ fs. AreBadNodesAt objective X fs nodes spot) (choices_once X i answers bad.0 (read_choices X answers) bad.1 w) bad.2)
              BadNode (tested_nodes decided X count (read_choices X answers) nodes objective)

      better_left_of : Tested (LeavesBetter objective X (Ranked count answers nodes)) BetterLeft
      better_left_of = by all_read
        where
          by : AreWrittenAs X answers (read_choices X answers) ⊎ ((choices : List (List (Option ℕ))) → ¬ AreWrittenAs X answers choices) → Tested (LeavesBetter objective X (Ranked count answers nodes)) BetterLeft
          by (inr none) = inr (λ spot left. none left.0 left.1)
          by (inl w) =
              tested_for (LeaveBetterAt objective X count (read_choices X answers) nodes) (LeavesBetter objective X (Ranked count answers nodes)) (λ spot there. (read_choices X answers, w, there))
              (λ spot left. subst (λ fs. LeaveBetterAt objective X count fs nodes spot) (choices_once X i answers left.0 (read_choices X answers) left.1 w) left.2)
              BetterLeft (tested_left decided X count (read_choices X answers) nodes objective)

    bad_node : (claim : Claim) → Tested (HasBadNode objective X claim) BadNode
    bad_node (Ranked count answers nodes) = bad_node_of count answers nodes
    bad_node claim = inr (λ spot none. none)

    better_left : (claim : Claim) → Tested (LeavesBetter objective X claim) BetterLeft
    better_left (Ranked count answers nodes) = better_left_of count answers nodes
    better_left claim = inr (λ spot none. none)

    -- phases that aren't admitted, and an index that differs
    bad_phase : (claim : Claim) → Tested (HasBadPhase objective X claim) BadPhase
    bad_phase (Best answer (Phases words)) =
        tested_part (IsBadAt (AreAdmittedFor objective X) words) BadPhase (length words) (λ n bad. bad.0)
        (λ n. and (dec_le (suc n) (length words)) (not (dec_admitted_for objective X (take (suc n) words))))
    bad_phase claim = inr (λ spot none. none)

    other_index : (claim : Claim) → Dec (HasOtherIndex objective X claim)
    other_index (Best answer (Phases words)) =
        of_iff (
          λ both. (read_choice X answer, both.0, both.1),
          λ other. (
            subst (IsWrittenAs X answer.cells) (read_is answer other.0 other.1) other.1,
            subst (λ f. HaveOtherIndexFor objective X f words) (read_is answer other.0 other.1) other.2,
          ),
        )
        (and (written answer) (dec_other_for objective X words (read_choice X answer)))
    other_index claim = no (λ none. none)

    -- levels that are bad for the choice that is written
    bad_level : (claim : Claim) → Tested (HasBadLevel X claim) BadLevel
    bad_level (Best answer (Levels perm levels)) = by (written answer)
      where
        by : Dec (IsWrittenAs X answer.cells (read_choice X answer)) → Tested (HasBadLevel X (Best answer (Levels perm levels))) BadLevel
        by (yes w) =
            tested_for (AreBadLevelsAt X (read_choice X answer) perm levels) (HasBadLevel X (Best answer (Levels perm levels))) (λ spot there. (read_choice X answer, w, there))
            (λ spot bad. subst (λ g. AreBadLevelsAt X g perm levels spot) (read_is answer bad.0 bad.1) bad.2)
            BadLevel (tested_levels X (read_choice X answer) perm levels)
        by (no none) = inr (λ spot bad. none (subst (IsWrittenAs X answer.cells) (read_is answer bad.0 bad.1) bad.1))
    bad_level claim = inr (λ spot none. none)

    -- each reason is tested
    each : (form : Form) (document : Document) (reason : Reason) → Tested (Stands objective X form document reason) reason
    each form document OtherObjective = tested OtherObjective (not (same_objective document.objective objective))
    each form document WrongForm = tested WrongForm (Bool-discrete (has_form objective form document) false)
    each form document NotValid = no_choice document.claim
    each form document WrongValue = other_value document.claim
    each form document Repeated = repeats document.claim
    each form document OutOfOrder = unordered document.claim
    each form document NotHall = no_hall_set document.claim
    each form document WindowGap = gap document.claim
    each form document BadPhase = bad_phase document.claim
    each form document IndexDiffers = tested IndexDiffers (other_index document.claim)
    each form document BadLevel = bad_level document.claim
    each form document BadNode = bad_node document.claim
    each form document BetterLeft = better_left document.claim

    -- phases against which nothing stands are all admitted
    all_admitted : (words : List (PhaseOf Word)) → Nowhere (AtParts (IsBadAt (AreAdmittedFor objective X) words)) → IsTrue (is_algebraic objective) → AreAdmittedFor objective X words
    all_admitted [] none algebraic = none_admitted objective X algebraic
    all_admitted (w ∷ words) none algebraic =
        let last = dec→stable (dec_admitted_for objective X (take (suc (length words)) (w ∷ words))) (λ bad. none (At (pos (suc (length words)))) (length words, refl, (omega arith, bad))) in
        subst (AreAdmittedFor objective X) (take_all (suc (length words)) (w ∷ words) (omega arith)) last

    -- an answer with a proof of a kind that the objective takes, against which nothing stands,
    -- certifies
    claimed_best : (answer : Answer) (proof : Proof) → IsTrue (takes objective proof) → ((reason : Reason) → Nowhere (StandsAgainst objective X (Best answer proof) reason)) → CertifiesClaim objective X (Best answer proof)
    claimed_best answer proof fits none =
        let w = dec→stable (written answer) (λ un. none NotValid Overall ((unwritten decided.valid objective X i answer).0 un)) in
        let same = dec→stable (dec_value decided.valid objective X i answer) (λ differs. none WrongValue Overall (read_choice X answer, w, differs)) in
        record { choice = read_choice X answer; written = w; value = same; proved = by proof fits w same none }
      where
        by : (proof : Proof) → IsTrue (takes objective proof) → IsWrittenAs X answer.cells (read_choice X answer) → answer.value ≡ choice_value objective X (read_choice X answer)
            → ((reason : Reason) → Nowhere (StandsAgainst objective X (Best answer proof) reason)) → Proves objective X (read_choice X answer) proof
        by (Below rows) fits w same none = subst (λ value. ProvesBelow objective X value rows) same (hall_set (Best answer (Below rows)) (none NotHall))
        by (Windows windows) fits w same none =
            windows_prove objective X (read_choice X answer) windows fits (hall_set (Best answer (Windows windows)) (none NotHall)) (subst (λ value. Nowhere (LeaveGapAt X value windows)) same (none WindowGap))
        by (Levels perm levels) fits w same none =
            levels_prove objective X (read_choice X answer) perm levels fits (λ spot stands. none BadLevel spot (read_choice X answer, w, stands))
        by (Phases words) fits w same none = proves_for objective X (read_choice X answer) words (all_admitted words (none BadPhase) fits) (λ differs. none IndexDiffers Overall (read_choice X answer, w, differs))

    -- so does a ranking of as many answers as may be listed
    claimed_ranking : (count : ℕ) (answers : List Answer) (nodes : List Node) → IsTrue (is_algebraic objective) → (1 ≤ length answers) × (length answers ≤ count) → ((reason : Reason) → Nowhere (StandsAgainst objective X (Ranked count answers nodes) reason)) → CertifiesClaim objective X (Ranked count answers nodes)
    claimed_ranking count answers nodes fits many none =
        let chosen = none_at_part (IsNoChoiceAt X answers) (none NotValid) in
        let valued = none_at_part (IsWrongValueAt objective X answers) (none WrongValue) in
        let w = read_written decided.valid objective X i answers chosen in
        let listed = read_listed decided.valid objective X i answers chosen valued (none_at_part (IsRepeatedAt answers) (none Repeated)) (none_at_part (IsOutOfOrderAt objective answers) (none OutOfOrder)) count many.0 many.1 in
        record {
          choices = read_choices X answers;
          written = w;
          values = read_values decided.valid objective X i answers chosen valued;
          listed = listed;
          proved = proved_by_nodes decided X count (read_choices X answers) nodes listed.some objective fits (λ spot bad. none BadNode spot (read_choices X answers, w, bad)) (λ spot left. none BetterLeft spot (read_choices X answers, w, left));
        }

    -- and rows that are the Hall set that they must be
    claimed : (form : Form) (claim : Claim) → IsTrue (answers_form form claim && takes_claim objective claim) → ((reason : Reason) → Nowhere (StandsAgainst objective X claim reason)) → CertifiesClaim objective X claim
    claimed form (Nothing rows) fits none = hall_set (Nothing rows) (none NotHall)
    claimed form (Best answer proof) fits none = claimed_best answer proof (right_of (answers_form form (Best answer proof)) (takes objective proof) fits) none
    claimed forms.Solve (Ranked count answers nodes) fits none = absurd (cc)
    claimed forms.Edit (Ranked count answers nodes) fits none = absurd (cc)
    claimed (forms.Rank asked) (Ranked count answers nodes) fits none =
        let claim = Ranked count answers nodes in
        let counts = left_of (answers_form (forms.Rank asked) claim) (is_algebraic objective) fits in
        claimed_ranking count answers nodes (right_of (answers_form (forms.Rank asked) claim) (is_algebraic objective) fits) (counted count (length answers) (right_of (count == asked) (is_answer_count count (length answers)) counts)) none

    certifies : (form : Form) (document : Document) → ((reason : Reason) → Nowhere (Stands objective X form document reason)) → Certifies objective X form document
    certifies form document none =
        let of_form = dec→stable (Bool-discrete (has_form objective form document) true) (λ e. none WrongForm Overall (false_from_ne_true (has_form objective form document) e)) in
        record {
          of_objective = dec→stable (same_objective document.objective objective) (none OtherObjective Overall);
          of_form = of_form;
          claim = claimed form document.claim (right_of (is_command_of form document.command) (answers_form form document.claim && takes_claim objective document.claim) of_form) (against_claim none);
        }
      where
        -- against a claim stands what stands against its document, but for its objective and its form
        against_claim : ((reason : Reason) → Nowhere (Stands objective X form document reason)) → (reason : Reason) → Nowhere (StandsAgainst objective X document.claim reason)
        against_claim none OtherObjective = nowhere (λ none. none)
        against_claim none WrongForm = nowhere (λ none. none)
        against_claim none reason = none reason

    module _ (form : Form) (document : Document) where
      abbrev Against : Reason → Spot → Type 0
      Against = Stands objective X form document

      -- a document certifies exactly where no reason stands against it
      pub certifies_exactly : Certifies objective X form document ↔ ((reason : Reason) → Nowhere (Against reason))
      certifies_exactly = (certified_nowhere objective X i form document, certifies form document)

      -- a verdict that tells of the reasons is `Yes` exactly where the document certifies
      pub yes_exactly : (verdict : Verdict) → Tells Against reasons_in_order verdict → (verdict ≡ Yes) ↔ Certifies objective X form document
      yes_exactly verdict told = (
        λ same. certifies form document (each_none Against (none_stands Against reasons_in_order (subst (Tells Against reasons_in_order) same told))),
        λ w. one_verdict Against reasons_in_order verdict Yes told (yes_told Against (certified_nowhere objective X i form document w) reasons_in_order),
      )

      -- one that doesn't certify has a first reason
      pub some_reason : ¬ Certifies objective X form document → (number : ℕ) × (place : ℤ) × IsFirstReason objective X form document number place
      some_reason fails = by (some_verdict Against (each form document) reasons_in_order)
        where
          by : (verdict : Verdict) × Tells Against reasons_in_order verdict → (number : ℕ) × (place : ℤ) × IsFirstReason objective X form document number place
          by (Yes, told) = absurd (fails ((yes_exactly Yes told).0 refl))
          by (No number place, told) = (number, place, record { told = told })
