-- What the session of each kind does, as an editor sees it.
use Rattle.asg_edits.proofs.Common.{◌≡◌, ℕ, ◌≤◌, List, ◌++◌, map, length, OnOk, Ok, Err, Option, Result, refl, ap, unmatched, IsAnswerAt, IsAnswerIn, IsChoiceAt, IsChoiceIn, EditFact, KeepsIn, EditorOf, Edits, GoesTo, editor_of, Sums, Peaks, Times, edited, Edit, TimeCost, bounded_sums, bounded_difference, plain_word, peak_entered, sum_entered, time_entered, graded, graded_difference, graded_word, maxima, maxima_difference, PeakKind, SumKind, Word, PhaseOf, worded, Outcome, SessionOf}
use Rattle.asg_monoids.specs.declared.time_kinds.TimeKind.{TimeKind}
use Rattle.asg_edits.specs.declared.sessions.Sessions.{Sessions}
use Rattle.asg_edits.proofs.MonoidFacts.{edit_parts, peak_answer, peak_choice, peak_fact, sum_answer, sum_choice, sum_fact, time_answer, time_choice, time_fact}

-- two facts on an answer give a third
pub on_ok : {T E : Type 0} (result : Result T E) (A B C : Type 0) → (A → B → C) → OnOk result A → OnOk result B → OnOk result C
on_ok (Ok x) A B C both a b = both a b
on_ok (Err e) A B C both a b = tt

-- ---- edits

pub sums_edited : (s t : SessionOf SumKind ℕ) (edit : Edit) → t.kind ≡ s.kind → t.instance ≡ edited s.instance edit
    → KeepsIn (bounded_sums s.kind.monoid.top) bounded_difference plain_word (sum_entered s.kind.objective) s.instance t.instance (map (worded plain_word) s.phases) (map (worded plain_word) t.phases) (unmatched s.columns) (unmatched t.columns)
    → Edits (editor_of (Sums s)) edit (editor_of (Sums t))
sums_edited s t edit kind is keeps =
    let fact = EditFact s.instance t.instance (map (worded plain_word) s.phases) (map (worded plain_word) t.phases) (unmatched s.columns) (unmatched t.columns) in
    let parts = edit_parts s.kind.objective s.instance t.instance (map (worded plain_word) s.phases) (map (worded plain_word) t.phases) (unmatched s.columns) (unmatched t.columns) (sum_fact s.kind.objective s.kind.is_sum s.kind.monoid.top s.kind.stops fact keeps) in
    record { objective = ap (λ (k : SumKind). k.objective) kind; instance = is; kept = parts.kept; few = parts.few }

pub peaks_edited : (s t : SessionOf PeakKind ℕ) (edit : Edit) → t.kind ≡ s.kind → t.instance ≡ edited s.instance edit
    → KeepsIn maxima maxima_difference plain_word (peak_entered s.kind.objective) s.instance t.instance (map (worded plain_word) s.phases) (map (worded plain_word) t.phases) (unmatched s.columns) (unmatched t.columns)
    → Edits (editor_of (Peaks s)) edit (editor_of (Peaks t))
peaks_edited s t edit kind is keeps =
    let fact = EditFact s.instance t.instance (map (worded plain_word) s.phases) (map (worded plain_word) t.phases) (unmatched s.columns) (unmatched t.columns) in
    let parts = edit_parts s.kind.objective s.instance t.instance (map (worded plain_word) s.phases) (map (worded plain_word) t.phases) (unmatched s.columns) (unmatched t.columns) (peak_fact s.kind.objective s.kind.is_peak fact keeps) in
    record { objective = ap (λ (k : PeakKind). k.objective) kind; instance = is; kept = parts.kept; few = parts.few }

pub times_edited : (s t : SessionOf TimeKind (ℕ × ℕ)) (edit : Edit) → t.instance ≡ edited s.instance edit
    → KeepsIn (graded (bounded_sums s.kind.monoid.inner.top)) (graded_difference (bounded_sums s.kind.monoid.inner.top) bounded_difference) graded_word time_entered s.instance t.instance (map (worded graded_word) s.phases) (map (worded graded_word) t.phases) (unmatched s.columns) (unmatched t.columns)
    → Edits (editor_of (Times s)) edit (editor_of (Times t))
times_edited s t edit is keeps =
    let fact = EditFact s.instance t.instance (map (worded graded_word) s.phases) (map (worded graded_word) t.phases) (unmatched s.columns) (unmatched t.columns) in
    let parts = edit_parts TimeCost s.instance t.instance (map (worded graded_word) s.phases) (map (worded graded_word) t.phases) (unmatched s.columns) (unmatched t.columns) (time_fact s.kind.monoid.inner.top s.kind.stops fact keeps) in
    record { objective = refl; instance = is; kept = parts.kept; few = parts.few }

-- ---- answers

-- what holds of the session that answered, in the words of its editor
abbrev pub IsAnsweredBy : Sessions → Outcome → Type 0
IsAnsweredBy sessions outcome = IsAnswerAt (editor_of sessions).objective (editor_of sessions).instance (editor_of sessions).phases (editor_of sessions).unsure outcome

pub sums_answered : (s : SessionOf SumKind ℕ) (outcome : Outcome)
    → IsAnswerIn (bounded_sums s.kind.monoid.top) bounded_difference plain_word (sum_entered s.kind.objective) s.instance (map (worded plain_word) s.phases) (unmatched s.columns) outcome
    → IsAnsweredBy (Sums s) outcome
sums_answered s outcome is = sum_answer s.kind.objective s.kind.is_sum s.kind.monoid.top s.kind.stops s.instance (map (worded plain_word) s.phases) (unmatched s.columns) outcome is

pub peaks_answered : (s : SessionOf PeakKind ℕ) (outcome : Outcome)
    → IsAnswerIn maxima maxima_difference plain_word (peak_entered s.kind.objective) s.instance (map (worded plain_word) s.phases) (unmatched s.columns) outcome
    → IsAnsweredBy (Peaks s) outcome
peaks_answered s outcome is = peak_answer s.kind.objective s.kind.is_peak s.instance (map (worded plain_word) s.phases) (unmatched s.columns) outcome is

pub times_answered : (s : SessionOf TimeKind (ℕ × ℕ)) (outcome : Outcome)
    → IsAnswerIn (graded (bounded_sums s.kind.monoid.inner.top)) (graded_difference (bounded_sums s.kind.monoid.inner.top) bounded_difference) graded_word time_entered s.instance (map (worded graded_word) s.phases) (unmatched s.columns) outcome
    → IsAnsweredBy (Times s) outcome
times_answered s outcome is = time_answer s.kind.monoid.inner.top s.kind.stops s.instance (map (worded graded_word) s.phases) (unmatched s.columns) outcome is

-- the same of a choice alone
abbrev pub IsChosenBy : Sessions → Option (List (Option ℕ)) → Type 0
IsChosenBy sessions choice = IsChoiceAt (editor_of sessions).objective (editor_of sessions).instance choice

pub sums_chosen : (s : SessionOf SumKind ℕ) (choice : Option (List (Option ℕ)))
    → IsChoiceIn (bounded_sums s.kind.monoid.top) bounded_difference plain_word (sum_entered s.kind.objective) s.instance (map (worded plain_word) s.phases) choice
    → IsChosenBy (Sums s) choice
sums_chosen s choice is = sum_choice s.kind.objective s.kind.is_sum s.kind.monoid.top s.kind.stops s.instance (map (worded plain_word) s.phases) choice is

pub peaks_chosen : (s : SessionOf PeakKind ℕ) (choice : Option (List (Option ℕ)))
    → IsChoiceIn maxima maxima_difference plain_word (peak_entered s.kind.objective) s.instance (map (worded plain_word) s.phases) choice
    → IsChosenBy (Peaks s) choice
peaks_chosen s choice is = peak_choice s.kind.objective s.kind.is_peak s.instance (map (worded plain_word) s.phases) choice is

pub times_chosen : (s : SessionOf TimeKind (ℕ × ℕ)) (choice : Option (List (Option ℕ)))
    → IsChoiceIn (graded (bounded_sums s.kind.monoid.inner.top)) (graded_difference (bounded_sums s.kind.monoid.inner.top) bounded_difference) graded_word time_entered s.instance (map (worded graded_word) s.phases) choice
    → IsChosenBy (Times s) choice
times_chosen s choice is = time_choice s.kind.monoid.inner.top s.kind.stops s.instance (map (worded graded_word) s.phases) choice is

-- where the session stands after it answered
pub goes_to : (old new : EditorOf) → new.objective ≡ old.objective → new.instance ≡ old.instance → (more : List (PhaseOf Word)) × (new.phases ≡ old.phases ++ more) × (length more ≤ old.unsure) → GoesTo old new
goes_to old new objective instance (more, phases, few) = record { objective = objective; instance = instance; more = more; phases = phases; few = few }
