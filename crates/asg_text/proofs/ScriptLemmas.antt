-- How far the lines of a script are read.
use Rattle.asg_text.proofs.Common.{◌≡◌, ℕ, zero, suc, ◌+◌, ◌-◌, ◌≤◌, Bool, true, false, cond, eqb, List, [], ◌∷◌, ◌++◌, length, take, drop, IfSome, ◌==◌, slice_get, Some, None, Option, option_map, flat_map, sym, refl, ap, ◌∙◌, subst, ⊎_elim, append_assoc, arith, length-append, eqb-true, cases_Bool, cons_option, eqb-false, filter_map-append, none-some, ScriptFault, TooManyEdits, script_fault_of, script_line_of, SpellsLines, RefusesScript, script_with, TellsOfScript, most_script_lines, numbered_from, line_faults, faults_of_line, faults_beyond, script_faults, numbered_line, reading_of_lines, Line, filter_map}
use Rattle.std.proofs.Common.{append-nil}
use Rattle.std.proofs.lemmas.Grind.{flat_map-append}
use Rattle.asg_text.specs.declared.script_refusals.ScriptRefusal.{ScriptRefusal}
use Rattle.asg_text.specs.ScriptSteps.{faults_behind, lines_of, IsEarliestFault}
use Rattle.asg_text.proofs.ScriptLineLemmas.{ended}

-- lines by their fields, and those that aren't blank with their numbers
abbrev pub Lines : Type 0
Lines = List (List (List ℕ))

abbrev pub Numbered : Type 0
Numbered = List (ℕ × List (List ℕ))

-- ---- a line that is put

pub blank_right : (count number : ℕ) (fields : List (List ℕ)) → (length fields == 0) ≡ true → faults_behind count number fields ≡ []
blank_right count number fields blank = ap (faults_behind count number) (ended fields blank)

pub blank_adds : (number : ℕ) (fields : List (List ℕ)) (script : List (ℕ × Line)) → (length fields == 0) ≡ true → script ≡ script ++ lines_of number fields
blank_adds number fields script blank =
    sym (ap (λ more. script ++ lines_of number more) (ended fields blank) ∙ append-nil script)

-- ---- the faults of all lines

pub none_in_both : (xs ys : List ScriptFault) → xs ++ ys ≡ [] → (xs ≡ []) × (ys ≡ [])
none_in_both [] ys none = (refl, none)
none_in_both (x ∷ xs) ys none = absurd (cc)

-- lines without a fault leave those behind them their faults
faults_past : (most : ℕ) (taken rest : Numbered) → length taken ≤ most → flat_map faults_of_line taken ≡ [] → script_faults most (taken ++ rest) ≡ script_faults (most - length taken) rest
faults_past most [] rest few right =
    let all : most ≡ most - 0 = omega arith in
    ap (λ n. script_faults n rest) all
faults_past zero (x ∷ taken) rest few right = absurd (omega arith)
faults_past (suc most) (x ∷ taken) rest few right =
    let none = none_in_both (faults_of_line x) (flat_map faults_of_line taken) right in
    let fewer : length taken ≤ most = omega arith in
    let left : most - length taken ≡ suc most - length (x ∷ taken) = omega arith in
    ap (λ faults. (faults ++ flat_map faults_of_line (take most (taken ++ rest))) ++ faults_beyond (drop most (taken ++ rest))) none.0
    ∙ faults_past most taken rest fewer none.1
    ∙ ap (λ n. script_faults n rest) left

no_faults : (most : ℕ) → script_faults most [] ≡ []
no_faults zero = refl
no_faults (suc most) = refl

-- the faults from a line on begin with its own
next_faults : (most count : ℕ) (line : ℕ × List (List ℕ)) (rest : Numbered) → count ≤ most → (later : List ScriptFault) × (script_faults (most - count) (line ∷ rest) ≡ cond (count == most) (TooManyEdits line.0 ∷ []) (faults_of_line line) ++ later)
next_faults most count line rest few = ⊎_elim full fewer (cases_Bool (eqb count most))
  where
    full : eqb count most ≡ true → (later : List ScriptFault) × (script_faults (most - count) (line ∷ rest) ≡ cond (count == most) (TooManyEdits line.0 ∷ []) (faults_of_line line) ++ later)
    full is_full =
        let same = eqb-true count most is_full in
        let left : most - count ≡ 0 = omega (arith, same) in
        ([], ap (λ n. script_faults n (line ∷ rest)) left ∙ sym (ap (λ v. cond v (TooManyEdits line.0 ∷ []) (faults_of_line line) ++ []) is_full))

    fewer : eqb count most ≡ false → (later : List ScriptFault) × (script_faults (most - count) (line ∷ rest) ≡ cond (count == most) (TooManyEdits line.0 ∷ []) (faults_of_line line) ++ later)
    fewer no_more =
        let other = eqb-false count most no_more in
        let m = most - count - 1 in
        let left : most - count ≡ suc (most - count - 1) = omega (arith, other) in (
          flat_map faults_of_line (take m rest) ++ faults_beyond (drop m rest),
          ap (λ n. script_faults n (line ∷ rest)) left
              ∙ append_assoc (faults_of_line line) (flat_map faults_of_line (take m rest)) (faults_beyond (drop m rest))
              ∙ sym (ap (λ v. cond v (TooManyEdits line.0 ∷ []) (faults_of_line line) ++ (flat_map faults_of_line (take m rest) ++ faults_beyond (drop m rest))) no_more),
        )

-- ---- the lines that are read

-- of all lines that aren't blank those among so many are read: they have no fault, and these stand
-- for them; these lines are left
pub record AreTaken (all : Numbered) (number : ℕ) (left : Lines) (script : List (ℕ × Line)) : Type 0 where
  pub taken : Numbered
  pub cut : all ≡ taken ++ numbered_from (number + 1) left
  pub right : flat_map faults_of_line taken ≡ []
  pub script_is : script ≡ filter_map numbered_line taken
  pub count : length script ≡ length taken

pub none_taken : (lines : Lines) (script : List (ℕ × Line)) → script ≡ [] → AreTaken (numbered_from 1 lines) 0 lines script
none_taken lines script none = record { taken = []; cut = refl; right = refl; script_is = none; count = ap length none }

not_full : (v : Bool) (fault : ScriptFault) (faults : List ScriptFault) → cond v (fault ∷ []) faults ≡ [] → faults ≡ []
not_full true fault faults none = absurd (cc)
not_full false fault faults none = none

one_line : (number : ℕ) (says : Option Line) → line_faults number says ≡ [] → length {A = ℕ × Line} (cons_option (option_map (λ line. (number, line)) says) []) ≡ 1
one_line number None none = absurd (cc)
one_line number (Some line) none = refl

-- one more line is read
pub line_taken : (all : Numbered) (number : ℕ) (fields : List (List ℕ)) (more : Lines) (script after : List (ℕ × Line)) → AreTaken all number (fields ∷ more) script → faults_behind (length script) (number + 1) fields ≡ [] → after ≡ script ++ lines_of (number + 1) fields → AreTaken all (number + 1) more after
line_taken all number [] more script after so_far right put =
    let same = put ∙ append-nil script in
    record {
      taken = so_far.taken;
      cut = so_far.cut;
      right = so_far.right;
      script_is = same ∙ so_far.script_is;
      count = ap length same ∙ so_far.count;
    }
line_taken all number (field ∷ fields) more script after so_far right put =
    let line : ℕ × List (List ℕ) = (number + 1, field ∷ fields) in
    let own : faults_of_line line ≡ [] = not_full (length script == most_script_lines) (TooManyEdits (number + 1)) (faults_of_line line) right in
    let one = one_line (number + 1) (script_line_of (field ∷ fields)) own in
    record {
      taken = so_far.taken ++ line ∷ [];
      cut = so_far.cut ∙ sym (append_assoc so_far.taken (line ∷ []) (numbered_from (number + 1 + 1) more));
      right =
          flat_map-append faults_of_line so_far.taken (line ∷ [])
          ∙ (λ i. so_far.right i ++ (own i ++ []));
      script_is =
          put
          ∙ ap (λ front. front ++ lines_of (number + 1) (field ∷ fields)) so_far.script_is
          ∙ sym (filter_map-append numbered_line so_far.taken (line ∷ []));
      count =
          omega (arith, ap length put, length-append script (lines_of (number + 1) (field ∷ fields)), one, so_far.count, length-append so_far.taken (line ∷ []));
    }

-- the earliest of the first faults is that of the script
told_first : (faults later : List ScriptFault) (script : List (ℕ × Line)) (refusal : ScriptRefusal) → IsEarliestFault faults refusal → TellsOfScript (script_with (faults ++ later) script) refusal
told_first faults later script refusal earliest = go (script_fault_of refusal) faults earliest
  where
    go : (told : Option ScriptFault) (faults : List ScriptFault) → IfSome told (λ fault. slice_get faults 0 ≡ Some fault) → IfSome told (λ fault. script_with (faults ++ later) script ≡ RefusesScript fault)
    go None faults h = h
    go (Some fault) [] h = absurd (none-some fault h)
    go (Some fault) (first ∷ faults) h =
        let same : first ≡ fault = cc in
        ap RefusesScript same

none_told : (told : Option ScriptFault) (P : ScriptFault → Type 0) → IfSome told (λ fault. slice_get {X = ScriptFault} [] 0 ≡ Some fault) → IfSome told P
none_told None P h = h
none_told (Some fault) P h = absurd (none-some fault h)

-- a line is refused
pub line_refused : (all : Numbered) (number : ℕ) (fields : List (List ℕ)) (more : Lines) (script : List (ℕ × Line)) (refusal : ScriptRefusal) → AreTaken all number (fields ∷ more) script → length script ≤ most_script_lines → IsEarliestFault (faults_behind (length script) (number + 1) fields) refusal → TellsOfScript (reading_of_lines all) refusal
line_refused all number [] more script refusal so_far few earliest =
    none_told (script_fault_of refusal) (λ fault. reading_of_lines all ≡ RefusesScript fault) earliest
line_refused all number (field ∷ fields) more script refusal so_far few earliest =
    let line : ℕ × List (List ℕ) = (number + 1, field ∷ fields) in
    let rest = numbered_from (number + 1 + 1) more in
    let count = so_far.count in
    let few_taken : length so_far.taken ≤ most_script_lines = omega (arith, count, few) in
    let following = next_faults most_script_lines (length script) line rest few in
    let faults_are : script_faults most_script_lines all ≡ faults_behind (length script) (number + 1) (field ∷ fields) ++ following.0 =
    ap (script_faults most_script_lines) so_far.cut
    ∙ faults_past most_script_lines so_far.taken (line ∷ rest) few_taken so_far.right
    ∙ ap (λ n. script_faults (most_script_lines - n) (line ∷ rest)) (sym count)
    ∙ following.1 in
    subst (λ faults. TellsOfScript (script_with faults (filter_map numbered_line all)) refusal) (sym faults_are)
    (told_first (faults_behind (length script) (number + 1) (field ∷ fields)) following.0 (filter_map numbered_line all) refusal earliest)

-- all lines are read
pub all_taken : (all : Numbered) (number : ℕ) (script : List (ℕ × Line)) → AreTaken all number [] script → length script ≤ most_script_lines → reading_of_lines all ≡ SpellsLines script
all_taken all number script so_far few =
    let count = so_far.count in
    let few_taken : length so_far.taken ≤ most_script_lines = omega (arith, count, few) in
    let whole : all ≡ so_far.taken = so_far.cut ∙ append-nil so_far.taken in
    let faults_are : script_faults most_script_lines all ≡ [] =
    ap (script_faults most_script_lines) so_far.cut
    ∙ faults_past most_script_lines so_far.taken [] few_taken so_far.right
    ∙ no_faults (most_script_lines - length so_far.taken) in
    (λ i. script_with (faults_are i) (filter_map numbered_line (whole i))) ∙ ap SpellsLines (sym so_far.script_is)
