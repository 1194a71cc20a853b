-- What the lines of each script keep.
use Rattle.asg_text.proofs.Common.{◌≡◌, ℕ, ◌+◌, ◌≤◌, Bool, true, false, cond, List, [], ◌∷◌, length, take, drop, Some, None, All, Option, option_map, flat_map, sym, refl, ap, ◌∙◌, subst, arith, take_all, All-cons, All-nil, cons_option, ScriptFault, CostRange, script_line_of, is_line_in_range, SpellsLines, script_with, most_script_lines, line_faults, faults_of_line, faults_beyond, script_faults, numbered_line, reading_of_lines, Line, filter_map}
use Rattle.std.proofs.Common.{length-drop}
use Rattle.asg_text.specs.ScriptRanges.{AreLinesOfScript}
use Rattle.asg_text.proofs.ScriptLemmas.{Numbered, none_in_both}

abbrev InRange : ℕ × Line → Type 0
InRange line = is_line_in_range line.1 ≡ true

passes : (number : ℕ) (v : Bool) → cond v [] (CostRange number ∷ []) ≡ [] → v ≡ true
passes number true none = refl
passes number false none = cc

one_more : (number : ℕ) (says : Option Line) (rest : List (ℕ × Line)) → line_faults number says ≡ [] → All InRange rest → All InRange (cons_option (option_map (λ line. (number, line)) says) rest)
one_more number None rest none all = absurd (cc)
one_more number (Some line) rest none all =
    All-cons InRange (number, line) rest (passes number (is_line_in_range line) none) all

each : (lines : Numbered) → flat_map faults_of_line lines ≡ [] → All InRange (filter_map numbered_line lines)
each [] none = All-nil InRange
each (line ∷ more) none =
    let both = none_in_both (faults_of_line line) (flat_map faults_of_line more) none in
    one_more line.0 (script_line_of line.1) (filter_map numbered_line more) both.0 (each more both.1)

no_longer : (number : ℕ) (says : Option Line) (rest : List (ℕ × Line)) → length {A = ℕ × Line} (cons_option (option_map (λ line. (number, line)) says) rest) ≤ length rest + 1
no_longer number None rest = omega arith
no_longer number (Some line) rest = omega arith

not_more : (lines : Numbered) → length (filter_map numbered_line lines) ≤ length lines
not_more [] = omega arith
not_more (line ∷ more) =
    omega (arith, not_more more, no_longer line.0 (script_line_of line.1) (filter_map numbered_line more))

-- no line is beyond the last
none_beyond : (lines : Numbered) → faults_beyond lines ≡ [] → length lines ≡ 0
none_beyond [] none = refl
none_beyond (line ∷ more) none = absurd (cc)

spelled : (faults : List ScriptFault) (lines script : List (ℕ × Line)) → script_with faults lines ≡ SpellsLines script → (faults ≡ []) × (lines ≡ script)
spelled [] lines script is = (refl, cc)
spelled (fault ∷ more) lines script is = absurd (cc)

pub lines_keep : (all : Numbered) (script : List (ℕ × Line)) → reading_of_lines all ≡ SpellsLines script → AreLinesOfScript script
lines_keep all script is =
    let reads = spelled (script_faults most_script_lines all) (filter_map numbered_line all) script is in
    let parts = none_in_both (flat_map faults_of_line (take most_script_lines all)) (faults_beyond (drop most_script_lines all)) reads.0 in
    let left = none_beyond (drop most_script_lines all) parts.1 in
    let few : length all ≤ most_script_lines = omega (arith, left, length-drop most_script_lines all) in
    let right : flat_map faults_of_line all ≡ [] = ap (flat_map faults_of_line) (sym (take_all most_script_lines all few)) ∙ parts.0 in
    record {
      few = subst (λ lines. length lines ≤ most_script_lines) reads.1 (omega (arith, few, not_more all));
      in_range = subst (λ lines. All InRange lines) reads.1 (each all right);
    }
