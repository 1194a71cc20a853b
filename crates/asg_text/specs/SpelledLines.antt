-- The lines of a script from a place on, of which no edit is refused.
use Rattle.std.proofs.Common.{◌≡◌, ℕ, zero, suc, ◌+◌, ◌<◌, List, [], ◌∷◌, length, drop, get_or, Option, Some, None, refl, sym, ap, ◌∙◌, subst, arith}
use Rattle.std.specs.Option.{option_map}
use Rattle.asg_model.specs.declared.edits.EditRefusal.{EditRefusal}
use Rattle.asg_model.specs.declared.objectives.Objective.{Objective}
use Rattle.asg_model.specs.Problem.{Problem}
use Rattle.asg_text.specs.TriedScripts.{HoldsLines, after_line, earlier, first_refused, held_script, line_refusal, numbers_at, script_in, solved_instances, tried}
use Rattle.asg_text.specs.Scripts.{ScriptReading, SpellsLines, RefusesScript, reading_of_script}
use Rattle.asg_text.specs.declared.script_lines.Line.{Line}
use Rattle.asg_text.specs.declared.script_lines.Line.TheVariants.{Edit, Solve}
use Rattle.asg_text.specs.SolveLines.{solve_count}

-- the items from a place on
pub rest_at : {T : Type 0} (items : List T) (place : ℕ) (d : T) → place < length items → drop place items ≡ get_or items place d ∷ drop (place + 1) items
rest_at [] place d within = absurd (omega (arith, within))
rest_at (x ∷ items) zero d within = refl
rest_at (x ∷ items) (suc place) d within =
    let e : suc place + 1 ≡ suc (place + 1) = omega arith in
    rest_at items place d (omega (arith, within)) ∙ ap (λ n. get_or items place d ∷ drop n (x ∷ items)) (sym e)

-- the first of lines passes, and so do those after it
line_by : (o : Option EditRefusal) (number : ℕ) (later : Option (List ℕ)) → earlier (option_map (numbers_at number) o) later ≡ None → (o ≡ None) × (later ≡ None)
line_by None number later none = (refl, none)
line_by (Some refusal) number later none = cc

pub line_passes : (objective : Objective) (X : Problem) (line : ℕ × Line) (lines : List (ℕ × Line)) → first_refused objective X (line ∷ lines) ≡ None
    → (line_refusal objective X line.1 ≡ None) × (first_refused objective (after_line X line.1) lines ≡ None)
line_passes objective X line lines none = line_by (line_refusal objective X line.1) line.0 (first_refused objective (after_line X line.1) lines) none

-- the line at a place passes, and so do those after it
pub line_at_passes : (objective : Objective) (X : Problem) (lines : List (ℕ × Line)) (place : ℕ) (d : ℕ × Line) → place < length lines → first_refused objective X (drop place lines) ≡ None
    → (line_refusal objective X (get_or lines place d).1 ≡ None) × (first_refused objective (after_line X (get_or lines place d).1) (drop (place + 1) lines) ≡ None)
line_at_passes objective X lines place d within none = line_passes objective X (get_or lines place d) (drop (place + 1) lines) (subst (λ ls. first_refused objective X ls ≡ None) (rest_at lines place d within) none)

-- the edits of lines that a script holds pass
tried_by : (o : Option (List ℕ)) (lines held : List (ℕ × Line)) → tried o lines ≡ HoldsLines held → (o ≡ None) × (lines ≡ held)
tried_by None lines held is = (refl, cc)
tried_by (Some numbers) lines held is = cc

held_by : (objective : Objective) (X : Problem) (reading : ScriptReading) (lines : List (ℕ × Line)) → held_script objective X reading ≡ HoldsLines lines → first_refused objective X lines ≡ None
held_by objective X (SpellsLines spelled) lines is =
    let both = tried_by (first_refused objective X spelled) spelled lines is in
    subst (λ ls. first_refused objective X ls ≡ None) both.1 both.0
held_by objective X (RefusesScript fault) lines is = cc

pub held_passes : (objective : Objective) (X : Problem) (bytes : List ℕ) (lines : List (ℕ × Line)) → script_in objective X bytes ≡ HoldsLines lines → first_refused objective X lines ≡ None
held_passes objective X bytes lines is = held_by objective X (reading_of_script bytes) lines is

-- how many instances are asked for
pub solved_count : (X : Problem) (lines : List (ℕ × Line)) → length (solved_instances X lines) ≡ solve_count lines
solved_count X [] = refl
solved_count X ((number, Solve) ∷ lines) = let later = solved_count X lines in omega (arith, later)
solved_count X ((number, Edit edit) ∷ lines) = let later = solved_count (after_line X (Edit edit)) lines in omega (arith, later)
