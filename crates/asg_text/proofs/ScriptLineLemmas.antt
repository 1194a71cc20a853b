-- What the fields of a line of a script say.
use Rattle.asg_text.proofs.Common.{◌≡◌, ℕ, suc, Bool, true, false, cond, List, [], ◌∷◌, length, ◌==◌, Some, None, Option, option_map, option_and_then, sym, refl, ap, ◌∙◌, arith, eqb-true, Cost, BadScriptLine, CostRange, cost_line, cost_line_of, forbid_line_of, is_line_in_range, line_in_range, line_faults, Line, size_of, is_in_range, cost_of, cost_in_range}

-- lines with too many fields
pub no_fourth : (a b c : List ℕ) (more : List (List ℕ)) → (length more == 0) ≡ false → cost_line_of (a ∷ b ∷ c ∷ more) ≡ None
no_fourth a b c [] some = cc
no_fourth a b c (field ∷ more) some = refl

pub no_third : (a b : List ℕ) (more : List (List ℕ)) → (length more == 0) ≡ false → forbid_line_of (a ∷ b ∷ more) ≡ None
no_third a b [] some = cc
no_third a b (field ∷ more) some = refl

-- no field is left
pub ended : (more : List (List ℕ)) → (length more == 0) ≡ true → more ≡ []
ended [] none = refl
ended (field ∷ more) none =
    let empty : suc (length more) ≡ 0 = eqb-true (length (field ∷ more)) 0 none in
    absurd (omega arith)

-- the line of a cost in range, or of none
moved : (row col : ℕ) (cost : Cost) (v : Bool) → cond v (Some (cost_line row col cost)) None ≡ option_map (cost_line row col) (cond v (Some cost) None)
moved row col cost true = refl
moved row col cost false = refl

said : (row col : ℕ) (spelled found : Option Cost) → Some found ≡ option_map cost_in_range spelled → option_map line_in_range (option_map (cost_line row col) spelled) ≡ Some (option_map (cost_line row col) found)
said row col None found e = cc
said row col (Some cost) found e =
    let same : found ≡ cond (is_in_range cost) (Some cost) None = cc in
    ap Some (moved row col cost (is_in_range cost) ∙ ap (option_map (cost_line row col)) (sym same))

-- a line `cost ROW COL COST`
pub cost_said : (all : List (List ℕ)) (row col cost : List ℕ) (rest : List (List ℕ)) (r c : ℕ) (found : Option Cost) → all ≡ row ∷ col ∷ cost ∷ rest → rest ≡ [] → Some r ≡ size_of row → Some c ≡ size_of col → Some found ≡ option_map cost_in_range (cost_of cost) → option_map line_in_range (cost_line_of all) ≡ Some (option_map (cost_line r c) found)
cost_said all row col cost rest r c found is none row_is col_is cost_is =
    ap (λ fields. option_map line_in_range (cost_line_of fields)) (is ∙ ap (λ more. row ∷ col ∷ cost ∷ more) none)
    ∙ (λ i. option_map line_in_range (option_and_then (λ r. option_and_then (λ c. option_map (cost_line r c) (cost_of cost)) (sym col_is i)) (sym row_is i)))
    ∙ said r c (cost_of cost) found cost_is

-- a line whose cost is in range
kept_by_test : (number : ℕ) (v : Bool) (says line : Line) → ◌≡◌ {A = Option (Option Line)} (Some (Some line)) (Some (cond v (Some says) None)) → cond v [] (CostRange number ∷ []) ≡ []
kept_by_test number true says line e = refl
kept_by_test number false says line e = cc

same_by_test : (v : Bool) (says line : Line) → ◌≡◌ {A = Option (Option Line)} (Some (Some line)) (Some (cond v (Some says) None)) → ◌≡◌ {A = Option Line} (Some says) (Some line)
same_by_test true says line e =
    let same : line ≡ says = cc in
    ap Some (sym same)
same_by_test false says line e = cc

pub kept_faults : (number : ℕ) (says : Option Line) (line : Line) → Some (Some line) ≡ option_map line_in_range says → line_faults number says ≡ []
kept_faults number None line e = cc
kept_faults number (Some says) line e = kept_by_test number (is_line_in_range says) says line e

pub kept_line : (says : Option Line) (line : Line) → Some (Some line) ≡ option_map line_in_range says → says ≡ Some line
kept_line None line e = cc
kept_line (Some says) line e = same_by_test (is_line_in_range says) says line e

-- a line whose cost is out of range
past_by_test : (number : ℕ) (v : Bool) (says : Line) → ◌≡◌ {A = Option (Option Line)} (Some None) (Some (cond v (Some says) None)) → cond v [] (CostRange number ∷ []) ≡ CostRange number ∷ []
past_by_test number true says e = cc
past_by_test number false says e = refl

pub past_faults : (number : ℕ) (says : Option Line) → Some None ≡ option_map line_in_range says → line_faults number says ≡ CostRange number ∷ []
past_faults number None e = cc
past_faults number (Some says) e = past_by_test number (is_line_in_range says) says e

-- a line of no form
pub formless : (number : ℕ) (says : Option Line) → None ≡ option_map line_in_range says → line_faults number says ≡ BadScriptLine number ∷ []
formless number None e = refl
formless number (Some says) e = cc
