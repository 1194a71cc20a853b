-- An instance has one brief line.
use Rattle.asg_brief.proofs.Common.{◌≡◌, ℕ, ◌+◌, List, [], ◌∷◌, ◌++◌, length, get_or, ℤ, FitsSigned, Option, sym, ap, ◌∙◌, inl, inr, arith, fits_signed_from_abs, IsBestValue, AreBriefLines, HasFittingCosts, IsBriefLine, IsRankedLine, best_text, ranked_text, AreRankedEnds, Problem, choice_value, Objective, Lex, One, Two, Many, answer_at, last_answer}
use Rattle.std.specs.Int.{w64}
use Rattle.asg_model.specs.declared.objectives.Value.{Value}
use Rattle.asg_model.specs.Counts.{placed}
use Rattle.asg_model.specs.ValueRange.{IsPartInRange, IsValueInRange}

-- the best choices have one value
value_once : (objective : Objective) (X : Problem) (value other : Value) → IsBestValue objective X value → IsBestValue objective X other → value ≡ other
value_once objective X value other best again = sym (best.each again.choice again.best) ∙ again.each again.choice again.best

pub line_once : (objective : Objective) (X : Problem) (line other : List ℕ) → IsBriefLine objective X line → IsBriefLine objective X other → line ≡ other
line_once objective X line other (inl told) (inl again) = told.2 ∙ ap (best_text objective (placed X)) (value_once objective X told.0 again.0 told.1 again.1) ∙ sym again.2
line_once objective X line other (inl told) (inr none) = absurd (none.0 told.1.choice told.1.best.valid)
line_once objective X line other (inr none) (inl again) = absurd (none.0 again.1.choice again.1.best.valid)
line_once objective X line other (inr none) (inr again) = none.1 ∙ sym again.1

pub lines_once : (objective : Objective) (instances : List Problem) (text other : List ℕ) → AreBriefLines objective instances text → AreBriefLines objective instances other → text ≡ other
lines_once objective [] text other is also = is ∙ sym also
lines_once objective (X ∷ instances) text other told again =
    let first = line_once objective X told.0 again.0 told.2 again.2 in
    let rest = lines_once objective instances told.1 again.1 told.3 again.3 in
    told.4 ∙ (λ i. first i ++ rest i) ∙ sym again.4

pub ranked_once : (objective : Objective) (X : Problem) (count : ℕ) (line other : List ℕ) → IsRankedLine objective X count line → IsRankedLine objective X count other → line ≡ other
ranked_once objective X count line other told again =
    let ends = told.3.each again.3.choices again.3.ranking in
    let same = again.3.each again.3.choices again.3.ranking in
    let many : told.0 ≡ again.0 = sym ends.many ∙ same.many in
    let first : told.1 ≡ again.1 = sym ends.first_value ∙ same.first_value in
    let last : told.2 ≡ again.2 = sym ends.last_value ∙ same.last_value in
    told.4 ∙ (λ i. ranked_text objective (many i) count (first i) (last i)) ∙ sym again.4

-- ---- what is written

-- the line of the ends of a ranking
pub IsRankedLine-ends : (objective : Objective) (X : Problem) (count given : ℕ) (choices : List (List (Option ℕ))) (f g : List (Option ℕ)) (first last : Value) (line : List ℕ)
    → AreRankedEnds objective X count (length choices) (choice_value objective X (answer_at choices 1)) (choice_value objective X (last_answer choices))
    → given ≡ length choices → f ≡ answer_at choices 1 → g ≡ answer_at choices given → first ≡ choice_value objective X f → last ≡ choice_value objective X g
    → line ≡ ranked_text objective given count first last → IsRankedLine objective X count line
IsRankedLine-ends objective X count given choices f g first last line ends many first_is last_is value other is =
    let first_value : first ≡ choice_value objective X (answer_at choices 1) = value ∙ ap (choice_value objective X) first_is in
    let last_value : last ≡ choice_value objective X (last_answer choices) = other ∙ ap (choice_value objective X) (last_is ∙ ap (answer_at choices) many) in (
      length choices,
      choice_value objective X (answer_at choices 1),
      choice_value objective X (last_answer choices),
      ends,
      is ∙ (λ i. ranked_text objective (many i) count (first_value i) (last_value i)),
    )

-- the costs of a value in range fit 64 bits
pub fitting_costs : (objective : Objective) (value : Value) → IsValueInRange objective value → HasFittingCosts value
fitting_costs objective (One x) within = tt
fitting_costs objective (Two x y) within = tt
fitting_costs Lex (Many costs) within = λ k d low. fits_part (get_or costs k d) (within.1 k d low)
  where
    fits_part : (x : ℤ) → IsPartInRange x → FitsSigned w64 x
    fits_part x small = fits_signed_from_abs w64 x (omega (arith, small))
fitting_costs _ (Many costs) within = absurd within
