-- Phases as one list of numbers.
use Rattle.asg_proof.proofs.Common.{◌≡◌, ℕ, ◌*◌, ◌/◌, ◌%◌, ◌^◌, ◌<◌, List, ◌++◌, length, take, drop, All, sym, ap, ◌∙◌, subst, arith, length-append, All-drop, All-take, drop-append_seam, take-append_seam, Word, IsPhase, short_words, AreTold, AreStepNumbers}
use Rattle.asg_proof.specs.WrittenPhases.{step_numbers, marks, told_phase, ArePhaseNumbers}

-- the numbers of steps come first
steps_of : (front behind : List ℕ) (steps : ℕ) → length front % 2 ≡ 0 → steps ≡ length front / 2 → step_numbers steps (front ++ behind) ≡ front
steps_of front behind steps even count =
    let all : 2 * steps ≡ length front = omega arith in
    ap (λ (n : ℕ). take n (front ++ behind)) all ∙ take-append_seam front behind

-- and marks behind them
marks_of : (front behind : List ℕ) (steps : ℕ) → length front % 2 ≡ 0 → steps ≡ length front / 2 → marks steps (front ++ behind) ≡ behind
marks_of front behind steps even count =
    let all : 2 * steps ≡ length front = omega arith in
    ap (λ (n : ℕ). drop n (front ++ behind)) all ∙ drop-append_seam front behind

-- numbers of steps with marks behind them are those of a phase
pub phase_numbers : (front enters leaves all : List ℕ) (long : List Word) (steps rows : ℕ) → AreStepNumbers front long → steps ≡ length front / 2 → rows ≡ length enters
    → All (λ t. t < 2 ^ 32) (enters ++ leaves) → all ≡ front ++ (enters ++ leaves) → ArePhaseNumbers steps rows all long
phase_numbers front enters leaves all long steps rows are count rows_count below is = rw is record {
  within = simp length-append (omega (arith, are.even));
  told = subst (λ ns. AreTold (short_words ns) long) (sym (steps_of front (enters ++ leaves) steps are.even count)) are.told;
  below = subst (All (λ t. t < 2 ^ 32)) (sym (marks_of front (enters ++ leaves) steps are.even count)) below;
}

-- such numbers tell a phase
pub phase_is : (steps rows : ℕ) (numbers : List ℕ) (long : List Word) → ArePhaseNumbers steps rows numbers long → IsPhase (told_phase steps rows numbers long)
phase_is steps rows numbers long are = record {
  enters_below = All-take (λ t. t < 2 ^ 32) rows (marks steps numbers) are.below;
  leaves_below = All-drop (λ t. t < 2 ^ 32) rows (marks steps numbers) are.below;
}

-- and so do those of steps with marks behind them
pub marked_phase : (front enters leaves all : List ℕ) (long : List Word) (steps rows : ℕ) → AreStepNumbers front long → steps ≡ length front / 2 → rows ≡ length enters
    → All (λ t. t < 2 ^ 32) (enters ++ leaves) → all ≡ front ++ (enters ++ leaves) → IsPhase (told_phase steps rows all long)
marked_phase front enters leaves all long steps rows are count rows_count below is =
    phase_is steps rows all long (phase_numbers front enters leaves all long steps rows are count rows_count below is)
