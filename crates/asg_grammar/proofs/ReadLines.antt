-- What is read of a line.
use Rattle.asg_grammar.proofs.Common.{◌≡◌, ℕ, ◌≢◌, List, ◌∷◌, ◌++◌, IsErr, None, Ok, Err, Option, Result, sym, refl, ap, ◌∙◌, subst, append_assoc, Bor, whole_lines, line_ends, IsNumberList, one_line, IsRead, ReadsLine, IsPair, pair_text, pair_spelling, behind, spaced, list_spelling, whole_lines-line, Lacks-none, IsLegible-pair, IsLegible-list, false≢true, append_cancel_left, All-append}
use Rattle.std.specs.Fn.{Once, FnOnceReturnsAt}
use Rattle.asg_grammar.specs.declared.faults.Refusal.{Refusal}

-- the next line has another front, or none is left
pub ReadsLine-front : {A F : Type 0} {calls : Once F (Bor (List ℕ) × Unit {0}) (Option A)} {spelled : F} {front : List ℕ} {old : List (List ℕ)} (result : Result A Refusal) → IsErr result → ((text : List ℕ) (more : List (List ℕ)) → old ≡ (front ++ text) ∷ more → ⊥) → ReadsLine calls spelled front old old result
ReadsLine-front (Ok a) gives other = absurd (false≢true gives)
ReadsLine-front (Err y) gives other = record {
  read = tt;
  left = record { stays = refl; given = λ text more is. absurd (other text more is) };
}

-- the function gives nothing of what follows the front
pub ReadsLine-text : {A F : Type 0} {calls : Once F (Bor (List ℕ) × Unit {0}) (Option A)} {spelled : F} {front text : List ℕ} {old left : List (List ℕ)} (result : Result A Refusal) → IsErr result → old ≡ (front ++ text) ∷ left → FnOnceReturnsAt calls spelled text None → ReadsLine calls spelled front old old result
ReadsLine-text (Ok a) gives next met = absurd (false≢true gives)
ReadsLine-text {calls = calls} {spelled = spelled} {front = front} {text = text} (Err y) gives next met = record {
  read = tt;
  left = record {
    stays = refl;
    given = λ t more is.
        let heads : front ++ text ≡ front ++ t = cc (next, is) in
        subst (λ z. FnOnceReturnsAt calls spelled z None) (append_cancel_left front text t heads) met;
  };
}

-- a line of two numbers comes first
pub IsRead-pair : (bytes rest : List ℕ) (pair : ℕ × ℕ) → IsPair pair → bytes ≡ pair_text pair ++ 10 ∷ rest → IsRead (one_line pair_spelling) (whole_lines bytes) (whole_lines rest) pair
IsRead-pair bytes rest pair fits is = record { has = fits; split = ap whole_lines is ∙ whole_lines-line (pair_text pair) rest (IsLegible-pair.plain pair fits) }

-- a front without LF and a line of listed numbers come first
pub IsRead-list : (bytes front rest numbers : List ℕ) → line_ends front ≡ 0 → IsNumberList numbers → bytes ≡ front ++ (spaced numbers ++ 10 ∷ rest)
    → IsRead (one_line (behind front list_spelling)) (whole_lines bytes) (whole_lines rest) numbers
IsRead-list bytes front rest numbers none has is = record {
  has = has;
  split = ap whole_lines (is ∙ sym (append_assoc front (spaced numbers) (10 ∷ rest)))
      ∙ whole_lines-line (front ++ spaced numbers) rest (All-append (λ b. b ≢ 10) front (spaced numbers) (Lacks-none front none) (IsLegible-list.plain numbers has));
}
