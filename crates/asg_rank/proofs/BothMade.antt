-- Two values, of which the second one was made.
use Rattle.asg_rank.proofs.Common.{◌≡◌, IfOk, Ok, Result, sym, subst, IfOk-at_ok, IfOk-weaker}

-- what holds of the first one and of each second one that is made holds of both
pub both_made : {A B E : Type 0} (P : A → B → Type 0) (first : A) (second : Result B E) (result : Result (A × B) E) → IfOk result (λ made. (made.0 ≡ first) × (second ≡ Ok made.1)) → IfOk second (P first) → IfOk result (λ made. P made.0 made.1)
both_made P first second result are holds =
    IfOk-weaker result (λ made. (made.0 ≡ first) × (second ≡ Ok made.1)) (λ made. P made.0 made.1)
    (λ made is. subst (λ x. P x made.1) (sym is.0) (IfOk-at_ok (P first) is.1 holds)) are

-- what holds of the first one holds of it beside another one
pub first_made : {A B E : Type 0} (P : A → Type 0) (first : A) (second : Result B E) (result : Result (A × B) E) → IfOk result (λ made. (made.0 ≡ first) × (second ≡ Ok made.1)) → P first → IfOk result (λ made. P made.0)
first_made P first second result are holds =
    IfOk-weaker result (λ made. (made.0 ≡ first) × (second ≡ Ok made.1)) (λ made. P made.0) (λ made is. subst P (sym is.0) holds) are

-- and what holds of each second one that is made
pub second_made : {A B E : Type 0} (P : B → Type 0) (first : A) (second : Result B E) (result : Result (A × B) E) → IfOk result (λ made. (made.0 ≡ first) × (second ≡ Ok made.1)) → IfOk second P → IfOk result (λ made. P made.1)
second_made P first second result are holds =
    IfOk-weaker result (λ made. (made.0 ≡ first) × (second ≡ Ok made.1)) (λ made. P made.1) (λ made is. IfOk-at_ok P is.1 holds) are
