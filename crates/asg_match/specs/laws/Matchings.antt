-- Facts on the columns of rows.
use Rattle.std.proofs.Common.{refl, true, false, is_some, ◌≡◌, ◌≢◌, ℕ, ◌<◌, List, length, Option, Some, None, get_or, set, replicate, ◌≤◌, ◌⊎◌, inl, inr, ⊎_elim, sym, ◌∙◌, subst, arith, AllPairs}
use Rattle.std.proofs.lemmas.List.{get_or_default, get_or_past, get_or_read, get_or-set_other, length-set, get_or-replicate, length-replicate}
use Rattle.std.proofs.lemmas.Grind.{get_or-set_at}
use Rattle.std.proofs.lemmas.Bool.{cases_lt, cases_eq, true≢false, false≢true}
use Rattle.std.proofs.lemmas.Option.{none-some, same_Some}
use Rattle.asg_match.specs.Matching.{column_at, Matches, IsFree, IsMatching}

-- a row that has a column is below the side
pub Matches-below : (m : List (Option ℕ)) (r c : ℕ) → Matches m r c → r < length m
Matches-below m r c e =
    ⊎_elim (λ h. h) (λ h. absurd (none-some c (sym (get_or_past m r None h) ∙ e))) (cases_lt r (length m))

-- a row has one column
pub Matches-same : (m : List (Option ℕ)) (r c d : ℕ) → Matches m r c → Matches m r d → c ≡ d
Matches-same m r c d e f = same_Some c d (sym e ∙ f)

-- what a row has after a write: the new column, or what it had
pub Matches-set_cases : (m : List (Option ℕ)) (i : ℕ) (v : Option ℕ) (r c : ℕ) → Matches (set m i v) r c → ((r ≡ i) × (v ≡ Some c)) ⊎ ((r ≢ i) × Matches m r c)
Matches-set_cases m i v r c e =
    ⊎_elim
    (λ q.
    let h : i < length m = subst (λ n. i < n) (length-set m i v) (subst (λ n. n < length (set m i v)) q (Matches-below (set m i v) r c e)) in
    inl (q, sym (get_or-set_at m i r v None q h) ∙ e))
    (λ n. inr (n, sym (get_or-set_other m i r v None n) ∙ e))
    (cases_eq r i)

-- a row that is not written keeps its column
pub Matches-set_other : (m : List (Option ℕ)) (i : ℕ) (v : Option ℕ) (r c : ℕ) → r ≢ i → Matches m r c → Matches (set m i v) r c
Matches-set_other m i v r c n e = get_or-set_other m i r v None n ∙ e

-- what an index reads is what the row has
pub Matches-read : (m : List (Option ℕ)) (r c : ℕ) (x : Option ℕ) → r < length m → x ≡ get_or m r x → x ≡ Some c → Matches m r c
Matches-read m r c x h e f = sym (get_or_read m r x h e None) ∙ f

pub None-from_test : (o : Option ℕ) → is_some o ≡ false → o ≡ None
None-from_test None e = refl
None-from_test (Some x) e = absurd (true≢false e)

pub Some-from_test : (o : Option ℕ) → is_some o ≡ true → (x : ℕ) × (o ≡ Some x)
Some-from_test None e = absurd (false≢true e)
Some-from_test (Some x) e = (x, refl)

-- what an index reads as nothing is nothing
pub None-read : (m : List (Option ℕ)) (r : ℕ) (x : Option ℕ) → r < length m → x ≡ get_or m r x → is_some x ≡ false → column_at m r ≡ None
None-read m r x h e f = sym (get_or_read m r x h e None) ∙ None-from_test x f

-- no row of an empty list has a column
pub Matches-empty : (n r c : ℕ) → Matches (replicate n None) r c → ⊥
Matches-empty n r c e =
    ⊎_elim
    (λ h. none-some c (sym (get_or-replicate n r None None h) ∙ e))
    (λ h. none-some c (sym (get_or_past (replicate n None) r None (subst (λ k. k ≤ r) (sym (length-replicate n None)) h)) ∙ e))
    (cases_lt r n)

pub IsMatching-empty : (n : ℕ) → IsMatching (replicate n None)
IsMatching-empty n =
    record {
      below = λ r c e. absurd (Matches-empty n r c e);
      apart = λ r s c e f. absurd (Matches-empty n r c e);
    }

-- a free column may be given to any row
pub IsMatching-set : (m : List (Option ℕ)) (i c : ℕ) → IsMatching m → c < length m → IsFree m c → IsMatching (set m i (Some c))
IsMatching-set m i c matching below free =
    record {
      below = λ r d e.
          subst (λ n. d < n) (sym (length-set m i (Some c)))
          (⊎_elim (λ here. subst (λ x. x < length m) (same_Some c d here.1) below) (λ there. matching.below r d there.1) (Matches-set_cases m i (Some c) r d e));
      apart = λ r s d e f.
          ⊎_elim
          (λ here.
          ⊎_elim
          (λ also. here.0 ∙ sym also.0)
          (λ there. absurd (free s (subst (Matches m s) (sym (same_Some c d here.1)) there.1)))
          (Matches-set_cases m i (Some c) s d f))
          (λ there.
          ⊎_elim
          (λ here. absurd (free r (subst (Matches m r) (sym (same_Some c d here.1)) there.1)))
          (λ also. matching.apart r s d there.1 also.1)
          (Matches-set_cases m i (Some c) s d f))
          (Matches-set_cases m i (Some c) r d e);
    }

-- the columns of rows that each have one are different
pub AllPairs-listed : (m : List (Option ℕ)) (columns : List ℕ) → IsMatching m → ((r : ℕ) → r < length columns → Matches m r (get_or columns r 0)) → AllPairs ◌≢◌ columns
AllPairs-listed m columns matching same i j d h k e =
    let first : i < length columns = omega arith in
    let equal : get_or columns i 0 ≡ get_or columns j 0 = get_or_default columns i 0 d first ∙ e ∙ get_or_default columns j d 0 k in
    let rows = matching.apart i j (get_or columns j 0) (subst (Matches m i) equal (same i first)) (same j k) in
    omega (arith, h, rows)
