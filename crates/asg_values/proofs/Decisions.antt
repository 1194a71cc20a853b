-- What finite tests decide: valid choices and Hall sets.
use Rattle.asg_values.proofs.Common.{◌≡◌, ℕ, suc, ◌+◌, ◌<◌, ◌≤◌, true, ◌≢◌, List, [], ◌∷◌, length, is_some, IsSome, IsTrue, slice_get, Some, None, All, count_by, Option, AllPairs, refl, subst, ⊎_elim, arith, All-cons, All-head, All-nil, All-tail, AllPairs-cons, Bool-discrete, and, cases_lt, dec_le, dec_lt, of_iff, slice_get_within, ℕ_discrete, capacity_at, placed, slack, IsHall, is_counted_id, reached_capacity, live_at, Problem, Chooses, IsValid, takes, Band, dec_below}
use mathlib.Core.Logic.Dec.{not}
use Rattle.asg_values.proofs.Takers.{none_past}

-- each element of a list, and each number below a bound
dec_all : {A : Type 0} (P : A → Type 0) → ((x : A) → Dec (P x)) → (xs : List A) → Dec (All P xs)
dec_all P each [] = yes (All-nil P)
dec_all P each (x ∷ xs) = of_iff (λ both. All-cons P x xs both.0 both.1, λ all. (All-head P x xs all, All-tail P x xs all)) (and (each x) (dec_all P each xs))

-- the numbers of a list differ
dec_different : (xs : List ℕ) → Dec (AllPairs ◌≢◌ xs)
dec_different [] = yes (λ i j d less within. absurd (omega arith))
dec_different (x ∷ xs) =
    of_iff
    (λ both. AllPairs-cons ◌≢◌ x xs both.0 both.1, λ all. (λ k d within. all 0 (suc k) d (omega arith) (omega arith), λ i j d less within. all (suc i) (suc j) d (omega arith) (omega arith)))
    (and (dec_all (λ y. x ≢ y) (λ y. not (ℕ_discrete x y)) xs) (dec_different xs))

pub dec_hall : (X : Problem) (band : Band) (ids : List ℕ) → Dec (IsHall X band ids)
dec_hall X band ids =
    of_iff (λ parts. record { different = parts.0; counted = parts.1.0; short = parts.1.1 }, λ hall. (hall.different, (hall.counted, hall.short)))
    (and (dec_different ids) (and (dec_all (λ id. IsTrue (is_counted_id X id)) (λ id. Bool-discrete (is_counted_id X id) true) ids) (dec_lt (reached_capacity X band ids + slack X) (length ids))))

-- what a row chooses, if it chooses
dec_chosen : (P : ℕ → Type 0) → ((c : ℕ) → Dec (P c)) → (o : Option (Option ℕ)) → Dec ((c : ℕ) → o ≡ Some (Some c) → P c)
dec_chosen P each None = yes (λ c e. absurd (cc))
dec_chosen P each (Some None) = yes (λ c e. absurd (cc))
dec_chosen P each (Some (Some d)) = of_iff (λ p c e. let same : d ≡ c = cc in subst P same p, λ all. all d refl) (each d)

pub dec_valid : (X : Problem) (f : List (Option ℕ)) → Dec (IsValid X f)
dec_valid X f =
    let Alive : ℕ → Type 0 = λ r. (c : ℕ) → Chooses f r c → IsSome (live_at X r c) in
    let Within : ℕ → Type 0 = λ c. count_by (takes c) f ≤ capacity_at X c in
    let all_alive : ((r : ℕ) → r < length f → Alive r) → (r : ℕ) → Alive r = λ all r c e. all r (slice_get_within f r (Some c) e) c e in
    of_iff (
      λ parts. record {
        over = parts.0;
        counted = parts.1.0;
        alive = all_alive parts.1.1.0;
        within = λ c. ⊎_elim (parts.1.1.1 c) (none_past X f c (all_alive parts.1.1.0)) (cases_lt c (length X.columns));
      },
      λ valid. (valid.over, (valid.counted, (λ r there. valid.alive r, λ c there. valid.within c))),
    )
    (and (ℕ_discrete (length f) (length X.rows))
    (and (ℕ_discrete (count_by is_some f) (placed X))
    (and (dec_below Alive (λ r. dec_chosen (λ c. IsSome (live_at X r c)) (λ c. Bool-discrete (is_some (live_at X r c)) true) (slice_get f r)) (length f))
    (dec_below Within (λ c. dec_le (count_by (takes c) f) (capacity_at X c)) (length X.columns)))))
