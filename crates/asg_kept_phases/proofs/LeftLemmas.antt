-- What is left over of phases, cell by cell.
use Rattle.asg_kept_phases.proofs.Common.{◌≡◌, ℕ, zero, suc, ◌<◌, ◌≤◌, ◌⊎◌, List, [], ◌∷◌, map, length, take, Some, None, Option, sym, refl, ap, subst, inl, inr, ⊎_elim, arith, length-take-le, cases_lt, AllowsPhases, AllowsSoMany, SomeRefuses, cell_settled, AllowsOrStaysAt, IsLeftAt, AreLeft, Monoid, PhaseOf}

-- a prefix of a prefix
pub take_twice : {X : Type 0} (xs : List X) (n m : ℕ) → n ≤ m → take n (take m xs) ≡ take n xs
take_twice xs zero m h = refl
take_twice xs (suc n) zero h = absurd (omega (arith, h))
take_twice [] (suc n) (suc m) h = refl
take_twice (x ∷ xs) (suc n) (suc m) h = ap (λ l. x ∷ l) (take_twice xs n m (omega (arith, h)))

pub map_take : {X Y : Type 0} (f : X → Y) (xs : List X) (n : ℕ) → map f (take n xs) ≡ take n (map f xs)
map_take f xs zero = refl
map_take f [] (suc n) = refl
map_take f (x ∷ xs) (suc n) = ap (λ l. f x ∷ l) (map_take f xs n)

module _ {V : Type 0} (M : Monoid V) (difference : V → V → V) where
  -- fewer of the phases are allowed too
  pub fewer_allowed : (phases : List (PhaseOf V)) (r k : ℕ) (cell : Option V) (n m : ℕ) → n ≤ m → AllowsPhases M difference (take m phases) r k cell → AllowsPhases M difference (take n phases) r k cell
  fewer_allowed phases r k cell zero m h all = tt
  fewer_allowed phases r k cell (suc n) zero h all = absurd (omega (arith, h))
  fewer_allowed [] r k cell (suc n) (suc m) h all = tt
  fewer_allowed (phase ∷ rest) r k cell (suc n) (suc m) h all =
      (all.0, fewer_allowed rest r k (cell_settled M difference phase r k cell) n m (omega (arith, h)) all.1)

  -- an absent cell allows all
  pub absent_allows : (phases : List (PhaseOf V)) (r k : ℕ) → AllowsPhases M difference phases r k None
  absent_allows [] r k = tt
  absent_allows (phase ∷ rest) r k = ((λ x e. absurd (let none = e in cc)), absent_allows rest r k)

  module _ (phases : List (PhaseOf V)) (before after : ℕ → ℕ → Option V) where
    pub IsLeftAt-absent : (r k count : ℕ) → after r k ≡ None → IsLeftAt M difference phases before after r k count count
    IsLeftAt-absent r k count none = record {
      fewer = omega arith;
      allows = inl (subst (AllowsPhases M difference (take count phases) r k) (sym none) (absent_allows (take count phases) r k));
      no_more = λ h all. absurd (omega (arith, h));
    }

    pub IsLeftAt-present : (r k count left : ℕ) (x : V) → count ≤ length phases → after r k ≡ Some x → AllowsSoMany M difference (take count phases) r k (Some x) left → left ≤ count → IsLeftAt M difference phases before after r k count left
    IsLeftAt-present r k count left x within is so_many few = record {
      fewer = few;
      allows =
          inl (subst (AllowsPhases M difference (take left phases) r k) (sym is)
          (subst (λ list. AllowsPhases M difference list r k (Some x)) (take_twice phases left count few) so_many.allows));
      no_more = λ h all.
          so_many.no_more (omega (arith, h, length-take-le count phases within))
          (subst (λ list. AllowsPhases M difference list r k (Some x)) (sym (take_twice phases (suc left) count (omega (arith, h))))
          (subst (AllowsPhases M difference (take (suc left) phases) r k) is all));
    }

    fewer_or_stays : (r k n m : ℕ) → n ≤ m → AllowsOrStaysAt M difference (take m phases) before after r k → AllowsOrStaysAt M difference (take n phases) before after r k
    fewer_or_stays r k n m h (inl all) = inl (fewer_allowed phases r k (after r k) n m h all)
    fewer_or_stays r k n m h (inr same) = inr same

    module _ (side : ℕ) where
      pub AreLeft-none : (is_seen : ℕ → ℕ → Type 0) (count : ℕ) → ((r k : ℕ) → is_seen r k → ⊥) → AreLeft M difference phases side before after is_seen count count
      AreLeft-none is_seen count none = record {
        fewer = omega arith;
        allows = λ r k hr hk seen. absurd (none r k seen);
        no_more = λ h. absurd (omega (arith, h));
      }

      -- those seen so far, and then some others
      pub AreLeft-more : (is_seen others more : ℕ → ℕ → Type 0) (count middle left : ℕ) → ((r k : ℕ) → r < side → k < side → more r k → is_seen r k ⊎ others r k) → AreLeft M difference phases side before after is_seen count middle → AreLeft M difference phases side before after others middle left → AreLeft M difference phases side before after more count left
      AreLeft-more is_seen others more count middle left either first second =
          let b = second.fewer in
          let a = first.fewer in
          record {
            fewer = omega (arith, a, b);
            allows = λ r k hr hk seen.
                ⊎_elim
                (λ old. fewer_or_stays r k left middle b (first.allows r k hr hk old))
                (λ new. second.allows r k hr hk new)
                (either r k hr hk seen);
            no_more = λ h.
                ⊎_elim
                (λ (fewer : left < middle). second.no_more fewer)
                (λ (same : middle ≤ left).
                let is : middle ≡ left = omega (arith, same, b) in
                subst (λ n. SomeRefuses M difference side (take (suc n) phases) after) is (first.no_more (omega (arith, h, is))))
                (cases_lt left middle);
          }

      pub AreLeft-one : (r k count left : ℕ) → r < side → k < side → IsLeftAt M difference phases before after r k count left → AreLeft M difference phases side before after (λ s j. (s ≡ r) × (j ≡ k)) count left
      AreLeft-one r k count left hr hk one = record {
        fewer = one.fewer;
        allows = λ s j hs hj is. subst (λ a. AllowsOrStaysAt M difference (take left phases) before after a j) (sym is.0) (subst (AllowsOrStaysAt M difference (take left phases) before after r) (sym is.1) one.allows);
        no_more = λ h. (r, k, hr, hk, one.no_more h);
      }
