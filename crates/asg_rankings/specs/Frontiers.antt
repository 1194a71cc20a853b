-- What a search keeps while it ranks: the valid choices that it didn't give stand in open parts
-- that have none in common.
use Rattle.std.specs.Prelude.{◌≡◌, ◌≢◌, ◌⊎◌, ℕ, ◌+◌, ◌≤◌, Bool, IsTrue, Option, List, Contains}
use Rattle.asg_model.specs.Counts.{placed}
use Rattle.asg_model.specs.Problem.{Problem}
use Rattle.asg_model.specs.ValidChoice.{IsValid}
use Rattle.asg_order.specs.Monoid.{Monoid, IsLe}
use Rattle.asg_rankings.specs.Children.{child}

-- each valid choice was given or is valid in an open part, and none is in two of them, or in one
-- where it was given; what is valid in a part is valid
pub record IsFrontier (X : Problem) (given : List (List (Option ℕ))) (is_open : ℕ → Bool)
    (part : ℕ → Problem) : Type 0 where
  pub whole : (g : List (Option ℕ)) → IsValid X g
      → Contains given g ⊎ ((n : ℕ) × IsTrue (is_open n) × IsValid (part n) g)
  pub sound : (g : List (Option ℕ)) (n : ℕ) → IsTrue (is_open n) → IsValid (part n) g → IsValid X g
  pub apart : (g : List (Option ℕ)) (n m : ℕ) → IsTrue (is_open n) → IsTrue (is_open m)
      → IsValid (part n) g → IsValid (part m) g → n ≡ m
  pub fresh : (g : List (Option ℕ)) (n : ℕ) → IsTrue (is_open n) → IsValid (part n) g → ¬ Contains given g

-- of the parts up to number `last` part n is no longer open, and its children by f stand after
-- them: each is open or empty
pub record Splits (is_open is_open_now : ℕ → Bool) (part part_now : ℕ → Problem) (last n : ℕ)
    (f : List (Option ℕ)) : Type 0 where
  pub upto : (m : ℕ) → IsTrue (is_open m) → m ≤ last
  pub same : (m : ℕ) → m ≤ last → part_now m ≡ part m
  pub kept : (m : ℕ) → IsTrue (is_open m) → m ≢ n → IsTrue (is_open_now m)
  pub child_parts : (i : ℕ) → 1 ≤ i → i ≤ placed (part n) → part_now (last + i) ≡ child (part n) f i
  pub open_or_empty : (i : ℕ) → 1 ≤ i → i ≤ placed (part n)
      → IsTrue (is_open_now (last + i)) ⊎ ((g : List (Option ℕ)) → ¬ IsValid (child (part n) f i) g)
  pub only : (m : ℕ) → IsTrue (is_open_now m)
      → (IsTrue (is_open m) × (m ≢ n)) ⊎ ((i : ℕ) × (1 ≤ i) × (i ≤ placed (part n)) × (m ≡ last + i))

-- each valid choice of an open part is worth at least the part's bound, and that of part n is the
-- least
pub record IsLeastPart {V : Type 0} (M : Monoid V) (worth : List (Option ℕ) → V) (is_open : ℕ → Bool)
    (part : ℕ → Problem) (bound : ℕ → V) (n : ℕ) : Type 0 where
  pub there : IsTrue (is_open n)
  pub bounds : (g : List (Option ℕ)) (m : ℕ) → IsTrue (is_open m) → IsValid (part m) g → IsLe M (bound m) (worth g)
  pub least : (m : ℕ) → IsTrue (is_open m) → IsLe M (bound n) (bound m)
