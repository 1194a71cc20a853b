-- What is counted is there.
use Rattle.asg_values.proofs.Common.{◌≡◌, ℕ, ◌≤◌, true, false, ◌⊎◌, List, length, IsSome, Some, None, count_by, Option, ap, ◌∙◌, inl, inr, arith, false≢true, nat_tests, capacity_at, live_at, Problem, Chooses, takes}
use Rattle.asg_values.specs.laws.Elements.{Passes, count_by_found}
use Rattle.asg_values.specs.laws.LiveCells.{column-from_live}

pub takes_itself : (c : ℕ) (chosen : Option ℕ) → takes c chosen ≡ true → chosen ≡ Some c
takes_itself c None e = absurd (false≢true e)
takes_itself c (Some d) e = grind (arith, nat_tests)

-- no row chooses a column that isn't there
pub none_past : (X : Problem) (f : List (Option ℕ)) (c : ℕ) → ((r c : ℕ) → Chooses f r c → IsSome (live_at X r c)) → length X.columns ≤ c → count_by (takes c) f ≤ capacity_at X c
none_past X f c alive past = by_count (count_by_found (takes c) f)
  where
    by_count : (count_by (takes c) f ≡ 0) ⊎ Passes (takes c) f → count_by (takes c) f ≤ capacity_at X c
    by_count (inl none) = omega (arith, none)
    by_count (inr (k, x, at, passes)) =
        let there = column-from_live X k c (alive k c (at ∙ ap Some (takes_itself c x passes))) in
        absurd (omega (arith, there, past))
