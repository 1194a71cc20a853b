-- Columns that don't rise, or are full.
use Rattle.asg_table_sums.proofs.Common.{◌≡◌, ℕ, ◌≤◌, List, count_by, Option, inl, inr, arith, capacity_at, Problem, takes, rise_at, IsFull}

-- a column that so many rows choose, no fewer than its capacity, is full
pub full_by : (X : Problem) (f : List (Option ℕ)) (rises : List ℕ) (c taken : ℕ) → taken ≡ count_by (takes c) f → capacity_at X c ≤ taken → IsFull X f rises c
full_by X f rises c taken counted within = record { still_or_full = inr (omega (arith, counted, within)) }

-- a column that doesn't rise need not be
pub still : (X : Problem) (f : List (Option ℕ)) (rises : List ℕ) (c : ℕ) → rise_at rises c ≡ 0 → IsFull X f rises c
still X f rises c none = record { still_or_full = inl none }
