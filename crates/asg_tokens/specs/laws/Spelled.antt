-- Readings that spell an instance have no fault.
use Rattle.std.proofs.Common.{◌≡◌, ℕ, zero, suc, ◌<◌, ◌≤◌, Bool, true, false, ◌==◌, ◌||◌, List, [], ◌∷◌, ◌++◌, refl, arith}
use Rattle.std.specs.Prelude.{nat_lt}
use Rattle.std.proofs.lemmas.Bool.{ltb-false}
use Rattle.asg_model.specs.Limits.{most_rows, most_columns}
use Rattle.asg_model.specs.Problem.{Problem}
use Rattle.asg_tokens.specs.Faults.{Fault, NoRows, TooLarge, fault_where}
use Rattle.asg_tokens.specs.Readings.{Spells, reading_with}

-- two lists of faults are empty together
pub none_in_front : (xs ys : List Fault) → xs ++ ys ≡ [] → (xs ≡ []) × (ys ≡ [])
none_in_front [] ys none = (refl, none)
none_in_front (x ∷ xs) ys none = cc

-- a reading that spells an instance has no fault, and its instance is that one
pub spelled : (faults : List Fault) (X Y : Problem) → reading_with faults X ≡ Spells Y → (faults ≡ []) × (X ≡ Y)
spelled [] X Y e = (refl, cc)
spelled (fault ∷ faults) X Y e = cc

-- where there is no fault the test doesn't hold
pub none_where : (test : Bool) (fault : Fault) → fault_where test fault ≡ [] → test ≡ false
none_where true fault none = cc
none_where false fault none = refl

neither : (a b : Bool) → (a || b) ≡ false → (a ≡ false) × (b ≡ false)
neither true b e = cc
neither false b e = (refl, e)

-- how many rows and columns there are where neither number is at fault
pub record AreFew (rows columns : ℕ) : Type 0 where
  pub some : 0 < rows
  pub few_rows : rows ≤ most_rows
  pub few_columns : columns ≤ most_columns

pub are_few : (rows columns : ℕ) → fault_where (rows == 0) NoRows ≡ [] → fault_where (nat_lt most_rows rows || nat_lt most_columns columns) (TooLarge rows columns) ≡ [] → AreFew rows columns
are_few rows columns some none =
    let large = neither (nat_lt most_rows rows) (nat_lt most_columns columns) (none_where (nat_lt most_rows rows || nat_lt most_columns columns) (TooLarge rows columns) none) in
    record {
      some = not_none rows (none_where (rows == 0) NoRows some);
      few_rows = ltb-false most_rows rows large.0;
      few_columns = ltb-false most_columns columns large.1;
    }
  where
    not_none : (n : ℕ) → (n == 0) ≡ false → 0 < n
    not_none zero e = cc
    not_none (suc n) e = omega arith
