use Rattle.std.specs.Prelude.{ℕ, ◌^◌, nat_lt, nat_le, ◌==◌, ◌&&◌, ◌||◌, if◌then◌else◌, Option, Some, None}
use Rattle.asg_order.specs.declared.words.Word.{Word}
use Rattle.asg_order.specs.Monoid.{Monoid}

-- the greater grade wins, and equal grades combine their values
abbrev pub graded_product : {V : Type 0} → (V → V → V) → ℕ × V → ℕ × V → ℕ × V
graded_product product x y =
    if nat_lt x.0 y.0 then y else if nat_lt y.0 x.0 then x else (x.0, product x.1 y.1)

-- pairs of a grade below 2^64 and a value, ordered by the grade first
abbrev pub graded : {V : Type 0} → Monoid V → Monoid (ℕ × V)
graded B = record {
  is_value = λ x. nat_lt x.0 (2 ^ 64) && B.is_value x.1;
  unit = (0, B.unit);
  product = graded_product B.product;
  is_le = λ x y. nat_lt x.0 y.0 || ((x.0 == y.0) && B.is_le x.1 y.1);
}

-- the difference of pairs: the greater pair itself where its grade is greater, the difference of
-- the values where the grades are equal, and the unit where nothing is missing
abbrev pub graded_difference : {V : Type 0} → Monoid V → (V → V → V) → ℕ × V → ℕ × V → ℕ × V
graded_difference B difference y x =
    if nat_lt x.0 y.0 then y
    else if nat_lt y.0 x.0 || B.is_le y.1 x.1 then (0, B.unit) else (y.0, difference y.1 x.1)

-- a pair of a grade and a number is written as it is
abbrev pub graded_word : ℕ × ℕ → Word
graded_word x = record { grade = x.0; amount = x.1 }

-- the pair of a grade below 2^64 and a number up to top that has the word
abbrev pub graded_value : ℕ → Word → Option (ℕ × ℕ)
graded_value top w =
    if nat_lt w.grade (2 ^ 64) && nat_le w.amount top then Some (w.grade, w.amount) else None
