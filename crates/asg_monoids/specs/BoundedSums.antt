use Rattle.std.specs.Prelude.{ℕ, ◌+◌, ◌-◌, ◌^◌, min, nat_le, ◌==◌, ◌&&◌, if◌then◌else◌, Option, Some, None}
use Rattle.asg_order.specs.declared.words.Word.{Word}
use Rattle.asg_order.specs.Monoid.{Monoid}

-- the numbers up to top with sums that stop at top
abbrev pub bounded_sums : ℕ → Monoid ℕ
bounded_sums top = record {
  is_value = λ x. nat_le x top;
  unit = 0;
  product = λ x y. min (x + y) top;
  is_le = nat_le;
}

-- what is missing from x to y
abbrev pub bounded_difference : ℕ → ℕ → ℕ
bounded_difference y x = y - x

-- a number is written with the grade 0
abbrev pub plain_word : ℕ → Word
plain_word x = record { grade = 0; amount = x }

-- the number up to top that has the word
abbrev pub bounded_value : ℕ → Word → Option ℕ
bounded_value top w = if (w.grade == 0) && nat_le w.amount top then Some w.amount else None

-- where sums in 64 bits stop
abbrev pub narrow_top : ℕ
narrow_top = 2 ^ 62
