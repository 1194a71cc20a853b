use Rattle.std.specs.Prelude.{ℕ, ◌^◌, max, nat_lt, nat_le, ◌==◌, ◌&&◌, if◌then◌else◌, Option, Some, None}
use Rattle.asg_order.specs.declared.words.Word.{Word}
use Rattle.asg_order.specs.Monoid.{Monoid}

-- the numbers below 2^64 with the greater of two
abbrev pub maxima : Monoid ℕ
maxima = record { is_value = λ x. nat_lt x (2 ^ 64); unit = 0; product = max; is_le = nat_le }

-- y where it is greater than x, else nothing
abbrev pub maxima_difference : ℕ → ℕ → ℕ
maxima_difference y x = if nat_lt x y then y else 0

-- the number below 2^64 that has the word
abbrev pub maxima_value : Word → Option ℕ
maxima_value w = if (w.grade == 0) && nat_lt w.amount (2 ^ 64) then Some w.amount else None
