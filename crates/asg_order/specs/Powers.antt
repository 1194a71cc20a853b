use Rattle.std.specs.Prelude.{ℕ, replicate}
use Rattle.asg_order.specs.Monoid.{Monoid, fold_of}

-- the power of a value: the product of so many copies of it
abbrev pub power_of : {V : Type 0} → Monoid V → V → ℕ → V
power_of M x count = fold_of M (replicate count x)
