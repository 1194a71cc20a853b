-- The limit of a number that the words give, beside those of instances and rankings.
use Rattle.std.specs.Prelude.{ℕ}

-- the greatest seed of a generated instance
abbrev pub most_seed : ℕ
most_seed = 1000000
