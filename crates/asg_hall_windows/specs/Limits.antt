use Rattle.std.specs.Prelude.{ℕ}

-- the greatest number of windows that are tested at once
abbrev pub most_windows : ℕ
most_windows = 20000
