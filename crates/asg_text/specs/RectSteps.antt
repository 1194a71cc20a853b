-- Lines of tokens, token by token: words of the writer of rect texts, on which `rect_text` doesn't
-- stand.
use Rattle.std.specs.Prelude.{ℕ, ◌==◌, if◌then◌else◌, List, ◌∷◌}

-- what a token adds to a line behind so many others: a space before it where there are any
abbrev pub next_text : ℕ → List ℕ → List ℕ
next_text before token = if before == 0 then token else 32 ∷ token
