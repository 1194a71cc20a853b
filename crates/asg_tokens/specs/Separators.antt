-- The separators that a reader of pieces is told; `reading_of` doesn't stand on them.
use Rattle.std.specs.Prelude.{ℕ, Bool}
use Rattle.asg_tokens.specs.declared.pieces.Separators.{Separators}
use Rattle.asg_tokens.specs.declared.pieces.Separators.TheVariants.{Blanks, Spaces}
use Rattle.asg_tokens.specs.Pieces.{is_blank, is_space}

-- the byte is a separator
abbrev pub separates : Separators → ℕ → Bool
separates Blanks byte = is_blank byte
separates Spaces byte = is_space byte
