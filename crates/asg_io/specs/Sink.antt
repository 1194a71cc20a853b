-- What a put does to the bytes written, where a sink tells them.
use Rattle.std.specs.Prelude.{◌≤◌, ℕ, List, length, take, Option}
use Rattle.std.specs.Io.KnownBytes.{Appends}

-- the bytes written are those from before, and then the piece; nothing is said of bytes that were
-- untold before
pub record Puts (before now : Option (List ℕ)) (piece : List ℕ) : Type 0 where
  pub written : Appends before now piece

-- the bytes written are those from before, and then a prefix of the piece
pub record PutsPrefix (before now : Option (List ℕ)) (piece : List ℕ) : Type 0 where
  pub taken : ℕ
  pub within : taken ≤ length piece
  pub put : Puts before now (take taken piece)
