-- A writer as a sink.
use Rattle.std.specs.Prelude.{ℕ, List, Option}

-- the bytes that the writer holds, where it tells them, and the count of faults
pub record WriterState : Type 0 where
  pub written : Option (List ℕ)
  pub faults : ℕ
