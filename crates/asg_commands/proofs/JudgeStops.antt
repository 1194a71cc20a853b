-- A script that stops a request is refused.
use Rattle.asg_commands.proofs.Common.{ℕ, List, sym, subst, Answers, bytes_of, Reply, Status, StopsScript, DueForScript, ScriptFile, Line}
use Rattle.asg_commands.specs.declared.stops.Stop.TheVariants.{Refused}

pub refused_due : (file : ScriptFile) (Owed : List (ℕ × Line) → Status → List ℕ → Type 0) (reply : Reply) → StopsScript file (Refused reply) → Answers (DueForScript file Owed) reply
refused_due file Owed reply (numbers, is, says) = subst (λ f. DueForScript f Owed reply.status (bytes_of reply.text)) (sym is) (sym says.0, sym says.1)
