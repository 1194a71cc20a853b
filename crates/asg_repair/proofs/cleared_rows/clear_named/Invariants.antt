use Rattle.asg_repair.proofs.Common.{IsNamed, label_at}
use Rattle.asg_repair.proofs.ClearedLemmas.{IsCleared}
use Rattle.asg_repair.proofs.cleared_rows.clear_named.Given as goal

abbrev pub invariant-loop-r : goal.invariant-loop-r
invariant-loop-r g l =
    IsCleared (IsNamed l.fn.places (label_at l.fn.square)) l.fn.matching l.matching l.r
