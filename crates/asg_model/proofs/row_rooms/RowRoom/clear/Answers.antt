use Rattle.asg_model.proofs.Common.{⊎_elim, cases_lt, get_or_past, arith, absent, ◌<◌, ◌≤◌}
use Rattle.std.proofs.Common.{replicate}
use Rattle.std.proofs.lemmas.List.{get_or-replicate, length-replicate}
use Rattle.asg_model.proofs.row_rooms.RowRoom.clear.Goals as goal

pub returns : goal.returns
returns c = λ k.
    ⊎_elim
    (λ (within : k < 1000). get_or-replicate 1000 k absent absent within)
    (λ (past : 1000 ≤ k). get_or_past (replicate 1000 absent) k absent (omega (arith, length-replicate 1000 absent, past)))
    (cases_lt k 1000)
