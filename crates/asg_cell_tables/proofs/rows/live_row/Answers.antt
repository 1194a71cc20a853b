use Rattle.asg_cell_tables.proofs.Common.{IfSome, Some, None, Option, sym, IsLiveRow, AreRowParts}
use Rattle.asg_cell_tables.proofs.RowLemmas.{live_of_parts}
use Rattle.asg_cell_tables.proofs.rows.live_row.Goals as goal

weaker : {A : Type 0} (o : Option A) (P Q : A → Type 0) → IfSome o P → ((x : A) → P x → Q x) → IfSome o Q
weaker None P Q h f = tt
weaker (Some x) P Q h f = f x h

pub returns-then-is_active : goal.returns-then-is_active
returns-then-is_active c =
    let X = c.args.inst.now in
    weaker c.row_parts.result (λ parts. AreRowParts X c.args.i parts.firsts.now parts.seconds.now)
    (λ parts. IsLiveRow X c.args.i parts.firsts.now parts.seconds.now)
    c.row_parts.ensures.parts
    (λ parts are. live_of_parts X c.args.i parts.firsts.now parts.seconds.now (sym c.if-is_active.ensures) c.requires are)
