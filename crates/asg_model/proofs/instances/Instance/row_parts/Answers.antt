-- A row of the table has both parts of the row's costs.
use Rattle.asg_model.proofs.Common.{◌<◌, List, length, IfSome, OnSome, Some, None, Option, ap, ◌∙◌, subst, cost_at, AreTableParts, Column, Row}
use Rattle.asg_model.proofs.Tables.{cells_are}
use Rattle.asg_model.proofs.instances.Instance.row_parts.Goals as goal

both : {A : Type 0} (o : Option A) (Q : Type 0) (P R : A → Type 0) → OnSome o Q → IfSome o P → ((x : A) → Q → P x → R x) → IfSome o R
both None Q P R q p h = tt
both (Some x) Q P R q p h = h x q p

pub returns-in-Table-clause-parts : goal.returns-in-Table-clause-parts
returns-in-Table-clause-parts c =
    let X = c.args.self.now in
    let inside = c.self.inside in
    let rows = ap (λ (list : List Row). length list) c.rows.ensures.rows in
    let columns = ap (λ (list : List Column). length list) c.columns.ensures.columns in
    let firsts = c.in-Table.firsts in
    let seconds = c.in-Table.seconds in
    let cells = cells_are inside.rows.items inside.columns.items inside.store inside.place X c.self.view_is firsts seconds c.in-Table.is in
    both c.table_parts.result _ _ _ c.table_parts.ensures.there c.table_parts.ensures.parts
    (λ parts there are.
    let row : c.args.row < length X.rows = rw rows at there in
    let Are = AreTableParts (length X.columns) firsts.items seconds.items c.args.row in
    let are_n : Are parts.firsts.now parts.seconds.now =
    subst (λ n. AreTableParts n firsts.items seconds.items c.args.row parts.firsts.now parts.seconds.now) columns
    (subst (λ list. AreTableParts (length c.columns.result.now) list seconds.items c.args.row parts.firsts.now parts.seconds.now) c.as_slice-in-Table.ensures.value
    (subst (λ list. AreTableParts (length c.columns.result.now) c.as_slice-in-Table.result.now list c.args.row parts.firsts.now parts.seconds.now) c.as_slice-in-Table-2.ensures.value are)) in
    record {
      there = row;
      whole = are_n.whole;
      costs = λ d within. ap (λ list. cost_at list c.args.row d) cells ∙ are_n.costs d within;
    })
