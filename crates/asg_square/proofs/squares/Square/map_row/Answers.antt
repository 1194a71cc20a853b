use Rattle.asg_square.proofs.Common.{sym, refl, ◌∙◌, subst, arith, Grid}
use Rattle.asg_square.specs.RowChanges.{MapsRow}
use Rattle.asg_square.proofs.squares.Square.map_row.Goals as goal

pub invariant_of-self : goal.invariant_of-self
invariant_of-self g c =
    let i = c.self.invariant in
    let side = sym c.map_row.ensures.row.side in
    record {
      row_count = i.row_count ∙ side;
      column_count = i.column_count ∙ side;
      rows_within = omega (arith, i.rows_within, side);
      table = c.map_row.ensures.table;
    }

pub returns : goal.returns
returns g c =
    let s = c.self.inside in
    let m = c.map_row.ensures.row in
    let Square = Grid g.row.V.Denot in
    let after : Square = record {
      side = c.map_row.new.self.side;
      rows = s.rows;
      row_labels = s.row_labels.items;
      column_labels = s.column_labels.items;
      cells = c.map_row.new.self.cells;
    } in
    subst (λ (q : Square). MapsRow q after c.args.r (goal.F-post g c.args.change.now)) c.self.view_is
    (record { side = m.side; rows = refl; row_labels = refl; column_labels = refl; cells = m.cells; others = m.others })
