use Rattle.asg_tokens.proofs.Common.{◌≡◌, ◌+◌, ◌*◌, [], map, length, sym, ap, ◌∙◌, arith, length-map, length-range_with_len, range_with_len, IsTable, table_cells, tokens, is_space, cell_of, length-pieces}
use Rattle.asg_model.specs.Instances.{IsWellFormed}
use Rattle.asg_model.specs.Problem.{problem_of}
use Rattle.asg_tokens.specs.Readings.{Spells, row_of, column_of, cells_of_rows, table_of}
use Rattle.asg_tokens.specs.laws.TableInstances.{range_is_distinct, are_parts, same_cells, is_table, all_of, room_is, tokens_are, slots_are, miscounted, faultless}
use Rattle.asg_model.specs.declared.parts.Place.TheVariants.{All as PlaceAll}
use Rattle.asg_tokens.proofs.tables.read_table.Goals as goal
use Rattle.asg_tokens.proofs.tables.read_table.Goals.{In_ok-columns}

pub overflow_add-found : goal.overflow_add-found
overflow_add-found c =
    let read = c.in_ok-costs.ensures.costs in
    omega (arith, c.len.ensures, c.count_pieces.ensures, all_of c.args.text.now read, length-pieces is_space c.args.text.now)

pub returns-then-found-count-clause-refused : goal.returns-then-found-count-clause-refused
returns-then-found-count-clause-refused c =
    miscounted c.args.text.now c.args.header.tokens c.args.header.rows c.args.header.columns _ _ c.in_ok-costs.ensures.costs c.in_ok-costs.ensures.room c.in_ok-check_sizes.ensures.right (omega (arith, c.len.ensures, c.count_pieces.ensures)) c.if-found-count.true

module _ (c : In_ok-columns) where
  found : length c.in_ok-costs.costs.firsts.items + length (tokens c.in_ok-costs.costs.rest.now) ≡ c.args.header.rows * c.args.header.columns
  found = omega (arith, c.len.ensures, c.count_pieces.ensures, c.if-found-count.false)

  row_count : length c.in_ok-rows.rows.items ≡ c.args.header.rows
  row_count =
      ap length c.in_ok-rows.ensures ∙ length-map (range_with_len 1 c.args.header.rows) row_of ∙ length-range_with_len 1 c.args.header.rows

  column_count : length c.in_ok-columns.columns.items ≡ c.args.header.columns
  column_count =
      ap length c.in_ok-columns.ensures ∙ length-map (range_with_len 1 c.args.header.columns) column_of ∙ length-range_with_len 1 c.args.header.columns

  parts : IsWellFormed (problem_of c.in_ok-rows.rows.items c.in_ok-columns.columns.items [] PlaceAll)
  parts =
      let sizes = c.in_ok-check_sizes.ensures in
      let n = length-range_with_len 1 c.args.header.rows in
      let m = length-range_with_len 1 c.args.header.columns in
      rw (c.in_ok-rows.ensures, c.in_ok-columns.ensures) (are_parts (range_with_len 1 c.args.header.rows) (range_with_len 1 c.args.header.columns) (omega (arith, n, sizes.some)) (omega (arith, n, sizes.few_rows)) (omega (arith, m, sizes.few_columns)) (range_is_distinct c.args.header.rows) (range_is_distinct c.args.header.columns))

  table : IsTable (length c.in_ok-rows.rows.items) (length c.in_ok-columns.columns.items) c.in_ok-costs.costs.firsts.items c.in_ok-costs.costs.seconds.items
  table =
      is_table (length c.in_ok-rows.rows.items) (length c.in_ok-columns.columns.items) (map cell_of (tokens c.args.text.now)) _ _
      (room_is c.args.text.now c.in_ok-costs.ensures.costs _ c.in_ok-costs.ensures.room found ∙ (λ i. sym row_count i * sym column_count i))
      (slots_are c.args.text.now c.in_ok-costs.ensures.costs _ c.in_ok-costs.ensures.room found)
      c.in_ok-costs.ensures.costs.seconds_are.in_range

  same : table_of (range_with_len 1 c.args.header.rows) (range_with_len 1 c.args.header.columns) (map cell_of (tokens c.args.text.now)) ≡ problem_of c.in_ok-rows.rows.items c.in_ok-columns.columns.items (table_cells (length c.in_ok-columns.columns.items) c.in_ok-costs.costs.firsts.items c.in_ok-costs.costs.seconds.items) PlaceAll
  unfolding table_of
  same =
      let read = c.in_ok-costs.ensures.costs in
      let room = c.in_ok-costs.ensures.room in
      let columns : length (range_with_len 1 c.args.header.columns) ≡ length c.in_ok-columns.columns.items = length-range_with_len 1 c.args.header.columns ∙ sym column_count in
      let costs : length (map cell_of (tokens c.args.text.now)) ≡ length c.in_ok-costs.costs.firsts.items = length-map (tokens c.args.text.now) cell_of ∙ tokens_are c.args.text.now read _ room found ∙ sym (room_is c.args.text.now read _ room found) in
      let cells = same_cells (length c.in_ok-columns.columns.items) (map cell_of (tokens c.args.text.now)) _ _ costs (slots_are c.args.text.now read _ room found) in
      (λ i. problem_of (sym c.in_ok-rows.ensures i) (sym c.in_ok-columns.ensures i) (cells_of_rows (columns i) (map cell_of (tokens c.args.text.now))) PlaceAll)
      ∙ ap (λ cells. problem_of c.in_ok-rows.rows.items c.in_ok-columns.columns.items cells PlaceAll) cells

pub of_table-requires-clause-parts : goal.of_table-requires-clause-parts
of_table-requires-clause-parts c = parts c

pub of_table-requires-clause-table : goal.of_table-requires-clause-table
of_table-requires-clause-table c = table c

pub returns-clause-instance : goal.returns-clause-instance
returns-clause-instance c =
    let before = (goal.at.returns-clause-instance c).In_ok-columns in
    faultless c.args.text.now c.args.header.tokens c.args.header.rows c.args.header.columns _ c.in_ok-costs.ensures.costs c.in_ok-costs.ensures.room c.in_ok-check_sizes.ensures.right (found before) ∙ ap Spells (same before ∙ sym c.of_table.ensures)
