use Rattle.asg_networks.proofs.Common.{◌≡◌, ℕ, ◌^◌, ◌<◌, ◌≤◌, List, [], ◌++◌, map, length, IfSome, Option, ℤ, Problem, reading_of_network, All, sym, ap, ◌∙◌, subst, arith, All-map, All-weaker, Fits-lt-pow, length-map, IsInstance, IsWellFormed, problem_of, IsTable, table_cells, IsPartInRange, targets, nodes_of, IsRightLink, known_cost, firsts_between, twice_faults, Spells, reading_with, row_of, column_of, are_parts}
use Rattle.asg_model.specs.declared.parts.Column.{Column}
use Rattle.asg_model.specs.declared.parts.Row.{Row}
use Rattle.asg_model.specs.declared.parts.Place.TheVariants.{All as PlaceAll}
use Rattle.asg_model.specs.Instances.{by_places}
use Rattle.std.specs.List.Sorted.{IsStrictlySortedBy}
use Rattle.std.specs.Map.{keys_of}
use Rattle.asg_networks.specs.AsnArcs.{instance_of}
use Rattle.asg_networks.proofs.ListedCells.{Cells}
use Rattle.asg_networks.proofs.NodeSetLemmas.{others_are}
use Rattle.asg_networks.proofs.TableFills.{known_in_range}
use Rattle.asg_networks.proofs.NetworkTables.{length-targets, sources_differ, targets_are_ids, targets_differ, whole_table, table_same}
use Rattle.asg_networks.proofs.network.Network.table.Goals as goal
use Rattle.asg_networks.proofs.network.Network.table.Goals.{After-as_slice-3, In-Some, After-new}

module _ (c : After-as_slice-3) where
  abbrev ids : List ℕ
  ids = c.args.self.now.sources.items

  abbrev others : List ℕ
  others = targets ids c.args.nodes

  abbrev known : ℕ → ℕ → Option ℤ
  known = known_cost c.args.self.now.links.items

  abbrev rows : List Row
  rows = c.in_ok-rows.rows.items

  abbrev columns : List Column
  columns = c.in_ok-columns.columns.items

  abbrev firsts : List ℤ
  firsts = firsts_between known ids others

  -- the columns are the other nodes
  others_told : c.in_ok-ids.ids.items ≡ others
  others_told = c.in_ok-ids.ensures ∙ others_are c.args.self.now.source_set ids c.args.nodes c.requires.sound.source_set

  rows_are : rows ≡ map row_of ids
  rows_are = c.in_ok-rows.ensures ∙ ap (map row_of) c.as_slice.ensures.value

  columns_are : columns ≡ map column_of others
  columns_are = c.in_ok-columns.ensures ∙ ap (map column_of) (c.as_slice-2.ensures.value ∙ others_told)

  nodes : All (λ id. (1 ≤ id) × (id ≤ c.args.nodes)) ids
  nodes = subst (λ n. All (λ id. (1 ≤ id) × (id ≤ n)) ids) (sym c.requires.nodes) c.requires.sound.nodes

  in_range : (s t : ℕ) → IfSome (known s t) IsPartInRange
  in_range = known_in_range c.args.self.now.links.items (All-weaker (IsRightLink ids (nodes_of c.args.self.now.sizes)) (λ link. IsPartInRange link.cost) (λ link h. h.cost) c.args.self.now.links.items c.requires.sound.links)

  parts : IsWellFormed (problem_of rows columns [] PlaceAll)
  parts =
      let few = length-targets ids c.args.nodes c.requires.sound.differ nodes in
      subst (λ rows. IsWellFormed (problem_of rows columns [] PlaceAll)) (sym rows_are)
      (subst (λ columns. IsWellFormed (problem_of (map row_of ids) columns [] PlaceAll)) (sym columns_are)
      (are_parts ids others c.requires.some c.requires.few_rows (omega (arith, few, c.requires.few_columns)) (sources_differ ids c.args.nodes c.requires.sound.differ nodes) (targets_differ ids c.args.nodes c.requires.sound.differ nodes)))

  row_count : length ids ≡ length rows
  row_count = sym (ap length rows_are ∙ length-map ids row_of)

  column_count : length others ≡ length columns
  column_count = sym (ap length columns_are ∙ length-map others column_of)

  table : IsTable (length rows) (length columns) firsts []
  table =
      subst (λ n. IsTable n (length columns) firsts []) row_count
      (subst (λ m. IsTable (length ids) m firsts []) column_count
      (whole_table known in_range ids others))

  -- ids are numbers of 32 bits
  row_ids : All (λ row. row.id < 2 ^ 32) rows
  row_ids =
      let few = Fits-lt-pow c.ranges.nodes in
      subst (All (λ (row : Row). row.id < 2 ^ 32)) (sym rows_are)
      (All-map (λ (row : Row). row.id < 2 ^ 32) row_of ids (λ k d within. omega (arith, (nodes k d within).1, few)))

  column_ids : All (λ column. column.id < 2 ^ 32) columns
  column_ids =
      let few = Fits-lt-pow c.ranges.nodes in
      let within_nodes = (targets_are_ids ids c.args.nodes c.requires.sound.differ nodes).within in
      subst (All (λ (column : Column). column.id < 2 ^ 32)) (sym columns_are)
      (All-map (λ (column : Column). column.id < 2 ^ 32) column_of others (λ k d within. omega (arith, within_nodes k d within, few)))

  instance : IsInstance (problem_of rows columns (table_cells (length columns) firsts []) PlaceAll)
  instance = c.whole_table_law.ensures rows columns firsts [] PlaceAll parts row_ids column_ids table

  -- the file spells the instance of these parts
  spelled : (inst : Problem) → twice_faults [] c.args.self.now.links.items ≡ [] → inst ≡ problem_of rows columns (table_cells (length columns) firsts []) PlaceAll → reading_of_network c.args.self.now ≡ Spells inst
  unfolding instance_of
  spelled inst once is =
      let network = c.args.self.now in
      (λ i. reading_with (once i ++ c.requires.right i) (instance_of network.sources.items (sym c.requires.nodes i) known))
      ∙ ap Spells (table_same known in_range ids others ∙ (λ i. problem_of (sym rows_are i) (sym columns_are i) (table_cells (column_count i) firsts []) PlaceAll) ∙ sym is)

-- the cells of few arcs
module _ (c : In-Some) where
  abbrev parts_of_list : After-as_slice-3
  parts_of_list = (goal.at.of_cells-requires-clause-parts c).After-as_slice-3

  cells_are : c.in-Some.cells.items ≡ table_cells (length (columns parts_of_list)) (firsts parts_of_list) []
  cells_are =
      let others_are = c.as_slice-3.ensures.value ∙ others_told parts_of_list in
      let links = c.args.self.now.links.items in
      subst (λ found. IfSome found (λ cells. cells.items ≡ table_cells (length c.as_slice-3.result.now) (firsts_between (known_cost links) (ids parts_of_list) c.as_slice-3.result.now) [])) c.in-Some.is c.in_ok-cells.ensures.cells
      ∙ ap (λ targets. table_cells (length targets) (firsts_between (known_cost links) (ids parts_of_list) targets) []) others_are
      ∙ ap (λ n. table_cells n (firsts parts_of_list) []) (column_count parts_of_list)

-- the table of the arcs
module _ (c : After-new) where
  abbrev parts_of_table : After-as_slice-3
  parts_of_table = (goal.at.of_table-requires-clause-parts c).After-as_slice-3

  firsts_are : c.in_ok-firsts.firsts.items ≡ firsts parts_of_table
  firsts_are = c.in_ok-firsts.ensures.firsts ∙ ap (firsts_between (known parts_of_table) (ids parts_of_table)) (c.as_slice-4.ensures.value ∙ others_told parts_of_table)

pub few_cells-requires-clause-others : goal.few_cells-requires-clause-others
few_cells-requires-clause-others c = c.as_slice-3.ensures.value ∙ others_told c

pub of_cells-requires-clause-parts : goal.of_cells-requires-clause-parts
of_cells-requires-clause-parts c =
    let given = parts_of_list c in
    subst (λ cells. IsWellFormed (problem_of (rows given) (columns given) cells PlaceAll)) (sym (cells_are c)) (instance given).well_formed

pub of_cells-requires-clause-ascend : goal.of_cells-requires-clause-ascend
of_cells-requires-clause-ascend c =
    subst (λ (cells : Cells). IsStrictlySortedBy by_places (keys_of cells)) (sym (cells_are c)) (instance (parts_of_list c)).cells_ascend

pub returns-in-Some-clause-instance : goal.returns-in-Some-clause-instance
returns-in-Some-clause-instance c =
    let here = (goal.at.returns-in-Some-clause-instance c).In-Some in
    let given = parts_of_list here in
    let once = subst (λ found. IfSome found (λ cells. twice_faults [] c.args.self.now.links.items ≡ [])) c.in-Some.is c.in_ok-cells.ensures.once in
    spelled given c.of_cells.result once (c.of_cells.ensures ∙ ap (λ cells. problem_of (rows given) (columns given) cells PlaceAll) (cells_are here))

pub firsts-requires-clause-others : goal.firsts-requires-clause-others
firsts-requires-clause-others c =
    c.as_slice-4.ensures.value ∙ others_told (goal.at.firsts-requires-clause-others c).After-as_slice-3

pub of_table-requires-clause-parts : goal.of_table-requires-clause-parts
of_table-requires-clause-parts c = parts (parts_of_table c)

pub of_table-requires-clause-table : goal.of_table-requires-clause-table
of_table-requires-clause-table c =
    subst (λ firsts. IsTable (length c.in_ok-rows.rows.items) (length c.in_ok-columns.columns.items) firsts c.new.result.items) (sym (firsts_are c))
    (subst (λ seconds. IsTable (length c.in_ok-rows.rows.items) (length c.in_ok-columns.columns.items) (firsts (parts_of_table c)) seconds) (sym c.new.ensures.items)
    (table (parts_of_table c)))

pub returns-clause-instance : goal.returns-clause-instance
returns-clause-instance c =
    let here = (goal.at.returns-clause-instance c).After-new in
    let given = parts_of_table here in
    spelled given c.of_table.result c.in_ok-firsts.ensures.once (c.of_table.ensures ∙ (λ i. problem_of (rows given) (columns given) (table_cells (length (columns given)) (firsts_are here i) (c.new.ensures.items i)) PlaceAll))
