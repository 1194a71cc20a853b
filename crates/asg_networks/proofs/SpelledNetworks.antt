-- What an asn file spells is an instance.
use Rattle.asg_networks.proofs.Common.{◌≡◌, ℕ, ◌+◌, ◌-◌, ◌^◌, ◌<◌, ◌≤◌, Bool, true, false, cond, not, ◌&&◌, ◌||◌, List, [], ◌∷◌, ◌++◌, length, ℤ, is_some, IfSome, nat_eq, nat_lt, nat_le, ◌==◌, Some, None, fold, All, Option, find, option_and_then, sym, refl, ◌∙◌, subst, append_assoc, arith, leb-true, All-cons, All-filter, All-head, All-nil, All-push, All-tail, All-weaker, IsDistinct-push, and_parts, cons_option, nat_eq_equiv, range_with_len, append-nil, IsInstance, most_rows, most_columns, Problem, IsPartInRange, stated, sizes_in, node_in, arc_in, is_among, with_id, is_target, is_node, node_faults, faults_behind, faults_of_line, line_faults, count_faults, cost_between, nodes_of, reading_of_asn, IsLineInRange, Arc, Line, Empty, Header, Node, Arrow, Other, Sizes, ArcCount, BadNode, NoRows, SecondProblemLine, TooLarge, fault_where, Spells, filter_map}
use Rattle.std.specs.List.{IsDistinct}
use Rattle.asg_networks.specs.AsnArcs.{arcs, sources, targets, instance_of}
use Rattle.asg_networks.proofs.TwiceLemmas.{found_told}
use Rattle.asg_networks.proofs.OneMoreLine.{stated_stays, sources_stay, sources_grow}
use Rattle.asg_networks.proofs.NetworkTables.{length-targets, sources_differ, targets_differ, whole_table, table_same}
use Rattle.asg_tokens.specs.laws.Spelled.{AreFew, are_few, none_in_front, none_where, spelled}
use Rattle.asg_tokens.specs.laws.SpelledTables.{TablesAreInstances, range_ids, table_instance}

-- ids that are those of nodes
abbrev AreNodes : Option Sizes → List ℕ → Type 0
AreNodes sizes ids = All (λ id. (1 ≤ id) × (id ≤ nodes_of sizes)) ids

-- a line that states no sizes and names no source leaves both as they are
still_nodes : (before : List Line) (line : Line) → sizes_in line ≡ None → node_in line ≡ None → AreNodes (stated before) (sources before) → AreNodes (stated (before ++ line ∷ [])) (sources (before ++ line ∷ []))
still_nodes before line no_sizes no_node nodes =
    subst (λ sizes. AreNodes sizes (sources (before ++ line ∷ []))) (sym (stated_stays before line no_sizes))
    (subst (AreNodes (stated before)) (sym (sources_stay before line no_node)) nodes)

-- before the sizes are stated there is no source
none_yet : (sizes : Option Sizes) (ids : List ℕ) → is_some sizes ≡ false → AreNodes sizes ids → ids ≡ []
none_yet (Some sizes) ids none nodes = cc
none_yet None [] none nodes = refl
none_yet None (id ∷ ids) none nodes = let first = nodes 0 id (omega arith) in absurd (omega (arith, first.0, first.1))

header_nodes : (before : List Line) (sizes : Option Sizes) → is_some (stated before) ≡ false → AreNodes (stated before) (sources before) → AreNodes (stated (before ++ Header sizes ∷ [])) (sources (before ++ Header sizes ∷ []))
header_nodes before sizes none nodes =
    let is : sources (before ++ Header sizes ∷ []) ≡ [] = sources_stay before (Header sizes) refl ∙ none_yet (stated before) (sources before) none nodes in
    subst (AreNodes (stated (before ++ Header sizes ∷ []))) (sym is) (All-nil (λ id. (1 ≤ id) × (id ≤ nodes_of (stated (before ++ Header sizes ∷ [])))))

-- one more id that is that of a node
with_node : (sizes : Sizes) (ids : List ℕ) (id : ℕ) → is_node sizes id ≡ true → AreNodes (Some sizes) ids → AreNodes (Some sizes) (with_id ids id)
with_node sizes ids id is nodes =
    let P : ℕ → Type 0 = λ id. (1 ≤ id) × (id ≤ sizes.nodes) in
    let parts = and_parts (nat_le 1 id) (nat_le id sizes.nodes) is in
    let more : All P (ids ++ id ∷ []) = All-push P ids id nodes (leb-true 1 id parts.0, leb-true id sizes.nodes parts.1) in
    elim (is_among ids id) as (λ v. All P (cond v ids (ids ++ id ∷ []))) [ true ↦ nodes | false ↦ more ]

or_left : (a b : Bool) → (not a || b) ≡ false → a ≡ true
or_left true b e = refl
or_left false b e = cc

-- a node line without a fault
node_is_node : (before : List Line) (number id : ℕ) (sizes : Option Sizes) → faults_behind number sizes (λ sizes. node_faults before sizes number (Some id)) ≡ [] → AreNodes sizes (sources before) → AreNodes sizes (with_id (sources before) id)
node_is_node before number id None right nodes = cc
node_is_node before number id (Some sizes) right nodes =
    with_node sizes (sources before) id (or_left (is_node sizes id) (is_target before id) (none_where (not (is_node sizes id) || is_target before id) (BadNode number) right)) nodes

node_nodes : (before : List Line) (number : ℕ) (id : Option ℕ) → faults_of_line before number (Node id) ≡ [] → AreNodes (stated before) (sources before) → AreNodes (stated (before ++ Node id ∷ [])) (sources (before ++ Node id ∷ []))
node_nodes before number None right nodes = still_nodes before (Node None) refl refl nodes
node_nodes before number (Some id) right nodes =
    subst (λ sizes. AreNodes sizes (sources (before ++ Node (Some id) ∷ []))) (sym (stated_stays before (Node (Some id)) refl))
    (subst (AreNodes (stated before)) (sym (sources_grow before (Node (Some id)) id refl)) (node_is_node before number id (stated before) right nodes))

-- the sources behind a line without a fault are nodes where those before it are
more_nodes : (before : List Line) (number : ℕ) (line : Line) → faults_of_line before number line ≡ [] → AreNodes (stated before) (sources before) → AreNodes (stated (before ++ line ∷ [])) (sources (before ++ line ∷ []))
more_nodes before number Empty right nodes = still_nodes before Empty refl refl nodes
more_nodes before number (Header sizes) right nodes =
    header_nodes before sizes (none_where (is_some (stated before)) (SecondProblemLine number) (none_in_front (fault_where (is_some (stated before)) (SecondProblemLine number)) _ right).0) nodes
more_nodes before number (Node id) right nodes = node_nodes before number id right nodes
more_nodes before number (Arrow arc) right nodes = still_nodes before (Arrow arc) refl refl nodes
more_nodes before number Other right nodes = still_nodes before Other refl refl nodes

all_nodes : (before lines : List Line) → line_faults before lines ≡ [] → AreNodes (stated before) (sources before) → AreNodes (stated (before ++ lines)) (sources (before ++ lines))
all_nodes before [] right nodes = subst (λ all. AreNodes (stated all) (sources all)) (sym (append-nil before)) nodes
all_nodes before (line ∷ lines) right nodes =
    let parts = none_in_front (faults_of_line before (length before + 1) line) (line_faults (before ++ line ∷ []) lines) right in
    subst (λ all. AreNodes (stated all) (sources all)) (append_assoc before (line ∷ []) lines)
    (all_nodes (before ++ line ∷ []) lines parts.1 (more_nodes before (length before + 1) line parts.0 nodes))

-- the sources of lines without a fault are nodes
sources_are_nodes : (all : List Line) → line_faults [] all ≡ [] → AreNodes (stated all) (sources all)
unfolding sources
sources_are_nodes all right = all_nodes [] all right (All-nil (λ id. (1 ≤ id) × (id ≤ nodes_of (stated []))))

-- they differ
ids_differ : (found ids : List ℕ) → IsDistinct nat_eq found → IsDistinct nat_eq (fold with_id found ids)
ids_differ found [] differ = differ
ids_differ found (id ∷ ids) differ = ids_differ (with_id found id) ids (one_more (is_among found id) refl)
  where
    one_more : (among : Bool) → is_among found id ≡ among → IsDistinct nat_eq (cond among found (found ++ id ∷ []))
    one_more true is = differ
    one_more false is = IsDistinct-push nat_eq_equiv found id differ is

all_differ : (all : List Line) → IsDistinct nat_eq (sources all)
unfolding sources IsDistinct
all_differ all = ids_differ [] (filter_map node_in all) tt

-- the costs of arcs are in range
arc_in_range : (line : Line) → IsLineInRange line → IfSome (arc_in line) (λ arc. IfSome arc.cost IsPartInRange)
arc_in_range Empty h = tt
arc_in_range (Header sizes) h = tt
arc_in_range (Node id) h = tt
arc_in_range (Arrow arc) h = h
arc_in_range Other h = tt

front : {X : Type 0} (P : X → Type 0) (o : Option X) (rest : List X) → IfSome o P → All P rest → All P (cons_option o rest)
front P None rest here all = all
front P (Some x) rest here all = All-cons P x rest here all

arcs_in_range : (all : List Line) → All IsLineInRange all → All (λ arc. IfSome arc.cost IsPartInRange) (arcs all)
unfolding arcs
arcs_in_range [] right = All-nil (λ (arc : Arc). IfSome arc.cost IsPartInRange)
arcs_in_range (line ∷ lines) right =
    front (λ (arc : Arc). IfSome arc.cost IsPartInRange) (arc_in line) (filter_map arc_in lines) (arc_in_range line (All-head IsLineInRange line lines right)) (arcs_in_range lines (All-tail IsLineInRange line lines right))

costs_in_range : (all : List Line) → All IsLineInRange all → (s t : ℕ) → IfSome (cost_between (arcs all) s t) IsPartInRange
costs_in_range all right s t = go (find between (arcs all)) refl
  where
    between : Arc → Bool
    between arc = (arc.source == s) && (arc.target == t)

    go : (found : Option Arc) → find between (arcs all) ≡ found → IfSome (option_and_then (λ arc. arc.cost) found) IsPartInRange
    go None is = tt
    go (Some arc) is = found_told (λ arc. IfSome arc.cost IsPartInRange) between (arcs all) arc is (arcs_in_range all right)

-- few enough nodes have ids below 2^32
target_ids : (ids : List ℕ) (nodes : ℕ) → nodes ≤ 2000 → All (λ id. id < 2 ^ 32) (targets ids nodes)
unfolding targets
target_ids ids nodes few = All-filter (λ id. not (is_among ids id)) (λ id. id < 2 ^ 32) (range_with_len 1 nodes) (range_ids nodes few)

-- the instance of few different sources that are nodes
module _ (law : TablesAreInstances) (ids : List ℕ) (nodes : ℕ) (cost : ℕ → ℕ → Option ℤ) (few : AreFew (length ids) (nodes - length ids)) (distinct : IsDistinct nat_eq ids) (in_range : All (λ id. (1 ≤ id) × (id ≤ nodes)) ids) (costs : (s t : ℕ) → IfSome (cost s t) IsPartInRange) where
  few_nodes : nodes ≤ 2000
  few_nodes = omega (arith, few.few_rows, few.few_columns)

  network_instance : IsInstance (instance_of ids nodes cost)
  unfolding instance_of
  network_instance =
      let sizes : AreFew (length ids) (length (targets ids nodes)) = record { some = few.some; few_rows = few.few_rows; few_columns = omega (arith, length-targets ids nodes distinct in_range, few.few_columns) } in
      let row_ids : All (λ id. id < 2 ^ 32) ids = All-weaker (λ id. (1 ≤ id) × (id ≤ nodes)) (λ id. id < 2 ^ 32) (λ id h. omega (arith, h.1, few_nodes)) ids in_range in
      subst IsInstance (sym (table_same cost costs ids (targets ids nodes)))
      (table_instance law ids (targets ids nodes) _ [] sizes (sources_differ ids nodes distinct in_range) (targets_differ ids nodes distinct in_range) row_ids (target_ids ids nodes few_nodes) (whole_table cost costs ids (targets ids nodes)))

-- sizes that are stated, with few rows and columns
counts_few : (sizes : Option Sizes) (found rows : ℕ) → count_faults sizes found rows ≡ [] → AreFew rows (nodes_of sizes - rows)
counts_few None found rows right = cc
counts_few (Some sizes) found rows right =
    let columns = sizes.nodes - rows in
    let arcs_fault = fault_where (not (found == sizes.arcs)) (ArcCount sizes.arcs found) in
    let none_fault = fault_where (rows == 0) NoRows in
    let large_fault = fault_where (nat_lt most_rows rows || nat_lt most_columns columns) (TooLarge rows columns) in
    let parts = none_in_front (arcs_fault ++ none_fault) large_fault right in
    are_few rows columns (none_in_front arcs_fault none_fault parts.0).1 parts.1

pub asn_spells_instance : TablesAreInstances → (all : List Line) (X : Problem) → All IsLineInRange all → reading_of_asn all ≡ Spells X → IsInstance X
asn_spells_instance law all X in_range e =
    let both = spelled (line_faults [] all ++ count_faults (stated all) (length (arcs all)) (length (sources all))) (instance_of (sources all) (nodes_of (stated all)) (cost_between (arcs all))) X e in
    let parts = none_in_front (line_faults [] all) _ both.0 in
    subst IsInstance both.1
    (network_instance law (sources all) (nodes_of (stated all)) (cost_between (arcs all)) (counts_few (stated all) (length (arcs all)) (length (sources all)) parts.1) (all_differ all) (sources_are_nodes all parts.0) (costs_in_range all in_range))
