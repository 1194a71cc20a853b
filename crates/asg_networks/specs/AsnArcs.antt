-- Asn files, by what their lines say.
use Rattle.std.specs.Prelude.{ℕ, ◌+◌, ◌-◌, ◌==◌, pos, ◌&&◌, ◌||◌, nat_le, nat_lt, not, if◌then◌else◌, Bool, false, List, [], ◌∷◌, ◌++◌, length, map, filter, find, fold, Option, Some, None, is_some, slice_get, ℤ, option_and_then}
use Rattle.std.specs.Option.{option_map, option_map_or}
use Rattle.std.specs.Ordering.{int_eq}
use Rattle.std.specs.List.{filter_map, flat_map, list_any, range_with_len}
use Rattle.asg_model.specs.Limits.{most_rows, most_columns}
use Rattle.asg_model.specs.declared.parts.Cost.{Cost}
use Rattle.asg_model.specs.Problem.{Problem}
use Rattle.asg_networks.specs.declared.asn_lines.Sizes.{Sizes}
use Rattle.asg_networks.specs.declared.asn_lines.Arc.{Arc}
use Rattle.asg_networks.specs.declared.asn_lines.Line.{Line}
use Rattle.asg_networks.specs.declared.asn_lines.Line.TheVariants.{Empty, Header, Node, Arrow, Other}
use Rattle.asg_tokens.specs.Faults.{Fault, NoProblemLine, SecondProblemLine, BadLine, BadNode, BadArc, CostRange, ArcTwice, ArcCount, TooLarge, NoRows, fault_where}
use Rattle.asg_tokens.specs.Readings.{Reading, reading_with, table_of}

-- the sizes that a line states
abbrev pub sizes_in : Line → Option Sizes
sizes_in (Header sizes) = sizes
sizes_in _ = None

-- the node that a line names a source
abbrev pub node_in : Line → Option ℕ
node_in (Node id) = id
node_in _ = None

-- the arc of a line
abbrev pub arc_in : Line → Option Arc
arc_in (Arrow arc) = arc
arc_in _ = None

-- the sizes that the first problem line states
unfoldable pub stated : List Line → Option Sizes
stated lines = slice_get (filter_map sizes_in lines) 0

-- the arcs, in the order of their lines, with those that repeat one
unfoldable pub arcs : List Line → List Arc
arcs lines = filter_map arc_in lines

-- an id is among some
abbrev pub is_among : List ℕ → ℕ → Bool
is_among ids id = list_any (λ other. id == other) ids

-- ids with one more, unless they have it
abbrev pub with_id : List ℕ → ℕ → List ℕ
with_id ids id = if is_among ids id then ids else ids ++ id ∷ []

-- the sources, in the order of the first lines that name them
unfoldable pub sources : List Line → List ℕ
sources lines = fold with_id [] (filter_map node_in lines)

-- an arc goes to the node
abbrev pub is_target : List Line → ℕ → Bool
is_target lines id = list_any (λ arc. id == arc.target) (arcs lines)

-- two arcs go from the same source to the same destination
abbrev pub is_beside : Arc → Arc → Bool
is_beside arc other = (arc.source == other.source) && (arc.target == other.target)

-- two costs, where they are in range, differ
abbrev pub are_unlike : Option ℤ → Option ℤ → Bool
are_unlike (Some cost) (Some other) = not (int_eq cost other)
are_unlike _ _ = false

-- the arc repeats one of these, at another cost
abbrev pub differs_from : List Arc → Arc → Bool
differs_from earlier arc =
    list_any (λ other. is_beside arc other && are_unlike arc.cost other.cost) earlier

-- the id is that of a node
abbrev pub is_node : Sizes → ℕ → Bool
is_node sizes id = nat_le 1 id && nat_le id sizes.nodes

-- the faults of a node line with a number, behind these lines
abbrev pub node_faults : List Line → Sizes → ℕ → Option ℕ → List Fault
node_faults before sizes number None = BadNode number ∷ []
node_faults before sizes number (Some id) =
    fault_where (not (is_node sizes id) || is_target before id) (BadNode number)

-- the arc goes from one of the sources to another node
abbrev pub goes_right : List ℕ → Sizes → Arc → Bool
goes_right sources sizes arc =
    is_among sources arc.source && is_node sizes arc.target && not (is_among sources arc.target)

-- the faults of an arc line with a number, behind these lines, the earliest first
abbrev pub arc_faults : List Line → Sizes → ℕ → Option Arc → List Fault
arc_faults before sizes number None = BadArc number ∷ []
arc_faults before sizes number (Some arc) =
    fault_where (not (goes_right (sources before) sizes arc)) (BadArc number)
    ++ fault_where (not (is_some arc.cost)) (CostRange number)
    ++ fault_where (differs_from (arcs before) arc) (ArcTwice number)

-- the faults that a line may have only behind the problem line, which is a fault of its own
abbrev pub faults_behind : ℕ → Option Sizes → (Sizes → List Fault) → List Fault
faults_behind number None faults = BadLine number ∷ []
faults_behind number (Some sizes) faults = faults sizes

-- the faults of a line with a number, behind these lines
abbrev pub faults_of_line : List Line → ℕ → Line → List Fault
faults_of_line before number Empty = []
faults_of_line before number (Header sizes) =
    fault_where (is_some (stated before)) (SecondProblemLine number)
    ++ fault_where (not (is_some sizes)) (BadLine number)
faults_of_line before number (Node id) =
    faults_behind number (stated before) (λ sizes. node_faults before sizes number id)
faults_of_line before number (Arrow arc) =
    faults_behind number (stated before) (λ sizes. arc_faults before sizes number arc)
faults_of_line before number Other = BadLine number ∷ []

-- the faults of lines that stand behind others, the earliest first
abbrev pub line_faults : List Line → List Line → List Fault
line_faults before [] = []
line_faults before (line ∷ more) =
    faults_of_line before (length before + 1) line ++ line_faults (before ++ line ∷ []) more

-- the faults of a whole file that states these sizes, or none, and has so many arc lines and
-- sources, the earliest first
abbrev pub count_faults : Option Sizes → ℕ → ℕ → List Fault
count_faults None found rows = NoProblemLine ∷ []
count_faults (Some sizes) found rows =
    let columns = sizes.nodes - rows in
    fault_where (not (found == sizes.arcs)) (ArcCount sizes.arcs found)
    ++ fault_where (rows == 0) NoRows
    ++ fault_where (nat_lt most_rows rows || nat_lt most_columns columns) (TooLarge rows columns)

-- the cost of the first arc from a source to a destination
abbrev pub cost_between : List Arc → ℕ → ℕ → Option ℤ
cost_between arcs source target =
    option_and_then (λ arc. arc.cost)
    (find (λ arc. (arc.source == source) && (arc.target == target)) arcs)

-- the nodes that are no sources, ascending
unfoldable pub targets : List ℕ → ℕ → List ℕ
targets sources nodes = filter (λ id. not (is_among sources id)) (range_with_len 1 nodes)

-- the cost of a cell: its second part is 0
abbrev pub plain_cost : Option ℤ → Option Cost
plain_cost cost = option_map (λ a. record { a = a; b = pos 0 }) cost

-- the costs from these sources to these other nodes, row by row
unfoldable pub costs_between : (ℕ → ℕ → Option ℤ) → List ℕ → List ℕ → List (Option Cost)
costs_between cost sources targets =
    flat_map (λ source. map (λ target. plain_cost (cost source target)) targets) sources

-- the instance of these sources, so many nodes, and the cost from each source to each other node
unfoldable pub instance_of : List ℕ → ℕ → (ℕ → ℕ → Option ℤ) → Problem
instance_of sources nodes cost =
    table_of sources (targets sources nodes) (costs_between cost sources (targets sources nodes))

-- how many nodes are stated
abbrev pub nodes_of : Option Sizes → ℕ
nodes_of sizes = option_map_or (λ sizes. sizes.nodes) sizes 0

-- the reading of an asn file, by what its lines say
abbrev pub reading_of_asn : List Line → Reading
reading_of_asn lines =
    reading_with
    (line_faults [] lines ++ count_faults (stated lines) (length (arcs lines)) (length (sources lines)))
    (instance_of (sources lines) (nodes_of (stated lines)) (cost_between (arcs lines)))
