-- What is kept of the lines of an asn file: words of the reader, on which `reading_of` doesn't
-- stand.
use Rattle.std.specs.Prelude.{◌≡◌, ℕ, ◌≤◌, ◌+◌, Bool, true, false, if◌then◌else◌, ◌==◌, ◌&&◌, nat_eq, ℤ, Option, Some, List, [], ◌∷◌, ◌++◌, length, All, map}
use Rattle.std.specs.List.{flat_map, list_any, IsDistinct}
use Rattle.asg_model.specs.ValueRange.{IsPartInRange}
use Rattle.asg_networks.specs.declared.asn_lines.Arc.{Arc}
use Rattle.asg_networks.specs.declared.asn_lines.Line.{Line}
use Rattle.asg_networks.specs.declared.links.Link.{Link}
use Rattle.asg_networks.specs.declared.network.Network.{Network}
use Rattle.asg_networks.specs.declared.node_sets.NodeSet.{NodeSet}
use Rattle.asg_tokens.specs.declared.refusals.TextRefusal.{TextRefusal}
use Rattle.asg_networks.specs.AsnArcs.{stated, arcs, sources, is_among, with_id, cost_between, differs_from, faults_of_line, line_faults, count_faults, instance_of, nodes_of, plain_cost}
use Rattle.asg_tokens.specs.Faults.{Fault, ArcTwice, fault_where}
use Rattle.asg_networks.specs.NodeSets.{has}
use Rattle.asg_tokens.specs.Readings.{Reading, reading_with}
use Rattle.asg_tokens.specs.Slots.{IsEarliest, first_part}

-- two arcs have the same ends
abbrev pub are_same_ends : ℕ × ℕ → ℕ × ℕ → Bool
are_same_ends x y = (x.0 == y.0) && (x.1 == y.1)

-- an arc that is kept
abbrev pub arc_of_link : Link → Arc
arc_of_link link = record { source = link.source; target = link.target; cost = Some link.cost }

-- the cost of the first of these arcs from a source to a destination
abbrev pub known_cost : List Link → ℕ → ℕ → Option ℤ
known_cost links source target = cost_between (map arc_of_link links) source target

-- the faults of arcs behind others: of each that repeats an earlier one at another cost
abbrev pub twice_faults : List Arc → List Link → List Fault
twice_faults before [] = []
twice_faults before (link ∷ links) =
    fault_where (differs_from before (arc_of_link link)) (ArcTwice link.line)
    ++ twice_faults (before ++ arc_of_link link ∷ []) links

-- the arc goes from one of these sources to another of so many nodes, at a cost in range
pub record IsRightLink (sources : List ℕ) (nodes : ℕ) (link : Link) : Type 0 where
  pub source : is_among sources link.source ≡ true
  pub target : is_among sources link.target ≡ false
  pub target_above : 1 ≤ link.target
  pub target_below : link.target ≤ nodes
  pub cost : IsPartInRange link.cost

-- ids of sources are those of nodes and differ, arcs go from them to other nodes, and the sets are
-- those of the sources and of the nodes that arcs go to
pub record AreSound (count : ℕ) (ids : List ℕ) (arrows : List Link) (source_nodes target_nodes : NodeSet)
    : Type 0 where
  pub nodes : All (λ id. (1 ≤ id) × (id ≤ count)) ids
  pub differ : IsDistinct nat_eq ids
  pub links : All (IsRightLink ids count) arrows
  pub source_set : (id : ℕ) → has source_nodes id ≡ is_among ids id
  pub target_set : (id : ℕ) → has target_nodes id
      ≡ list_any (λ link. id == link.target) arrows

abbrev pub IsSound : Network → Type 0
IsSound network =
    AreSound (nodes_of network.sizes) network.sources.items network.links.items network.source_set
    network.target_set

-- what these lines say is kept, and they have no fault but those of arcs that repeat others
pub record IsNetworkOf (lines : List Line) (network : Network) : Type 0 where
  pub sizes_are : network.sizes ≡ stated lines
  pub sources_are : network.sources.items ≡ sources lines
  pub arcs_are : map arc_of_link network.links.items ≡ arcs lines
  pub faults_are : line_faults [] lines ≡ twice_faults [] network.links.items

-- an arc is kept
pub record PutsArc (link : Link) (old new : Network) : Type 0 where
  pub sizes : new.sizes ≡ old.sizes
  pub sources : new.sources.items ≡ old.sources.items
  pub links : new.links.items ≡ old.links.items ++ link ∷ []
  pub source_set : new.source_set ≡ old.source_set
  pub target_set : (id : ℕ) → has new.target_set id
      ≡ (if link.target == id then true else has old.target_set id)

-- a source is kept
pub record PutsSource (id : ℕ) (old new : Network) : Type 0 where
  pub sizes : new.sizes ≡ old.sizes
  pub sources : new.sources.items ≡ with_id old.sources.items id
  pub links : new.links.items ≡ old.links.items
  pub source_set : (other : ℕ) → has new.source_set other
      ≡ (if id == other then true else has old.source_set other)
  pub target_set : new.target_set ≡ old.target_set

-- a line with a number is taken: behind all lines that are kept it is kept with them
abbrev pub TakesLine : ℕ → Line → Network → Network → Type 0
TakesLine number line old new =
    (before : List Line) → IsNetworkOf before old → number ≡ length before + 1
    → IsNetworkOf (before ++ line ∷ []) new

-- a line with a number is refused: behind all lines that are kept its earliest fault is the one
-- that is told
abbrev pub RefusesOwn : ℕ → Line → Network → TextRefusal → Type 0
RefusesOwn number line old refusal =
    (before : List Line) → IsNetworkOf before old
    → IsEarliest (faults_of_line before number line) refusal

-- a line with a number is refused with all lines that are kept: their earliest fault is the one
-- that is told
abbrev pub RefusesLine : ℕ → Line → Network → TextRefusal → Type 0
RefusesLine number line old refusal =
    (before : List Line) → IsNetworkOf before old → number ≡ length before + 1
    → IsEarliest (line_faults [] (before ++ line ∷ [])) refusal

-- the first part of a table that stands for this cost, or for none
abbrev pub first_of : Option ℤ → ℤ
first_of cost = first_part (plain_cost cost)

-- the first parts of a table of these costs from sources to other nodes, row by row
unfoldable pub firsts_between : (ℕ → ℕ → Option ℤ) → List ℕ → List ℕ → List ℤ
firsts_between cost sources targets =
    flat_map (λ source. map (λ target. first_of (cost source target)) targets) sources

-- the reading of a whole file of which this is kept, and whose lines have no other fault
abbrev pub reading_of_network : Network → Reading
reading_of_network network =
    reading_with
    (twice_faults [] network.links.items
    ++ count_faults network.sizes (length network.links.items) (length network.sources.items))
    (instance_of network.sources.items (nodes_of network.sizes) (known_cost network.links.items))
