-- What the lines of an asn file say.
use Rattle.std.specs.Prelude.{ℕ, ◌==◌, bytes_eq, codes, if◌then◌else◌, List, [], ◌∷◌, Option, None, option_and_then, slice_index, IfSome}
use Rattle.std.specs.Option.{option_map}
use Rattle.asg_model.specs.ValueRange.{IsPartInRange}
use Rattle.asg_networks.specs.declared.asn_lines.Sizes.{Sizes}
use Rattle.asg_networks.specs.declared.asn_lines.Arc.{Arc}
use Rattle.asg_networks.specs.declared.asn_lines.Line.{Line}
use Rattle.asg_networks.specs.declared.asn_lines.Line.TheVariants.{Empty, Header, Node, Arrow, Other}
use Rattle.asg_tokens.specs.Numbers.{integer_of, size_of, integer_in_range}
use Rattle.asg_tokens.specs.Pieces.{fields}

-- `asn NODES ARCS`
abbrev pub sizes_of : List (List ℕ) → Option Sizes
sizes_of (word ∷ nodes ∷ arcs ∷ []) =
    if bytes_eq word (codes "asn") then
    option_and_then (λ nodes.
    option_map (λ arcs. record { nodes = nodes; arcs = arcs }) (size_of arcs)) (size_of nodes)
    else None
sizes_of _ = None

-- `ID`; an id above 4,294,967,295 is above every number of nodes
abbrev pub node_of : List (List ℕ) → Option ℕ
node_of (id ∷ []) = size_of id
node_of _ = None

-- `SRC DST COST`
abbrev pub arc_of : List (List ℕ) → Option Arc
arc_of (source ∷ target ∷ cost ∷ []) =
    option_and_then (λ source.
    option_and_then (λ target.
    option_map (λ cost. record { source = source; target = target; cost = integer_in_range cost })
    (integer_of cost)) (size_of target)) (size_of source)
arc_of _ = None

-- what a line with these fields says
abbrev pub line_of_fields : List (List ℕ) → Line
line_of_fields [] = Empty
line_of_fields (first ∷ more) =
    if slice_index first 0 == 99 then Empty
    else (if bytes_eq first (codes "p") then Header (sizes_of more)
    else (if bytes_eq first (codes "n") then Node (node_of more)
    else (if bytes_eq first (codes "a") then Arrow (arc_of more)
    else Other)))

-- what a line says
unfoldable pub line_of : List ℕ → Line
line_of line = line_of_fields (fields line)

-- the cost of an arc line, where it is told, is in range
abbrev pub IsLineInRange : Line → Type 0
IsLineInRange (Arrow arc) = IfSome arc (λ arc. IfSome arc.cost IsPartInRange)
IsLineInRange _ = Unit {0}
