-- Arcs in the order of their ends, and the first that repeats another at another cost.
use Rattle.std.specs.Prelude.{◌≡◌, ℕ, ◌+◌, ◌*◌, ◌^◌, ◌<◌, ◌≤◌, ◌&&◌, Bool, pos, Some, List, [], All, length, slice_get, slice_index_or}
use Rattle.std.specs.List.{Contains}
use Rattle.std.specs.List.Sorted.{IsNonDecreasingBy}
use Rattle.asg_networks.specs.declared.links.Link.{Link}
use Rattle.asg_networks.specs.AsnArcs.{is_beside, are_unlike}
use Rattle.asg_tokens.specs.Faults.{ArcTwice}
use Rattle.asg_networks.specs.Networks.{arc_of_link, twice_faults}

-- what stands in place of an arc past the end of a list
abbrev pub no_link : Link
no_link = record { source = 0; target = 0; cost = pos 0; line = 0 }

-- the arc at a place
abbrev pub link_of : List Link → ℕ → Link
link_of links place = slice_index_or links place no_link

-- the ends of an arc are numbers of 32 bits
pub record IsFit (link : Link) : Type 0 where
  pub source : link.source < 2 ^ 32
  pub target : link.target < 2 ^ 32

-- the number of the arc at a place: it rises by their ends, and for the same ends by their places
abbrev pub order_number : List Link → ℕ → ℕ
order_number links place =
    ((link_of links place).source * 2 ^ 32 + (link_of links place).target) * 2 ^ 32 + place

-- these are the places of all arcs, by those numbers
pub record AreByEnds (links : List Link) (places : List ℕ) : Type 0 where
  pub each : All (λ place. place < length links) places
  pub every : (place : ℕ) → place < length links → Contains places place
  pub ascending : IsNonDecreasingBy (order_number links) places

-- an arc has the ends of another, and another cost
abbrev pub is_unlike : Link → Link → Bool
is_unlike link other =
    is_beside (arc_of_link link) (arc_of_link other) && are_unlike (Some link.cost) (Some other.cost)

-- the arc at the later of two places has the ends of the other, and another cost
abbrev pub are_unlike_at : List Link → ℕ → ℕ → Bool
are_unlike_at links other place = is_unlike (link_of links place) (link_of links other)

-- the first fault of arcs that repeat others at another cost is that of the arc at this place; past
-- all arcs there is none
pub record IsFirstTwice (links : List Link) (place : ℕ) : Type 0 where
  pub fault : place < length links
      → slice_get (twice_faults [] links) 0 ≡ Some (ArcTwice (link_of links place).line)
  pub none : length links ≤ place → twice_faults [] links ≡ []
