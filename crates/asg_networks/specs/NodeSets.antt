-- Sets of nodes: words of the reader of asn files, on which `reading_of` doesn't stand.
use Rattle.std.specs.Prelude.{ℕ, Bool, false, if◌then◌else◌, nat_lt, length, slice_index_or}
use Rattle.std.specs.Ordering.{nat_cmp}
use Rattle.std.specs.BTreeSet.{contains}
use Rattle.asg_networks.specs.declared.node_sets.NodeSet.{NodeSet}

-- the id is in the set
abbrev pub has : NodeSet → ℕ → Bool
has set id =
    if nat_lt id (length set.low.items) then slice_index_or set.low.items id false
    else contains nat_cmp set.high id
