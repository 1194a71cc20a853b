-- Numbers, which count from 1, grouped by a key: by the parent that a node names, or by its answer.
use Rattle.std.specs.Prelude.{◌≡◌, ◌≢◌, ℕ, ◌+◌, ◌-◌, ◌<◌, ◌≤◌, nat_lt, if◌then◌else◌, List, length, map, slice_index, slice_set}
use Rattle.asg_rankings.specs.declared.nodes.Node.{Node}
use Rattle.asg_rankings.specs.Nodes.{answer_number}
use Rattle.asg_trees.specs.declared.groups.Groups.{Groups}

-- the key of a number
abbrev pub key_at : List ℕ → ℕ → ℕ
key_at keys n = slice_index keys (n - 1)

-- the parents that nodes name
abbrev pub parent_keys : List Node → List ℕ
parent_keys nodes = map (λ node. node.parent) nodes

-- the numbers of the answers that nodes have, 0 where they have none
abbrev pub answer_keys : List Node → List ℕ
answer_keys nodes = map (λ node. answer_number node.mark) nodes

-- the least number after another that has a key; 0 where none has it
pub record IsNextWith (keys : List ℕ) (key after next : ℕ) : Type 0 where
  pub none : next ≡ 0 → (j : ℕ) → after < j → j ≤ length keys → key_at keys j ≢ key
  pub later : next ≢ 0 → after < next
  pub upto : next ≤ length keys
  pub same : next ≢ 0 → key_at keys next ≡ key
  pub between : next ≢ 0 → (j : ℕ) → after < j → j < next → key_at keys j ≢ key

-- of the numbers above one, the first of each key up to a count, and behind each number the next of
-- its key
pub record AreGroupsAbove (keys : List ℕ) (count above : ℕ) (first next : List ℕ) : Type 0 where
  pub first_count : length first ≡ count + 1
  pub next_count : length next ≡ length keys + 1
  pub firsts : (key : ℕ) → key ≤ count → IsNextWith keys key above (slice_index first key)
  pub nexts : (n : ℕ) → above < n → n ≤ length keys → key_at keys n ≤ count
      → IsNextWith keys (key_at keys n) n (slice_index next n)

-- the same of all numbers
abbrev pub AreGroups : List ℕ → ℕ → Groups → Type 0
AreGroups keys count groups = AreGroupsAbove keys count 0 groups.first.items groups.next.items

-- the lists where a number is put before the others of its key, if the key is one that is grouped
abbrev pub linked_first : List ℕ → ℕ → ℕ → List ℕ
linked_first first key n = if nat_lt key (length first) then slice_set first key n else first

abbrev pub linked_next : List ℕ → List ℕ → ℕ → ℕ → List ℕ
linked_next first next key n = if nat_lt key (length first) then slice_set next n (slice_index first key) else next
