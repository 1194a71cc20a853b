-- The nodes of a ranker, which count from 1.
use Rattle.std.specs.Prelude.{◌≡◌, ◌⊎◌, ℕ, ◌+◌, ◌-◌, ◌*◌, ◌&&◌, nat_le, Bool, true, false, if◌then◌else◌, Option, Some, None, List, length, slice_index_or, slice_set}
use Rattle.asg_pool.specs.Forest.{Forest}
use Rattle.asg_nodes.specs.declared.entries.Entry.{Entry}
use Rattle.asg_nodes.specs.declared.entries.State.{State}
use Rattle.asg_nodes.specs.declared.entries.State.TheVariants.{Open}
use Rattle.asg_nodes.specs.Rules.{GrewOn}

-- an open node without a parent or a trail
abbrev pub blank : {V : Type 0} → V → Entry V
blank unit = record { parent = 0; branch = 0; state = Open; trail = None; index = unit }

-- node number n
abbrev pub entry_at : {V : Type 0} → V → List (Entry V) → ℕ → Entry V
entry_at unit entries n = slice_index_or entries (n - 1) (blank unit)

abbrev pub is_open_state : State → Bool
is_open_state Open = true
is_open_state _ = false

-- node number n is open; so are those that are still to come, up to a number
abbrev pub is_open_at : {V : Type 0} → V → List (Entry V) → ℕ → ℕ → Bool
is_open_at unit entries upto n =
    nat_le 1 n && (if nat_le n (length entries) then is_open_state (entry_at unit entries n).state else nat_le n upto)

-- the number of the child by branch i of the node with an answer, counted from 0: each has k
-- children
abbrev pub child_number : ℕ → ℕ → ℕ → ℕ
child_number k a i = 1 + a * k + i

-- the nodes with another state of node number n
abbrev pub with_state : {V : Type 0} → V → List (Entry V) → ℕ → State → List (Entry V)
with_state unit entries n state =
    slice_set entries (n - 1) (record (entry_at unit entries n) { state = state })

-- the trail is the one before, or it grew on that by one phase
abbrev pub IsNext : {V : Type 0} → Forest V → Option ℕ → Option ℕ → Type 0
IsNext F before trail = (trail ≡ before) ⊎ ((t : ℕ) × (trail ≡ Some t) × GrewOn F before t)

-- a node of these parts
abbrev pub entry_of : {V : Type 0} → ℕ → ℕ → State → Option ℕ → V → Entry V
entry_of parent branch state trail index =
    record { parent = parent; branch = branch; state = state; trail = trail; index = index }
