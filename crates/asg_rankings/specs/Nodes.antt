-- Nodes of a search tree, which count from 1, and what they stand for.
use Rattle.std.specs.Prelude.{ℕ, zero, suc, ◌-◌, ◌≤◌, nat_le, if◌then◌else◌, Option, List, [], ◌++◌, length, slice_index_or}
use Rattle.asg_model.specs.Problem.{Problem}
use Rattle.asg_proof.specs.Phases.{PhaseOf}
use Rattle.asg_order.specs.declared.words.Word.{Word}
use Rattle.asg_rankings.specs.declared.nodes.Node.{Node}
use Rattle.asg_rankings.specs.declared.nodes.Mark.{Mark}
use Rattle.asg_rankings.specs.declared.nodes.Mark.TheVariants.{Answered, Open}
use Rattle.asg_rankings.specs.Children.{child}

-- node number n; past the last an open one without a parent
abbrev pub node_at : List Node → ℕ → Node
node_at nodes n =
    slice_index_or nodes (n - 1) (record { parent = 0; branch = 0; mark = Open; own = [] })

-- there is a node of this number
abbrev pub IsNumber : List Node → ℕ → Type 0
IsNumber nodes n = (1 ≤ n) × (n ≤ length nodes)

-- the number of the answer that a mark names, counted from 1; 0 where it names none
abbrev pub answer_number : Mark → ℕ
answer_number (Answered a) = a
answer_number _ = 0

-- answer number a
abbrev pub answer_at : List (List (Option ℕ)) → ℕ → List (Option ℕ)
answer_at answers a = slice_index_or answers (a - 1) []

-- the answer of node number n
abbrev pub node_answer : List (List (Option ℕ)) → List Node → ℕ → List (Option ℕ)
node_answer answers nodes n = answer_at answers (answer_number (node_at nodes n).mark)

-- the instance of node number n, that many parents up at most: X at the root, else the child of the
-- parent's instance by the parent's answer and the node's branch
abbrev pub instance_within : Problem → List (List (Option ℕ)) → List Node → ℕ → ℕ → Problem
instance_within X answers nodes zero n = X
instance_within X answers nodes (suc steps) n =
    if nat_le n 1 then X
    else child (instance_within X answers nodes steps (node_at nodes n).parent) (node_answer answers nodes (node_at nodes n).parent) (node_at nodes n).branch

-- the instance for which node number n stands; a parent's number is smaller, so n steps lead to the
-- root
abbrev pub node_instance : Problem → List (List (Option ℕ)) → List Node → ℕ → Problem
node_instance X answers nodes n = instance_within X answers nodes n n

-- the trail of node number n, that many parents up at most: the parent's trail, and then its own
-- phases
abbrev pub trail_within : List Node → ℕ → ℕ → List (PhaseOf Word)
trail_within nodes zero n = []
trail_within nodes (suc steps) n =
    (if nat_le n 1 then [] else trail_within nodes steps (node_at nodes n).parent) ++ (node_at nodes n).own

-- the trail of node number n
abbrev pub node_trail : List Node → ℕ → List (PhaseOf Word)
node_trail nodes n = trail_within nodes n n
