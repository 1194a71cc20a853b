-- The table of the objectives: their words, their classes, and the greatest cap.
use Rattle.std.specs.Prelude.{◌≡◌, ℕ, Bool, true, false, if◌then◌else◌, List, ◌++◌, Option, Some, None, IsTrue, codes, bytes_eq}
use Rattle.std.specs.Fmt.{decimal}
use Rattle.asg_model.specs.declared.objectives.Objective.{Objective}
use Rattle.asg_model.specs.declared.objectives.Objective.TheVariants.{Sum, SumMax, SumPair, Capped, Bottleneck, BottleneckMax, TimeCost, Balanced, Lex}

-- the greatest cap of a capped sum
abbrev pub most_cap : ℕ
most_cap = 1000000000000

-- ---- words

-- the word of an objective, that of a capped sum without its cap
abbrev pub word_front : Objective → List ℕ
word_front Sum = codes "sum"
word_front SumMax = codes "sum-max"
word_front SumPair = codes "pair"
word_front (Capped cap) = codes "capped="
word_front Bottleneck = codes "bottleneck"
word_front BottleneckMax = codes "bottleneck-max"
word_front TimeCost = codes "time-cost"
word_front Balanced = codes "balanced"
word_front Lex = codes "lex"

-- the word of an objective: a capped sum has its cap behind `capped=`
abbrev pub objective_word : Objective → List ℕ
objective_word (Capped cap) = codes "capped=" ++ decimal cap
objective_word objective = word_front objective

-- the objective without a cap that has this word
abbrev pub uncapped_named : List ℕ → Option Objective
uncapped_named word =
    if bytes_eq word (word_front Sum) then Some Sum
    else if bytes_eq word (word_front SumMax) then Some SumMax
    else if bytes_eq word (word_front SumPair) then Some SumPair
    else if bytes_eq word (word_front Bottleneck) then Some Bottleneck
    else if bytes_eq word (word_front BottleneckMax) then Some BottleneckMax
    else if bytes_eq word (word_front TimeCost) then Some TimeCost
    else if bytes_eq word (word_front Balanced) then Some Balanced
    else if bytes_eq word (word_front Lex) then Some Lex
    else None

-- an objective without a cap
abbrev pub IsUncapped : Objective → Type 0
IsUncapped (Capped cap) = ⊥
IsUncapped _ = Unit {0}

-- an objective without a cap that has this word; none where none has
abbrev pub Names : List ℕ → Option Objective → Type 0
Names word None = (objective : Objective) → IsUncapped objective → word ≡ objective_word objective → ⊥
Names word (Some objective) = IsUncapped objective × (word ≡ objective_word objective)

-- ---- classes

-- the objectives whose values are those of a monoid with differences: all but `balanced` and `lex`
abbrev pub is_algebraic : Objective → Bool
is_algebraic Balanced = false
is_algebraic Lex = false
is_algebraic _ = true

-- the two bottleneck objectives
abbrev pub is_bottleneck : Objective → Bool
is_bottleneck Bottleneck = true
is_bottleneck BottleneckMax = true
is_bottleneck _ = false

-- one of the two bottleneck objectives
abbrev pub IsBottleneck : Objective → Type 0
IsBottleneck objective = IsTrue (is_bottleneck objective)
