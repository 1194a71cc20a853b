-- The monoid of each algebraic objective.
use Rattle.std.specs.Prelude.{ℕ, ◌^◌}
use Rattle.asg_model.specs.declared.objectives.Objective.{Objective}
use Rattle.asg_model.specs.declared.objectives.Objective.TheVariants.{Sum, SumMax, SumPair, Capped, Bottleneck, BottleneckMax, TimeCost, Balanced, Lex}
use Rattle.asg_model.specs.declared.parts.Cost.{Cost}
use Rattle.asg_order.specs.declared.words.Word.{Word}
use Rattle.asg_order.specs.Monoid.{Monoid}
use Rattle.asg_monoids.specs.BoundedSums.{bounded_sums, bounded_difference, plain_word}
use Rattle.asg_monoids.specs.Entered.{top_of, sum_entered, peak_entered, time_entered}
use Rattle.asg_monoids.specs.Grades.{graded, graded_difference, graded_word}
use Rattle.asg_monoids.specs.Maxima.{maxima, maxima_difference}

-- what is told of a monoid, its differences, its words, and the values as which costs enter it
abbrev pub Fact : Type 1
Fact = (V : Type 0) → Monoid V → (V → V → V) → (V → Word) → (Cost → V) → Type 0

abbrev pub OfSums : Fact → Objective → Type 0
OfSums P objective =
    P ℕ (bounded_sums (top_of objective)) bounded_difference plain_word (sum_entered objective)

abbrev pub OfPeaks : Fact → Objective → Type 0
OfPeaks P objective = P ℕ maxima maxima_difference plain_word (peak_entered objective)

abbrev pub OfTimes : Fact → Type 0
OfTimes P =
    P (ℕ × ℕ) (graded (bounded_sums (2 ^ 120)))
    (graded_difference (bounded_sums (2 ^ 120)) bounded_difference) graded_word time_entered

-- the fact holds of the monoid of the objective: sums that stop at its top, maxima, or sums with a
-- grade before them; of `balanced` and `lex`, which have none, none holds
abbrev pub InMonoidOf : Objective → Fact → Type 0
InMonoidOf Sum P = OfSums P Sum
InMonoidOf SumMax P = OfSums P SumMax
InMonoidOf SumPair P = OfSums P SumPair
InMonoidOf (Capped cap) P = OfSums P (Capped cap)
InMonoidOf Bottleneck P = OfPeaks P Bottleneck
InMonoidOf BottleneckMax P = OfPeaks P BottleneckMax
InMonoidOf TimeCost P = OfTimes P
InMonoidOf Balanced P = ⊥
InMonoidOf Lex P = ⊥
