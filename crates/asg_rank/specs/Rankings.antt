-- What contracts see of a ranker, and what its answers mean.
use Rattle.std.specs.Prelude.{◌≡◌, ◌⊎◌, ◌++◌, ◌∷◌, [], ℕ, ◌*◌, ◌^◌, ◌<◌, ◌≤◌, All, Option, List, length, Contains}
use Rattle.asg_model.specs.declared.objectives.Objective.{Objective}
use Rattle.asg_model.specs.Problem.{Problem}
use Rattle.asg_model.specs.Shapes.{square_side}
use Rattle.asg_model.specs.ValidChoice.{IsValid}
use Rattle.asg_rankings.specs.declared.nodes.Mark.TheVariants.{Answered, Open}
use Rattle.asg_rankings.specs.declared.nodes.Node.{Node}
use Rattle.asg_rankings.specs.Nodes.{node_at, IsNumber}
use Rattle.asg_proof.specs.PromisedProofs.{IsPhaseOver}
use Rattle.asg_rankings.specs.Ranked.{IsNextBest}
use Rattle.asg_rank.specs.declared.ranker.Next.{Next}
use Rattle.asg_rank.specs.declared.ranker.Next.TheVariants.{Answer, Done}
use Rattle.asg_rank.specs.declared.ranker.RankRefusal.{RankRefusal}
use Rattle.asg_rank.specs.declared.ranker.RankRefusal.TheVariants.{RankTooLarge, NoMemory}
use Rattle.asg_rank.specs.Rooms.{most_work}

-- a ranker: its kind, its instance, how many answers were asked for, and those that it gave
pub record Ranking (K : Type 0) : Type 0 where
  pub kind : K
  pub problem : Problem
  pub count : ℕ
  pub given : List (List (Option ℕ))

-- the work of a ranking: the count times the rows times the side
abbrev pub ranking_work : Problem → ℕ → ℕ
ranking_work X count = count * length X.rows * square_side X

-- nothing is left to give: as many answers were given as were asked for, or each valid choice was
abbrev pub IsExhausted : Problem → ℕ → List (List (Option ℕ)) → Type 0
IsExhausted X count given =
    (length given ≡ count) ⊎ ((g : List (Option ℕ)) → IsValid X g → Contains given g)

-- why a ranker can't be opened: its work is above the limit, and told
abbrev pub IsRefusal : Problem → ℕ → RankRefusal → Type 0
IsRefusal X count (RankTooLarge work) = (work ≡ ranking_work X count) × (most_work < work)
IsRefusal X count NoMemory = Unit {0}

-- what the next answer is: one more choice, best of those that weren't given; or none, where
-- nothing is left
abbrev pub Gives : Objective → Problem → ℕ → List (List (Option ℕ)) → List (List (Option ℕ)) → Next → Type 0
Gives objective X count before after (Answer number) =
    (number ≡ length after) × (length after ≤ count)
    × ((f : List (Option ℕ)) × (after ≡ before ++ f ∷ [])) × IsNextBest objective X after number
Gives objective X count before after Done = (after ≡ before) × IsExhausted X count before

-- each phase has 1 to side steps over the rows and the columns, and every node but the root has at
-- most one of its own
pub record HaveFewPhases (side : ℕ) (nodes : List Node) : Type 0 where
  pub over : (n : ℕ) → IsNumber nodes n → All (IsPhaseOver side) (node_at nodes n).own
  pub one : (n : ℕ) → IsNumber nodes n → 1 < n → length (node_at nodes n).own ≤ 1

-- the nodes can be counted in 32 bits, and so can the phases of the root
pub record AreCountable (nodes : List Node) : Type 0 where
  pub nodes_fit : length nodes < 2 ^ 32
  pub root_fits : length (node_at nodes 1).own < 2 ^ 32

-- where all answers that were asked for were given, the children of the last one's node are open
abbrev pub LeaveLastOpen : ℕ → List (List (Option ℕ)) → List Node → Type 0
LeaveLastOpen count given nodes =
    length given ≡ count → (n m : ℕ) → IsNumber nodes n → IsNumber nodes m
    → (node_at nodes n).mark ≡ Answered count → (node_at nodes m).parent ≡ n → (node_at nodes m).mark ≡ Open
