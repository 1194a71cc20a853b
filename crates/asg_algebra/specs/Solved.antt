-- What a solver does: phases that are pushed on a trail, one after another, and lead from a reduced
-- square to another.
use Rattle.std.specs.Prelude.{IfSome, ◌≡◌, ◌++◌, ◌∷◌, [], ℕ, ◌+◌, ◌≤◌, List, length, Option, Some, None, All, count_by, is_none}
use Rattle.asg_admit.specs.Reduced.{IsReduced, KeepsLabels}
use Rattle.asg_admit.specs.declared.reduced.Reduced.{Reduced}
use Rattle.asg_match.specs.Matching.{IsMatched, IsMatching, AllAllowed}
use Rattle.asg_order.specs.Monoid.{Monoid}
use Rattle.asg_pool.specs.Forest.{Forest, IsLive, trail_at, Changes, grown_on, phases_to}
use Rattle.asg_proof.specs.Phases.{PhaseOf, AreAdmittedPhases, after_phases, index_of}
use Rattle.asg_square.specs.Grid.{cell_at}
use Rattle.asg_growth.specs.Growing.{IsAbsorbed}

-- one phase was pushed on a trail, or on none, and gave a new trail; nothing else changed
pub record IsPush {V : Type 0} (before after : Forest V) (parent : Option ℕ) (phase : PhaseOf V)
    (trail : ℕ) : Type 0 where
  pub new : trail_at before trail ≡ None
  pub trails : Changes before after trail (Some (grown_on before parent phase))
  pub spare : after.spare + 1 ≡ before.spare
  pub side : after.side ≡ before.side

-- the phases were pushed in turn, the first on a trail or on none, each other one on the trail
-- before it
abbrev pub ArePushed : {V : Type 0} → List (PhaseOf V) → Forest V → Forest V → Option ℕ → Option ℕ
    → Type 0
ArePushed [] before after trail last = (after ≡ before) × (last ≡ trail)
ArePushed {V} (phase ∷ rest) before after trail last =
    (middle : Forest V) × (next : ℕ) × IsPush before middle trail phase next
    × ArePushed rest middle after (Some next) last

-- phases that are pushed in turn, are admitted in turn, and lead from a reduced square to another;
-- each has 1 to side steps
pub record LeadTo {V : Type 0} (M : Monoid V) (difference : V → V → V) (phases : List (PhaseOf V))
    (before after : Reduced V) (forest forest_after : Forest V)
    (trail last : Option ℕ) : Type 0 where
  pub pushed : ArePushed phases forest forest_after trail last
  pub admitted : AreAdmittedPhases M difference before.now.side phases (cell_at before.now)
  pub outcome : (r k : ℕ) → cell_at after.now r k
      ≡ after_phases M difference phases (cell_at before.now) r k
  pub index : after.index ≡ M.product before.index (index_of M phases)
  pub labels : KeepsLabels before.now after.now
  pub reduced : IsReduced M after
  pub sizes : All (λ phase. (1 ≤ length phase.steps) × (length phase.steps ≤ before.now.side))
      phases

-- how many rows have no column
abbrev pub unmatched : List (Option ℕ) → ℕ
unmatched matching = count_by is_none matching

-- every matched cell is absorbed, and every row that had a column has one
pub record KeepsRows {V : Type 0} (M : Monoid V) (reduced : Reduced V)
    (matching after : List (Option ℕ)) : Type 0 where
  pub side : length after ≡ length matching
  pub columns : IsMatching after
  pub absorbed : AllAllowed (IsAbsorbed M reduced.index (cell_at reduced.now)) after
  pub kept : (r : ℕ) → IsMatched matching r → IsMatched after r

-- what a solver did: at most as many phases as rows had no column, on the given trail; the last
-- trail's list is the given one's and then the phases, every other live trail is as it was
pub record HasSolved {V : Type 0} (M : Monoid V) (difference : V → V → V) (before after : Reduced V)
    (matching matching_after : List (Option ℕ)) (forest forest_after : Forest V)
    (trail last : Option ℕ) : Type 0 where
  pub phases : List (PhaseOf V)
  pub lead : LeadTo M difference phases before after forest forest_after trail last
  pub few : length phases ≤ unmatched matching
  pub list : phases_to forest_after last ≡ phases_to forest trail ++ phases
  pub spare : forest_after.spare + length phases ≡ forest.spare
  pub kept : (t : ℕ) → IsLive forest t → trail_at forest_after t ≡ trail_at forest t
  pub live : IfSome last (IsLive forest_after)
  pub rows : KeepsRows M after matching matching_after
