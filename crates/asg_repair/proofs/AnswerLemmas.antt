-- What is known when a session answers.
use Rattle.asg_repair.proofs.Common.{◌≡◌, ℕ, ◌<◌, List, length, is_some, slice_index, Option, ap, subst, Reduced, IsAbsorbed, IsLed, GivesHallSets, IsPerfect, Matches, IsHall, IsInstance, Problem, IsValid, Whole, Cost, choice_fold, Monoid, EntersValues, ProvesIndex, PhaseOf, IsBestBy, IsPresent, cell_at, grid_choice, IsValidWithin}
use Rattle.asg_repair.specs.Answers.{IsWrittenBy}
use Rattle.asg_repair.proofs.UnmatchedLemmas.{unmatched_none}

-- absorbed cells are present
pub present_perfect : {V : Type 0} (M : Monoid V) (index : V) (square : ℕ → ℕ → Option V) (side : ℕ) (matching : List (Option ℕ)) → IsPerfect (IsAbsorbed M index square) side matching → IsPerfect (IsPresent square) side matching
present_perfect M index square side matching perfect = record {
  rows = perfect.rows;
  columns = perfect.columns;
  all = perfect.all;
  cells = λ r k h. let at = perfect.cells r k h in ap is_some at.there;
}

-- what the led law says of best choices
abbrev pub BestLaw : {V : Type 0} → Monoid V → (V → V → V) → Type 0
BestLaw {V} M difference =
    (enter : Cost → V) (X : Problem) (phases : List (PhaseOf V)) (reduced : Reduced V) (matching choice : List (Option ℕ)) (p : List ℕ)
    → IsInstance X
    → EntersValues M enter X
    → IsLed M difference enter X phases reduced
    → IsPerfect (IsAbsorbed M reduced.index (cell_at reduced.now)) reduced.now.side matching
    → length p ≡ length matching
    → ((r : ℕ) → r < length matching → Matches matching r (slice_index p r))
    → choice ≡ grid_choice reduced.now p
    → IsValidWithin reduced.now choice
    → IsValid X choice × ProvesIndex M difference enter X phases (choice_fold M enter X choice)

-- what it says of Hall sets
abbrev pub HallLaw : {V : Type 0} → Monoid V → (V → V → V) → Type 0
HallLaw {V} M difference =
    (enter : Cost → V) (X : Problem) (phases : List (PhaseOf V)) (reduced : Reduced V) (ids : List ℕ)
    → IsLed M difference enter X phases reduced
    → GivesHallSets X (IsPresent (cell_at reduced.now)) ids
    → IsHall X Whole ids

-- the choice that is written is best
pub best_written : {V : Type 0} (M : Monoid V) (difference : V → V → V) (enter : Cost → V) (X : Problem) (reduced : Reduced V) (matching choice : List (Option ℕ)) → BestLaw M difference → IsInstance X → EntersValues M enter X → IsPerfect (IsAbsorbed M reduced.index (cell_at reduced.now)) reduced.now.side matching → IsWrittenBy reduced.now matching choice → (phases : List (PhaseOf V)) → IsLed M difference enter X phases reduced → IsBestBy M difference enter X phases matching choice
best_written M difference enter X reduced matching choice law instance live perfect written phases led =
    let both = law enter X phases reduced matching choice written.columns instance live led perfect written.over written.matched written.chosen written.valid in
    record {
      valid = both.0;
      proof = both.1;
      all = unmatched_none matching (λ r low. perfect.all r (subst (λ n. r < n) perfect.rows low));
    }
