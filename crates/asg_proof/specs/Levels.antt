-- Levels: costs from the greatest down, for each how many cells of it are needed, and phases that
-- prove it.
use Rattle.std.specs.Prelude.{◌≡◌, ℕ, ◌≤◌, ◌^◌, ◌==◌, ℤ, ◌<ℤ◌, Bool, true, false, not, ◌&&◌, int_lt, if◌then◌else◌, Option, Some, None, List, [], ◌∷◌, length, map, sum_by}
use Rattle.std.specs.Ordering.{int_eq}
use Rattle.std.specs.Option.{option_map_or}
use Rattle.asg_model.specs.declared.bands.Band.TheVariants.{Whole}
use Rattle.asg_model.specs.declared.objectives.Objective.{Objective}
use Rattle.asg_model.specs.declared.objectives.Objective.TheVariants.{Lex}
use Rattle.asg_model.specs.declared.parts.Cost.{Cost}
use Rattle.asg_model.specs.Counts.{placed}
use Rattle.asg_model.specs.Problem.{Problem}
use Rattle.asg_model.specs.Shapes.{square_side}
use Rattle.asg_model.specs.Values.{costs_at, costs_of}
use Rattle.asg_order.specs.declared.words.Word.{Word}
use Rattle.asg_order.specs.Monoid.{Monoid}
use Rattle.asg_monoids.specs.BoundedSums.{bounded_sums, bounded_difference, plain_word}
use Rattle.asg_square.specs.Cells.{square_cell, IsAssignment, choice_of}
use Rattle.asg_square.specs.Presence.{has_cell}
use Rattle.asg_proof.specs.declared.levels.Level.{Level}
use Rattle.asg_proof.specs.Phases.{PhaseOf, worded, AreAdmittedPhases, after_phases, index_of}

-- the sums in which cells are counted; no count of cells of a square comes near where they stop
abbrev pub level_sums : Monoid ℕ
level_sums = bounded_sums (2 ^ 120)

-- a cost is counted as 1 where it is that of the level, else as 0
abbrev pub counted_as : ℤ → Cost → ℕ
counted_as cost other = if int_eq other.a cost then 1 else 0

-- the square with those cells alone that are left
abbrev pub restricted : {V : Type 0} → (ℕ → ℕ → Bool) → (ℕ → ℕ → Option V) → ℕ → ℕ → Option V
restricted left square r c = if left r c then square r c else None

-- the square of a level: of the cells that are left those of its cost hold 1, all others 0
abbrev pub level_square : Problem → (ℕ → ℕ → Bool) → ℤ → ℕ → ℕ → Option ℕ
level_square X left cost = restricted left (square_cell X 0 (counted_as cost))

-- the live cell whose cost passes stands in the square at a row and a column
abbrev pub has_cost : Problem → (ℤ → Bool) → ℕ → ℕ → Bool
has_cost X passes r c = option_map_or (λ b. b) (square_cell X false (λ cost. passes cost.a) r c) false

-- what is left without the cells whose costs pass
abbrev pub without : Problem → (ℤ → Bool) → (ℕ → ℕ → Bool) → ℕ → ℕ → Bool
without X passes left r c = left r c && not (has_cost X passes r c)

-- a cost is less than that of the level before, if there is one
abbrev pub is_after : Option ℤ → ℤ → Bool
is_after None cost = true
is_after (Some before) cost = int_lt cost before

-- a cost lies between that of the level before, if there is one, and another
abbrev pub is_between : Option ℤ → ℤ → ℤ → Bool
is_between before next cost = is_after before cost && int_lt next cost

-- what is left for a level: the costs between that of the level before and its own have no level,
-- so their cells have left
abbrev pub left_for : Problem → Option ℤ → (ℕ → ℕ → Bool) → Level → ℕ → ℕ → Bool
left_for X before left level = without X (is_between before level.cost) left

-- the phases as phases of numbers
abbrev pub numbers_of : List (PhaseOf Word) → List (PhaseOf ℕ)
numbers_of phases = map (worded (λ word. word.amount)) phases

-- the cell is 0
abbrev pub is_zero : Option ℕ → Bool
is_zero cell = option_map_or (λ x. x == 0) cell false

-- what is left after a level: the cells that are 0 after its phases
abbrev pub left_after : Problem → Option ℤ → (ℕ → ℕ → Bool) → Level → ℕ → ℕ → Bool
left_after X before left level r c =
    is_zero (after_phases level_sums bounded_difference (numbers_of level.phases) (level_square X (left_for X before left level) level.cost) r c)

-- a level after another, if there is one: its cost is less, its count at least 1, and its phases
-- are admitted in turn from its square, with its count as their index
pub record IsProvedLevel (X : Problem) (before : Option ℤ) (left : ℕ → ℕ → Bool) (level : Level) : Type 0 where
  pub falls : is_after before level.cost ≡ true
  pub some : 1 ≤ level.count
  pub plain : map (worded plain_word) (numbers_of level.phases) ≡ level.phases
  pub admitted : AreAdmittedPhases level_sums bounded_difference (square_side X) (numbers_of level.phases) (level_square X (left_for X before left level) level.cost)
  pub index : index_of level_sums (numbers_of level.phases) ≡ level.count

-- and the assignment has as many cells of its cost
pub record IsLevel (X : Problem) (perm : List ℕ) (before : Option ℤ) (left : ℕ → ℕ → Bool) (level : Level) : Type 0 where
  pub proved : IsProvedLevel X before left level
  pub cells : length (costs_at level.cost (costs_of X (choice_of X perm))) ≡ level.count

-- each of the levels is one after those before it
abbrev pub AreLevelsFrom : Problem → List ℕ → Option ℤ → (ℕ → ℕ → Bool) → List Level → Type 0
AreLevelsFrom X perm before left [] = Unit {0}
AreLevelsFrom X perm before left (level ∷ rest) =
    IsLevel X perm before left level
    × AreLevelsFrom X perm (Some level.cost) (left_after X before left level) rest

-- the same of an assignment that isn't told
abbrev pub AreProvedFrom : Problem → Option ℤ → (ℕ → ℕ → Bool) → List Level → Type 0
AreProvedFrom X before left [] = Unit {0}
AreProvedFrom X before left (level ∷ rest) =
    IsProvedLevel X before left level
    × AreProvedFrom X (Some level.cost) (left_after X before left level) rest

-- what is left after the last level: all lesser costs have none, so their cells have left
abbrev pub left_last : Problem → Option ℤ → (ℕ → ℕ → Bool) → List Level → ℕ → ℕ → Bool
left_last X before left [] = without X (is_after before) left
left_last X before left (level ∷ rest) = left_last X (Some level.cost) (left_after X before left level) rest

-- at first the present cells are left
abbrev pub AreLevels : Problem → List ℕ → List Level → Type 0
AreLevels X perm levels = AreLevelsFrom X perm None (has_cell X Whole) levels

abbrev pub AreProvedLevels : Problem → List Level → Type 0
AreProvedLevels X levels = AreProvedFrom X None (has_cell X Whole) levels

-- a perfect assignment by cells that are left after the last level
abbrev pub IsLeftAssignment : Problem → List ℕ → List Level → Type 0
IsLeftAssignment X perm levels =
    IsAssignment (restricted (left_last X None (has_cell X Whole) levels) (square_cell X false (λ cost. true))) (square_side X) perm

-- the levels prove a choice: it is that of a perfect assignment by cells that are left in the end,
-- of which each level has as many of its cost as it says; they count as many cells as the place
-- rule places rows
pub record ProvesLevels (X : Problem) (choice : List (Option ℕ)) (perm : List ℕ) (levels : List Level) : Type 0 where
  pub levels_hold : AreLevels X perm levels
  pub assignment : IsLeftAssignment X perm levels
  pub chosen : choice_of X perm ≡ choice
  pub total : sum_by (λ level. level.count) levels ≡ placed X

-- only `lex` has such proofs
abbrev pub ProvesRanks : Objective → Problem → List (Option ℕ) → List ℕ → List Level → Type 0
ProvesRanks Lex X choice perm levels = ProvesLevels X choice perm levels
ProvesRanks _ X choice perm levels = ⊥

-- ---- the levels so far

-- the cost of the last level, or what it was before there was one
abbrev pub last_cost : Option ℤ → List Level → Option ℤ
last_cost before [] = before
last_cost before (level ∷ rest) = last_cost (Some level.cost) rest

-- what is left after the levels
abbrev pub left_so_far : Problem → Option ℤ → (ℕ → ℕ → Bool) → List Level → ℕ → ℕ → Bool
left_so_far X before left [] = left
left_so_far X before left (level ∷ rest) = left_so_far X (Some level.cost) (left_after X before left level) rest
