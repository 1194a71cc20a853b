-- What a trail has beyond another one, and what rebuilding starts from.
use Rattle.std.specs.Prelude.{◌≡◌, ◌≢◌, ◌⊎◌, ℕ, ◌≤◌, List, length, All, Option, Some, None}
use Rattle.asg_model.specs.declared.parts.Cost.{Cost}
use Rattle.asg_model.specs.Problem.{Problem}
use Rattle.asg_order.specs.Monoid.{Monoid}
use Rattle.asg_admit.specs.declared.reduced.Reduced.{Reduced}
use Rattle.asg_admit.specs.Reduced.{IsPhaseTo}
use Rattle.asg_pool.specs.Forest.{Forest, phases_of, last_phase}
use Rattle.asg_nodes.specs.declared.entries.State.{State}
use Rattle.asg_nodes.specs.declared.entries.State.TheVariants.{Answered}
use Rattle.asg_nodes.specs.declared.trees.Tree.{Tree}
use Rattle.asg_nodes.specs.Entries.{entry_at}
use Rattle.asg_nodes.specs.Rules.{Rules, rules_of, IsReducedTo}
use Rattle.asg_nodes.specs.Trees.{IsTree}

-- the trail, where there is one and it isn't the one before
abbrev pub IsOwn : Option ℕ → Option ℕ → Option ℕ → Type 0
IsOwn before trail None = (trail ≡ before) ⊎ (trail ≡ None)
IsOwn before trail (Some t) = (trail ≡ Some t) × (trail ≢ before)

-- the last phase of the trail was settled, where it isn't the one before
abbrev pub SettlesBy : {V : Type 0} → Monoid V → (V → V → V) → Forest V → Reduced V → Reduced V → Option ℕ → Type 0
SettlesBy M difference F before after None = after ≡ before
SettlesBy M difference F before after (Some t) = IsPhaseTo M difference (last_phase (phases_of F t)) before after

-- what a trail has beyond the one before was settled
abbrev pub SettlesOwn : {V : Type 0} → Monoid V → (V → V → V) → Forest V → Option ℕ → Option ℕ
    → Reduced V → Reduced V → Type 0
SettlesOwn M difference F before trail square after =
    (own : Option ℕ) × IsOwn before trail own × SettlesBy M difference F square after own

-- the number of the answer that a state names, 0 where it names none
abbrev pub answer_in : State → ℕ
answer_in (Answered number) = number
answer_in _ = 0

-- a square is that of the part of a node after its trail, where the number is that of a node: 0 is
-- that of none
pub record IsStanding {V : Type 0} (R : Rules V) (T : Tree V) (part : ℕ → Problem) (node : ℕ) (square : Reduced V)
    : Type 0 where
  pub upto : node ≤ length T.entries.items
  pub reduced : 1 ≤ node → let e = entry_at R.monoid.unit T.entries.items node in
      IsReducedTo R T.region (part node) e.trail e.index square

-- a tree of answers, and a square for one of its nodes
pub record IsStandingIn {V : Type 0} (M : Monoid V) (difference : V → V → V) (X : Problem) (T : Tree V)
    (given : List (List (Option ℕ))) (node : ℕ) (square : Reduced V) : Type 0 where
  pub enter : Cost → V
  pub winner : ℕ → ℕ
  pub upto : ℕ
  pub part : ℕ → Problem
  pub tree : IsTree (rules_of M difference enter) X given winner upto T part
  pub over : All (λ f. length f ≡ length X.rows) given
  pub standing : IsStanding (rules_of M difference enter) T part node square

-- a tree of answers, the square of the root after its phases, and that of another node
pub record IsRebuilt {V : Type 0} (M : Monoid V) (difference : V → V → V) (X : Problem) (T : Tree V)
    (given : List (List (Option ℕ))) (base : Reduced V) (stands : ℕ) (work : Reduced V) : Type 0 where
  pub enter : Cost → V
  pub winner : ℕ → ℕ
  pub upto : ℕ
  pub part : ℕ → Problem
  pub tree : IsTree (rules_of M difference enter) X given winner upto T part
  pub base_is : IsReducedTo (rules_of M difference enter) T.region (part 1)
      (entry_at M.unit T.entries.items 1).trail (entry_at M.unit T.entries.items 1).index base
  pub over : All (λ f. length f ≡ length X.rows) given
  pub standing : IsStanding (rules_of M difference enter) T part stands work
