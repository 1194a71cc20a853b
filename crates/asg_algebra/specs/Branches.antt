-- What the growth of one tree on a square that isn't touched comes to.
use Rattle.std.specs.Prelude.{◌≡◌, ℕ, ◌≤◌, List, length, Option, Some, None, vec_len}
use Rattle.asg_admit.specs.declared.reduced.Reduced.{Reduced}
use Rattle.asg_match.specs.Deficient.{IsDeficient}
use Rattle.asg_match.specs.Matching.{IsFree, IsMatched}
use Rattle.asg_order.specs.Monoid.{Monoid, IsLe, fold_of}
use Rattle.asg_pool.specs.Forest.{Forest}
use Rattle.asg_proof.specs.Phases.{PhaseOf, IsAdmittedPhase, after_phase}
use Rattle.asg_square.specs.Cells.{IsPresent}
use Rattle.asg_square.specs.Grid.{cell_at}
use Rattle.asg_algebra.specs.declared.branching.Branch.{Branch}
use Rattle.asg_algebra.specs.declared.branching.Branch.TheVariants.{Reached, Left, Short}
use Rattle.asg_algebra.specs.declared.branching.Probe.{Probe}
use Rattle.asg_algebra.specs.declared.branching.Probe.TheVariants.{Stuck, Exit, Beyond}
use Rattle.asg_growth.specs.declared.growth.Growth.{Growth}
use Rattle.asg_growth.specs.Growths.{Searches, IsReady, HasNoLead}
use Rattle.asg_growth.specs.Rest.{IsRest}
use Rattle.asg_algebra.specs.Served.{made_of}
use Rattle.asg_algebra.specs.Solved.{ArePushed}
use Rattle.asg_algebra.specs.Stages.{Stage}

-- the index has come to a limit, if there is one
abbrev pub IsAtLimit : {V : Type 0} → Monoid V → Option V → V → Type 0
IsAtLimit M None index = ⊥
IsAtLimit M (Some limit) index = IsLe M limit index

-- how a tree grew: no column is left to reach, or a free one is ready, or the index came to the
-- limit
abbrev pub Probes : {V : Type 0} → Monoid V → (V → V → V) → Reduced V → List (Option ℕ) → Option V
    → Growth V → V → Probe → Type 0
Probes M difference reduced matching limit growth sum Stuck =
    Searches M difference reduced matching growth sum (vec_len growth.tree.rows) × HasNoLead M growth
Probes M difference reduced matching limit growth sum (Exit column) =
    Searches M difference reduced matching growth sum (vec_len growth.tree.rows)
    × IsReady M growth sum column × IsFree matching column
Probes M difference reduced matching limit growth sum Beyond =
    (seen : ℕ) × (seen ≤ vec_len growth.tree.rows)
    × Searches M difference reduced matching growth sum seen
    × IsAtLimit M limit (M.product reduced.index sum)

-- a phase of at most side steps was pushed, if it has one: it is admitted from the square, and
-- multiplies its index
pub record IsLed {V : Type 0} (M : Monoid V) (difference : V → V → V) (reduced : Reduced V)
    (phase : PhaseOf V) (index : V) (forest forest_after : Forest V)
    (trail last : Option ℕ) : Type 0 where
  pub admitted : IsAdmittedPhase M difference reduced.now.side phase (cell_at reduced.now)
  pub few : length phase.steps ≤ reduced.now.side
  pub index_is : index ≡ M.product reduced.index (fold_of M phase.steps)
  pub pushed : ArePushed (made_of phase phase.steps) forest forest_after trail last

-- the root has a column, by a phase that was pushed: after it all matched cells are absorbed
pub record IsBranch {V : Type 0} (M : Monoid V) (difference : V → V → V) (before after : Stage V)
    (index : V) (trail last : Option ℕ) (root : ℕ) : Type 0 where
  pub phase : PhaseOf V
  pub led : IsLed M difference before.square phase index before.forest after.forest trail last
  pub same_square : after.square ≡ before.square
  pub rest : IsRest M before.square.now.side
      (after_phase M difference phase (cell_at before.square.now)) index after.matching
  pub kept : (r : ℕ) → IsMatched before.matching r → IsMatched after.matching r
  pub served : IsMatched after.matching root

-- the tree was left at the limit: a phase was pushed, and the matching is as it was
pub record IsLeft {V : Type 0} (M : Monoid V) (difference : V → V → V) (before after : Stage V)
    (limit : Option V) (index : V) (trail last : Option ℕ) : Type 0 where
  pub phase : PhaseOf V
  pub led : IsLed M difference before.square phase index before.forest after.forest trail last
  pub far : IsAtLimit M limit index
  pub same_square : after.square ≡ before.square
  pub same_matching : after.matching ≡ before.matching

-- what a branch comes to, on a square that isn't touched: the root has a column; or the tree was
-- left; or all is as it was, and the rows are deficient
abbrev pub Branches : {V : Type 0} → Monoid V → (V → V → V) → Stage V → Stage V → Option V
    → Option ℕ → ℕ → List ℕ → Branch V → Type 0
Branches M difference before after limit trail root rows (Reached index last) =
    IsBranch M difference before after index trail last root
Branches M difference before after limit trail root rows (Left index last) =
    IsLeft M difference before after limit index trail last
Branches M difference before after limit trail root rows Short =
    (after ≡ before)
    × IsDeficient (IsPresent (cell_at before.square.now)) before.square.now.side rows
