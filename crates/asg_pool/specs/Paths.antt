-- The lists of trails by the table of records. No public clause cites this module.
use Rattle.std.specs.Prelude.{◌≡◌, ℕ, zero, suc, ◌+◌, ◌≤◌, List, [], ◌∷◌, ◌++◌, length, map, Option, Some, None, IsSome, IfSome, unwrap_or, option_map, option_and_then}
use Rattle.std.specs.List.{range_with_len}
use Rattle.asg_proof.specs.Phases.{PhaseOf, phase_of}
use Rattle.asg_pool.specs.declared.links.Link.{Link}
use Rattle.asg_pool.specs.Forest.{Branch, Forest}
use Rattle.asg_proof.specs.PromisedProofs.{IsPhaseOver}
use Rattle.asg_pool.specs.Links.{Table, link_at, spare_of, most_room}
use Rattle.asg_pool.specs.Strips.{Rows, row_at}

-- the phase of the record at a place
abbrev pub phase_at : {V : Type 0} → Rows V → Rows ℕ → Rows ℕ → ℕ → PhaseOf V
phase_at steps enters leaves k = phase_of (row_at steps k) (row_at enters k) (row_at leaves k)

-- the trail on which the record at a place grew
abbrev pub parent_at : List (Option Link) → ℕ → Option ℕ
parent_at slots k = option_and_then (λ link. link.parent) (link_at slots k)

-- the last so many phases on the way to a trail
abbrev pub path : {V : Type 0} → List (Option Link) → (ℕ → PhaseOf V) → ℕ → Option ℕ → List (PhaseOf V)
path slots phase zero trail = []
path slots phase (suc n) None = []
path slots phase (suc n) (Some k) = path slots phase n (parent_at slots k) ++ phase k ∷ []

-- the trail of the record at a place
abbrev pub branch_at : {V : Type 0} → List (Option Link) → (ℕ → PhaseOf V) → ℕ → Option (Branch V)
branch_at slots phase k =
    option_map (λ link. record { parent = link.parent; phases = path slots phase link.depth (Some k) }) (link_at slots k)

-- the forest of a table of records with these phases
abbrev pub forest_of : {V : Type 0} → ℕ → Table → (ℕ → PhaseOf V) → Forest V
forest_of side L phase = record {
  side = side;
  spare = spare_of L;
  trails = map (branch_at L.slots phase) (range_with_len 0 (length L.slots));
}

-- how many phases lead to a trail, if there is one
abbrev pub depth_at : List (Option Link) → Option ℕ → ℕ
depth_at slots None = 0
depth_at slots (Some k) = unwrap_or (option_map (λ link. link.depth) (link_at slots k)) 0

-- a record counts one phase more than its parent, which is there
pub record IsRooted (slots : List (Option Link)) (link : Link) : Type 0 where
  pub parent : IfSome link.parent (λ p. IsSome (link_at slots p))
  pub depth : link.depth ≡ depth_at slots link.parent + 1

abbrev pub AreRooted : List (Option Link) → Type 0
AreRooted slots = (k : ℕ) → IfSome (link_at slots k) (IsRooted slots)

-- rows of this width, one for each record, with memory for as many as the table has
pub record AreRowsFor {T : Type 0} (side : ℕ) (L : Table) (S : Rows T) : Type 0 where
  pub width : S.width ≡ side
  pub count : length S.rows ≡ length L.slots
  pub room : L.room ≤ S.room

-- a region's parts fit together
pub record IsRegion {V : Type 0} (side : ℕ) (L : Table) (steps : Rows V) (enters leaves : Rows ℕ) : Type 0 where
  pub rooted : AreRooted L.slots
  pub over : (k : ℕ) → IsSome (link_at L.slots k) → IsPhaseOver side (phase_at steps enters leaves k)
  pub steps_rows : AreRowsFor side L steps
  pub enters_rows : AreRowsFor side L enters
  pub leaves_rows : AreRowsFor side L leaves
  pub used : length L.slots ≤ L.room
  pub most : L.room ≤ most_room

-- there are three rows for each record
pub record HaveRowsFor {V : Type 0} (slots : List (Option Link)) (steps : Rows V) (enters leaves : Rows ℕ) : Type 0 where
  pub steps_there : length slots ≤ length steps.rows
  pub enters_there : length slots ≤ length enters.rows
  pub leaves_there : length slots ≤ length leaves.rows
