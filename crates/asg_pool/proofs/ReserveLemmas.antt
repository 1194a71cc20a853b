-- A region after memory was taken.
use Rattle.asg_pool.proofs.Common.{◌≡◌, ℕ, ◌+◌, ◌-◌, ◌≤◌, max, [], length, get_or, OnOk, OnErr, IsSome, Ok, Err, Result, sym, ap, ◌∙◌, subst, arith, Forest, Table, link_at, spare_of, most_room, phase_at, forest_of, AreRowsFor, IsRegion, Rows, row_at, IsWider, PhaseOf, phase_of, IsPhaseOver}

module _ {V : Type 0} (side : ℕ) (L : Table) (steps steps_after : Rows V) (enters enters_after leaves leaves_after : Rows ℕ)
    (same_steps : steps_after.rows ≡ steps.rows) (same_enters : enters_after.rows ≡ enters.rows) (same_leaves : leaves_after.rows ≡ leaves.rows) where
  same_phases : phase_at steps_after enters_after leaves_after ≡ phase_at steps enters leaves
  same_phases =
      ap (λ xs k. phase_of (get_or xs k []) (row_at enters_after k) (row_at leaves_after k)) same_steps
      ∙ ap (λ xs k. phase_of (row_at steps k) (get_or xs k []) (row_at leaves_after k)) same_enters
      ∙ ap (λ xs k. phase_of (row_at steps k) (row_at enters k) (get_or xs k [])) same_leaves

  -- the same rows show the same forest
  pub shown_alike : forest_of side L (phase_at steps_after enters_after leaves_after) ≡ forest_of side L (phase_at steps enters leaves)
  shown_alike = ap (forest_of side L) same_phases

-- wider strips still fit the table
AreRowsFor-wider : {T : Type 0} (side : ℕ) (L : Table) (before after : Rows T) → IsWider before after → AreRowsFor side L before → AreRowsFor side L after
AreRowsFor-wider side L before after w rows = record {
  width = w.width ∙ rows.width;
  count = ap length w.rows ∙ rows.count;
  room = omega (arith, rows.room, w.room);
}

pub IsRegion-wider : {V : Type 0} (side : ℕ) (L : Table) (steps steps_after : Rows V) (enters enters_after leaves leaves_after : Rows ℕ) → IsWider steps steps_after → IsWider enters enters_after → IsWider leaves leaves_after → IsRegion side L steps enters leaves → IsRegion side L steps_after enters_after leaves_after
IsRegion-wider side L steps steps_after enters enters_after leaves leaves_after s e l region = record {
  rooted = region.rooted;
  over = subst (λ phase. (k : ℕ) → IsSome (link_at L.slots k) → IsPhaseOver side (phase k)) (sym (same_phases side L steps steps_after enters enters_after leaves leaves_after s.rows e.rows l.rows)) region.over;
  steps_rows = AreRowsFor-wider side L steps steps_after s region.steps_rows;
  enters_rows = AreRowsFor-wider side L enters enters_after e region.enters_rows;
  leaves_rows = AreRowsFor-wider side L leaves leaves_after l region.leaves_rows;
  used = region.used;
  most = region.most;
}

-- a table with more room still fits strips that have as much
AreRowsFor-roomier : {T : Type 0} (side : ℕ) (L : Table) (S : Rows T) (room : ℕ) → room ≤ S.room → AreRowsFor side L S → AreRowsFor side (record L { room = max L.room room }) S
AreRowsFor-roomier side L S room enough rows = record {
  width = rows.width;
  count = rows.count;
  room = omega (arith, rows.room, enough);
}

pub IsRegion-roomier : {V T E : Type 0} (r : Result T E) (side : ℕ) (L M : Table) (steps : Rows V) (enters leaves : Rows ℕ) (room : ℕ) → OnOk r (M ≡ record L { room = max L.room room }) → OnErr r (M ≡ L) → room ≤ steps.room → room ≤ enters.room → room ≤ leaves.room → room ≤ most_room → IsRegion side L steps enters leaves → IsRegion side M steps enters leaves
IsRegion-roomier (Ok done) side L M steps enters leaves room ok err s e l most region =
    subst (λ T. IsRegion side T steps enters leaves) (sym ok)
    (record {
      rooted = region.rooted;
      over = region.over;
      steps_rows = AreRowsFor-roomier side L steps room s region.steps_rows;
      enters_rows = AreRowsFor-roomier side L enters room e region.enters_rows;
      leaves_rows = AreRowsFor-roomier side L leaves room l region.leaves_rows;
      used = omega (arith, region.used);
      most = omega (arith, region.most, most);
    })
IsRegion-roomier (Err fault) side L M steps enters leaves room ok err s e l most region =
    subst (λ T. IsRegion side T steps enters leaves) (sym err) region

pub on_err : {T E P : Type 0} (r : Result T E) → P → OnErr r P
on_err (Ok x) h = tt
on_err (Err e) h = h

-- more memory for records changes how many are spare and nothing else
pub shown_wider : {V : Type 0} (side : ℕ) (L M : Table) (phase : ℕ → PhaseOf V) (records : ℕ) (F : Forest V) → forest_of side L phase ≡ F
    → length L.slots ≤ L.room → spare_of L ≤ records → M ≡ record L { room = L.room + (records - spare_of L) }
    → forest_of side M phase ≡ record F { spare = max F.spare records }
shown_wider {V} side L M phase records F shows used more wider =
    let spare : spare_of (record L { room = L.room + (records - spare_of L) }) ≡ max (spare_of L) records = omega arith in
    ap {A = Table} (λ T. forest_of side T phase) wider
    ∙ ap {B = Forest V} (λ n. record (forest_of side L phase) { spare = n }) spare
    ∙ ap {B = Forest V} (λ (G : Forest V). record G { spare = max G.spare records }) shows
