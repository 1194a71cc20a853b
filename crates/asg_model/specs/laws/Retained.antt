-- Cells that are kept, by their places.
use Rattle.std.proofs.Common.{◌≡◌, ℕ, ◌<◌, Bool, true, false, cond, List, [], ◌∷◌, length, refl, sym, ◌∙◌, ap, subst, ⊎_elim}
use Rattle.std.specs.Prelude.{All, filter}
use Rattle.std.specs.List.Sorted.{IsStrictlySortedBy}
use Rattle.std.specs.Map.{keys_of}
use Rattle.std.proofs.lemmas.Bool.{cases_Bool}
use Rattle.std.proofs.lemmas.List.Elements.{All-head, All-tail, All-cons, All-same, All-filter}
use Rattle.std.proofs.lemmas.List.Kept.{IsStrictlySortedBy-filter}
use Rattle.asg_model.specs.declared.parts.Cost.{Cost}
use Rattle.asg_model.specs.Instances.{IsInstance, AreCellsOf, IsCostInRange, by_places}
use Rattle.asg_model.specs.Problem.{Problem, problem_of}
use Rattle.asg_model.specs.Retained.{kept_cells, retained, AnswersAs, RetainsCells}

abbrev Cell : Type 0
Cell = (ℕ × ℕ) × Cost

-- an instance with other cells, in order and in range, is one
pub IsInstance-cells : (X : Problem) (cells : List Cell) → IsInstance X → AreCellsOf (length X.rows) (length X.columns) cells → IsStrictlySortedBy by_places (keys_of cells) → IsInstance (problem_of X.rows X.columns cells X.place)
IsInstance-cells X cells instance are ascend =
    let whole = instance.well_formed in
    record {
      well_formed = record {
        some_active = whole.some_active;
        few_rows = whole.few_rows;
        few_columns = whole.few_columns;
        rows_differ = whole.rows_differ;
        columns_differ = whole.columns_differ;
        capacities = whole.capacities;
        cells_within = λ k d h. (are k d h).0;
        costs = λ k d h. (are k d h).1;
        place_in_range = whole.place_in_range;
      };
      row_ids = instance.row_ids;
      column_ids = instance.column_ids;
      cells_ascend = ascend;
    }

-- the cells of an instance
pub AreCellsOf-instance : (X : Problem) → IsInstance X → AreCellsOf (length X.rows) (length X.columns) X.cells
AreCellsOf-instance X instance = λ k d h. (instance.well_formed.cells_within k d h, instance.well_formed.costs k d h)

keys_of-kept : (keeps : ℕ × ℕ → Bool) (cells : List Cell) → keys_of (kept_cells keeps cells) ≡ filter keeps (keys_of cells)
keys_of-kept keeps [] = refl
keys_of-kept keeps (cell ∷ rest) =
    ⊎_elim
    (λ (e : keeps cell.0 ≡ true). rw e (ap (λ ks. cell.0 ∷ ks) (keys_of-kept keeps rest)))
    (λ (e : keeps cell.0 ≡ false). rw e (keys_of-kept keeps rest))
    (cases_Bool (keeps cell.0))

-- an instance with the cells that are kept is one
pub IsInstance-retained : (X : Problem) (keeps : ℕ × ℕ → Bool) → IsInstance X → IsInstance (retained X keeps)
IsInstance-retained X keeps instance =
    IsInstance-cells X (kept_cells keeps X.cells) instance
    (All-filter (λ (cell : Cell). keeps cell.0) (λ cell. ((cell.0.0 < length X.rows) × (cell.0.1 < length X.columns)) × IsCostInRange cell.1) X.cells (AreCellsOf-instance X instance))
    (subst (IsStrictlySortedBy by_places) (sym (keys_of-kept keeps X.cells)) (IsStrictlySortedBy-filter by_places keeps (keys_of X.cells) instance.cells_ascend))

module _ (answers : ℕ → ℕ → Bool → Type 0) where
  all_front : (P : Cell → Type 0) (b : Bool) (cell : Cell) (rest : List Cell) → P cell → All P rest → All P (cond b (cell ∷ rest) rest)
  all_front P true cell rest here all = All-cons P cell rest here all
  all_front P false cell rest here all = all

  -- what holds of each cell holds of each that is left
  pub All-retained : (P : Cell → Type 0) (cells after : List Cell) → RetainsCells answers cells after → All P cells → All P after
  All-retained P [] after r all = All-same P after [] r all
  All-retained P (cell ∷ cells) after r all =
      All-same P after (cond r.0 (cell ∷ r.1) r.1) r.4
      (all_front P r.0 cell r.1 (All-head P cell cells all) (All-retained P cells r.1 r.3 (All-tail P cell cells all)))

  -- where the answers are whether places are kept, the cells that are kept are left
  pub kept_from_answers : (rows columns : ℕ) (keeps : ℕ × ℕ → Bool) (cells after : List Cell) → AreCellsOf rows columns cells → AnswersAs rows columns answers keeps → RetainsCells answers cells after → after ≡ kept_cells keeps cells
  kept_from_answers rows columns keeps [] after are agree r = r
  kept_from_answers rows columns keeps (cell ∷ cells) after are agree r =
      let head = All-head (λ cell. ((cell.0.0 < rows) × (cell.0.1 < columns)) × IsCostInRange cell.1) cell cells are in
      let tail = All-tail (λ cell. ((cell.0.0 < rows) × (cell.0.1 < columns)) × IsCostInRange cell.1) cell cells are in
      let same : r.0 ≡ keeps cell.0 = agree cell.0.0 cell.0.1 r.0 head.0.0 head.0.1 r.2 in
      let more = kept_from_answers rows columns keeps cells r.1 tail agree r.3 in
      r.4 ∙ (λ i. cond (same i) (cell ∷ more i) (more i))
