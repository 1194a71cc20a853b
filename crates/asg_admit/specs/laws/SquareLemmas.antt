-- One cell of a square is written.
use Rattle.std.proofs.Common.{◌≡◌, ◌≢◌, ◌⊎◌, ℕ, ◌+◌, ◌*◌, ◌<◌, ◌≤◌, ◌&&◌, cond, eqb, Option, Some, None, get_or, set, refl, sym, ◌∙◌, ap, subst, arith, ⊎_elim}
use Rattle.std.specs.Option.{option_map}
use Rattle.std.proofs.lemmas.Bool.{cases_lt, lt-ltb, le-ltb}
use Rattle.std.proofs.lemmas.List.{get_or_past}
use Rattle.std.proofs.lemmas.Option.{none-some}
use Rattle.std.proofs.Math.Nat.{mul-le-mul_right}
use Rattle.asg_bit_rows.specs.laws.Places.{place_hit, place_missed}
use Rattle.asg_cell_tables.specs.laws.Entries.{entry_at-set}
use Rattle.asg_square.specs.Grid.{Grid, IsGrid, cell_at}
use Rattle.asg_admit.specs.laws.KeptLabels.{same_labels}
use Rattle.asg_admit.specs.Settling.{IsWritten}

module _ {V : Type 0} (Q : Grid V) where
  abbrev place : ℕ → ℕ → Option V
  place r k = get_or Q.cells (r * Q.side + k) None

  cell_within : (r k : ℕ) → k < Q.side → cell_at Q r k ≡ place r k
  cell_within r k h = ap (λ b. cond b (place r k) None) (lt-ltb k Q.side h)

  pub cell_past_column : (r k : ℕ) → Q.side ≤ k → cell_at Q r k ≡ None
  cell_past_column r k h = ap (λ b. cond b (place r k) None) (le-ltb k Q.side h)

  pub cell_past_row : (r k : ℕ) → IsGrid Q → Q.side ≤ r → cell_at Q r k ≡ None
  cell_past_row r k grid h =
      ⊎_elim
      (λ (below : k < Q.side).
      cell_within r k below
      ∙ get_or_past Q.cells (r * Q.side + k) None
      (let rows : Q.side * Q.side ≤ r * Q.side = mul_le in omega (arith, grid.table.count, rows)))
      (λ (past : Q.side ≤ k). cell_past_column r k past)
      (cases_lt k Q.side)
    where
      mul_le : Q.side * Q.side ≤ r * Q.side
      mul_le = mul-le-mul_right Q.side h

  -- nothing was written
  pub unwritten : (row column : ℕ) (cell : Option V) → cell_at Q row column ≡ cell → IsWritten Q Q row column cell
  unwritten row column cell e = record { labels = same_labels Q; here = e; others = λ r k apart. refl }

  pub written : (row column : ℕ) (cell : Option V) (after : Grid V) → IsGrid Q → row < Q.side → column < Q.side → after ≡ record Q { cells = set Q.cells (row * Q.side + column) cell } → IsWritten Q after row column cell
  written row column cell after grid hr hk is =
      subst (λ (A : Grid V). IsWritten Q A row column cell) (sym is)
      (record {
        labels = record { side = refl; rows = refl; row_labels = refl; column_labels = refl };
        here = at row column ∙ place_hit row row column column cell (cell_at Q row column) refl refl;
        others = λ r k apart.
            at r k
            ∙ place_missed r row k column cell (cell_at Q r k)
            (λ e f. ⊎_elim (λ (n : r ≢ row). n e) (λ (n : k ≢ column). n f) apart);
      })
    where
      at : (r k : ℕ) → cell_at (record Q { cells = set Q.cells (row * Q.side + column) cell }) r k ≡ cond (eqb r row && eqb k column) cell (cell_at Q r k)
      at r k = entry_at-set Q.side Q.cells row column cell r k grid.table.count hr hk

-- what holds of each cell within the side holds everywhere
pub everywhere : {V : Type 0} (before after : Grid V) → IsGrid before → IsGrid after → after.side ≡ before.side → (f : ℕ → ℕ → V → V) → ((r k : ℕ) → r < before.side → k < before.side → cell_at after r k ≡ option_map (f r k) (cell_at before r k)) → (r k : ℕ) → cell_at after r k ≡ option_map (f r k) (cell_at before r k)
everywhere before after grid grid_after side f within r k =
    ⊎_elim
    (λ (row : r < before.side).
    ⊎_elim
    (λ (column : k < before.side). within r k row column)
    (λ (past : before.side ≤ k).
    outside (cell_past_column after r k (subst (λ n. n ≤ k) (sym side) past)) (cell_past_column before r k past))
    (cases_lt k before.side))
    (λ (past : before.side ≤ r).
    outside (cell_past_row after r k grid_after (subst (λ n. n ≤ r) (sym side) past)) (cell_past_row before r k grid past))
    (cases_lt r before.side)
  where
    outside : cell_at after r k ≡ None → cell_at before r k ≡ None → cell_at after r k ≡ option_map (f r k) (cell_at before r k)
    outside a b = a ∙ sym (ap (option_map (f r k)) b)

-- a present cell is within the side
pub present_within : {V : Type 0} (Q : Grid V) → IsGrid Q → (r k : ℕ) (x : V) → cell_at Q r k ≡ Some x → (r < Q.side) × (k < Q.side)
present_within Q grid r k x is = (
  ⊎_elim (λ (below : r < Q.side). below) (λ (past : Q.side ≤ r). absurd (none-some x (sym (cell_past_row Q r k grid past) ∙ is))) (cases_lt r Q.side),
  ⊎_elim (λ (below : k < Q.side). below) (λ (past : Q.side ≤ k). absurd (none-some x (sym (cell_past_column Q r k past) ∙ is))) (cases_lt k Q.side),
)
