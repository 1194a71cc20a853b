-- Squares that lose cells, one after another.
use Rattle.asg_nodes.proofs.Common.{◌≡◌, ℕ, ◌+◌, ◌*◌, ◌<◌, Bool, true, false, cond, not, ◌&&◌, eqb, IsSome, slice_set, Some, None, Option, sym, refl, ap, ◌∙◌, same_labels, chained_labels, cuts_cell, LosesCells, Grid, IsGrid, cell_at}
use Rattle.asg_proof.specs.laws.Squares.{HasSide-cell_at}
use Rattle.asg_cell_tables.specs.laws.Entries.{entry_at-set}

both_masks : {V : Type 0} (a b : Bool) (o : Option V) → cond b (cond a o None) None ≡ cond (a && b) o None
both_masks true true o = refl
both_masks true false o = refl
both_masks false true o = refl
both_masks false false o = refl

none_masked : {V : Type 0} (o : Option V) (b : Bool) → o ≡ None → cond b o None ≡ None
none_masked o true e = e
none_masked o false e = refl

module _ {V : Type 0} where
  -- nothing was lost
  pub loses_none : (Q : Grid V) (keep : ℕ → ℕ → Bool) → ((r k : ℕ) → keep r k ≡ true) → LosesCells keep Q Q
  loses_none Q keep all = record {
    labels = same_labels Q;
    cells = λ r k. sym (ap (λ b. cond b (cell_at Q r k) None) (all r k));
  }

  -- first some and then some
  pub loses_both : (A B C : Grid V) (first second : ℕ → ℕ → Bool) → LosesCells first A B → LosesCells second B C → LosesCells (λ r k. first r k && second r k) A C
  loses_both A B C first second ab bc = record {
    labels = chained_labels A B C ab.labels bc.labels;
    cells = λ r k. bc.cells r k ∙ ap (λ o. cond (second r k) o None) (ab.cells r k) ∙ both_masks (first r k) (second r k) (cell_at A r k);
  }

  -- the same cells by another test
  pub loses_same : (A B : Grid V) (keep other : ℕ → ℕ → Bool) → IsGrid A → ((r k : ℕ) → r < A.side → k < A.side → keep r k ≡ other r k) → LosesCells keep A B → LosesCells other A B
  loses_same A B keep other grid same loses = record {
    labels = loses.labels;
    cells = λ r k. loses.cells r k ∙ at r k (cell_at A r k) (HasSide-cell_at A grid r k);
  }
    where
      at : (r k : ℕ) (o : Option V) → (IsSome o → (r < A.side) × (k < A.side)) → cond (keep r k) o None ≡ cond (other r k) o None
      at r k None within = none_masked None (keep r k) refl ∙ sym (none_masked None (other r k) refl)
      at r k (Some x) within = let w = within refl in ap (λ b. cond b (Some x) None) (same r k w.0 w.1)

  -- one cell was taken out
  pub loses_cell : (Q : Grid V) (row column : ℕ) → IsGrid Q → row < Q.side → column < Q.side → LosesCells (cuts_cell row column) Q (record Q { cells = slice_set Q.cells (row * Q.side + column) None })
  loses_cell Q row column grid below_row below_column = record {
    labels = record { side = refl; rows = refl; row_labels = refl; column_labels = refl };
    cells = λ r k. entry_at-set Q.side Q.cells row column None r k grid.table.count below_row below_column ∙ turned ((eqb r row) && (eqb k column)) (cell_at Q r k);
  }
    where
      turned : (b : Bool) (o : Option V) → cond b None o ≡ cond (not b) o None
      turned true o = refl
      turned false o = refl

-- nothing was lost where all that isn't kept was absent
pub loses_absent : {V : Type 0} (Q : Grid V) (keep : ℕ → ℕ → Bool) → ((r k : ℕ) → keep r k ≡ false → cell_at Q r k ≡ None) → LosesCells keep Q Q
loses_absent {V} Q keep absent = record {
  labels = same_labels Q;
  cells = λ r k. by r k (keep r k) refl;
}
  where
    by : (r k : ℕ) (b : Bool) → keep r k ≡ b → cell_at Q r k ≡ cond (keep r k) (cell_at Q r k) None
    by r k true e = sym (ap (λ b. cond b (cell_at Q r k) None) e)
    by r k false e = absent r k e ∙ sym (ap (λ b. cond b (cell_at Q r k) None) e)
