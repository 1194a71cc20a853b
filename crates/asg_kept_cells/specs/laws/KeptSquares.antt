-- Squares that keep the cells whose bits are set.
use Rattle.std.proofs.Common.{◌≡◌, ◌⊎◌, ℕ, ◌+◌, ◌*◌, ◌/◌, ◌%◌, ◌<◌, ◌≤◌, Bool, true, false, ◌&&◌, cond, get_or, Option, Some, None, refl, sym, ap, ◌∙◌, arith, ⊎_elim, inl, inr, is_some}
use Rattle.std.specs.Prelude.{nat_lt}
use Rattle.std.proofs.Math.Path.{fun_ext}
use Rattle.std.proofs.lemmas.Bool.{cases_lt}
use Rattle.asg_bit_rows.specs.BitTable.{BitTable, has_bit, is_bit_set, word_count}
use Rattle.asg_square.specs.Grid.{Grid, cell_at}
use Rattle.asg_square.specs.Masked.{keeps, masked_grid}
use Rattle.asg_square.specs.laws.Masks.{cell_at-masked}
use Rattle.asg_rankings.specs.Masks.{masked}
use Rattle.asg_proof.specs.Steps.{HasSide}
use Rattle.asg_kept_cells.specs.Kept.{HasSize}

pub from_kept : {V : Type 0} (b : Bool) (o : Option V) (x : V) → cond b o None ≡ Some x → o ≡ Some x
from_kept true o x e = e
from_kept false o x e = absurd (cc e)

pub none_kept : {V : Type 0} (a b : Bool) (o : Option V) → o ≡ None → cond a o None ≡ cond b o None
none_kept true true o e = refl
none_kept true false o e = e
none_kept false true o e = sym e
none_kept false false o e = refl

-- a cell is kept where its bit is set
pub keeps-bit : (bits : BitTable) (side : ℕ) → bits.columns ≡ side → (r k : ℕ) → keeps side bits.words r k ≡ has_bit bits r k
keeps-bit bits side same r k =
    ap (λ n. nat_lt (k / 64) (word_count n) && is_bit_set (get_or bits.words (r * word_count n + k / 64) 0) (k % 64)) (sym same)

pub outside : {V : Type 0} (side : ℕ) (square : ℕ → ℕ → Option V) → HasSide side square → (r k : ℕ) → (side ≤ r) ⊎ (side ≤ k) → square r k ≡ None
outside {V} side square has r k past = by (square r k) refl
  where
    by : (o : Option V) → square r k ≡ o → square r k ≡ None
    by None e = e
    by (Some x) e =
        let there = has r k (ap is_some e) in
        ⊎_elim (λ (h : side ≤ r). absurd (omega (arith, h, there.0))) (λ (h : side ≤ k). absurd (omega (arith, h, there.1))) past

module _ {V : Type 0} (Q : Grid V) (bits : BitTable) (keep : ℕ → ℕ → Bool) (size : HasSize Q.side bits) (each : (r k : ℕ) → r < Q.side → k < Q.side → has_bit bits r k ≡ keep r k) (has : HasSide Q.side (cell_at Q)) where
  -- the square with the cells that bits keep has those that the test of the bits keeps
  pub masked_by : cell_at (masked_grid Q bits.words) ≡ masked keep (cell_at Q)
  masked_by = fun_ext (λ r. fun_ext (λ k. at r k))
    where
      at : (r k : ℕ) → cell_at (masked_grid Q bits.words) r k ≡ masked keep (cell_at Q) r k
      at r k =
          cell_at-masked Q bits.words r k
          ∙ ⊎_elim
          (λ (row : r < Q.side).
          ⊎_elim
          (λ (column : k < Q.side). ap (λ b. cond b (cell_at Q r k) None) (keeps-bit bits Q.side size.columns r k ∙ each r k row column))
          (λ (past : Q.side ≤ k). none_kept (keeps Q.side bits.words r k) (keep r k) (cell_at Q r k) (outside Q.side (cell_at Q) has r k (inr past)))
          (cases_lt k Q.side))
          (λ (past : Q.side ≤ r). none_kept (keeps Q.side bits.words r k) (keep r k) (cell_at Q r k) (outside Q.side (cell_at Q) has r k (inl past)))
          (cases_lt r Q.side)
