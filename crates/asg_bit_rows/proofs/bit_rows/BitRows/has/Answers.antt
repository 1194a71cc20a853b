use Rattle.asg_bit_rows.proofs.Common.{◌≡◌, ℕ, ◌/◌, ◌%◌, ◌^◌, ◌<◌, eqb, bit_and, sym, ap, subst, BitTable, has_bit}
use Rattle.asg_bit_rows.proofs.BitLemmas.{bit_read}
use Rattle.asg_bit_rows.proofs.bit_rows.BitRows.has.Goals as goal

pub returns : goal.returns
returns c =
    let s = c.self.inside in
    let B : BitTable = record { rows = s.rows; columns = s.columns; words = s.words.items } in
    let row = subst (λ (n : ℕ). c.args.r < n) (sym (ap (λ (t : BitTable). t.rows) c.self.view_is)) c.requires.row_below in
    let column = subst (λ (n : ℕ). c.args.c < n) (sym (ap (λ (t : BitTable). t.columns) c.self.view_is)) c.requires.column_below in
    subst (λ (t : BitTable). eqb (bit_and (c.index.result.now / 2 ^ (c.args.c % 64)) 1) 1 ≡ has_bit t c.args.r c.args.c) c.self.view_is
    (bit_read B c.args.r c.args.c s.width c.index.result.now c.self.invariant.1 row column c.self.invariant.0 c.index.ensures)
