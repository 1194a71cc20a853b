use Rattle.asg_bit_rows.proofs.Common.{ℕ, ◌+◌, ◌*◌, ◌/◌, ◌<◌, set, sym, ap, subst, BitTable, PutsBit}
use Rattle.asg_bit_rows.proofs.BitLemmas.{written_is_table, written_puts}
use Rattle.asg_bit_rows.proofs.bit_rows.BitRows.put.Goals as goal

pub invariant_of-self : goal.invariant_of-self
invariant_of-self c =
    let s = c.self.inside in
    let B : BitTable = record { rows = s.rows; columns = s.columns; words = s.words.items } in
    let row = subst (λ (n : ℕ). c.args.r < n) (sym (ap (λ (t : BitTable). t.rows) c.self.view_is)) c.requires.row_below in
    let column = subst (λ (n : ℕ). c.args.c < n) (sym (ap (λ (t : BitTable). t.columns) c.self.view_is)) c.requires.column_below in
    let word = c.with_bit-word in (
      c.self.invariant.0,
      written_is_table B c.args.r c.args.c s.width c.index.result.now c.self.invariant.1 row column c.self.invariant.0 c.index.ensures
          word.result c.args.is_set word.ensures.same word.ensures.others,
    )

pub returns : goal.returns
returns c =
    let s = c.self.inside in
    let B : BitTable = record { rows = s.rows; columns = s.columns; words = s.words.items } in
    let row = subst (λ (n : ℕ). c.args.r < n) (sym (ap (λ (t : BitTable). t.rows) c.self.view_is)) c.requires.row_below in
    let column = subst (λ (n : ℕ). c.args.c < n) (sym (ap (λ (t : BitTable). t.columns) c.self.view_is)) c.requires.column_below in
    let word = c.with_bit-word in
    subst (λ (t : BitTable). PutsBit t (record { rows = s.rows; columns = s.columns; words = set s.words.items (c.args.r * s.width + c.args.c / 64) word.result }) c.args.r c.args.c c.args.is_set) c.self.view_is
    (written_puts B c.args.r c.args.c s.width c.index.result.now c.self.invariant.1 row column c.self.invariant.0 c.index.ensures
    word.result c.args.is_set word.ensures.same word.ensures.others)
