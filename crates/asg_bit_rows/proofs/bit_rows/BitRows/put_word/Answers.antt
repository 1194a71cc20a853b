use Rattle.asg_bit_rows.proofs.Common.{ℕ, ◌+◌, ◌*◌, ◌<◌, set, IsTrue, sym, subst, BitTable, word_count, is_bit_set, PutsWord}
use Rattle.asg_bit_rows.proofs.WordLemmas.{stored_is_table, stored_puts}
use Rattle.asg_bit_rows.proofs.bit_rows.BitRows.put_word.Goals as goal

pub invariant_of-self : goal.invariant_of-self
invariant_of-self c =
    let s = c.self.inside in
    let B : BitTable = record { rows = s.rows; columns = s.columns; words = s.words.items } in
    let same = sym c.self.view_is in
    let row = subst (λ (t : BitTable). c.args.r < t.rows) same c.requires.row_below in
    let number = subst (λ (t : BitTable). c.args.number < word_count t.columns) same c.requires.number_below in
    let inside = subst (λ (t : BitTable). (k : ℕ) → k < 64 → IsTrue (is_bit_set c.args.word k) → 64 * c.args.number + k < t.columns) same c.requires.inside in (
      c.self.invariant.0,
      stored_is_table B c.args.r c.args.number s.width c.args.word c.self.invariant.1 row number inside c.self.invariant.0,
    )

pub returns : goal.returns
returns c =
    let s = c.self.inside in
    let B : BitTable = record { rows = s.rows; columns = s.columns; words = s.words.items } in
    let same = sym c.self.view_is in
    let row = subst (λ (t : BitTable). c.args.r < t.rows) same c.requires.row_below in
    let number = subst (λ (t : BitTable). c.args.number < word_count t.columns) same c.requires.number_below in
    let inside = subst (λ (t : BitTable). (k : ℕ) → k < 64 → IsTrue (is_bit_set c.args.word k) → 64 * c.args.number + k < t.columns) same c.requires.inside in
    subst (λ (t : BitTable). PutsWord t (record { rows = s.rows; columns = s.columns; words = set s.words.items (c.args.r * s.width + c.args.number) c.args.word }) c.args.r c.args.number c.args.word) c.self.view_is
    (stored_puts B c.args.r c.args.number s.width c.args.word c.self.invariant.1 row number inside c.self.invariant.0)
