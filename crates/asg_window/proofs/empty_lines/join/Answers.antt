use Rattle.asg_window.proofs.Common.{◌≡◌, ℕ, ◌+◌, ◌*◌, ◌/◌, ◌%◌, ◌<◌, ◌≤◌, List, IsTrue, sym, ◌∙◌, subst, inl, inr, ⊎_elim, arith, cases_lt, BitTable, has_bit, IsBitTable, AreWordsOf, HasColumn}
use Rattle.asg_live_cells.specs.laws.Words.{word_bit}
use Rattle.asg_window.proofs.empty_lines.join.Goals as goal

-- a column of a row is one by the row's words
HasColumn-row : (B : BitTable) (r k : ℕ) (words : List ℕ) → IsBitTable B → AreWordsOf (has_bit B r) B.columns words → IsTrue (has_bit B r k) → HasColumn words k
HasColumn-row B r k words table are has =
    let column = (table.inside r k has).1 in
    let count = are.count in
    let parts : 64 * (k / 64) + k % 64 ≡ k = omega arith in
    (word_bit B r B.columns (k / 64) (k % 64) words are (omega (arith, column, count)) (omega arith)).1 (subst (λ d. IsTrue (has_bit B r d)) (sym parts) has)

pub loop-row-init : goal.loop-row-init
loop-row-init c = record {
  count = c.clear_words.ensures.count;
  all = λ r k none. absurd (omega (arith, none));
}

pub add_words-requires : goal.add_words-requires
add_words-requires c = c.loop-row.invariant.count ∙ c.requires.count ∙ sym c.row.ensures.words.count

pub loop-row-preserved : goal.loop-row-preserved
loop-row-preserved c =
    let inv = c.loop-row.invariant in
    let bits = c.args.bits.now in
    let row = c.loop-row.row in
    let words = c.row.ensures in
    record {
      count = c.add_words.ensures.count ∙ inv.count;
      all = λ r k upto has.
          ⊎_elim
          (λ (before : r < row). (c.add_words.ensures.bits (k / 64) (k % 64)).1 (inl (inv.all r k before has)))
          (λ (from : row ≤ r).
          let here : r ≡ row = omega (arith, upto, from) in
          (c.add_words.ensures.bits (k / 64) (k % 64)).1
          (inr (HasColumn-row bits row k c.row.result.now words.table words.words (subst (λ s. IsTrue (has_bit bits s k)) here has))))
          (cases_lt r row);
    }

pub returns : goal.returns
returns c =
    let inv = c.loop-row.invariant in
    record {
      count = inv.count;
      all = λ r k below. inv.all r k (omega (arith, below, c.loop-row-test.false));
    }
