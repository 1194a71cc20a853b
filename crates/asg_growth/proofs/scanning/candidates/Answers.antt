use Rattle.asg_growth.proofs.Common.{◌≡◌, ℕ, ◌+◌, ◌*◌, ◌/◌, ◌%◌, ◌<◌, List, [], get_or, bit_and, Some, Option, sym, subst, arith, HasBit-and, leads_of, IsBoth, values_of, some_value, lead_there, bit_in, column_in, left_out, IsWordOf, HasBit, IsValue, IsLe, cell_at}
use Rattle.asg_growth.proofs.ScanLemmas.{column_below, some_word, values_at, word_some}
use Rattle.asg_growth.proofs.scanning.candidates.Goals as goal

-- the bit of a column that is in both sets
bit_of_both : {V : Type 0} (number word : ℕ) (row : ℕ → Option V) (unseen : List ℕ) (k : ℕ) → IsWordOf row number word → IsBoth number row unseen k → HasBit (bit_and (get_or unseen number 0) word) (k % 64)
bit_of_both number word row unseen k is w =
    (HasBit-and (get_or unseen number 0) word (k % 64)).1 (bit_in unseen number k w.0 w.2, some_word row number word is k w.0 w.1)

pub row_word-requires-clause-number : goal.row_word-requires-clause-number
row_word-requires-clause-number g c = omega (arith, c.requires.words, c.requires.unseen.count)

pub returns-then-number-keys-clause-unseen : goal.returns-then-number-keys-clause-unseen
returns-then-number-keys-clause-unseen g c k has =
    ((HasBit-and (get_or c.args.unseen.now c.args.number 0) c.row_word.result k).0 has).0

pub returns-then-number-keys-clause-present : goal.returns-then-number-keys-clause-present
returns-then-number-keys-clause-present g c k below has =
    word_some (cell_at (g.S.RowSquare.as_reduced c.args.square.now).now c.args.row) c.args.number c.row_word.result c.row_word.ensures k below
    ((HasBit-and (get_or c.args.unseen.now c.args.number 0) c.row_word.result k).0 has).1

pub returns-then-number-keys-clause-others : goal.returns-then-number-keys-clause-others
returns-then-number-keys-clause-others g c k w none =
    absurd (none (bit_of_both c.args.number c.row_word.result (cell_at (g.S.RowSquare.as_reduced c.args.square.now).now c.args.row) c.args.unseen.now k c.row_word.ensures w))

pub returns-then-offered-known-le-FEW-clause-unseen : goal.returns-then-offered-known-le-FEW-clause-unseen
returns-then-offered-known-le-FEW-clause-unseen g c k has =
    ((HasBit-and (get_or c.args.unseen.now c.args.number 0) c.row_word.result k).0 has).0

pub returns-then-offered-known-le-FEW-clause-present : goal.returns-then-offered-known-le-FEW-clause-present
returns-then-offered-known-le-FEW-clause-present g c k below has =
    word_some (cell_at (g.S.RowSquare.as_reduced c.args.square.now).now c.args.row) c.args.number c.row_word.result c.row_word.ensures k below
    ((HasBit-and (get_or c.args.unseen.now c.args.number 0) c.row_word.result k).0 has).1

pub returns-then-offered-known-le-FEW-clause-others : goal.returns-then-offered-known-le-FEW-clause-others
returns-then-offered-known-le-FEW-clause-others g c k w none =
    absurd (none (bit_of_both c.args.number c.row_word.result (cell_at (g.S.RowSquare.as_reduced c.args.square.now).now c.args.row) c.args.unseen.now k c.row_word.ensures w))

pub returns-clause-unseen : goal.returns-clause-unseen
returns-clause-unseen g c k has =
    let U = get_or c.args.unseen.now c.args.number 0 in
    let P = c.row_word.result in
    ((HasBit-and U P k).0 ((HasBit-and (bit_and U P) _ k).0 has).0).0

pub returns-clause-present : goal.returns-clause-present
returns-clause-present g c k below has =
    let U = get_or c.args.unseen.now c.args.number 0 in
    let P = c.row_word.result in
    word_some (cell_at (g.S.RowSquare.as_reduced c.args.square.now).now c.args.row) c.args.number P c.row_word.ensures k below
    ((HasBit-and U P k).0 ((HasBit-and (bit_and U P) _ k).0 has).0).1

pub returns-clause-others : goal.returns-clause-others
returns-clause-others g c k w none =
    let M = g.M.Ordered.monoid_of c.args.m.now in
    let n = c.args.number in
    let keys = c.args.keys.now in
    let keyed = c.args.keyed.now in
    let Q = (g.S.RowSquare.as_reduced c.args.square.now).now in
    let r = c.args.row in
    let U = get_or c.args.unseen.now n 0 in
    let P = c.row_word.result in
    let offered = bit_of_both n P (cell_at Q r) c.args.unseen.now k c.row_word.ensures w in
    let out = left_out (bit_and U P) c.lesser.result (get_or keyed n 0) (k % 64) (omega arith) (c.type_inv.keyed n) offered none in
    let there = lead_there M (leads_of keys keyed []) k (column_in keyed n k w.0 out.0) in
    let same : 64 * n + k % 64 ≡ k = omega (arith, w.0) in
    let cell = some_value (cell_at Q r k) w.1 in
    let below = column_below Q.side c.args.unseen.now c.requires.unseen k w.2 in (
      get_or keys k M.unit,
      there,
      subst (λ y. IsLe M (get_or keys k M.unit) (M.product c.args.sum y)) (sym (values_at M Q r k cell.0 below cell.1))
          (subst (λ j. IsLe M (get_or keys j M.unit) (M.product c.args.sum cell.0)) same
          (c.lesser.ensures (k % 64) cell.0 (omega arith) out.1
          (subst (λ j. cell_at Q r j ≡ Some cell.0) (sym same) cell.1)
          (c.requires.reduced.cells r k cell.0 c.requires.row below cell.1)
          (subst (λ j. IsValue M (get_or keys j M.unit)) (sym same) (c.requires.leads k (get_or keys k M.unit) w.2 there)))),
    )
