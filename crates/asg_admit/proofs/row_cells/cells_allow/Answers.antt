use Rattle.asg_admit.proofs.Common.{◌≡◌, ℕ, ◌+◌, ◌*◌, ◌/◌, ◌%◌, ◌<◌, ◌≤◌, length, slice_get, slice_index, sym, refl, ◌∙◌, subst, ⊎_elim, arith, Fits-lt-pow, bit_at, cases_eq, cases_lt, AllowsAt, cell_in_row, not_both, never, HasBit, bit_below}
use Rattle.asg_admit.proofs.AllowingLemmas.{least_allows}
use Rattle.asg_admit.proofs.MarkLemmas.{marked_at, bit_set, set_bit}
use Rattle.asg_admit.proofs.RowCells.{cell_of_bit, bit_of_cell}
use Rattle.asg_admit.proofs.row_cells.cells_allow.Goals as goal

pub bits_to_test-word-requires-clause-first : goal.bits_to_test-word-requires-clause-first
bits_to_test-word-requires-clause-first g c = omega (arith, c.loop-number-test.true, c.requires.words)

pub bits_to_test-word-requires-clause-inside : goal.bits_to_test-word-requires-clause-inside
bits_to_test-word-requires-clause-inside g c k has =
    let n = c.loop-number.number in
    let words = c.args.words.now in
    let low = bit_below (slice_index words n) k (Fits-lt-pow (c.type_inv.words n)) has in
    c.requires.inside (64 * n + k) (omega (arith, c.loop-number-test.true, low)) (marked_at words n k low ∙ bit_set (slice_index words n) k has)

pub bits_to_test-word-requires-clause-values : goal.bits_to_test-word-requires-clause-values
bits_to_test-word-requires-clause-values g c k x has is =
    let n = c.loop-number.number in
    let words = c.args.words.now in
    let low = bit_below (slice_index words n) k (Fits-lt-pow (c.type_inv.words n)) has in
    c.requires.values (64 * n + k) x (cell_of_bit c.args.values.now words n k low has ∙ is)

pub bits_allow-requires-clause-first : goal.bits_allow-requires-clause-first
bits_allow-requires-clause-first g c = omega (arith, c.loop-number-test.true, c.requires.words)

pub bits_allow-requires-clause-inside : goal.bits_allow-requires-clause-inside
bits_allow-requires-clause-inside g c k left =
    let has = c.bits_to_test-word.ensures.inside k left in
    let n = c.loop-number.number in
    let words = c.args.words.now in
    let low = bit_below (slice_index words n) k (Fits-lt-pow (c.type_inv.words n)) has in
    c.requires.inside (64 * n + k) (omega (arith, c.loop-number-test.true, low)) (marked_at words n k low ∙ bit_set (slice_index words n) k has)

pub bits_allow-requires-clause-values : goal.bits_allow-requires-clause-values
bits_allow-requires-clause-values g c k x left is =
    let has = c.bits_to_test-word.ensures.inside k left in
    let n = c.loop-number.number in
    let words = c.args.words.now in
    let low = bit_below (slice_index words n) k (Fits-lt-pow (c.type_inv.words n)) has in
    c.requires.values (64 * n + k) x (cell_of_bit c.args.values.now words n k low has ∙ is)

pub returns-then-not-bits_allow : goal.returns-then-not-bits_allow
returns-then-not-bits_allow g c =
    let m = c.args.m.now in
    let n = c.loop-number.number in
    let values = c.args.values.now in
    let words = c.args.words.now in
    never (λ all. not_both c.bits_allow.result
    (c.bits_allow.ensures.1 (λ k low left.
    let has = c.bits_to_test-word.ensures.inside k left in
    let within = c.requires.inside (64 * n + k) (omega (arith, c.loop-number-test.true, low)) (marked_at words n k low ∙ bit_set (slice_index words n) k has) in
    subst (AllowsAt (g.M.Ordered.monoid_of m) (g.M.DMonoid.difference m) c.args.steps.now c.args.enter (slice_index c.args.leaves.now (64 * n + k))) (cell_of_bit values words n k low has)
    (all (64 * n + k) (omega (arith, within, c.requires.leaves)))))
    c.if-not-bits_allow.true)

pub loop-number-preserved : goal.loop-number-preserved
loop-number-preserved g c = λ i k h low has.
    let m = c.args.m.now in
    let M = g.M.Ordered.monoid_of m in
    let d = g.M.DMonoid.difference m in
    let n = c.loop-number.number in
    let values = c.args.values.now in
    let words = c.args.words.now in
    let steps = c.args.steps.now in
    let Allows = λ (j : ℕ). AllowsAt M d steps c.args.enter (slice_index c.args.leaves.now (64 * j + k)) (slice_get values (64 * j + k)) in
    ⊎_elim
    (λ (before : i < n). c.loop-number.invariant i k before low has)
    (λ (past : n ≤ i).
    let at : n ≡ i = omega (arith, past, h) in
    let here : HasBit (slice_index words n) k = subst (λ j. HasBit (slice_index words j) k) (sym at) has in
    subst Allows at
    (⊎_elim
    (λ (left : bit_at c.bits_to_test-word.result k ≡ 1). c.bits_allow.ensures.0 c.if-not-bits_allow.false k low left)
    (λ gone x is.
    least_allows M (g.met.M.Ordered.laws m) d (g.met.M.DMonoid.difference_laws m) c.differences.ensures.twice steps c.requires.steps c.args.enter
    c.allowing-least.result c.allowing-least.ensures.is_value c.allowing-least.ensures.allows x
    (c.requires.values (64 * n + k) x (cell_of_bit values words n k low here ∙ is))
    (c.bits_to_test-word.ensures.others k x here gone is)
    (slice_index c.args.leaves.now (64 * n + k)))
    (cases_eq (bit_at c.bits_to_test-word.result k) 1)))
    (cases_lt i n)

pub returns : goal.returns
returns g c = (
  λ _ k h x is.
      let m = c.args.m.now in
      let values = c.args.values.now in
      let words = c.args.words.now in
      let number : k / 64 < length words = omega (arith, h, c.requires.leaves, c.requires.words) in
      let has = set_bit (slice_index words (k / 64)) (k % 64) (bit_of_cell values words k x is) in
      let at : 64 * (k / 64) + k % 64 ≡ k = omega arith in
      let there = subst (λ j. AllowsAt (g.M.Ordered.monoid_of m) (g.M.DMonoid.difference m) c.args.steps.now c.args.enter (slice_index c.args.leaves.now j) (slice_get values j)) at
      (c.loop-number.invariant (k / 64) (k % 64) (omega (arith, number, c.loop-number-test.false)) (omega arith) has) in
      there x (sym (subst (λ j. cell_in_row values words j ≡ slice_get values j) at (cell_of_bit values words (k / 64) (k % 64) (omega arith) has)) ∙ is),
  λ _. refl,
)
