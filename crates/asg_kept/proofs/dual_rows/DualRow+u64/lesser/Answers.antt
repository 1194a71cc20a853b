use Rattle.asg_kept.proofs.Common.{◌≡◌, ℕ, ◌+◌, ◌*◌, ◌%◌, ◌^◌, ◌<◌, ◌≤◌, List, length, slice_index, sym, ap, ◌∙◌, subst, arith, dual_bits}
use Rattle.asg_kept.proofs.DualLemmas.{length_of_values, dual_values_at}
use Rattle.asg_kept.proofs.LesserLemmas.{sum_turned}
use Rattle.asg_kept.proofs.dual_rows.DualRow+u64.lesser.Goals as goal

pub word_of-values-requires : goal.word_of-values-requires
word_of-values-requires c =
    let s = c.self.inside in
    let within = subst (λ (xs : List ℕ). 64 * c.args.number + 64 ≤ length xs) (sym c.self.view_is) c.requires.within in
    let count = length_of_values (2 ^ 64) s.values.now s.columns.now s.row in
    omega (arith, within, count)

pub word_of-columns-requires : goal.word_of-columns-requires
word_of-columns-requires c =
    let s = c.self.inside in
    let within = subst (λ (xs : List ℕ). 64 * c.args.number + 64 ≤ length xs) (sym c.self.view_is) c.requires.within in
    let count = length_of_values (2 ^ 64) s.values.now s.columns.now s.row in
    omega (arith, within, count, c.self.invariant)

pub returns : goal.returns
returns c k h =
    let s = c.self.inside in
    let sum = c.args.sum in
    let base = (sum + s.row) % 2 ^ 64 in
    let at = 64 * c.args.number + k in
    let values = c.word_of-values.result.now in
    let columns = c.word_of-columns.result.now in
    let within = subst (λ (xs : List ℕ). 64 * c.args.number + 64 ≤ length xs) (sym c.self.view_is) c.requires.within in
    let count = length_of_values (2 ^ 64) s.values.now s.columns.now s.row in
    let read : slice_index c.args.self.now at ≡ dual_bits (2 ^ 64) s.row (slice_index s.columns.now at) (slice_index s.values.now at) =
    sym (ap (λ (xs : List ℕ). slice_index xs at) c.self.view_is)
    ∙ dual_values_at (2 ^ 64) s.values.now s.columns.now s.row at (omega (arith, within, count, h)) in
    let same : dual_bits (2 ^ 64) base (slice_index columns k) (slice_index values k) ≡ (sum + slice_index c.args.self.now at) % 2 ^ 64 =
    ap (λ x. dual_bits (2 ^ 64) base (slice_index columns k) x) (c.word_of-values.ensures.each k h)
    ∙ ap (λ x. dual_bits (2 ^ 64) base x (slice_index s.values.now at)) (c.word_of-columns.ensures.each k h)
    ∙ sum_turned sum s.row (slice_index s.columns.now at) (slice_index s.values.now at)
    ∙ ap (λ x. (sum + x) % 2 ^ 64) (sym read) in
    let key = c.word_of-keys.ensures.each k h in
    let keys = c.word_of-keys.result.now in
    let here : 0 + k ≡ k = omega arith in
    let bit = c.lesser_bits.ensures k in (
      λ has.
          let less = subst (λ i. dual_bits (2 ^ 64) base (slice_index columns i) (slice_index values i) < slice_index keys i) here (bit.0 has).1 in
          omega (arith, same, key, less),
      λ less.
          bit.1 (h, subst (λ i. dual_bits (2 ^ 64) base (slice_index columns i) (slice_index values i) < slice_index keys i) (sym here) (omega (arith, same, key, less))),
    )
