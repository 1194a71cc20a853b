use Rattle.asg_admit.proofs.Common.{◌≡◌, ◌+◌, ◌<◌, not, get_or, Some, sym, ap, ◌∙◌, ⊎_elim, arith, Fits-lt-pow, bit_at, cases_eq, get_or_from_slice_get, slice_get-get_or, next_bit, next_has, next_kept, next_smaller}
use Rattle.asg_admit.proofs.AllowingLemmas.{not_false}
use Rattle.asg_admit.proofs.lesser_cells.bits_below.Goals as goal

pub offset_bounds-values-column : goal.offset_bounds-values-column
offset_bounds-values-column g c =
    let some : 0 < c.bits.rest = omega (arith, c.bits-test.true) in
    let fits = Fits-lt-pow c.bits.auto.rest-fits in
    let bit = next_bit c.bits.rest some fits in
    omega (arith, c.requires.inside bit (c.bits.invariant.left bit (next_has c.bits.rest some fits)))

pub bounds-values-column : goal.bounds-values-column
bounds-values-column g c =
    let some : 0 < c.bits.rest = omega (arith, c.bits-test.true) in
    let fits = Fits-lt-pow c.bits.auto.rest-fits in
    let bit = next_bit c.bits.rest some fits in
    c.requires.inside bit (c.bits.invariant.left bit (next_has c.bits.rest some fits))

pub le-requires-clause-right : goal.le-requires-clause-right
le-requires-clause-right g c =
    let some : 0 < c.bits.rest = omega (arith, c.bits-test.true) in
    let fits = Fits-lt-pow c.bits.auto.rest-fits in
    let bit = next_bit c.bits.rest some fits in
    let set = c.bits.invariant.left bit (next_has c.bits.rest some fits) in
    let value = c.index-values-column in
    c.requires.values bit value.result set (slice_get-get_or c.args.values.now (c.args.first + bit) value.result (c.requires.inside bit set) ∙ ap Some (sym value.is))

pub bits-smaller : goal.bits-smaller
bits-smaller g c = next_smaller c.bits.rest (omega (arith, c.bits-test.true)) (Fits-lt-pow c.bits.auto.rest-fits)

pub bits-preserved : goal.bits-preserved
bits-preserved g c =
    let m = c.args.m.now in
    let M = g.M.Ordered.monoid_of m in
    let least = c.args.least in
    let values = c.args.values.now in
    let inv = c.bits.invariant in
    let some : 0 < c.bits.rest = omega (arith, c.bits-test.true) in
    let fits = Fits-lt-pow c.bits.auto.rest-fits in
    let value = c.index-values-column in
    let keeps = c.kept-below.ensures in
    record {
      left = λ i has. inv.left i (next_kept c.bits.rest some fits i has);
      inside = λ i has. inv.inside i (keeps.inside i has);
      gone = λ i x has none read.
          ⊎_elim
          (λ (was : bit_at c.bits.below i ≡ 1).
          not_false (M.is_le least x) (λ less. none (keeps.others i was (λ here.
          let same : value.result ≡ x = value.is ∙ ap (λ j. get_or values (c.args.first + j) value.result) (sym here) ∙ get_or_from_slice_get values (c.args.first + i) x value.result read in
          ap not (c.le.ensures ∙ ap (M.is_le least) same ∙ less)))))
          (λ out. inv.gone i x has out read)
          (cases_eq (bit_at c.bits.below i) 1);
    }
