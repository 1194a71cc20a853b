use Rattle.asg_admit.proofs.Common.{◌≡◌, ◌+◌, ◌<◌, slice_get, slice_index, Some, sym, ap, ◌∙◌, subst, ⊎_elim, arith, Fits-lt-pow, bit_at, cases_eq, slice_get-get_or, AllowsAt, not_both, never, next_bit, next_has, next_below, next_kept, next_gone, next_smaller}
use Rattle.asg_admit.proofs.row_cells.bits_allow.Goals as goal

pub offset_bounds-values-column : goal.offset_bounds-values-column
offset_bounds-values-column g c =
    let some : 0 < c.bits.rest = omega (arith, c.bits-test.true) in
    let fits = Fits-lt-pow c.bits.auto.rest-fits in
    let bit = next_bit c.bits.rest some fits in
    omega (arith, c.requires.inside bit (c.bits.invariant.left bit (next_has c.bits.rest some fits)))

pub bounds-values-column : goal.bounds-values-column
bounds-values-column g c =
    let some : 0 < c.bits.rest = omega (arith, c.bits-test.true) in
    let fits = Fits-lt-pow c.bits.auto.rest-fits in
    let bit = next_bit c.bits.rest some fits in
    c.requires.inside bit (c.bits.invariant.left bit (next_has c.bits.rest some fits))

pub bounds-leaves-column : goal.bounds-leaves-column
bounds-leaves-column g c =
    let some : 0 < c.bits.rest = omega (arith, c.bits-test.true) in
    let fits = Fits-lt-pow c.bits.auto.rest-fits in
    let bit = next_bit c.bits.rest some fits in
    omega (arith, c.requires.inside bit (c.bits.invariant.left bit (next_has c.bits.rest some fits)), c.requires.leaves)

pub cell_allows-requires-clause-cell : goal.cell_allows-requires-clause-cell
cell_allows-requires-clause-cell g c x is =
    let some : 0 < c.bits.rest = omega (arith, c.bits-test.true) in
    let fits = Fits-lt-pow c.bits.auto.rest-fits in
    let bit = next_bit c.bits.rest some fits in
    let set = c.bits.invariant.left bit (next_has c.bits.rest some fits) in
    let value = c.index-values-column in
    c.requires.values bit x set (slice_get-get_or c.args.values.now (c.args.first + bit) value.result (c.requires.inside bit set) ∙ ap Some (sym value.is) ∙ is)

pub returns-then-not-cell_allows : goal.returns-then-not-cell_allows
returns-then-not-cell_allows g c =
    let m = c.args.m.now in
    let some : 0 < c.bits.rest = omega (arith, c.bits-test.true) in
    let fits = Fits-lt-pow c.bits.auto.rest-fits in
    let bit = next_bit c.bits.rest some fits in
    let set = c.bits.invariant.left bit (next_has c.bits.rest some fits) in
    let value = c.index-values-column in
    let read = slice_get-get_or c.args.values.now (c.args.first + bit) value.result (c.requires.inside bit set) ∙ ap Some (sym value.is) in
    let Allows = AllowsAt (g.M.Ordered.monoid_of m) (g.M.DMonoid.difference m) c.args.steps.now c.args.enter (slice_index c.args.leaves.now (c.args.first + bit)) in
    never (λ all. not_both c.cell_allows.result (c.cell_allows.ensures.1 (subst Allows read (all bit (next_below c.bits.rest some fits) set))) c.if-not-cell_allows.true)

pub bits-smaller : goal.bits-smaller
bits-smaller g c = next_smaller c.bits.rest (omega (arith, c.bits-test.true)) (Fits-lt-pow c.bits.auto.rest-fits)

pub bits-preserved : goal.bits-preserved
bits-preserved g c =
    let m = c.args.m.now in
    let first = c.args.first in
    let values = c.args.values.now in
    let inv = c.bits.invariant in
    let some : 0 < c.bits.rest = omega (arith, c.bits-test.true) in
    let fits = Fits-lt-pow c.bits.auto.rest-fits in
    let bit = next_bit c.bits.rest some fits in
    let set = inv.left bit (next_has c.bits.rest some fits) in
    let value = c.index-values-column in
    let read = slice_get-get_or values (first + bit) value.result (c.requires.inside bit set) ∙ ap Some (sym value.is) in
    let Allows = AllowsAt (g.M.Ordered.monoid_of m) (g.M.DMonoid.difference m) c.args.steps.now c.args.enter in
    record {
      left = λ i has. inv.left i (next_kept c.bits.rest some fits i has);
      passed = λ i has none.
          ⊎_elim
          (λ (was : bit_at c.bits.rest i ≡ 1).
          let at : i ≡ bit = next_gone c.bits.rest some fits i was none in
          subst (λ j. Allows (slice_index c.args.leaves.now (first + j)) (slice_get values (first + j))) (sym at)
          (subst (Allows (slice_index c.args.leaves.now (first + bit))) (sym read) (c.cell_allows.ensures.0 c.if-not-cell_allows.false)))
          (λ gone. inv.passed i has gone)
          (cases_eq (bit_at c.bits.rest i) 1);
    }
