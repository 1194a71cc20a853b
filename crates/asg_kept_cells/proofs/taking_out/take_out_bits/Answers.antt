use Rattle.asg_kept_cells.proofs.Common.{◌≡◌, ◌+◌, ◌≢◌, None, sym, ◌∙◌, subst, inl, inr, ⊎_elim, arith, w64, Fits-lt-pow, cases_eq, trailing_zeros, chained_labels, HasBit, cell_at}
use Rattle.asg_bit_rows.specs.laws.Bits.{HasBit-trailing_zeros, HasBit-without, HasBit-without_other, HasBit-zero, bit_below, without_bit-lt}
use Rattle.asg_kept_cells.proofs.taking_out.take_out_bits.Goals as goal

pub take_out_cell-requires-clause-column : goal.take_out_cell-requires-clause-column
take_out_cell-requires-clause-column g c =
    let rest = c.bits.rest in
    let bit = trailing_zeros w64 rest in
    let fits = Fits-lt-pow c.bits.auto.rest-fits in
    let has = HasBit-trailing_zeros rest (omega (arith, c.bits-test.true)) fits in
    omega (arith, c.requires.inside bit (bit_below rest bit fits has) (c.bits.invariant.left bit has), c.bits.invariant.labels.side)

pub bits-smaller : goal.bits-smaller
bits-smaller g c =
    let rest = c.bits.rest in
    let bit = trailing_zeros w64 rest in
    let fits = Fits-lt-pow c.bits.auto.rest-fits in
    let has = HasBit-trailing_zeros rest (omega (arith, c.bits-test.true)) fits in
    without_bit-lt rest bit (bit_below rest bit fits has) has

pub bits-preserved : goal.bits-preserved
bits-preserved g c =
    let l = c.bits in
    let inv = l.invariant in
    let row = c.args.row in
    let first = c.args.first in
    let new = c.take_out_cell.new.square in
    let w = c.take_out_cell.ensures in
    let rest = l.rest in
    let bit = trailing_zeros w64 rest in
    let fits = Fits-lt-pow l.auto.rest-fits in
    let has = HasBit-trailing_zeros rest (omega (arith, c.bits-test.true)) fits in
    let below = bit_below rest bit fits has in
    record {
      labels = chained_labels c.args.square.now l.square new inv.labels w.labels;
      left = λ k is. let was = HasBit-without rest bit k below is in inv.left k was.0;
      taken = λ k is none.
          ⊎_elim
          (λ (same : k ≡ bit). subst (λ j. cell_at new row (first + j) ≡ None) (sym same) w.here)
          (λ (other : k ≢ bit).
          w.others row (first + k) (inr (λ e. other (omega (arith, e))))
          ∙ inv.taken k is (λ was. none (HasBit-without_other rest bit k below (bit_below rest k fits was) was other)))
          (cases_eq k bit);
      others = λ r k apart.
          w.others r k (⊎_elim (λ n. inl n) (λ f. inr (f bit below (inv.left bit has))) apart)
          ∙ inv.others r k apart;
    }

pub returns : goal.returns
returns g c =
    let inv = c.bits.invariant in
    let zero : c.bits.rest ≡ 0 = omega (arith, c.bits-test.false) in
    record {
      labels = inv.labels;
      taken = λ k below is. inv.taken k is (λ was. HasBit-zero k (subst (λ n. HasBit n k) zero was));
      others = inv.others;
    }
