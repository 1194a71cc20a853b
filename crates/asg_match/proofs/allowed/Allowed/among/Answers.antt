use Rattle.asg_match.proofs.Common.{ℕ, ◌+◌, ◌*◌, ◌^◌, ◌<◌, ◌⊎◌, sym, subst, inl, inr, ⊎_elim, arith, w64, Fits-lt-pow, cases_eq, trailing_zeros, bit_below, HasBit-trailing_zeros, HasBit-without, HasBit-without_other, without_bit, without_bit-lt, HasBit-with, HasBit-with_same, HasBit-with_kept, with_bit, HasBit}
use Rattle.asg_match.proofs.allowed.Allowed.among.Goals as goal
use Rattle.asg_match.proofs.allowed.Allowed.among.Goals.{then-has, else-has}

abbrev AreSplit : (ℕ → Type 0) → ℕ → ℕ → ℕ → Type 0
AreSplit allows columns rest word = (k : ℕ) → HasBit columns k → allows k → HasBit rest k ⊎ HasBit word k

-- a bit that isn't allowed is passed over
passed : (allows : ℕ → Type 0) (columns rest word b : ℕ) → rest < 2 ^ 64 → b < 64 → (allows b → ⊥) → AreSplit allows columns rest word → AreSplit allows columns (without_bit rest b) word
passed allows columns rest word b fits h none done k has cell =
    ⊎_elim
    (λ r. inl (HasBit-without_other rest b k h (bit_below rest k fits r) r (λ e. none (subst allows e cell))))
    inr
    (done k has cell)

-- a bit that is allowed moves to the word
moved : (allows : ℕ → Type 0) (columns rest word b : ℕ) → rest < 2 ^ 64 → b < 64 → AreSplit allows columns rest word → AreSplit allows columns (without_bit rest b) (with_bit word b)
moved allows columns rest word b fits h done k has cell =
    ⊎_elim
    (λ r.
    ⊎_elim
    (λ e. inr (subst (HasBit (with_bit word b)) (sym e) (HasBit-with_same word b h)))
    (λ other. inl (HasBit-without_other rest b k h (bit_below rest k fits r) r other))
    (cases_eq k b))
    (λ w. inr (HasBit-with_kept word b k h w))
    (done k has cell)

pub overflow_mul-number : goal.overflow_mul-number
overflow_mul-number g c =
    let has = HasBit-trailing_zeros c.bits.rest (omega arith) (Fits-lt-pow c.bits.auto.rest-fits) in
    let below = c.requires.columns_below _ (c.bits.invariant.rest _ has) in
    omega (arith, below, c.requires.side_fits)

pub overflow_add-number : goal.overflow_add-number
overflow_add-number g c =
    let has = HasBit-trailing_zeros c.bits.rest (omega arith) (Fits-lt-pow c.bits.auto.rest-fits) in
    let below = c.requires.columns_below _ (c.bits.invariant.rest _ has) in
    omega (arith, below, c.requires.side_fits)

pub has-requires-clause-column_below : goal.has-requires-clause-column_below
has-requires-clause-column_below g c =
    let has = HasBit-trailing_zeros c.bits.rest (omega arith) (Fits-lt-pow c.bits.auto.rest-fits) in
    c.requires.columns_below _ (c.bits.invariant.rest _ has)

pub bits-smaller : goal.bits-smaller
bits-smaller g c =
    let fits = Fits-lt-pow c.bits.auto.rest-fits in
    let has = HasBit-trailing_zeros c.bits.rest (omega arith) fits in
    without_bit-lt c.bits.rest _ (bit_below c.bits.rest _ fits has) has

pub bits-preserved : goal.bits-preserved
bits-preserved g c =
    let fits = Fits-lt-pow c.bits.auto.rest-fits in
    let b = trailing_zeros w64 c.bits.rest in
    let has = HasBit-trailing_zeros c.bits.rest (omega arith) fits in
    let h = bit_below c.bits.rest b fits has in
    let inv = c.bits.invariant in
    let allows = λ (k : ℕ). g.Self.Allowed.allows c.args.self.now c.args.r (64 * c.args.number + k) in
    elim c.if-has.branch [
      | then-has w ↦
          record {
            rest = λ k r. inv.rest k (HasBit-without c.bits.rest b k h r).0;
            word = λ k e.
                ⊎_elim
                (inv.word k)
                (λ same. (subst (HasBit c.args.columns) (sym same) (inv.rest b has), subst allows (sym same) (c.has.ensures.0 w.if-has.true)))
                (HasBit-with c.bits.word b k h (subst (λ n. HasBit n k) w.word-is e));
            done = subst (AreSplit allows c.args.columns (without_bit c.bits.rest b)) (sym w.word-is) (moved allows c.args.columns c.bits.rest c.bits.word b fits h inv.done);
          }
      | else-has w ↦
          record {
            rest = λ k r. inv.rest k (HasBit-without c.bits.rest b k h r).0;
            word = λ k e. inv.word k (subst (λ n. HasBit n k) w.word-is e);
            done = subst (AreSplit allows c.args.columns (without_bit c.bits.rest b)) (sym w.word-is)
                (passed allows c.args.columns c.bits.rest c.bits.word b fits h (λ cell. let yes = c.has.ensures.1 cell in let none = w.if-has.false in cc) inv.done);
          }
    ]
