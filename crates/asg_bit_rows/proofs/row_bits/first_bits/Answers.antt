use Rattle.asg_bit_rows.proofs.Common.{ℕ, ◌-◌, ◌^◌, ◌<◌, ◌↔◌, sym, subst, ⊎_elim, arith, bit_at_ones, bit_at_ones_above, cases_lt, one_shl, HasBit}
use Rattle.asg_bit_rows.proofs.row_bits.first_bits.Goals as goal

-- a run of ones has the bits below its length
ones : (n k : ℕ) → HasBit (2 ^ n - 1) k ↔ (k < n)
ones n k = (
  λ has. ⊎_elim (λ h. h) (λ past. let none = bit_at_ones_above n k past in absurd (omega (arith, none, has))) (cases_lt k n),
  bit_at_ones n k,
)

pub returns-then-count-ge64 : goal.returns-then-count-ge64
returns-then-count-ge64 c k = (
  λ has. let below = (ones 64 k).0 has in (omega arith, below),
  λ both. (ones 64 k).1 both.1,
)

pub returns : goal.returns
returns c k =
    let plain = one_shl c.args.count 64 (omega arith) in
    let word = ones c.args.count k in (
      λ has. let below = word.0 (subst (λ n. HasBit (n - 1) k) plain has) in (below, omega arith),
      λ both. subst (λ n. HasBit (n - 1) k) (sym plain) (word.1 both.0),
    )
