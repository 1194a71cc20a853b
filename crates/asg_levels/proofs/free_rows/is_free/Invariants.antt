use Rattle.asg_levels.proofs.Common.{◌≡◌, ℕ, ◌*◌, ◌<◌, true, has_bit, tight_bit}
use Rattle.asg_levels.proofs.free_rows.is_free.Given as goal

-- the words so far
abbrev pub invariant-loop-number : goal.invariant-loop-number
invariant-loop-number l =
    record {
      free : (c : ℕ) → c < 64 * l.number → tight_bit l.zeros l.ones l.outs l.ins l.row c ≡ true → has_bit l.stay 0 c ≡ true → ⊥;
    }
