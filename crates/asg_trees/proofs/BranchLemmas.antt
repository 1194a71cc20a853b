-- Nodes that have the branches of their parent in order.
use Rattle.asg_trees.proofs.Common.{◌≡◌, ℕ, ◌+◌, ◌<◌, ◌≤◌, eqb, leb, ap, ⊎_elim, arith, eq-eqb, ne_eqb, le-leb, cases_eq, cases_lt, lt-leb}
use Rattle.asg_model.specs.Sums.{one}

-- 1 for a branch from 1 up to a number, else 0
abbrev pub one_upto : ℕ → ℕ → ℕ
one_upto count i = one (leb i count)

pub one_upto-in : (count i : ℕ) → i ≤ count → one_upto count i ≡ 1
one_upto-in count i upto = ap one (le-leb i count upto)

pub one_upto-past : (count i : ℕ) → count < i → one_upto count i ≡ 0
one_upto-past count i past = ap one (lt-leb i count past)

-- with the next branch it is the same up to the next number
pub one_upto-next : (count branch i : ℕ) → branch ≡ count + 1 → one_upto count i + one (eqb branch i) ≡ one_upto (count + 1) i
one_upto-next count branch i next =
    ⊎_elim
    (λ (past : count < i).
    let none = one_upto-past count i past in
    ⊎_elim
    (λ (same : branch ≡ i).
    let counted = ap one (eq-eqb branch i same) in
    let all = one_upto-in (count + 1) i (omega (arith, same, next)) in
    omega (arith, none, counted, all))
    (λ (other : branch ≡ i → ⊥).
    let zero = ap one (ne_eqb branch i other) in
    let still = one_upto-past (count + 1) i (omega (arith, past, other, next)) in
    omega (arith, none, zero, still))
    (cases_eq branch i))
    (λ (upto : i ≤ count).
    let old = one_upto-in count i upto in
    let zero = ap one (ne_eqb branch i (λ e. omega (arith, e, next, upto))) in
    let all = one_upto-in (count + 1) i (omega (arith, upto)) in
    omega (arith, old, zero, all))
    (cases_lt count i)
