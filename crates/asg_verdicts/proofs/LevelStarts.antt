-- The square of a level before any step: no cell beyond its side, and no value above 1.
use Rattle.asg_verdicts.proofs.LevelCommon.{◌≡◌, ℕ, ◌+◌, ◌*◌, ◌^◌, ◌<◌, ◌≤◌, Bool, true, false, cond, not, ◌&&◌, ◌⊎◌, ℤ, IsSome, slice_set, Some, None, Option, int_eq, refl, ap, ◌∙◌, subst, ⊎_elim, arith, le-leb, none-some, same_Some, place_hit, place_missed, counts_for, free_cost, level_value, Problem, square_side, counted_as, level_square, level_sums, square_cell, Grid, IsGrid, cell_at}
use Rattle.asg_order.specs.Monoid.{IsValue}
use Rattle.asg_cell_tables.specs.laws.Entries.{entry_at-set}
use Rattle.asg_proof.specs.Steps.{HasSide}
use Rattle.asg_proof.specs.laws.Squares.{HasSide-cell_at, HasSide-square_cell}

none_unless : {V : Type 0} (o : Option V) → ¬ IsSome o → o ≡ None
none_unless None fails = refl
none_unless (Some x) fails = absurd (fails refl)

-- no cell stands beyond the side
beyond : {V : Type 0} (side : ℕ) (square : ℕ → ℕ → Option V) → HasSide side square → (r c : ℕ) → (side ≤ r) ⊎ (side ≤ c) → square r c ≡ None
beyond side square inside r c out =
    none_unless (square r c)
    (λ some.
    let within = inside r c some in
    ⊎_elim (λ (past : side ≤ r). omega (arith, past, within.0)) (λ (past : side ≤ c). omega (arith, past, within.1)) out)

pub outside_none : {V : Type 0} (Q : Grid V) (side : ℕ) → Q.side ≡ side → IsGrid Q → (r c : ℕ) → (side ≤ r) ⊎ (side ≤ c) → cell_at Q r c ≡ None
outside_none Q side is grid = beyond side (cell_at Q) (subst (λ n. HasSide n (cell_at Q)) is (HasSide-cell_at Q grid))

-- one of its cells was changed
pub set_here : {V : Type 0} (Q after : Grid V) (r c : ℕ) (x : Option V) → IsGrid Q → r < Q.side → c < Q.side → after ≡ record Q { cells = slice_set Q.cells (r * Q.side + c) x } → cell_at after r c ≡ x
set_here Q after r c x grid hr hc is =
    ap (λ (q : Grid _). cell_at q r c) is
    ∙ entry_at-set Q.side Q.cells r c x r c grid.table.count hr hc
    ∙ place_hit r r c c x (cell_at Q r c) refl refl

pub set_elsewhere : {V : Type 0} (Q after : Grid V) (r c : ℕ) (x : Option V) → IsGrid Q → r < Q.side → c < Q.side → after ≡ record Q { cells = slice_set Q.cells (r * Q.side + c) x }
    → (s d : ℕ) → (s ≡ r → d ≡ c → ⊥) → cell_at after s d ≡ cell_at Q s d
set_elsewhere Q after r c x grid hr hc is s d other =
    ap (λ (q : Grid _). cell_at q s d) is
    ∙ entry_at-set Q.side Q.cells r c x s d grid.table.count hr hc
    ∙ place_missed s r d c x (cell_at Q s d) other

no_cell : {V : Type 0} (b : Bool) → cond {A = Option V} b None None ≡ None
no_cell true = refl
no_cell false = refl

-- nor in the square of a level
pub outside_level : (X : Problem) (left : ℕ → ℕ → Bool) (cost : ℤ) (r c : ℕ) → (square_side X ≤ r) ⊎ (square_side X ≤ c) → level_square X left cost r c ≡ None
outside_level X left cost r c out =
    ap (λ o. cond (left r c) o None) (beyond (square_side X) (square_cell X 0 (counted_as cost)) (HasSide-square_cell X 0 (counted_as cost)) r c out) ∙ no_cell (left r c)

-- ---- what its cells are worth

one_or_none : (b : Bool) → cond b 1 0 ≤ 1
one_or_none true = omega arith
one_or_none false = omega arith

pub value_small : (bit : Bool) (cost : ℤ) (cell : Option ℤ) (x : ℕ) → level_value bit cost cell ≡ Some x → x ≤ 1
value_small true cost (Some found) x e =
    subst (λ n. n ≤ 1) (same_Some (counts_for cost found) x e) (one_or_none (not (int_eq found free_cost) && int_eq found cost))
value_small true cost None x e = absurd (none-some x e)
value_small false cost cell x e = absurd (none-some x e)

-- they are values of the sums in which levels count
pub level_value_is : (bit : Bool) (cost : ℤ) (cell : Option ℤ) (x : ℕ) → level_value bit cost cell ≡ Some x → IsValue level_sums x
level_value_is bit cost cell x e = let small = value_small bit cost cell x e in le-leb x (2 ^ 120) (omega (arith, small))

pub unit_is_value : IsValue level_sums 0
unit_is_value = le-leb 0 (2 ^ 120) (omega arith)
