-- Rows of bits as squares, and rows without a cell that is 0, by equal lists.
use Rattle.asg_levels.proofs.Common.{◌≡◌, ◌||◌, ℕ, ◌+◌, ◌<◌, ◌≤◌, Bool, true, false, cond, None, Some, is_some, List, [], length, get_or, refl, ap, ◌∙◌, subst, ⊎_elim, arith, cases_lt, has_bit, BitTable, IsBitTable, AreCountedUnits, AreFree, IsBitSquare}
use Rattle.asg_model.proofs.Kit.{get_or-replicate, get_or_past, length-replicate, replicate}

-- rows of bits of a square
pub bits_square : (side : ℕ) (bits : BitTable) → IsBitTable bits → bits.rows ≡ side → bits.columns ≡ side → IsBitSquare side bits
bits_square side bits table rows columns = record {
  rows = rows;
  columns = columns;
  inside = λ r c set. let in_both = table.inside r c set in (subst (λ n. r < n) rows in_both.0, subst (λ n. c < n) columns in_both.1);
}

pub free_by : (zeros ones : BitTable) (ins ins_is outs outs_is enters enters_is leaves : List ℕ) (side : ℕ) → ins ≡ ins_is → outs ≡ outs_is → enters ≡ enters_is → length enters ≡ side → AreFree zeros ones ins outs enters leaves (length enters) (length enters) → AreFree zeros ones ins_is outs_is enters_is leaves side side
free_by zeros ones ins ins_is outs outs_is enters enters_is leaves side e f g long free =
    subst (λ xs. AreFree zeros ones ins_is outs_is xs leaves side side) g
    (subst (λ n. AreFree zeros ones ins_is outs_is enters leaves n n) long
    (subst (λ xs. AreFree zeros ones ins_is xs enters leaves (length enters) (length enters)) f
    (subst (λ xs. AreFree zeros ones xs outs enters leaves (length enters) (length enters)) e free)))

-- ---- before the first step

all_zero : (xs : List ℕ) (n i : ℕ) → xs ≡ replicate n 0 → get_or xs i 0 ≡ 0
all_zero xs n i same =
    ⊎_elim
    (λ (h : i < n). ap (λ ys. get_or ys i 0) same ∙ get_or-replicate n i 0 0 h)
    (λ (h : n ≤ i). get_or_past xs i 0 (omega (arith, h, ap length same, length-replicate {A = ℕ} n 0)))
    (cases_lt i n)

presence : (z o : Bool) → is_some {T = ℕ} (cond z (Some 0) (cond o (Some 1) None)) ≡ (z || o)
presence true o = refl
presence false true = refl
presence false false = refl

cell_value : (z o : Bool) (x i c : ℕ) → cond z (Some 0) (cond o (Some 1) None) ≡ Some x → i ≡ 0 → c ≡ 0 → x + i ≡ cond z 0 1 + c
cell_value true o x i c is e f = let at : 0 ≡ x = cc in omega (arith, at, e, f)
cell_value false true x i c is e f = let at : 1 ≡ x = cc in omega (arith, at, e, f)
cell_value false false x i c is e f = let absent : ⊥ = cc in absurd absent

-- nothing is counted where no phase was taken
pub no_units : (side n m : ℕ) (zeros ones : BitTable) (ins outs : List ℕ) → ins ≡ replicate n 0 → outs ≡ replicate m 0 → AreCountedUnits side zeros ones ins outs []
no_units side n m zeros ones ins outs in_zeros out_zeros = record {
  units = record { plain = refl; admitted = tt; index = refl };
  duals = record {
    there = λ r c. presence (has_bit zeros r c) (has_bit ones r c);
    value = λ r c x is. cell_value (has_bit zeros r c) (has_bit ones r c) x (get_or ins r 0) (get_or outs c 0) is (all_zero ins n r in_zeros) (all_zero outs m c out_zeros);
    few_ins = λ r h. let none = all_zero ins n r in_zeros in omega (arith, none);
    few = λ c. let none = all_zero outs m c out_zeros in omega (arith, none);
  };
}
