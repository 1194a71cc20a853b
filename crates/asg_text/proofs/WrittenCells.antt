-- The texts of cells as tokens.
use Rattle.asg_text.proofs.Common.{◌≡◌, ℕ, ◌+◌, ◌≤◌, false, cond, List, [], ◌∷◌, ◌++◌, map, ℤ, pos, IfSome, unsigned_abs, Some, None, All, Option, int_eq, sym, refl, ap, subst, ⊎_elim, arith, length-append, All-append, All-cons, All-head, All-map, All-nil, All-tail, All-weaker, Decides-int_eq, cases_Bool, signed_decimal, IsCostInRange, most_cost, Cost, cell_text, cost_text, is_space, cell_of, cell_faults, token_faults}
use Rattle.asg_tokens.specs.laws.CellLemmas.{absent_faults, absent_cell, right_faults, right_cell, integer_is_present, plain_in_range}
use Rattle.asg_tokens.specs.laws.PairLemmas.{pair_present, spells_pair}
use Rattle.asg_text.proofs.WrittenNumbers.{IsToken, part_integer}

-- the token of a cell without a fault, wherever it stands
record IsCellToken (token : List ℕ) (cell : Option Cost) : Type 0 where
  is_token : IsToken token
  right : (place : ℕ) → token_faults place token ≡ []
  is_cell : cell_of token ≡ cell

absent_token : IsCellToken (45 ∷ []) None
absent_token = record {
  is_token = record { some = omega arith; no_space = All-cons (λ byte. is_space byte ≡ false) 45 [] refl (All-nil (λ byte. is_space byte ≡ false)) };
  right = λ place. absent_faults place (45 ∷ []) refl;
  is_cell = absent_cell 0 (45 ∷ []) refl;
}

plain_token : (a : ℤ) → unsigned_abs a ≤ most_cost → IsCellToken (signed_decimal a) (Some (record { a = a; b = pos 0 }))
plain_token a within =
    let first = part_integer a within in
    let present = integer_is_present (signed_decimal a) a first.spells in
    let spells = plain_in_range (signed_decimal a) a first.spells within in
    record {
      is_token = first.is_token;
      right = λ place. right_faults place (signed_decimal a) _ present spells;
      is_cell = sym (right_cell 0 (signed_decimal a) _ present spells);
    }

pair_token : (a b : ℤ) → unsigned_abs a ≤ most_cost → unsigned_abs b ≤ most_cost → IsCellToken (signed_decimal a ++ 58 ∷ signed_decimal b) (Some (record { a = a; b = b }))
pair_token a b a_within b_within =
    let first = part_integer a a_within in
    let second = part_integer b b_within in
    let present = pair_present (signed_decimal a) (signed_decimal b) a b first.spells second.spells a_within b_within first.no_colon in
    let spells = spells_pair (signed_decimal a) (signed_decimal b) a b first.spells second.spells a_within b_within first.no_colon in
    record {
      is_token = record {
        some = omega (arith, length-append (signed_decimal a) (58 ∷ signed_decimal b));
        no_space = All-append (λ byte. is_space byte ≡ false) (signed_decimal a) (58 ∷ signed_decimal b) first.is_token.no_space
            (All-cons (λ byte. is_space byte ≡ false) 58 (signed_decimal b) refl second.is_token.no_space);
      };
      right = λ place. right_faults place (signed_decimal a ++ 58 ∷ signed_decimal b) _ present spells;
      is_cell = sym (right_cell 0 (signed_decimal a ++ 58 ∷ signed_decimal b) _ present spells);
    }

cost_token : (cost : Cost) → IsCostInRange cost → IsCellToken (cost_text cost) (Some cost)
cost_token cost within =
    ⊎_elim
    (λ yes.
    let none : pos 0 ≡ cost.b = sym ((Decides-int_eq cost.b (pos 0)).0 yes) in
    subst (λ text. IsCellToken text (Some cost)) (sym (ap (λ v. cond v (signed_decimal cost.a) (signed_decimal cost.a ++ 58 ∷ signed_decimal cost.b)) yes))
    (subst (λ b. IsCellToken (signed_decimal cost.a) (Some (record { a = cost.a; b = b }))) none (plain_token cost.a within.a_in_range)))
    (λ other.
    subst (λ text. IsCellToken text (Some cost)) (sym (ap (λ v. cond v (signed_decimal cost.a) (signed_decimal cost.a ++ 58 ∷ signed_decimal cost.b)) other))
    (pair_token cost.a cost.b within.a_in_range within.b_in_range))
    (cases_Bool (int_eq cost.b (pos 0)))

-- a cell whose cost is in range
abbrev pub IsCellInRange : Option Cost → Type 0
IsCellInRange cell = IfSome cell IsCostInRange

cell_token : (cell : Option Cost) → IsCellInRange cell → IsCellToken (cell_text cell) cell
cell_token None within = absent_token
cell_token (Some cost) within = cost_token cost within

-- the texts of cells
pub cells_are_tokens : (cells : List (Option Cost)) → All IsCellInRange cells → All IsToken (map cell_text cells)
cells_are_tokens cells within =
    All-map IsToken cell_text cells (All-weaker IsCellInRange (λ cell. IsToken (cell_text cell)) (λ cell in_range. (cell_token cell in_range).is_token) cells within)

pub cells_right : (place : ℕ) (cells : List (Option Cost)) → All IsCellInRange cells → cell_faults place (map cell_text cells) ≡ []
cells_right place [] within = refl
cells_right place (cell ∷ cells) within =
    let here = cell_token cell (All-head IsCellInRange cell cells within) in
    (λ i. here.right place i ++ cells_right (place + 1) cells (All-tail IsCellInRange cell cells within) i)

pub cells_read_back : (cells : List (Option Cost)) → All IsCellInRange cells → map cell_of (map cell_text cells) ≡ cells
cells_read_back [] within = refl
cells_read_back (cell ∷ cells) within =
    let here = cell_token cell (All-head IsCellInRange cell cells within) in
    (λ i. here.is_cell i ∷ cells_read_back cells (All-tail IsCellInRange cell cells within) i)
