-- The last cell of a table.
use Rattle.asg_model.proofs.Common.{◌≡◌, ℕ, zero, suc, ◌+◌, ◌*◌, ◌/◌, ◌%◌, ◌<◌, ◌≤◌, true, false, cond, List, [], ◌∷◌, ◌++◌, length, get_or, set, ℤ, pos, Some, None, Option, option_map, filter_map, int_eq, sym, ap, ◌∙◌, subst, refl, ⊎_elim, arith, Decides-int_eq, cases_Bool, cons_option, div-mul-add, enumerate_from, mod-mul-add, absent, table_cost, table_cell, Cost}
use Rattle.asg_model.specs.Table.{table_cells}
use Rattle.asg_model.specs.ValueRange.{IsPartInRange}
use Rattle.asg_model.proofs.CellLists.{Cells}
use Rattle.asg_model.proofs.laws.last_cell_law.Goals as goal

no_cost : (k : ℕ) (a : ℤ) → a ≡ absent → table_cost [] k a ≡ None
no_cost k a is = ap {B = Option Cost} (λ v. cond v None (Some (record { a = a; b = pos 0 }))) ((Decides-int_eq a absent).1 is)

a_cost : (k : ℕ) (a : ℤ) → IsPartInRange a → table_cost [] k a ≡ Some (record { a = a; b = pos 0 })
a_cost k a near =
    ⊎_elim
    (λ (same : int_eq a absent ≡ true). let is = (Decides-int_eq a absent).0 same in absurd (omega (arith, subst IsPartInRange is near)))
    (λ (other : int_eq a absent ≡ false). ap {B = Option Cost} (λ v. cond v None (Some (record { a = a; b = pos 0 }))) other)
    (cases_Bool (int_eq a absent))

module _ (n : ℕ) where
  -- the cells from an index on
  abbrev from : ℕ → List ℤ → Cells
  from start firsts = filter_map (table_cell n []) (enumerate_from start firsts)

  -- the cell of an index, if it has one, before others
  abbrev front : ℕ → Option Cost → Cells → Cells
  front k o rest = cons_option (option_map (λ cost. ((k / n, k % n), cost)) o) rest

  abbrev AreAbsent : ℕ → List ℤ → Type 0
  AreAbsent first firsts = (k : ℕ) → first ≤ k → get_or firsts k absent ≡ absent

  none_from : (start : ℕ) (firsts : List ℤ) → AreAbsent 0 firsts → from start firsts ≡ []
  none_from start [] none = refl
  none_from start (a ∷ firsts) none =
      ap (λ o. front start o (from (start + 1) firsts)) (no_cost start a (none 0 (omega arith)))
      ∙ none_from (start + 1) firsts (λ k low. none (suc k) (omega arith))

  front_last : (k : ℕ) (o : Option Cost) (rest more : Cells) → front k o (rest ++ more) ≡ front k o rest ++ more
  front_last k None rest more = refl
  front_last k (Some cost) rest more = refl

  last_from : (start j : ℕ) (a : ℤ) (firsts : List ℤ) → j < length firsts → IsPartInRange a → AreAbsent j firsts → from start (set firsts j a) ≡ from start firsts ++ (((start + j) / n, (start + j) % n), record { a = a; b = pos 0 }) ∷ []
  last_from start j a [] below near none = absurd (omega (arith, below))
  last_from start zero a (b ∷ firsts) below near none =
      let here : start ≡ start + 0 = omega arith in
      (λ i. front start (a_cost start a near i) (none_from (start + 1) firsts (λ k low. none (suc k) (omega arith)) i))
      ∙ ap (λ k. ((k / n, k % n), record { a = a; b = pos 0 }) ∷ []) here
      ∙ ap (λ rest. rest ++ (((start + 0) / n, (start + 0) % n), record { a = a; b = pos 0 }) ∷ []) (sym (none_from start (b ∷ firsts) none))
  last_from start (suc j) a (b ∷ firsts) below near none =
      let there : start + 1 + j ≡ start + suc j = omega arith in
      ap (front start (table_cost [] start b)) (last_from (start + 1) j a firsts (omega (arith, below)) near (λ k low. none (suc k) (omega (arith, low))))
      ∙ ap (λ k. front start (table_cost [] start b) (from (start + 1) firsts ++ ((k / n, k % n), record { a = a; b = pos 0 }) ∷ [])) there
      ∙ front_last start (table_cost [] start b) (from (start + 1) firsts) ((((start + suc j) / n, (start + suc j) % n), record { a = a; b = pos 0 }) ∷ [])

pub returns-clause-none : goal.returns-clause-none
unfolding table_cells
returns-clause-none c = λ columns firsts none. none_from columns 0 firsts (λ k low. none k)

pub returns-clause-last : goal.returns-clause-last
unfolding table_cells
returns-clause-last c = λ columns firsts r c a column within near none.
    let k = r * columns + c in
    let here : 0 + k ≡ k = omega arith in
    last_from columns 0 k a firsts within near none
    ∙ ap (λ k. filter_map (table_cell columns []) (enumerate_from 0 firsts) ++ ((k / columns, k % columns), record { a = a; b = pos 0 }) ∷ []) here
    ∙ (λ i. filter_map (table_cell columns []) (enumerate_from 0 firsts) ++ ((div-mul-add r columns c column i, mod-mul-add r columns c column i), record { a = a; b = pos 0 }) ∷ [])
