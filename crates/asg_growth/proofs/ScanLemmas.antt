-- What leads are after a scan of columns.
use Rattle.asg_growth.proofs.Common.{◌≡◌, ℕ, ◌+◌, ◌*◌, ◌/◌, ◌%◌, ◌<◌, eqb, List, length, get_or, IsSome, Some, Option, unwrap_or, sym, ap, ◌∙◌, subst, inl, inr, ⊎_elim, arith, eqb-true, bit_at, cases_eq, cases_lt, get_or-map-range_with_len, length-map-range_with_len, same_Some, slice_get-get_or, Leads, lead_at, Relaxes, AreValued, IsBoth, values_of, some_value, Relaxes-join, IsApproached, IsWordOf, HasBit, HasColumn, IsColumnSet, Monoid, IsValue, Grid, IsGrid, cell_at}
use Rattle.asg_proof.specs.Steps.{HasValues}
use Rattle.asg_cell_tables.specs.CellTable.{AreValuesOf}
use Rattle.asg_admit.specs.laws.SquareLemmas.{present_within}

module _ {V : Type 0} (M : Monoid V) where
  -- the keys are values after a column was offered one
  pub AreValued-approached : (values : List V) (sum : V) (place column : ℕ) (before after : Leads V) (former result : Option ℕ) (columns : List ℕ) → Relaxes M values sum place (λ k. k ≡ column) before after → IsApproached M before after column former result → AreValued M before columns → AreValued M after columns
  AreValued-approached values sum place column before after former result columns relaxes approached valued k key h e =
      ⊎_elim
      (λ same. valued k key h (sym (same.0 k) ∙ e))
      (λ taken.
      ⊎_elim
      (λ here. subst (IsValue M) (same_Some taken.0.key key (sym taken.0.has ∙ ap (lead_at M after) (sym here) ∙ e)) taken.0.is_value)
      (λ other. let keeps = relaxes.others k other in valued k key h (sym keeps.lead ∙ e))
      (cases_eq k column))
      approached

  -- the columns of one more word were looked at
  pub Relaxes-more : (values : List V) (sum : V) (place : ℕ) (first second third : Leads V) (row : ℕ → Option V) (unseen : List ℕ) (number : ℕ) → Relaxes M values sum place (λ k. (k / 64 < number) × IsSome (row k) × HasColumn unseen k) first second → Relaxes M values sum place (IsBoth number row unseen) second third → Relaxes M values sum place (λ k. (k / 64 < number + 1) × IsSome (row k) × HasColumn unseen k) first third
  Relaxes-more values sum place first second third row unseen number a b =
      Relaxes-join M values sum place first second third (λ k. (k / 64 < number) × IsSome (row k) × HasColumn unseen k) (IsBoth number row unseen) (λ k. (k / 64 < number + 1) × IsSome (row k) × HasColumn unseen k)
      (λ k p q. absurd (omega (arith, p.0, q.0)))
      (λ k r. ⊎_elim (λ before. inl (before, r.1, r.2)) (λ here. inr (omega (arith, here, r.0), r.1, r.2)) (cases_lt (k / 64) number))
      (λ k p. (omega (arith, p.0), p.1, p.2))
      (λ k q. (omega (arith, q.0), q.1, q.2))
      a b

-- a column of a set is below the side
pub column_below : (side : ℕ) (words : List ℕ) → IsColumnSet side words → (k : ℕ) → HasColumn words k → k < side
column_below side words set k h = omega (arith, set.below (k / 64) (k % 64) h)

-- the word of a row says which of its cells are present
module _ {V : Type 0} (row : ℕ → Option V) (number word : ℕ) (is : IsWordOf row number word) where
  pub word_some : (k : ℕ) → k < 64 → HasBit word k → IsSome (row (64 * number + k))
  word_some k below has = sym (is k below) ∙ ap (λ b. eqb b 1) has

  pub some_word : (k : ℕ) → k / 64 ≡ number → IsSome (row k) → HasBit word (k % 64)
  some_word k here some =
      let back : k ≡ 64 * number + k % 64 = omega (arith, here) in
      eqb-true (bit_at word (k % 64)) 1 (is (k % 64) (omega arith) ∙ subst (λ j. IsSome (row j)) back some)

-- the list of the cells of a row
module _ {V : Type 0} (M : Monoid V) (Q : Grid V) (row : ℕ) where
  pub values_count : length (values_of M Q row) ≡ Q.side
  values_count = length-map-range_with_len (λ k. unwrap_or (cell_at Q row k) M.unit) 0 Q.side

  pub values_at : (k : ℕ) (x : V) → k < Q.side → cell_at Q row k ≡ Some x → get_or (values_of M Q row) k M.unit ≡ x
  values_at k x below is =
      get_or-map-range_with_len (λ i. unwrap_or (cell_at Q row i) M.unit) 0 Q.side k k M.unit below (omega arith)
      ∙ ap (λ o. unwrap_or o M.unit) is

  pub values_are : IsGrid Q → AreValuesOf (cell_at Q row) Q.side (values_of M Q row)
  values_are grid = record {
    count = values_count;
    each = λ k some.
        let cell = some_value (cell_at Q row k) some in
        let within = present_within Q grid row k cell.0 cell.1 in
        slice_get-get_or (values_of M Q row) k M.unit (omega (arith, within.1, values_count))
        ∙ ap Some (values_at k cell.0 within.1 cell.1)
        ∙ sym cell.1;
  }

  -- a present cell is a value
  pub value_there : HasValues M Q.side (cell_at Q) → row < Q.side → (k : ℕ) → k < Q.side → IsSome (cell_at Q row k) → IsValue M (get_or (values_of M Q row) k M.unit)
  value_there values inside k below some =
      let cell = some_value (cell_at Q row k) some in
      subst (IsValue M) (sym (values_at k cell.0 below cell.1)) (values row k cell.0 inside below cell.1)
