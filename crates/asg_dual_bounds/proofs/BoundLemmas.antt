-- From looks over rows and cells to dual variables that are above.
use Rattle.asg_dual_bounds.proofs.Common.{◌≡◌, ℕ, ◌+◌, ◌<◌, ◌≤◌, cond, ◌≢◌, List, [], ◌∷◌, length, ◌==◌, slice_index, Some, Contains, sym, ◌∙◌, subst, ⊎_elim, arith, Contains-append_left, Contains-append_right, Contains-push, cases_eq, cases_lt, Duals, AreAbove, Part, child_part, IsCellAbove, IsRowAbove, IsRowAboveBut, IsRowKept, AreRaised, Table, number_in, IsTable, IsTableOf, Problem, Objective}
use Rattle.asg_dual_bounds.proofs.TableLemmas.{number_in-within}

pub contains_head : (x : ℕ) (xs : List ℕ) → Contains (x ∷ xs) x
contains_head x xs = Contains-append_left (x ∷ []) xs x (Contains-push [] x)

pub contains_tail : (x y : ℕ) (xs : List ℕ) → Contains xs y → Contains (x ∷ xs) y
contains_tail x y xs h = Contains-append_right (x ∷ []) xs y h

-- dual variables of a part, changed for a child
pub child_above : (objective : Objective) (X : Problem) (part : Part) (answer : List ℕ) (k : ℕ) (table : Table) (before after : Duals) → IsTable table → IsTableOf objective X table → AreAbove objective X part before → part.row ≤ k → length after.falls ≡ table.rows → length after.rises ≡ table.columns → AreRaised before.rises after.rises after.floor → ((r : ℕ) → r < k → IsCellAbove table r (slice_index answer r) (slice_index after.falls r) after.rises) → IsRowAboveBut table k (slice_index after.falls k) after.rises (slice_index answer k) (cond (k == part.row) part.banned []) → ((r : ℕ) → r < table.rows → k + 1 ≤ r → IsRowKept table before.falls after.falls after.rises r) → AreAbove objective X (child_part part answer k) after
child_above objective X part answer k table before after is of was at rows columns raised fixed own kept = record {
  rows = rows ∙ of.rows;
  columns = columns ∙ of.columns;
  cells = λ r c x e allowed.
      let there : number_in table r c ≡ Some x = sym (of.numbers r c) ∙ e in
      let within = number_in-within table r c x is there in
      ⊎_elim
      (λ (early : r < k).
      let same : c ≡ slice_index answer r = allowed.fixed early in
      subst (λ j. slice_index after.falls r ≤ x + slice_index after.rises j) (sym same) (fixed r early x (subst (λ j. number_in table r j ≡ Some x) same there)))
      (λ (late : k ≤ r).
      ⊎_elim
      (λ (here : r ≡ k).
      let free = allowed.not_banned here in
      let apart : c ≢ slice_index answer k = λ same. free (subst (λ j. Contains (slice_index answer k ∷ cond (k == part.row) part.banned []) j) (sym same) (contains_head (slice_index answer k) (cond (k == part.row) part.banned []))) in
      let unbarred : ¬ Contains (cond (k == part.row) part.banned []) c = λ h. free (contains_tail (slice_index answer k) c (cond (k == part.row) part.banned []) h) in
      subst (λ i. slice_index after.falls i ≤ x + slice_index after.rises c) (sym here) (own c apart unbarred x (subst (λ i. number_in table i c ≡ Some x) here there)))
      (λ (other : r ≡ k → ⊥).
      ⊎_elim
      (λ (less : slice_index after.falls r ≤ slice_index before.falls r).
      let old : slice_index before.falls r ≤ x + slice_index before.rises c = was.cells r c x e (record { fixed = λ h. absurd (omega (arith, h, late, at)); not_banned = λ h. absurd (other (omega (arith, h, late, at))) }) in
      let up : slice_index before.rises c ≤ slice_index after.rises c = (raised c (omega (arith, within.1, columns))).0 in
      omega (arith, less, old, up))
      (λ (above : IsRowAbove table r (slice_index after.falls r) after.rises). above c x there)
      (kept r within.0 (omega (arith, late, other))))
      (cases_eq r k))
      (cases_lt r k);
  floored = λ c h. (raised c (omega (arith, h, columns, of.columns))).1;
}
