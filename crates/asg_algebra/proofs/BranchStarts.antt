-- Where a branch starts: the square without some cells, and the matching without the root's column.
use Rattle.asg_algebra.proofs.Common.{◌≡◌, ℕ, ◌<◌, Bool, true, false, cond, ◌≢◌, List, length, set, Some, None, Option, sym, refl, ap, ◌∙◌, subst, ⊎_elim, length-set, get_or-set_other, cases_eq, get_or-set_at, Reduced, IsRest, IsRestOf, column_at, Matches, Monoid, cell_at}
use Rattle.asg_square.specs.Masked.{keeps}
use Rattle.asg_square.specs.laws.Masks.{cell_at-masked}
use Rattle.asg_kept.specs.Masked.{masked_reduced}

module _ {V : Type 0} (M : Monoid V) (side : ℕ) (square : ℕ → ℕ → Option V) (index : V) (m : List (Option ℕ)) (root : ℕ) (below : root < length m) (rest : IsRest M side square index m) (keep : ℕ → ℕ → Bool) (kept : (r k : ℕ) → r ≢ root → Matches m r k → keep r k ≡ true) where
  abbrev cleared : List (Option ℕ)
  cleared = set m root None

  -- the root has no column
  pub root_cleared : column_at cleared root ≡ None
  root_cleared = get_or-set_at m root root None None refl below

  -- what a row has it had, and the row isn't the root
  cleared_matches : (r k : ℕ) → Matches cleared r k → (r ≢ root) × Matches m r k
  cleared_matches r k e =
      ⊎_elim
      (λ (same : root ≡ r). absurd (let none : column_at cleared r ≡ None = subst (λ q. column_at cleared q ≡ None) same root_cleared in cc (none, e)))
      (λ (other : root ≡ r → ⊥). (λ same. other (sym same), sym (get_or-set_other m root r None None (λ same. other (sym same))) ∙ e))
      (cases_eq root r)

  inside : (b : Bool) (o : Option V) (x : V) → cond b o None ≡ Some x → o ≡ Some x
  inside true o x e = e
  inside false o x e = absurd (cc e)

  -- the rest on the square without some cells
  pub IsRest-cleared : IsRest M side (λ r k. cond (keep r k) (square r k) None) index cleared
  IsRest-cleared = record {
    values = λ r k x hr hk e. rest.values r k x hr hk (inside (keep r k) (square r k) x e);
    index_is_value = rest.index_is_value;
    matching_side = length-set m root None ∙ rest.matching_side;
    columns = record {
      below = λ r k e. let was = cleared_matches r k e in subst (λ n. k < n) (sym (length-set m root None)) (rest.columns.below r k was.1);
      apart = λ r s k e f. rest.columns.apart r s k (cleared_matches r k e).1 (cleared_matches s k f).1;
    };
    absorbed = λ r k e.
        let was = cleared_matches r k e in
        let at = rest.absorbed r k was.1 in
        record {
          value = at.value;
          there = ap (λ b. cond b (square r k) None) (kept r k was.0 was.1) ∙ at.there;
          is = at.is;
        };
  }

-- the rest on the cells that rows of bits keep
pub IsRestOf-cleared : {V : Type 0} (M : Monoid V) (reduced : Reduced V) (words : List ℕ) (m : List (Option ℕ)) (root : ℕ) → root < length m → IsRestOf M reduced m → ((r k : ℕ) → r ≢ root → Matches m r k → keeps reduced.now.side words r k ≡ true) → IsRestOf M (masked_reduced reduced words) (set m root None)
IsRestOf-cleared M reduced words m root below rest kept =
    let Q = reduced.now in
    subst (λ square. IsRest M Q.side square reduced.index (set m root None)) (λ i r k. sym (cell_at-masked Q words r k) i)
    (IsRest-cleared M Q.side (cell_at Q) reduced.index m root below rest (keeps Q.side words) kept)
