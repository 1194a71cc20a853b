-- The children of a part by one of its lists of columns split the others.
use Rattle.asg_dual_bounds.proofs.Common.{◌≡◌, ℕ, zero, suc, ◌<◌, ◌≤◌, cond, eqb, ◌≢◌, ◌⊎◌, List, [], ◌∷◌, length, slice_index, Contains, sym, refl, ap, ◌∙◌, subst, inl, inr, ⊎_elim, arith, eq-eqb, ne_eqb, Contains-tail, cases_eq, cases_lt, cases_order, cond-false, cond-true, Part, whole_part, IsAllowed, IsIn, child_part}

-- a later row is free
pub allowed_later : (part : Part) (r c : ℕ) → part.row < r → IsAllowed part r c
allowed_later part r c gt = record { fixed = λ h. absurd (omega (arith, gt, h)); not_banned = λ e. absurd (omega (arith, gt, e)) }

-- the first of a list, and what stands behind it
contains_first : (x : ℕ) (xs : List ℕ) → Contains (x ∷ xs) x
contains_first x xs = (0, omega arith, refl)

contains_later : (x y : ℕ) (xs : List ℕ) → Contains xs y → Contains (x ∷ xs) y
contains_later x y xs at = (suc at.0, omega (arith, at.1), at.2)

-- the child bans the answer's column
pub first_banned : (part : Part) (g : List ℕ) (k c : ℕ) → IsAllowed (child_part part g k) k c → c ≡ slice_index g k → ⊥
first_banned part g k c allowed e =
    let rest : List ℕ = cond (eqb k part.row) part.banned [] in
    allowed.not_banned refl (subst (λ x. Contains (slice_index g k ∷ rest) x) (sym e) (contains_first (slice_index g k) rest))

-- and what its part bans in its row
part_banned : (part : Part) (g : List ℕ) (c : ℕ) → IsAllowed (child_part part g part.row) part.row c → Contains part.banned c → ⊥
part_banned part g c allowed has =
    let same : cond (eqb part.row part.row) part.banned [] ≡ part.banned = cond-true (eqb part.row part.row) part.banned [] (eq-eqb part.row part.row refl) in
    allowed.not_banned refl (contains_later (slice_index g part.row) c (cond (eqb part.row part.row) part.banned []) (subst (λ xs. Contains xs c) (sym same) has))

pub in_whole : (columns : List ℕ) → IsIn whole_part columns
in_whole columns r h = record { fixed = λ lt. absurd (omega (arith, lt)); not_banned = λ e has. absurd (omega (arith, has.1)) }

-- a cell that a child allows is allowed in the part, if the answer is in it
pub allowed-from_child : (part : Part) (g : List ℕ) (k r c : ℕ) → IsIn part g → part.row ≤ k → k < length g → IsAllowed (child_part part g k) r c → IsAllowed part r c
allowed-from_child part g k r c given from upto allowed =
    ⊎_elim
    (λ (lt : r < k). subst (IsAllowed part r) (sym (allowed.fixed lt)) (given r (omega (arith, lt, upto))))
    (λ (ge : k ≤ r). record {
      fixed = λ lt. absurd (omega (arith, lt, ge, from));
      not_banned = λ e has.
          let is_k : k ≡ part.row = omega (arith, e, ge, from) in
          part_banned part g c (subst (λ j. IsAllowed (child_part part g j) j c) is_k (subst (λ s. IsAllowed (child_part part g k) s c) (e ∙ sym is_k) allowed)) has;
    })
    (cases_lt r k)

pub in-from_child : (part : Part) (g f : List ℕ) (k : ℕ) → IsIn part g → part.row ≤ k → k < length g → IsIn (child_part part g k) f → IsIn part f
in-from_child part g f k given from upto inside r h = allowed-from_child part g k r (slice_index f r) given from upto (inside r h)

-- the answer is in no child
pub not_in_child : (part : Part) (g : List ℕ) (k : ℕ) → k < length g → IsIn (child_part part g k) g → ⊥
not_in_child part g k upto inside = first_banned part g k (slice_index g k) (inside k upto) refl

-- lists that are as long and not equal differ first at some place
pub first_difference : (f g : List ℕ) → length f ≡ length g → (f ≡ g) ⊎ ((r : ℕ) × (r < length g) × ((s : ℕ) → s < r → slice_index f s ≡ slice_index g s) × (slice_index f r ≢ slice_index g r))
first_difference [] [] e = inl refl
first_difference [] (y ∷ g) e = absurd (omega (arith, e))
first_difference (x ∷ f) [] e = absurd (omega (arith, e))
first_difference (x ∷ f) (y ∷ g) e =
    ⊎_elim
    (λ (same : x ≡ y).
    ⊎_elim
    (λ (rest : f ≡ g). inl (ap (λ z. z ∷ f) same ∙ ap (λ zs. y ∷ zs) rest))
    (λ (rest : (r : ℕ) × (r < length g) × ((s : ℕ) → s < r → slice_index f s ≡ slice_index g s) × (slice_index f r ≢ slice_index g r)).
    inr (suc rest.0, omega (arith, rest.1), before same rest.0 rest.2, rest.3))
    (first_difference f g (omega (arith, e))))
    (λ (other : x ≡ y → ⊥). inr (0, omega arith, (λ s h. absurd (omega (arith, h))), other))
    (cases_eq x y)
  where
    before : x ≡ y → (r : ℕ) → ((s : ℕ) → s < r → slice_index f s ≡ slice_index g s) → (s : ℕ) → s < suc r → slice_index (x ∷ f) s ≡ slice_index (y ∷ g) s
    before same r rest zero h = same
    before same r rest (suc s) h = rest s (omega arith)

-- what the child at the first difference bans isn't taken
not_taken : (part : Part) (g : List ℕ) (k c : ℕ) → c ≢ slice_index g k → (k ≡ part.row → Contains part.banned c → ⊥) → Contains (slice_index g k ∷ cond (eqb k part.row) part.banned []) c → ⊥
not_taken part g k c other not_banned has =
    let rest = Contains-tail (slice_index g k) (cond (eqb k part.row) part.banned []) c (λ e. other (sym e)) has in
    ⊎_elim
    (λ (here : k ≡ part.row). not_banned here (subst (λ xs. Contains xs c) (cond-true (eqb k part.row) part.banned [] (eq-eqb k part.row here)) rest))
    (λ (else : k ≡ part.row → ⊥). none c (subst (λ xs. Contains xs c) (cond-false (eqb k part.row) part.banned [] (ne_eqb k part.row else)) rest))
    (cases_eq k part.row)
  where
    none : (x : ℕ) → Contains {X = ℕ} [] x → ⊥
    none x at = omega (arith, at.1)

-- a list in the part that first differs at row k from the answer is in the child at k
in-to_child : (part : Part) (g f : List ℕ) (k : ℕ) → k < length f → IsIn part f → ((s : ℕ) → s < k → slice_index f s ≡ slice_index g s) → slice_index f k ≢ slice_index g k → IsIn (child_part part g k) f
in-to_child part g f k upto in_part same other r h = record {
  fixed = λ lt. same r lt;
  not_banned = λ e has.
      not_taken part g k (slice_index f k) other (λ here. (in_part k upto).not_banned here)
      (subst (λ s. Contains (slice_index g k ∷ cond (eqb k part.row) part.banned []) (slice_index f s)) e has);
}

-- the lists in a part have the answer's columns before its row
same_before : (part : Part) (g f : List ℕ) (s : ℕ) → length f ≡ length g → s < length g → IsIn part g → IsIn part f → s < part.row → slice_index f s ≡ slice_index g s
same_before part g f s e h given in_part lt = (in_part s (omega (arith, e, h))).fixed lt ∙ sym ((given s h).fixed lt)

-- each other list in the part is in a child
pub covered : (part : Part) (g f : List ℕ) → length f ≡ length g → IsIn part g → IsIn part f → f ≢ g → (r : ℕ) × (part.row ≤ r) × (r < length g) × IsIn (child_part part g r) f
covered part g f e given in_part other =
    ⊎_elim
    (λ (same : f ≡ g). absurd (other same))
    (λ (at : (r : ℕ) × (r < length g) × ((s : ℕ) → s < r → slice_index f s ≡ slice_index g s) × (slice_index f r ≢ slice_index g r)).
    ⊎_elim
    (λ (before : at.0 < part.row). absurd (at.3 (same_before part g f at.0 e at.1 given in_part before)))
    (λ (from : part.row ≤ at.0). (at.0, from, at.1, in-to_child part g f at.0 (omega (arith, e, at.1)) in_part at.2 at.3))
    (cases_lt at.0 part.row))
    (first_difference f g e)

-- and in one child alone
apart : (part : Part) (g f : List ℕ) (r s : ℕ) → length f ≡ length g → r < s → s < length g → IsIn (child_part part g r) f → IsIn (child_part part g s) f → ⊥
apart part g f r s e less upto in_r in_s =
    let h : r < length f = omega (arith, e, less, upto) in
    first_banned part g r (slice_index f r) (in_r r h) ((in_s r h).fixed less)

pub once : (part : Part) (g f : List ℕ) (r s : ℕ) → length f ≡ length g → r < length g → s < length g → IsIn (child_part part g r) f → IsIn (child_part part g s) f → r ≡ s
once part g f r s e upto_r upto_s in_r in_s =
    ⊎_elim (λ (same : r ≡ s). same)
    (⊎_elim (λ (less : r < s). absurd (apart part g f r s e less upto_s in_r in_s))
    (λ (more : s < r). absurd (apart part g f s r e more upto_r in_s in_r)))
    (cases_order r s)
