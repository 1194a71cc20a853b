-- A list of cells by their places, of which one was written: it got a cost, or lost its own.
use Rattle.std.proofs.Common.{◌≡◌, ℕ, cond, ◌&&◌, ◌==◌, eqb, List, [], ◌∷◌, Option, Some, None, refl, sym, ap, subst, ◌∙◌, ⊎_elim, arith}
use Rattle.std.specs.BTreeMap.{insert_entry, is_at}
use Rattle.std.specs.List.{AllByRecursion}
use Rattle.std.specs.List.Sorted.{IsStrictlySortedBy}
use Rattle.std.specs.Map.{keys_of, remove_entry}
use Rattle.std.specs.Ordering.{nat_cmp, ordering_then, match_ordering, is_eq}
use Rattle.std.specs.declared.cmp.Ordering.{Ordering}
use Rattle.std.specs.declared.cmp.Ordering.TheVariants.{Less, Equal, Greater}
use Rattle.std.proofs.lemmas.Bool.{cases_Bool, cond-true, cond-false, eqb-true, eq-eqb, and_from, and_parts}
use Rattle.std.proofs.lemmas.Bool.Decides.{nat_tests}
use Rattle.asg_model.specs.declared.parts.Cost.{Cost}
use Rattle.asg_model.specs.Edits.{with_cell}
use Rattle.asg_model.specs.Instances.{by_places}
use Rattle.asg_model.specs.Live.{cost_at}

abbrev Cells : Type 0
Cells = List ((ℕ × ℕ) × Cost)

tied : (place key : ℕ × ℕ) → by_places place key ≡ Equal → (key.0 ≡ place.0) × (key.1 ≡ place.1)
tied place key e = (first place.0 place.1 key.0 key.1 e, second place.0 place.1 key.0 key.1 e)
  where
    first : (r c x y : ℕ) → ordering_then (nat_cmp r x) (nat_cmp c y) ≡ Equal → x ≡ r
    first r c x y e = grind (arith, nat_tests, e)

    second : (r c x y : ℕ) → ordering_then (nat_cmp r x) (nat_cmp c y) ≡ Equal → y ≡ c
    second r c x y e = grind (arith, nat_tests, e)

same_order : (r c x y : ℕ) → x ≡ r → y ≡ c → ordering_then (nat_cmp r x) (nat_cmp c y) ≡ Equal
same_order r c x y e f = grind (arith, nat_tests, e, f)

-- a key that isn't looked for doesn't count
skipped : (key : ℕ × ℕ) (r c : ℕ) (cost : Cost) (rest : Option Cost) → ((key.0 ≡ r) × (key.1 ≡ c) → ⊥) → cond ((key.0 == r) && (key.1 == c)) (Some cost) rest ≡ rest
skipped key r c cost rest other =
    ⊎_elim
    (λ yes. let parts = and_parts (eqb key.0 r) (eqb key.1 c) yes in absurd (other (eqb-true key.0 r parts.0, eqb-true key.1 c parts.1)))
    (λ no. cond-false ((key.0 == r) && (key.1 == c)) (Some cost) rest no)
    (cases_Bool ((key.0 == r) && (key.1 == c)))

-- a key that is looked for counts
taken : (key : ℕ × ℕ) (r c : ℕ) (cost : Cost) (rest : Option Cost) → key.0 ≡ r → key.1 ≡ c → cond ((key.0 == r) && (key.1 == c)) (Some cost) rest ≡ Some cost
taken key r c cost rest e f =
    cond-true ((key.0 == r) && (key.1 == c)) (Some cost) rest (and_from (eqb key.0 r) (eqb key.1 c) (eq-eqb key.0 r e) (eq-eqb key.1 c f))

-- ---- other cells

module _ (place : ℕ × ℕ) (r c : ℕ) (other : (place.0 ≡ r) × (place.1 ≡ c) → ⊥) where
  key_other : (key : ℕ × ℕ) → by_places place key ≡ Equal → (key.0 ≡ r) × (key.1 ≡ c) → ⊥
  key_other key e is = let same = tied place key e in other (sym same.0 ∙ is.0, sym same.1 ∙ is.1)

  put_by : (cost : Cost) (e : (ℕ × ℕ) × Cost) (es rest : Cells) (o : Ordering) → by_places place e.0 ≡ o → cost_at rest r c ≡ cost_at es r c → cost_at (match_ordering o ((place, cost) ∷ e ∷ es) ((e.0, cost) ∷ es) (e ∷ rest)) r c ≡ cost_at (e ∷ es) r c
  put_by cost e es rest Less is same = skipped place r c cost (cost_at (e ∷ es) r c) other
  put_by cost e es rest Equal is same =
      skipped e.0 r c cost (cost_at es r c) (key_other e.0 is) ∙ sym (skipped e.0 r c e.1 (cost_at es r c) (key_other e.0 is))
  put_by cost e es rest Greater is same = ap (λ o. cond ((e.0.0 == r) && (e.0.1 == c)) (Some e.1) o) same

  put_other : (cost : Cost) (cells : Cells) → cost_at (insert_entry by_places cells place cost) r c ≡ cost_at cells r c
  put_other cost [] = skipped place r c cost None other
  put_other cost (e ∷ es) = put_by cost e es (insert_entry by_places es place cost) (by_places place e.0) refl (put_other cost es)

  removed_by : (e : (ℕ × ℕ) × Cost) (es rest : Cells) (o : Ordering) → by_places place e.0 ≡ o → cost_at rest r c ≡ cost_at es r c → cost_at (cond (is_eq o) es (e ∷ rest)) r c ≡ cost_at (e ∷ es) r c
  removed_by e es rest Less is same = ap (λ o. cond ((e.0.0 == r) && (e.0.1 == c)) (Some e.1) o) same
  removed_by e es rest Equal is same = sym (skipped e.0 r c e.1 (cost_at es r c) (key_other e.0 is))
  removed_by e es rest Greater is same = ap (λ o. cond ((e.0.0 == r) && (e.0.1 == c)) (Some e.1) o) same

  removed_other : (cells : Cells) → cost_at (remove_entry (is_at (by_places place)) cells) r c ≡ cost_at cells r c
  removed_other [] = refl
  removed_other (e ∷ es) = removed_by e es (remove_entry (is_at (by_places place)) es) (by_places place e.0) refl (removed_other es)

  -- they stay
  pub other_cell : (cells : Cells) (cell : Option Cost) → cost_at (with_cell cells place cell) r c ≡ cost_at cells r c
  other_cell cells None = removed_other cells
  other_cell cells (Some cost) = put_other cost cells

-- ---- the cell at the place itself

module _ (place : ℕ × ℕ) where
  -- keys before or after the place are other keys
  less_other : (key : ℕ × ℕ) → by_places place key ≡ Less → (key.0 ≡ place.0) × (key.1 ≡ place.1) → ⊥
  less_other key less same = let equal = sym less ∙ same_order place.0 place.1 key.0 key.1 same.0 same.1 in cc

  greater_other : (key : ℕ × ℕ) → by_places place key ≡ Greater → (key.0 ≡ place.0) × (key.1 ≡ place.1) → ⊥
  greater_other key greater same = let equal = sym greater ∙ same_order place.0 place.1 key.0 key.1 same.0 same.1 in cc

  abbrev at : Cells → Option Cost
  at cells = cost_at cells place.0 place.1

  put_first : (cost : Cost) (e : (ℕ × ℕ) × Cost) (es rest : Cells) (o : Ordering) → by_places place e.0 ≡ o → at rest ≡ Some cost → at (match_ordering o ((place, cost) ∷ e ∷ es) ((e.0, cost) ∷ es) (e ∷ rest)) ≡ Some cost
  put_first cost e es rest Less is so_far = taken place place.0 place.1 cost (at (e ∷ es)) refl refl
  put_first cost e es rest Equal is so_far = let same = tied place e.0 is in taken e.0 place.0 place.1 cost (at es) same.0 same.1
  put_first cost e es rest Greater is so_far =
      skipped e.0 place.0 place.1 e.1 (at rest) (greater_other e.0 is) ∙ so_far

  pub put_here : (cost : Cost) (cells : Cells) → at (insert_entry by_places cells place cost) ≡ Some cost
  put_here cost [] = taken place place.0 place.1 cost None refl refl
  put_here cost (e ∷ es) = put_first cost e es (insert_entry by_places es place cost) (by_places place e.0) refl (put_here cost es)

  none_after : (cells : Cells) → AllByRecursion (λ key. by_places place key ≡ Less) (keys_of cells) → at cells ≡ None
  none_after [] after = refl
  none_after (e ∷ es) after =
      skipped e.0 place.0 place.1 e.1 (at es) (less_other e.0 after.0) ∙ none_after es after.1

  later : (key : ℕ × ℕ) → by_places place key ≡ Equal → (keys : List (ℕ × ℕ)) → AllByRecursion (λ other. by_places key other ≡ Less) keys → AllByRecursion (λ other. by_places place other ≡ Less) keys
  later key is keys after = let same = tied place key is in
      subst (λ (p : ℕ × ℕ). AllByRecursion (λ other. by_places p other ≡ Less) keys) (λ i. (same.0 i, same.1 i)) after

  removed_first : (e : (ℕ × ℕ) × Cost) (es rest : Cells) (o : Ordering) → by_places place e.0 ≡ o → AllByRecursion (λ other. by_places e.0 other ≡ Less) (keys_of es) → at rest ≡ None → at (cond (is_eq o) es (e ∷ rest)) ≡ None
  removed_first e es rest Less is after so_far = skipped e.0 place.0 place.1 e.1 (at rest) (less_other e.0 is) ∙ so_far
  removed_first e es rest Equal is after so_far = none_after es (later e.0 is (keys_of es) after)
  removed_first e es rest Greater is after so_far = skipped e.0 place.0 place.1 e.1 (at rest) (greater_other e.0 is) ∙ so_far

  removed_here : (cells : Cells) → IsStrictlySortedBy by_places (keys_of cells) → at (remove_entry (is_at (by_places place)) cells) ≡ None
  unfolding IsStrictlySortedBy
  removed_here [] sorted = refl
  removed_here (e ∷ es) sorted =
      removed_first e es (remove_entry (is_at (by_places place)) es) (by_places place e.0) refl sorted.0 (removed_here es sorted.1)

  written_here : (cells : Cells) (cell : Option Cost) → IsStrictlySortedBy by_places (keys_of cells) → at (with_cell cells place cell) ≡ cell
  written_here cells None sorted = removed_here cells sorted
  written_here cells (Some cost) sorted = put_here cost cells

-- it is what was written
pub written_cell : (place : ℕ × ℕ) (r c : ℕ) → place.0 ≡ r → place.1 ≡ c → (cells : Cells) (cell : Option Cost) → IsStrictlySortedBy by_places (keys_of cells) → cost_at (with_cell cells place cell) r c ≡ cell
written_cell place r c row column cells cell sorted =
    subst (λ n. cost_at (with_cell cells place cell) n c ≡ cell) row
    (subst (λ n. cost_at (with_cell cells place cell) place.0 n ≡ cell) column (written_here place cells cell sorted))
