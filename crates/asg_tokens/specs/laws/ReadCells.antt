-- How far the cells of a table are read.
use Rattle.std.proofs.Common.{◌≡◌, ◌≢◌, ℕ, suc, ◌+◌, ◌<◌, ◌≤◌, Bool, true, false, cond, List, [], ◌∷◌, ◌++◌, length, get_or, set, take, drop, Option, Some, None, refl, sym, ap, ◌∙◌, inl, inr, ⊎_elim, arith, subst, length-set, length-drop, append_assoc, ◌-◌, eqb}
use Rattle.std.specs.Prelude.{ℤ, pos, not, unsigned_abs, IfSome, slice_get}
use Rattle.std.specs.Ordering.{int_eq}
use Rattle.std.proofs.Math.Seq.{take-add}
use Rattle.std.proofs.lemmas.Bool.{cases_Bool, cases_lt, and_parts, leb-true, ne_eqb}
use Rattle.std.proofs.lemmas.Bool.Decides.{Decides-int_eq}
use Rattle.std.proofs.lemmas.List.{take_more, drop_more, take_all, length-take, get_or-set_same, get_or-set_other}
use Rattle.asg_model.specs.declared.parts.Cost.{Cost}
use Rattle.asg_model.specs.Limits.{most_cost}
use Rattle.asg_model.specs.Table.{absent}
use Rattle.asg_model.specs.ValueRange.{IsPartInRange}
use Rattle.asg_tokens.specs.declared.refusals.TextRefusal.{TextRefusal}
use Rattle.asg_tokens.specs.Pieces.{tokens}
use Rattle.asg_tokens.specs.Faults.{Fault, fault_of, CostRange, TokenCount, fault_where}
use Rattle.asg_tokens.specs.Tables.{is_absent, is_in_range, cost_of, cost_faults, cell_of, token_faults, cell_faults, faults_of_cells}
use Rattle.asg_tokens.specs.NextCells.{IsCell, HasFaultyCell, IsFaultyCell}
use Rattle.asg_tokens.specs.Slots.{first_part, second_part, IsSlot, AreSeconds, PutsSecond, AreRead, IsEarliest}
use Rattle.asg_tokens.specs.laws.CellLemmas.{absent_cell, present_cell, present_faults}

-- a part in range isn't the one that stands for an absent cell
part_is_present : (a : ℤ) → unsigned_abs a ≤ most_cost → int_eq a absent ≡ false
part_is_present a in_range =
    ⊎_elim
    (λ yes. let same : a ≡ absent = (Decides-int_eq a absent).0 yes in absurd (omega (arith, ap unsigned_abs same)))
    (λ other. other)
    (cases_Bool (int_eq a absent))

-- a cost in range stands by its parts
pub slot_in_range : (cost : Cost) → is_in_range cost ≡ true → IsSlot (Some cost) cost.a cost.b
slot_in_range cost in_range =
    let parts = and_parts _ _ in_range in
    let first = leb-true _ _ parts.0 in
    record {
      is_cost = sym (ap {B = Option Cost} (λ v. cond v None (Some cost)) (part_is_present cost.a first));
      first_in_range = inr first;
      second_in_range = leb-true _ _ parts.1;
    }

none_faulty : (place : ℕ) (v : Bool) → cond (not v) (CostRange place ∷ []) [] ≡ [] → v ≡ true
none_faulty place true e = refl
none_faulty place false e = cc

slot_of_cost : (place : ℕ) (cost : Option Cost) → cost_faults place cost ≡ [] → IsSlot cost (first_part cost) (second_part cost)
slot_of_cost place None right = cc
slot_of_cost place (Some cost) right = slot_in_range cost (none_faulty place (is_in_range cost) right)

pub slot_of_none : IsSlot None (first_part None) (second_part None)
slot_of_none = record { is_cost = refl; first_in_range = inl refl; second_in_range = omega arith }

-- a cell token without a fault stands by the parts of its cost
pub slot_of_token : (place : ℕ) (token : List ℕ) → token_faults place token ≡ [] → IsSlot (cell_of token) (first_part (cell_of token)) (second_part (cell_of token))
slot_of_token place token right =
    let P : Option Cost → Type 0 = λ cost. IsSlot cost (first_part cost) (second_part cost) in
    ⊎_elim
    (λ yes. subst P (sym (absent_cell place token yes)) slot_of_none)
    (λ present. subst P (sym (present_cell place token present)) (slot_of_cost place (cost_of token) (sym (present_faults place token present) ∙ right)))
    (cases_Bool (is_absent token))

-- the faults of cells one after the other
cell_faults-append : (place : ℕ) (cells more : List (List ℕ)) → cell_faults place (cells ++ more) ≡ cell_faults place cells ++ cell_faults (place + length cells) more
cell_faults-append place [] more = ap (λ p. cell_faults p more) (let same : place ≡ place + 0 = omega arith in same)
cell_faults-append place (token ∷ cells) more =
    ap (λ faults. token_faults place token ++ faults) (cell_faults-append (place + 1) cells more ∙ ap (λ p. cell_faults (place + 1) cells ++ cell_faults p more) (let same : place + 1 + length cells ≡ place + length (token ∷ cells) = omega arith in same))
    ∙ sym (append_assoc (token_faults place token) (cell_faults (place + 1) cells) (cell_faults (place + length (token ∷ cells)) more))

module _ {place i : ℕ} {all left : List (List ℕ)} {firsts seconds : List ℤ} (read : AreRead place all left i firsts seconds) where
  -- a further token
  next_is : (token : List ℕ) (more : List (List ℕ)) → left ≡ token ∷ more → (i < length all) × (get_or all i [] ≡ token) × (drop (i + 1) all ≡ more)
  next_is token more first =
      let left_len : length (drop i all) ≡ suc (length more) = ap length (sym read.left_are ∙ first) in
      let there : i < length all = omega (arith, length-drop i all) in
      let cut : get_or all i [] ∷ drop (i + 1) all ≡ token ∷ more = sym (drop_more all i [] there) ∙ sym read.left_are ∙ first in
      (there, cc, cc)

  -- its place is that of the table
  here_right : (token : List ℕ) (here : ℕ) → here ≡ place + i → i < length all → get_or all i [] ≡ token → (faults : List Fault) → token_faults here token ≡ faults → token_faults (place + length (take i all)) (get_or all i []) ≡ faults
  here_right token here at there is faults e =
      (λ k. token_faults (same_place k) (is k)) ∙ e
    where
      same_place : place + length (take i all) ≡ here
      same_place = omega (arith, at, length-take i all)

  -- a cell is read, and its parts are put into their places
  pub one_more_read : (text rest : List ℕ) (cost : Option Cost) (here : ℕ) (first second : ℤ) (firsts_after seconds_after : List ℤ) → i < length firsts → left ≡ tokens text → here ≡ place + i → IsCell here text cost rest → first ≡ first_part cost → second ≡ second_part cost → firsts_after ≡ set firsts i first → PutsSecond i second seconds seconds_after → AreSeconds (length firsts) seconds_after → AreRead place all (tokens rest) (i + 1) firsts_after seconds_after
  one_more_read text rest cost here first second firsts_after seconds_after room is at cell first_is second_is puts put seconds_are =
      let next = next_is cell.token (tokens rest) (is ∙ cell.first) in
      let same_len : length firsts_after ≡ length firsts = ap length puts ∙ length-set firsts i first in
      let slot : IsSlot (cell_of cell.token) (first_part cost) (second_part cost) = subst (λ c. IsSlot (cell_of cell.token) (first_part c) (second_part c)) (sym cell.is_cost) (slot_of_token here cell.token cell.right) in
      record {
        within = omega (arith, next.0);
        left_are = sym next.2;
        right = ap (cell_faults place) (take_more all i [] next.0) ∙ cell_faults-append place (take i all) (get_or all i [] ∷ []) ∙ (λ k. read.right k ++ (here_right cell.token here at next.0 next.1 [] cell.right k ++ []));
        slots = λ k before.
            ⊎_elim
            (λ (earlier : k < i).
            let other : k ≢ i = omega arith in
            let same_first : get_or firsts_after k (pos 0) ≡ get_or firsts k (pos 0) = ap (λ xs. get_or xs k (pos 0)) puts ∙ get_or-set_other firsts i k first (pos 0) other in
            rw (same_first, put.others k other) (read.slots k earlier))
            (λ (later : i ≤ k).
            let last : k ≡ i = omega arith in
            let same_first : get_or firsts_after i (pos 0) ≡ first_part cost = ap (λ xs. get_or xs i (pos 0)) puts ∙ get_or-set_same firsts i first (pos 0) room ∙ first_is in
            subst (λ k. IsSlot (cell_of (get_or all k [])) (get_or firsts_after k (pos 0)) (get_or seconds_after k (pos 0))) (sym last)
            (rw (same_first, put.here ∙ second_is, next.1) slot))
            (cases_lt k i);
        seconds_are = subst (λ n. AreSeconds n seconds_after) (sym same_len) seconds_are;
        rest_is_zero = λ k past. let other : k ≢ i = omega arith in put.others k other ∙ read.rest_is_zero k (omega arith);
      }

  -- a token with a fault is the earliest
  pub faulty_next : (text : List ℕ) (here count : ℕ) (fault : Fault) → i < count → left ≡ tokens text → here ≡ place + i → HasFaultyCell here text fault → (more : List Fault) → slice_get (cell_faults place (take count all) ++ more) 0 ≡ Some fault
  faulty_next text here count fault due is at faulty more =
      let next = next_is faulty.token faulty.more (is ∙ faulty.first) in
      let cut : take count all ≡ take i all ++ (get_or all i [] ∷ take (count - (i + 1)) (drop (i + 1) all)) =
      ap (λ n. take n all) (let sum : count ≡ (i + 1) + (count - (i + 1)) = omega arith in sum)
      ∙ take-add (i + 1) (count - (i + 1)) all
      ∙ ap (λ front. front ++ take (count - (i + 1)) (drop (i + 1) all)) (take_more all i [] next.0)
      ∙ append_assoc (take i all) (get_or all i [] ∷ []) (take (count - (i + 1)) (drop (i + 1) all)) in
      let these : cell_faults place (take count all) ≡ fault ∷ cell_faults (place + length (take i all) + 1) (take (count - (i + 1)) (drop (i + 1) all)) =
      ap (cell_faults place) cut ∙ cell_faults-append place (take i all) (get_or all i [] ∷ take (count - (i + 1)) (drop (i + 1) all))
      ∙ (λ k. read.right k ++ (here_right faulty.token here at next.0 next.1 (fault ∷ []) faulty.faulty k ++ cell_faults (place + length (take i all) + 1) (take (count - (i + 1)) (drop (i + 1) all)))) in
      ap (λ faults. slice_get (faults ++ more) 0) these

  -- where no token is left, the number of tokens is at fault
  pub none_next : (header count : ℕ) → place ≡ header + 1 → i < count → left ≡ [] → slice_get (faults_of_cells header count all) 0 ≡ Some (TokenCount count i)
  none_next header count at due none =
      let ended : length (drop i all) ≡ 0 = ap length (sym read.left_are ∙ none) in
      let len : length all ≡ i = let within = read.within in omega (arith, length-drop i all) in
      let whole : take count all ≡ take i all = take_all count all (omega arith) ∙ sym (take_all i all (omega arith)) in
      let right : cell_faults (header + 1) (take count all) ≡ [] = (λ k. cell_faults (sym at k) (whole k)) ∙ read.right in
      ap (λ faults. slice_get (faults ++ fault_where (not (eqb (length all) count)) (TokenCount count (length all))) 0) right
      ∙ ap (λ n. slice_get (fault_where (not (eqb n count)) (TokenCount count n)) 0) len
      ∙ ap (λ v. slice_get (fault_where (not v) (TokenCount count i)) 0) (ne_eqb i count (omega arith))

-- the second part of a cell's cost is in range
pub second_in_range : (place : ℕ) (text rest : List ℕ) (cost : Option Cost) → IsCell place text cost rest → IsPartInRange (second_part cost)
second_in_range place text rest cost cell =
    subst (λ c. IsPartInRange (second_part c)) (sym cell.is_cost) (slot_of_token place cell.token cell.right).second_in_range

-- a faulty cell, by the refusal that tells of it
pub refused_next : {place i : ℕ} {all left : List (List ℕ)} {firsts seconds : List ℤ} (read : AreRead place all left i firsts seconds) (text : List ℕ) (here header count : ℕ) (refusal : TextRefusal) → place ≡ header + 1 → i < count → left ≡ tokens text → here ≡ place + i → IsFaultyCell here text refusal → IsEarliest (faults_of_cells header count all) refusal
refused_next {place} {i} {all} read text here header count refusal from due is at faulty = go (fault_of refusal) faulty
  where
    go : (told : Option Fault) → IfSome told (HasFaultyCell here text) → IfSome told (λ fault. slice_get (faults_of_cells header count all) 0 ≡ Some fault)
    go None h = h
    go (Some fault) h =
        subst (λ p. slice_get (cell_faults p (take count all) ++ fault_where (not (eqb (length all) count)) (TokenCount count (length all))) 0 ≡ Some fault) from
        (faulty_next read text here count fault due is at h (fault_where (not (eqb (length all) count)) (TokenCount count (length all))))
