-- Leads whose columns are offered keys one by one, where which columns of a word have keys is
-- written at the end.
use Rattle.asg_growth.proofs.Common.{◌≡◌, ℕ, ◌-◌, ◌/◌, ◌%◌, ◌^◌, ◌<◌, Bool, true, false, eqb, ◌⊎◌, ◌↔◌, List, [], length, get_or, set, IsTrue, bit_and, Some, Option, sym, refl, ap, ◌∙◌, subst, inl, inr, ⊎_elim, arith, length-set, get_or-set_other, get_or-set_same, w64, Fits, eq-eqb, eqb-true, bit_at, cases_eq, get_or-set_at, shr_and_one, leads_of, lead_at, KeepsLead, IsOffered, Relaxes, TakesKey, KeepsKey, IsAnswered, lead_there, lead_has, lead_same, Relaxes-given, IsApproached, key_is, next_bit, next_column, next_place, HasBit, HasColumn, Monoid, IsValue, IsLe}

-- a column of the word that was set
pub column_here : (words : List ℕ) (n x k : ℕ) → n < length words → k / 64 ≡ n → HasBit x (k % 64) ↔ HasColumn (set words n x) k
column_here words n x k within here =
    let at = get_or-set_at words n (k / 64) x 0 here within in (
      λ has. ap (λ w. bit_at w (k % 64)) at ∙ has,
      λ has. sym (ap (λ w. bit_at w (k % 64)) at) ∙ has,
    )

-- a column of another word
pub column_elsewhere : (words : List ℕ) (n x k : ℕ) → (k / 64 ≡ n → ⊥) → HasColumn (set words n x) k ↔ HasColumn words k
column_elsewhere words n x k other =
    let at = get_or-set_other words n (k / 64) x 0 other in (
      λ has. sym (ap (λ w. bit_at w (k % 64)) at) ∙ has,
      λ has. ap (λ w. bit_at w (k % 64)) at ∙ has,
    )

-- the bit that is read
pub read_bit : (word k : ℕ) → IsTrue (eqb (bit_and (word / 2 ^ k) 1) 1) ↔ HasBit word k
read_bit word k = (
  λ is. sym (shr_and_one word k) ∙ eqb-true (bit_and (word / 2 ^ k) 1) 1 is,
  λ has. eq-eqb (bit_and (word / 2 ^ k) 1) 1 (shr_and_one word k ∙ has),
)

-- the bit that is read at the next column
pub next_read : (number rest : ℕ) (some : rest ≡ 0 → ⊥) (fits : Fits w64 rest) (word : ℕ) → HasBit word (next_column number rest some fits % 64) ↔ IsTrue (eqb (bit_and (word / 2 ^ next_bit number rest some fits) 1) 1)
next_read number rest some fits word =
    let place = next_place number rest some fits in (
      λ has. (read_bit word (next_bit number rest some fits)).1 (subst (HasBit word) place has),
      λ is. subst (HasBit word) (sym place) ((read_bit word (next_bit number rest some fits)).0 is),
    )

module _ {V : Type 0} (M : Monoid V) (values : List V) (sum : V) (place : ℕ) where
  module _ (keyed : List ℕ) (number x y column : ℕ) (within : number < length keyed) (here : column / 64 ≡ number) (more : (i : ℕ) → i < 64 → HasBit y i ↔ (HasBit x i ⊎ (i ≡ column % 64))) where
    columns_more : (k : ℕ) → HasColumn (set keyed number y) k ↔ (HasColumn (set keyed number x) k ⊎ (k ≡ column))
    columns_more k = (
      λ has.
          ⊎_elim
          (λ same.
          ⊎_elim
          (λ old. inl ((column_here keyed number x k within same).0 old))
          (λ new. inr (omega (arith, same, here, new)))
          ((more (k % 64) (omega arith)).0 ((column_here keyed number y k within same).1 has)))
          (λ other. inl ((column_elsewhere keyed number x k other).1 ((column_elsewhere keyed number y k other).0 has)))
          (cases_eq (k / 64) number),
      λ either.
          ⊎_elim
          (λ old.
          ⊎_elim
          (λ same. (column_here keyed number y k within same).0 ((more (k % 64) (omega arith)).1 (inl ((column_here keyed number x k within same).1 old))))
          (λ other. (column_elsewhere keyed number y k other).1 ((column_elsewhere keyed number x k other).0 old))
          (cases_eq (k / 64) number))
          (λ e. (column_here keyed number y k within (ap (λ n. n / 64) e ∙ here)).0 ((more (k % 64) (omega arith)).1 (inr (ap (λ n. n % 64) e))))
          either,
    )

    sides : length (set keyed number y) ≡ length (set keyed number x)
    sides = length-set keyed number y ∙ sym (length-set keyed number x)

    module _ (keys keys_after : List V) (places places_after : List ℕ) (has_key : Bool) where
      -- a key that is at most the one that a column has is at most its lead
      took_low : (HasBit x (column % 64) → IsTrue has_key) → (IsTrue has_key → IsLe M (M.product sum (get_or values column M.unit)) (get_or keys column M.unit)) → (old : V) → lead_at M (leads_of keys (set keyed number x) places) column ≡ Some old → IsLe M (M.product sum (get_or values column M.unit)) old
      took_low told low old e =
          subst (IsLe M (M.product sum (get_or values column M.unit))) (key_is M (leads_of keys (set keyed number x) places) column old e)
          (low (told ((column_here keyed number x column within here).1 (lead_has M (leads_of keys (set keyed number x) places) column old e))))

      -- a column took the key that it was offered
      pub Relaxes-took : (HasBit x (column % 64) → IsTrue has_key) → column < length keys → column < length places → TakesKey M (M.product sum (get_or values column M.unit)) place column has_key (leads_of keys [] places) (leads_of keys_after [] places_after) → Relaxes M values sum place (λ k. k ≡ column) (leads_of keys (set keyed number x) places) (leads_of keys_after (set keyed number y) places_after)
      Relaxes-took told hk hp took =
          Relaxes-given M values sum place (leads_of keys (set keyed number x) places) (leads_of keys_after (set keyed number y) places_after) column (M.product sum (get_or values column M.unit)) hk hp refl
          (took_low told took.low)
          took.keys took.places sides columns_more

      -- where a column kept its key, all have what they had
      module _ (told : IsTrue has_key → HasBit x (column % 64)) (kept : KeepsKey M (M.product sum (get_or values column M.unit)) column has_key (leads_of keys [] places) (leads_of keys_after [] places_after)) where
        has_bit : HasColumn (set keyed number x) column
        has_bit = (column_here keyed number x column within here).0 (told kept.has)

        pub KeepsLead-stays : (k : ℕ) → KeepsLead M (leads_of keys (set keyed number x) places) (leads_of keys_after (set keyed number y) places_after) k
        KeepsLead-stays k = record {
          lead = lead_same M (leads_of keys (set keyed number x) places) (leads_of keys_after (set keyed number y) places_after) k
              (λ h. ⊎_elim (λ old. old) (λ e. subst (HasColumn (set keyed number x)) (sym e) has_bit) ((columns_more k).0 h), λ h. (columns_more k).1 (inl h))
              (ap (λ xs. get_or xs k M.unit) kept.keys);
          place = ap (λ xs. get_or xs k 0) kept.places;
        }

        pub Relaxes-stays : Relaxes M values sum place (λ k. k ≡ column) (leads_of keys (set keyed number x) places) (leads_of keys_after (set keyed number y) places_after)
        Relaxes-stays = record {
          keys_side = ap length kept.keys;
          keyed_side = sides;
          places_side = ap length kept.places;
          looked_at = λ k e.
              subst (λ j. IsOffered M (M.product sum (get_or values j M.unit)) place (leads_of keys (set keyed number x) places) (leads_of keys_after (set keyed number y) places_after) j) (sym e)
              (inr (get_or keys column M.unit, lead_there M (leads_of keys (set keyed number x) places) column has_bit, kept.low, KeepsLead-stays column));
          others = λ k _. KeepsLead-stays k;
        }

      -- a column was offered a key
      pub Relaxes-offered : (result : Bool) → HasBit x (column % 64) ↔ IsTrue has_key → column < length keys → column < length places → (IsTrue result → TakesKey M (M.product sum (get_or values column M.unit)) place column has_key (leads_of keys [] places) (leads_of keys_after [] places_after)) → (result ≡ false → KeepsKey M (M.product sum (get_or values column M.unit)) column has_key (leads_of keys [] places) (leads_of keys_after [] places_after)) → Relaxes M values sum place (λ k. k ≡ column) (leads_of keys (set keyed number x) places) (leads_of keys_after (set keyed number y) places_after)
      Relaxes-offered true told hk hp took kept = Relaxes-took told.0 hk hp (took refl)
      Relaxes-offered false told hk hp took kept = Relaxes-stays told.1 (kept refl)

      -- a column took a key or kept its own, and was compared with the nearest one
      pub Relaxes-answered : (former result : Option ℕ) → HasBit x (column % 64) ↔ IsTrue has_key → column < length keys → column < length places → IsAnswered M (M.product sum (get_or values column M.unit)) place column has_key (leads_of keys [] places) (leads_of keys_after [] places_after) former result → Relaxes M values sum place (λ k. k ≡ column) (leads_of keys (set keyed number x) places) (leads_of keys_after (set keyed number y) places_after)
      Relaxes-answered former result told hk hp answered =
          ⊎_elim (λ kept. Relaxes-stays told.1 kept.0) (λ took. Relaxes-took told.0 hk hp took.0) answered

      pub IsApproached-answered : (former result : Option ℕ) → HasBit x (column % 64) ↔ IsTrue has_key → column < length keys → IsValue M (M.product sum (get_or values column M.unit)) → IsAnswered M (M.product sum (get_or values column M.unit)) place column has_key (leads_of keys [] places) (leads_of keys_after [] places_after) former result → IsApproached M (leads_of keys (set keyed number x) places) (leads_of keys_after (set keyed number y) places_after) column former result
      IsApproached-answered former result told hk value answered =
          ⊎_elim
          (λ kept. inl (λ k. let keeps = KeepsLead-stays told.1 kept.0 k in keeps.lead, kept.1))
          (λ took.
          let key : V = M.product sum (get_or values column M.unit) in
          inr (
            record {
              key = M.product sum (get_or values column M.unit);
              keys = took.0.keys;
              has =
                  lead_there M (leads_of keys_after (set keyed number y) places_after) column ((columns_more column).1 (inr refl))
                  ∙ ap Some (ap (λ xs. get_or xs column M.unit) took.0.keys ∙ get_or-set_same keys column key M.unit hk);
              is_value = value;
              low = took_low told.0 took.0.low;
            },
            took.1,
          ))
          answered
