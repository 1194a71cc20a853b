-- Sets of columns as words, and the parents of the columns that aren't in one.
use Rattle.std.proofs.Common.{◌≡◌, ◌≢◌, ◌↔◌, refl, ℕ, ◌+◌, ◌-◌, ◌*◌, ◌/◌, ◌%◌, ◌<◌, ◌≤◌, ◌⊎◌, inl, inr, ⊎_elim, sym, ◌∙◌, subst, ap, arith, List, length, get_or, set, Some, None, cond, ◌&&◌, ltb, eqb, is_some}
use Rattle.std.specs.Int.{bit_at}
use Rattle.std.proofs.lemmas.Bool.{cases_eq, cases_lt, lt-ltb, le-ltb, false≢true}
use Rattle.std.proofs.lemmas.Grind.{get_or-set_at}
use Rattle.std.proofs.lemmas.List.{get_or_past, get_or-set_other, get_or-set_same, length-set}
use Rattle.std.proofs.lemmas.Nat.Bits.{bit_at-lt}
use Rattle.asg_match.specs.Alternating.{parent_of, IsReached}
use Rattle.asg_match.specs.ColumnSet.{HasBit, HasColumn, word_count, IsColumnSet}
use Rattle.asg_bit_rows.specs.laws.Bits.{HasBit-zero, HasBit-without, HasBit-without_other, without_bit, HasBit-with, HasBit-with_same, HasBit-with_kept, with_bit}

-- word i of the set has exactly the bits of the columns below the side
abbrev pub IsFull : ℕ → List ℕ → ℕ → Type 0
IsFull side words i = (k : ℕ) → HasBit (get_or words i 0) k ↔ ((k < side - 64 * i) × (k < 64))

pub IsColumnSet-full : (side : ℕ) (words : List ℕ) → length words ≡ word_count side → ((i : ℕ) → i < length words → IsFull side words i) → IsColumnSet side words
IsColumnSet-full side words count full =
    record {
      count = count;
      below = λ i k has.
          ⊎_elim
          (λ within. let both = (full i within k).0 has in omega (arith, both.0, both.1))
          (λ past. absurd (HasBit-zero k (sym (ap (λ n. bit_at n k) (get_or_past words i 0 past)) ∙ has)))
          (cases_lt i (length words));
    }

pub HasColumn-full : (side : ℕ) (words : List ℕ) → length words ≡ word_count side → ((i : ℕ) → i < length words → IsFull side words i) → (c : ℕ) → c < side → HasColumn words c
HasColumn-full side words count full c h = (full (c / 64) (omega (arith, count)) (c % 64)).1 (omega arith, omega arith)

-- a column by its word and its bit
pub HasColumn-at : (words : List ℕ) (i k : ℕ) → k < 64 → HasBit (get_or words i 0) k → HasColumn words (64 * i + k)
HasColumn-at words i k h has =
    let word : (64 * i + k) / 64 ≡ i = omega arith in
    let bit : (64 * i + k) % 64 ≡ k = omega arith in
    ap (λ j. bit_at (get_or words j 0) ((64 * i + k) % 64)) word ∙ (ap (bit_at (get_or words i 0)) bit ∙ has)

-- and a column's word and bit
pub HasBit-of : (words : List ℕ) (i k : ℕ) → k < 64 → HasColumn words (64 * i + k) → HasBit (get_or words i 0) k
HasBit-of words i k h has =
    let word : (64 * i + k) / 64 ≡ i = omega arith in
    let bit : (64 * i + k) % 64 ≡ k = omega arith in
    sym (ap (λ j. bit_at (get_or words j 0) ((64 * i + k) % 64)) word ∙ ap (bit_at (get_or words i 0)) bit) ∙ has

-- the set with one more column
module _ (words : List ℕ) (c x : ℕ) (within : c / 64 < length words) (read : x ≡ get_or words (c / 64) 0) where
  abbrev added : List ℕ
  added = set words (c / 64) (with_bit x (c % 64))

  bit_added : (i k : ℕ) → HasBit (get_or added i 0) k → HasBit (get_or words i 0) k ⊎ ((i ≡ c / 64) × (k ≡ c % 64))
  bit_added i k has =
      ⊎_elim
      (λ same.
      let at = get_or-set_at words (c / 64) i (with_bit x (c % 64)) 0 same within in
      ⊎_elim
      (λ had. inl (ap (λ n. bit_at n k) (ap (λ j. get_or words j 0) same ∙ sym read) ∙ had))
      (λ new. inr (same, new))
      (HasBit-with x (c % 64) k (omega arith) (sym (ap (λ n. bit_at n k) at) ∙ has)))
      (λ other. inl (sym (ap (λ n. bit_at n k) (get_or-set_other words (c / 64) i (with_bit x (c % 64)) 0 other)) ∙ has))
      (cases_eq i (c / 64))

  pub IsColumnSet-added : (side : ℕ) → c < side → IsColumnSet side words → IsColumnSet side added
  IsColumnSet-added side h s =
      record {
        count = length-set words (c / 64) (with_bit x (c % 64)) ∙ s.count;
        below = λ i k has. ⊎_elim (s.below i k) (λ new. omega (arith, h, new.0, new.1)) (bit_added i k has);
      }

  kept_or_new : (i : ℕ) → HasBit x i ⊎ (i ≡ c % 64) → HasBit (with_bit x (c % 64)) i
  kept_or_new i either =
      ⊎_elim
      (HasBit-with_kept x (c % 64) i (omega arith))
      (λ e. ap (bit_at (with_bit x (c % 64))) e ∙ HasBit-with_same x (c % 64) (omega arith))
      either

  pub HasColumn-added : (d : ℕ) → HasColumn added d ↔ (HasColumn words d ⊎ (d ≡ c))
  HasColumn-added d = (
    λ has. ⊎_elim inl (λ new. inr (omega (arith, new.0, new.1))) (bit_added (d / 64) (d % 64) has),
    λ either.
        ⊎_elim
        (λ same.
        let at = get_or-set_at words (c / 64) (d / 64) (with_bit x (c % 64)) 0 same within in
        let here = ap (λ n. bit_at n (d % 64)) (read ∙ sym (ap (λ j. get_or words j 0) same)) in
        ap (λ n. bit_at n (d % 64)) at
        ∙ kept_or_new (d % 64) (⊎_elim (λ had. inl (here ∙ had)) (λ e. inr (ap (λ n. n % 64) e)) either))
        (λ other.
        ap (λ n. bit_at n (d % 64)) (get_or-set_other words (c / 64) (d / 64) (with_bit x (c % 64)) 0 other)
        ∙ ⊎_elim (λ had. had) (λ e. absurd (other (ap (λ n. n / 64) e))) either)
        (cases_eq (d / 64) (c / 64)),
  )

-- the set without a column
module _ (words : List ℕ) (c x : ℕ) (within : c / 64 < length words) (read : x ≡ get_or words (c / 64) 0) where
  abbrev removed : List ℕ
  removed = set words (c / 64) (without_bit x (c % 64))

  bit_removed : (i k : ℕ) → HasBit (get_or removed i 0) k → HasBit (get_or words i 0) k × (i ≡ c / 64 → k ≢ c % 64)
  bit_removed i k has =
      ⊎_elim
      (λ same.
      let at = get_or-set_at words (c / 64) i (without_bit x (c % 64)) 0 same within in
      let both = HasBit-without x (c % 64) k (omega arith) (sym (ap (λ n. bit_at n k) at) ∙ has) in (
        ap (λ n. bit_at n k) (ap (λ j. get_or words j 0) same ∙ sym read) ∙ both.0,
        λ _. both.1,
      ))
      (λ other. (
        sym (ap (λ n. bit_at n k) (get_or-set_other words (c / 64) i (without_bit x (c % 64)) 0 other)) ∙ has,
        λ same. absurd (other same),
      ))
      (cases_eq i (c / 64))

  pub IsColumnSet-removed : (side : ℕ) → IsColumnSet side words → IsColumnSet side removed
  IsColumnSet-removed side s =
      record {
        count = length-set words (c / 64) (without_bit x (c % 64)) ∙ s.count;
        below = λ i k has. s.below i k (bit_removed i k has).0;
      }

  pub HasColumn-removed : (d : ℕ) → HasColumn removed d ↔ (HasColumn words d × (d ≢ c))
  HasColumn-removed d = (
    λ has.
        let before = bit_removed (d / 64) (d % 64) has in (
          before.0,
          λ same. before.1 (ap (λ n. n / 64) same) (ap (λ n. n % 64) same),
        ),
    λ both.
        ⊎_elim
        (λ same.
        let bit : d % 64 ≢ c % 64 = λ e. both.1 (omega (arith, same, e)) in
        let here = ap (λ n. bit_at n (d % 64)) (read ∙ sym (ap (λ j. get_or words j 0) same)) ∙ both.0 in
        ap (λ n. bit_at n (d % 64)) (get_or-set_at words (c / 64) (d / 64) (without_bit x (c % 64)) 0 same within)
        ∙ HasBit-without_other x (c % 64) (d % 64) (omega arith) (omega arith) here bit)
        (λ other. ap (λ n. bit_at n (d % 64)) (get_or-set_other words (c / 64) (d / 64) (without_bit x (c % 64)) 0 other) ∙ both.0)
        (cases_eq (d / 64) (c / 64)),
  )

-- a column of the set has no parent, and a column below the side that isn't in the set has one
pub parent-unseen : (places unseen : List ℕ) (c : ℕ) → HasColumn unseen c → parent_of places unseen c ≡ None
parent-unseen places unseen c has = ap (λ b. cond (eqb b 0 && ltb c (length places)) (Some (get_or places c 0)) None) has

pub parent-seen : (places unseen : List ℕ) (c : ℕ) → c < length places → bit_at (get_or unseen (c / 64) 0) (c % 64) ≡ 0 → parent_of places unseen c ≡ Some (get_or places c 0)
parent-seen places unseen c within none =
    ap (λ b. cond (eqb b 0 && ltb c (length places)) (Some (get_or places c 0)) None) none
    ∙ ap (λ b. cond b (Some (get_or places c 0)) None) (lt-ltb c (length places) within)

-- a column below the side is in the set, or was reached
pub unseen_or_reached : (places unseen : List ℕ) (c : ℕ) → c < length places → HasColumn unseen c ⊎ IsReached (parent_of places unseen) c
unseen_or_reached places unseen c within =
    ⊎_elim
    (λ none. inr (ap (is_some {T = ℕ}) (parent-seen places unseen c within none)))
    (λ some. inl (let upto = bit_at-lt (get_or unseen (c / 64) 0) (c % 64) in omega (arith, upto, some)))
    (cases_eq (bit_at (get_or unseen (c / 64) 0) (c % 64)) 0)

-- a column that was reached has the parent that is listed for it
pub parent-listed : (places unseen : List ℕ) (c : ℕ) → IsReached (parent_of places unseen) c → (c < length places) × (parent_of places unseen c ≡ Some (get_or places c 0))
parent-listed places unseen c reached =
    ⊎_elim
    (λ none.
    ⊎_elim
    (λ within. (within, parent-seen places unseen c within none))
    (λ past. absurd (not_there none past))
    (cases_lt c (length places)))
    (λ some.
    let has : HasColumn unseen c = let upto = bit_at-lt (get_or unseen (c / 64) 0) (c % 64) in omega (arith, upto, some) in
    absurd (is_none (parent-unseen places unseen c has)))
    (cases_eq (bit_at (get_or unseen (c / 64) 0) (c % 64)) 0)
  where
    is_none : parent_of places unseen c ≡ None → ⊥
    is_none e = false≢true (sym (ap (is_some {T = ℕ}) e) ∙ reached)

    not_there : bit_at (get_or unseen (c / 64) 0) (c % 64) ≡ 0 → length places ≤ c → ⊥
    not_there none past =
        is_none
        (ap (λ b. cond (eqb b 0 && ltb c (length places)) (Some (get_or places c 0)) None) none
        ∙ ap (λ b. cond b (Some (get_or places c 0)) None) (le-ltb c (length places) past))

-- the parents after one more column was reached
module _ (places unseen after : List ℕ) (p c : ℕ) (within : c < length places) (others : (d : ℕ) → HasColumn after d ↔ (HasColumn unseen d × (d ≢ c))) where
  pub parent-here : parent_of (set places c p) after c ≡ Some p
  parent-here =
      let none : bit_at (get_or after (c / 64) 0) (c % 64) ≡ 0 =
      ⊎_elim (λ e. e)
      (λ some.
      let upto = bit_at-lt (get_or after (c / 64) 0) (c % 64) in
      let has : HasColumn after c = omega (arith, upto, some) in
      absurd (((others c).0 has).1 refl))
      (cases_eq (bit_at (get_or after (c / 64) 0) (c % 64)) 0) in
      parent-seen (set places c p) after c (subst (λ n. c < n) (sym (length-set places c p)) within) none
      ∙ ap Some (get_or-set_same places c p 0 within)

  bit_kept : (d : ℕ) → d ≢ c → bit_at (get_or after (d / 64) 0) (d % 64) ≡ bit_at (get_or unseen (d / 64) 0) (d % 64)
  bit_kept d other =
      let one = bit_at-lt (get_or after (d / 64) 0) (d % 64) in
      let two = bit_at-lt (get_or unseen (d / 64) 0) (d % 64) in
      ⊎_elim
      (λ has. has ∙ sym ((others d).0 has).0)
      (λ none.
      ⊎_elim
      (λ had. absurd (none ((others d).1 (had, other))))
      (λ also. omega (arith, one, two, none, also))
      (cases_eq (bit_at (get_or unseen (d / 64) 0) (d % 64)) 1))
      (cases_eq (bit_at (get_or after (d / 64) 0) (d % 64)) 1)

  pub parent-others : (d : ℕ) → d ≢ c → parent_of (set places c p) after d ≡ parent_of places unseen d
  parent-others d other =
      ap (λ b. cond (eqb b 0 && ltb d (length (set places c p))) (Some (get_or (set places c p) d 0)) None) (bit_kept d other)
      ∙ (ap (λ n. cond (eqb (bit_at (get_or unseen (d / 64) 0) (d % 64)) 0 && ltb d n) (Some (get_or (set places c p) d 0)) None) (length-set places c p)
      ∙ ap (λ x. cond (eqb (bit_at (get_or unseen (d / 64) 0) (d % 64)) 0 && ltb d (length places)) (Some x) None) (get_or-set_other places c d p 0 other))
