-- Pairs of short integers.
use Rattle.std.proofs.Common.{◌≡◌, ℕ, ◌+◌, ◌-◌, ◌<◌, ◌≤◌, true, false, Bool, cond, ◌==◌, List, [], ◌∷◌, ◌++◌, length, get_or, take, drop, Option, Some, None, refl, sym, ap, ◌∙◌, ⊎_elim, arith, w64, to_z, of_z, subst, append_assoc, length-append}
use Rattle.std.specs.Prelude.{ℤ, pos, neg_ℤ, All, unsigned_abs}
use Rattle.std.specs.Option.{option_map, option_or}
use Rattle.std.specs.List.{position_or_len}
use Rattle.std.specs.Str.Parse.{starts_with_minus}
use Rattle.std.proofs.lemmas.Bool.{cases_Bool, le-leb}
use Rattle.std.proofs.lemmas.List.{take_at, drop_at, get_or-append-add, get_or_append_left, length-drop}
use Rattle.std.proofs.lemmas.List.Sums.{position_or_len_is}
use Rattle.std.proofs.lemmas.Grind.{get_or_after_one}
use Rattle.std.specs.Char.{is_ascii_digit}
use Rattle.std.proofs.lemmas.List.Elements.{All-cons, All-append}
use Rattle.std.proofs.lemmas.Slice.Eq.{bytes_eq-Decides}
use Rattle.asg_model.specs.Limits.{most_cost}
use Rattle.asg_tokens.specs.Numbers.{integer_of, integer_in_range}
use Rattle.asg_tokens.specs.Pieces.{tokens, is_space}
use Rattle.asg_tokens.specs.Tables.{is_absent, cost_of, pair_cost_of, cost_in_range}
use Rattle.asg_tokens.specs.NextCells.{IsShortInteger, IsBehindSpace, IsCell}
use Rattle.asg_tokens.specs.laws.NumberLemmas.{number_of_no_digit}
use Rattle.asg_tokens.specs.laws.ShortLemmas.{word_first}
use Rattle.asg_tokens.specs.laws.CellLemmas.{some_bytes, right_faults, right_cell, pair_in_range, short_fits}

-- a byte behind others
byte_behind : (xs : List ℕ) (y : ℕ) (ys : List ℕ) (d : ℕ) → get_or (xs ++ y ∷ ys) (length xs) d ≡ y
byte_behind xs y ys d =
    let here : length xs ≡ length xs + 0 = omega arith in
    ap (λ n. get_or (xs ++ y ∷ ys) n d) here ∙ get_or-append-add xs (y ∷ ys) 0 d

-- the first byte that passes stands behind those that don't
position_behind : (p : ℕ → Bool) (xs : List ℕ) (y : ℕ) (ys : List ℕ) → All (λ x. p x ≡ false) xs → p y ≡ true → position_or_len p (xs ++ y ∷ ys) ≡ length xs
position_behind p xs y ys none passes =
    position_or_len_is p (xs ++ y ∷ ys) (length xs) 0 (omega (arith, length-append xs (y ∷ ys)))
    (λ k before. ap p (get_or_append_left xs (y ∷ ys) 0 k before) ∙ none k 0 before)
    (λ within. ap p (byte_behind xs y ys 0) ∙ passes)

-- a word with a colon behind other bytes spells no integer
no_integer : (word : List ℕ) (i : ℕ) → 0 < i → i < length word → get_or word i 0 ≡ 58 → integer_of word ≡ None
unfolding integer_of
no_integer word i some within colon =
    let behind : i - 1 < length (drop 1 word) = omega (arith, length-drop 1 word) in
    let same : 1 + (i - 1) ≡ i = omega arith in
    let after : get_or (drop 1 word) (i - 1) 0 ≡ 58 = get_or_after_one word (i - 1) 0 ∙ ap (λ n. get_or word n 0) same ∙ colon in
    (λ j. cond (starts_with_minus word) (option_map (λ n. neg_ℤ (pos n)) (number_of_no_digit (drop 1 word) (i - 1) behind (ap is_ascii_digit after) j)) (option_map pos (number_of_no_digit word i within (ap is_ascii_digit colon) j)))
    ∙ neither (starts_with_minus word)
  where
    neither : (minus : Bool) → cond {A = Option ℤ} minus None None ≡ None
    neither true = refl
    neither false = refl

-- the part of a pair
part_in_range : (word : List ℕ) (a : ℤ) → integer_of word ≡ Some a → unsigned_abs a ≤ most_cost → Some (Some a) ≡ option_map integer_in_range (integer_of word)
part_in_range word a spells in_range =
    sym (ap (option_map integer_in_range) spells ∙ ap (λ v. Some (cond v (Some a) None)) (le-leb _ _ in_range))

module _ (x y : List ℕ) (a b : ℤ) (spells_a : integer_of x ≡ Some a) (spells_b : integer_of y ≡ Some b) (a_in_range : unsigned_abs a ≤ most_cost) (b_in_range : unsigned_abs b ≤ most_cost) (no_colon : All (λ byte. (byte == 58) ≡ false) x) where
  abbrev token : List ℕ
  token = x ++ 58 ∷ y

  colon_is : length x ≡ position_or_len (λ byte. byte == 58) token
  colon_is = sym (position_behind (λ byte. byte == 58) x 58 y no_colon refl)

  first_is : take (length x) token ≡ x
  first_is = take_at x (58 ∷ y) (length x) refl

  second_is : drop (length x + 1) token ≡ y
  second_is =
      ap (drop (length x + 1)) (sym (append_assoc x (58 ∷ []) y)) ∙ drop_at (x ++ 58 ∷ []) y (length x + 1) (length-append x (58 ∷ []))

  no_plain : integer_of token ≡ None
  no_plain = no_integer token (length x) (some_bytes x a spells_a) (omega (arith, length-append x (58 ∷ y))) (byte_behind x 58 y 0)

  pub spells_pair : Some (Some (record { a = a; b = b })) ≡ option_map cost_in_range (cost_of token)
  spells_pair =
      pair_in_range token (length x) (Some a) (Some b) colon_is
      (part_in_range x a spells_a a_in_range ∙ ap (λ word. option_map integer_in_range (integer_of word)) (sym first_is))
      (part_in_range y b spells_b b_in_range ∙ ap (λ word. option_map integer_in_range (integer_of word)) (sym second_is))
      ∙ ap (λ plain. option_map cost_in_range (option_or (option_map (λ a. record { a = a; b = pos 0 }) plain) (pair_cost_of token))) (sym no_plain)

  -- it isn't the token of an absent cell
  pub pair_present : is_absent token ≡ false
  pair_present =
      ⊎_elim
      (λ absent.
      let same : token ≡ 45 ∷ [] = (bytes_eq-Decides token (45 ∷ [])).0 absent in
      absurd (omega (arith, ap length same, length-append x (58 ∷ y), some_bytes x a spells_a)))
      (λ present. present)
      (cases_Bool (is_absent token))

-- two short integers, with a colon between them and a separator behind them, are a cell
module _ (place : ℕ) (text second third rest : List ℕ) (a b : ℤ) (first : IsShortInteger text a (58 ∷ second)) (other : IsShortInteger second b third) (space : IsBehindSpace third rest) where
  pair_cell : IsCell place text (Some (record { a = a; b = b })) rest
  pair_cell =
      let x = first.word in
      let y = other.word in
      let spells = spells_pair x y a b first.spells other.spells first.in_range other.in_range first.no_colon in
      let there = pair_present x y a b first.spells other.spells first.in_range other.in_range first.no_colon in
      record {
        token = x ++ 58 ∷ y;
        first = ap tokens (first.cut ∙ ap (λ second. x ++ 58 ∷ second) (other.cut ∙ ap (λ third. y ++ third) space.cut) ∙ sym (append_assoc x (58 ∷ y) (space.separator ∷ rest))) ∙ word_first is_space (x ++ 58 ∷ y) space.separator rest (omega (arith, length-append x (58 ∷ y))) (All-append (λ b. is_space b ≡ false) x (58 ∷ y) first.no_space (All-cons (λ b. is_space b ≡ false) 58 y refl other.no_space)) space.separates;
        right = right_faults place (x ++ 58 ∷ y) _ there spells;
        is_cost = right_cell place (x ++ 58 ∷ y) _ there spells;
      }

  pub short_pair : IsCell place text (Some (record { a = to_z w64 (of_z w64 a); b = to_z w64 (of_z w64 b) })) rest
  short_pair =
      subst (λ a. IsCell place text (Some (record { a = a; b = to_z w64 (of_z w64 b) })) rest) (sym (short_fits first))
      (subst (λ b. IsCell place text (Some (record { a = a; b = b })) rest) (sym (short_fits other)) pair_cell)
