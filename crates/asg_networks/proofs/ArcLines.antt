-- A line with the arc of short integers, its fields with one space between them.
use Rattle.asg_networks.proofs.Common.{◌≡◌, ℕ, ◌+◌, ◌-◌, ◌<◌, ◌≤◌, Bool, true, false, cond, ◌||◌, List, [], ◌∷◌, ◌++◌, map, length, take, ℤ, pos, nat_lt, ◌==◌, unsigned_abs, Some, None, All, filter, Option, option_map, option_and_then, sym, refl, ap, ◌∙◌, append_assoc, arith, lt-ltb, le-leb, All-append, All-cons, All-get_or, All-nil, All-weaker, digits_value, lines, strip_carriage_return, most_cost, line_of_fields, Arc, Arrow, integer_of, size_of, integer_in_range, fields, is_blank, is_space, some_bytes, line_at}
use Rattle.std.proofs.lemmas.List.Splits.{slice_split_none}
use Rattle.asg_networks.specs.AsnLines.{line_of}
use Rattle.asg_tokens.specs.NextCells.{IsShortInteger, IsShortAmount}
use Rattle.asg_tokens.specs.Pieces.{pieces}
use Rattle.asg_tokens.specs.laws.NumberLemmas.{size_of_digits}
use Rattle.asg_tokens.specs.laws.ShortLemmas.{word_first, no_spaces}

none_of_four : (p q r s : Bool) → (p || q || r || s) ≡ false → ((p || q) ≡ false) × (r ≡ false) × (s ≡ false)
none_of_four true q r s e = cc
none_of_four false true r s e = cc
none_of_four false false true s e = cc
none_of_four false false false true e = cc
none_of_four false false false false e = (refl, refl, refl)

-- a byte neither returns a carriage nor ends a line
abbrev IsInside : ℕ → Type 0
IsInside b = ((b == 13) ≡ false) × ((b == 10) ≡ false)

-- what separates no tokens stands within a field
no_blank : (b : ℕ) → is_space b ≡ false → is_blank b ≡ false
no_blank b e = (none_of_four (b == 32) (b == 9) (b == 13) (b == 10) e).0

inside : (b : ℕ) → is_space b ≡ false → IsInside b
inside b e = let none = none_of_four (b == 32) (b == 9) (b == 13) (b == 10) e in (none.1, none.2)

no_blanks : (word : List ℕ) → All (λ b. is_space b ≡ false) word → All (λ b. is_blank b ≡ false) word
no_blanks word none = All-weaker (λ b. is_space b ≡ false) (λ b. is_blank b ≡ false) no_blank word none

all_inside : (word : List ℕ) → All (λ b. is_space b ≡ false) word → All IsInside word
all_inside word none = All-weaker (λ b. is_space b ≡ false) IsInside inside word none

-- bytes without a separator are one piece
only_piece : (p : ℕ → Bool) (word : List ℕ) → 0 < length word → All (λ b. p b ≡ false) word → pieces p word ≡ word ∷ []
unfolding pieces
only_piece p word some none =
    ap (filter (λ piece. nat_lt 0 (length piece))) (slice_split_none p word none)
    ∙ ap (λ v. cond v (word ∷ []) []) (lt-ltb 0 (length word) some)

-- a line of bytes inside it, an LF and more
line_inside : (line rest : List ℕ) → 0 < length line → All IsInside line → lines (line ++ 10 ∷ rest) ≡ line ∷ lines rest
line_inside line rest some all =
    let last = All-get_or IsInside line (length line - 1) 0 (omega arith) all in
    let whole : strip_carriage_return line ≡ line = ap {B = List ℕ} (λ v. cond v (take (length line - 1) line) line) last.0 in
    line_at line rest (All-weaker IsInside (λ b. (b == 10) ≡ false) (λ b is. is.1) line all) ∙ ap (λ line. line ∷ lines rest) whole

-- an integer in range
integer_is : (a : ℤ) → unsigned_abs a ≤ most_cost → integer_in_range a ≡ Some a
integer_is a in_range = ap {B = Option ℤ} (λ v. cond v (Some a) None) (le-leb _ _ in_range)

-- the bytes of an arc line: the digits of a source and a target, and the word of a cost
abbrev arc_bytes : List ℕ → List ℕ → List ℕ → List ℕ
arc_bytes source target cost = 97 ∷ 32 ∷ (source ++ (32 ∷ (target ++ (32 ∷ cost))))

-- are inside a line
arc_inside : (source target cost : List ℕ) → All (λ b. is_space b ≡ false) source → All (λ b. is_space b ≡ false) target → All (λ b. is_space b ≡ false) cost → All IsInside (arc_bytes source target cost)
arc_inside source target cost no_source no_target no_cost =
    let from_cost : All IsInside (32 ∷ cost) = All-cons IsInside 32 cost (refl, refl) (all_inside cost no_cost) in
    let from_target : All IsInside (32 ∷ (target ++ (32 ∷ cost))) = All-cons IsInside 32 (target ++ (32 ∷ cost)) (refl, refl) (All-append IsInside target (32 ∷ cost) (all_inside target no_target) from_cost) in
    let from_source : All IsInside (source ++ (32 ∷ (target ++ (32 ∷ cost)))) = All-append IsInside source (32 ∷ (target ++ (32 ∷ cost))) (all_inside source no_source) from_target in
    All-cons IsInside 97 (32 ∷ (source ++ (32 ∷ (target ++ (32 ∷ cost))))) (refl, refl) (All-cons IsInside 32 (source ++ (32 ∷ (target ++ (32 ∷ cost)))) (refl, refl) from_source)

-- are these fields
arc_fields : (source target cost : List ℕ) → 0 < length source → 0 < length target → 0 < length cost → All (λ b. is_space b ≡ false) source → All (λ b. is_space b ≡ false) target → All (λ b. is_space b ≡ false) cost
    → fields (arc_bytes source target cost) ≡ (97 ∷ []) ∷ source ∷ target ∷ cost ∷ []
arc_fields source target cost some_source some_target some_cost no_source no_target no_cost =
    let word : All (λ b. is_blank b ≡ false) (97 ∷ []) = All-cons (λ b. is_blank b ≡ false) 97 [] refl (All-nil (λ b. is_blank b ≡ false)) in
    let first = word_first is_blank (97 ∷ []) 32 (source ++ (32 ∷ (target ++ (32 ∷ cost)))) (omega arith) word refl in
    let second = word_first is_blank source 32 (target ++ (32 ∷ cost)) some_source (no_blanks source no_source) refl in
    let third = word_first is_blank target 32 cost some_target (no_blanks target no_target) refl in
    let last = only_piece is_blank cost some_cost (no_blanks cost no_cost) in
    first ∙ ap (λ more. (97 ∷ []) ∷ more) (second ∙ ap (λ more. source ∷ more) (third ∙ ap (λ more. target ∷ more) last))

-- what the fields of an arc line say
arc_spelled : (source target cost : List ℕ) (s t : ℕ) (a : ℤ) → size_of source ≡ Some s → size_of target ≡ Some t → integer_of cost ≡ Some a → integer_in_range a ≡ Some a
    → line_of_fields ((97 ∷ []) ∷ source ∷ target ∷ cost ∷ []) ≡ Arrow (Some (record { source = s; target = t; cost = Some a }))
arc_spelled source target cost s t a is_source is_target is_cost in_range =
    let arc : Option ℕ → Option ℕ → Option ℤ → Option Arc = λ s t a. option_and_then (λ s. option_and_then (λ t. option_map (λ a. record { source = s; target = t; cost = integer_in_range a }) a) t) s in
    (λ i. Arrow (arc (is_source i) (is_target i) (is_cost i))) ∙ ap (λ cost. Arrow (Some (record { source = s; target = t; cost = cost }))) in_range

-- a text that begins with an arc line
module _ {text from_space fields behind_source from_target behind_target from_cost behind_cost rest : List ℕ} {source target : ℕ} {cost : ℤ} (word : text ≡ 97 ∷ from_space) (first : from_space ≡ 32 ∷ fields) (s : IsShortAmount fields (pos source) behind_source) (second : behind_source ≡ 32 ∷ from_target) (t : IsShortAmount from_target (pos target) behind_target) (third : behind_target ≡ 32 ∷ from_cost) (c : IsShortInteger from_cost cost behind_cost) (ended : behind_cost ≡ 10 ∷ rest) where
  text_cut : text ≡ arc_bytes s.digits t.digits c.word ++ (10 ∷ rest)
  text_cut =
      let at_cost : behind_target ≡ 32 ∷ (c.word ++ (10 ∷ rest)) = third ∙ ap (λ more. 32 ∷ more) (c.cut ∙ ap (λ more. c.word ++ more) ended) in
      let at_target : behind_source ≡ 32 ∷ (t.digits ++ (32 ∷ (c.word ++ (10 ∷ rest)))) = second ∙ ap (λ more. 32 ∷ more) (t.cut ∙ ap (λ more. t.digits ++ more) at_cost) in
      let at_source : text ≡ 97 ∷ 32 ∷ (s.digits ++ (32 ∷ (t.digits ++ (32 ∷ (c.word ++ (10 ∷ rest)))))) = word ∙ ap (λ more. 97 ∷ more) (first ∙ ap (λ more. 32 ∷ more) (s.cut ∙ ap (λ more. s.digits ++ more) at_target)) in
      let joined_target : (t.digits ++ (32 ∷ c.word)) ++ (10 ∷ rest) ≡ t.digits ++ (32 ∷ (c.word ++ (10 ∷ rest))) = append_assoc t.digits (32 ∷ c.word) (10 ∷ rest) in
      let joined : (s.digits ++ (32 ∷ (t.digits ++ (32 ∷ c.word)))) ++ (10 ∷ rest) ≡ s.digits ++ (32 ∷ (t.digits ++ (32 ∷ (c.word ++ (10 ∷ rest))))) = append_assoc s.digits (32 ∷ (t.digits ++ (32 ∷ c.word))) (10 ∷ rest) ∙ ap (λ more. s.digits ++ (32 ∷ more)) joined_target in
      at_source ∙ ap (λ more. 97 ∷ 32 ∷ more) (sym joined)

  pub arc_said : (told : ℤ) → told ≡ cost → map line_of (lines text) ≡ Arrow (Some (record { source = source; target = target; cost = Some told })) ∷ map line_of (lines rest)
  unfolding line_of
  arc_said told same =
      let no_source = no_spaces s.digits s.are_digits in
      let no_target = no_spaces t.digits t.are_digits in
      let line = arc_bytes s.digits t.digits c.word in
      let source_is : digits_value 10 s.digits ≡ source = sym (ap unsigned_abs s.is_amount) in
      let target_is : digits_value 10 t.digits ≡ target = sym (ap unsigned_abs t.is_amount) in
      let lines_are : lines text ≡ line ∷ lines rest = ap lines text_cut ∙ line_inside line rest (omega arith) (arc_inside s.digits t.digits c.word no_source no_target c.no_space) in
      let fields_are = arc_fields s.digits t.digits c.word s.some t.some (some_bytes c.word cost c.spells) no_source no_target c.no_space in
      let says = arc_spelled s.digits t.digits c.word source target cost (size_of_digits s.digits s.some s.are_digits s.in_range ∙ ap Some source_is) (size_of_digits t.digits t.some t.are_digits t.in_range ∙ ap Some target_is) c.spells (integer_is cost c.in_range) in
      ap (map line_of) lines_are ∙ ap (λ line. line ∷ map line_of (lines rest)) (ap line_of_fields fields_are ∙ says ∙ ap (λ cost. Arrow (Some (record { source = source; target = target; cost = Some cost }))) (sym same))
