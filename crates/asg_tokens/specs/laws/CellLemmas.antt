-- What cell tokens spell, and their faults.
use Rattle.std.proofs.Common.{◌≡◌, ℕ, ◌<◌, ◌≤◌, Bool, true, false, cond, ◌&&◌, ◌==◌, ◌+◌, List, [], ◌∷◌, ◌++◌, length, take, drop, Option, Some, None, refl, sym, ap, ◌∙◌, ⊎_elim, arith, w64, to_z, of_z, subst}
use Rattle.std.specs.Prelude.{ℤ, pos, nat_le, not, unsigned_abs, option_and_then, IfSome}
use Rattle.std.specs.Option.{option_map, option_or}
use Rattle.std.specs.List.{position_or_len}
use Rattle.std.proofs.lemmas.Bool.{cases_Bool, le-leb}
use Rattle.std.proofs.lemmas.Int.{ints, to_z-of_z}
use Rattle.std.proofs.lemmas.List.{drop_all}
use Rattle.std.proofs.lemmas.List.Elements.{All-nil, All-cons}
use Rattle.std.proofs.lemmas.Option.{none-some}
use Rattle.std.proofs.lemmas.Slice.Eq.{bytes_eq-Decides}
use Rattle.asg_model.specs.declared.parts.Cost.{Cost}
use Rattle.asg_model.specs.Limits.{most_cost}
use Rattle.asg_tokens.specs.Numbers.{integer_of, number_of, integer_in_range}
use Rattle.asg_tokens.specs.Pieces.{tokens, is_space}
use Rattle.asg_tokens.specs.Faults.{Fault, CostRange, BadToken}
use Rattle.asg_tokens.specs.Tables.{is_absent, is_in_range, cost_of, pair_cost_of, cost_in_range, cost_faults, cell_of, token_faults}
use Rattle.asg_tokens.specs.NextCells.{IsShortInteger, IsBehindSpace, IsCell, HasFaultyCell, cost_of_parts}
use Rattle.asg_tokens.specs.laws.ShortLemmas.{word_first}

-- the token of an absent cell
module _ (place : ℕ) (token : List ℕ) (absent : is_absent token ≡ true) where
  pub absent_faults : token_faults place token ≡ []
  unfolding token_faults
  absent_faults = ap (λ v. cond v [] (cost_faults place (cost_of token))) absent

  pub absent_cell : cell_of token ≡ None
  unfolding cell_of
  absent_cell = ap {B = Option Cost} (λ v. cond v None (cost_of token)) absent

-- another token
module _ (place : ℕ) (token : List ℕ) (present : is_absent token ≡ false) where
  pub present_faults : token_faults place token ≡ cost_faults place (cost_of token)
  unfolding token_faults
  present_faults = ap (λ v. cond v [] (cost_faults place (cost_of token))) present

  pub present_cell : cell_of token ≡ cost_of token
  unfolding cell_of
  present_cell = ap {B = Option Cost} (λ v. cond v None (cost_of token)) present

-- a cost in range is found
record IsFound (found : Option Cost) (cost : Cost) : Type 0 where
  is : found ≡ Some cost
  in_range : is_in_range cost ≡ true

found_by_test : (v : Bool) (cost found : Cost) → is_in_range cost ≡ v → ◌≡◌ {A = Option (Option Cost)} (Some (Some found)) (Some (cond v (Some cost) None)) → IsFound (Some cost) found
found_by_test true cost found test e =
    let same : found ≡ cost = cc in
    record { is = ap Some (sym same); in_range = ap is_in_range same ∙ test }
found_by_test false cost found test e = cc

found : (spelled : Option Cost) (cost : Cost) → Some (Some cost) ≡ option_map cost_in_range spelled → IsFound spelled cost
found None cost e = cc
found (Some other) cost e = found_by_test (is_in_range other) other cost refl e

faults_of_found : (place : ℕ) (spelled : Option Cost) (cost : Cost) → IsFound spelled cost → cost_faults place spelled ≡ []
faults_of_found place spelled cost f =
    ap (cost_faults place) f.is ∙ ap (λ v. cond (not v) (CostRange place ∷ []) []) f.in_range

-- a token that spells a cost in range
module _ (place : ℕ) (token : List ℕ) (cost : Cost) (present : is_absent token ≡ false) (spells : Some (Some cost) ≡ option_map cost_in_range (cost_of token)) where
  pub right_faults : token_faults place token ≡ []
  right_faults =
      present_faults place token present ∙ faults_of_found place (cost_of token) cost (found (cost_of token) cost spells)

  pub right_cell : Some cost ≡ cell_of token
  right_cell = sym (present_cell place token present ∙ (found (cost_of token) cost spells).is)

-- a cost out of range
past_by_test : (place : ℕ) (v : Bool) (cost : Cost) → ◌≡◌ {A = Option (Option Cost)} (Some None) (Some (cond v (Some cost) None)) → cond (not v) (CostRange place ∷ []) [] ≡ CostRange place ∷ []
past_by_test place true cost e = cc
past_by_test place false cost e = refl

past_faults : (place : ℕ) (spelled : Option Cost) → Some None ≡ option_map cost_in_range spelled → cost_faults place spelled ≡ CostRange place ∷ []
past_faults place None e = cc
past_faults place (Some cost) e = past_by_test place (is_in_range cost) cost e

pub range_faults : (place : ℕ) (token : List ℕ) → is_absent token ≡ false → Some None ≡ option_map cost_in_range (cost_of token) → token_faults place token ≡ CostRange place ∷ []
range_faults place token present spells =
    present_faults place token present ∙ past_faults place (cost_of token) spells

-- no cost
formless : (place : ℕ) (spelled : Option Cost) → None ≡ option_map cost_in_range spelled → cost_faults place spelled ≡ BadToken place ∷ []
formless place None e = refl
formless place (Some cost) e = cc

pub bad_faults : (place : ℕ) (token : List ℕ) → is_absent token ≡ false → None ≡ option_map cost_in_range (cost_of token) → token_faults place token ≡ BadToken place ∷ []
bad_faults place token present spells =
    present_faults place token present ∙ formless place (cost_of token) spells

-- a pair, by its parts
abbrev pair_of : Option ℤ → Option ℤ → Option Cost
pair_of first second = option_and_then (λ a. option_map (λ b. record { a = a; b = b }) second) first

parts_by_tests : (v w : Bool) (a b : ℤ) → cost_of_parts (cond v (Some a) None) (cond w (Some b) None) ≡ cond (v && w) (Some (record { a = a; b = b })) None
parts_by_tests true true a b = refl
parts_by_tests true false a b = refl
parts_by_tests false w a b = refl

parts_in_range : (first second : Option ℤ) (a b : Option ℤ) → Some a ≡ option_map integer_in_range first → Some b ≡ option_map integer_in_range second → Some (cost_of_parts a b) ≡ option_map cost_in_range (pair_of first second)
parts_in_range None second a b is_a is_b = cc
parts_in_range (Some x) None a b is_a is_b = cc
parts_in_range (Some x) (Some y) a b is_a is_b =
    let same_a : a ≡ integer_in_range x = cc in
    let same_b : b ≡ integer_in_range y = cc in
    (λ i. Some (cost_of_parts (same_a i) (same_b i))) ∙ ap Some (parts_by_tests (nat_le (unsigned_abs x) most_cost) (nat_le (unsigned_abs y) most_cost) x y)

pub pair_in_range : (token : List ℕ) (colon : ℕ) (a b : Option ℤ) → colon ≡ position_or_len (λ byte. byte == 58) token → Some a ≡ option_map integer_in_range (integer_of (take colon token)) → Some b ≡ option_map integer_in_range (integer_of (drop (colon + 1) token)) → Some (cost_of_parts a b) ≡ option_map cost_in_range (pair_cost_of token)
pair_in_range token colon a b is is_a is_b =
    parts_in_range (integer_of (take colon token)) (integer_of (drop (colon + 1) token)) a b is_a is_b
    ∙ ap (λ colon. option_map cost_in_range (pair_of (integer_of (take colon token)) (integer_of (drop (colon + 1) token)))) is

-- without a colon
no_second : (first : Option ℤ) → pair_of first None ≡ None
no_second None = refl
no_second (Some a) = refl

nothing_behind : (token : List ℕ) (colon : ℕ) → colon ≡ length token → integer_of (drop (colon + 1) token) ≡ None
unfolding integer_of number_of
nothing_behind token colon all =
    let past : drop (colon + 1) token ≡ [] = drop_all (colon + 1) token (omega arith) in
    ap (λ bytes. integer_of bytes) past

pub no_pair : (token : List ℕ) (colon : ℕ) → colon ≡ position_or_len (λ byte. byte == 58) token → colon ≡ length token → None ≡ option_map cost_in_range (pair_cost_of token)
no_pair token colon is all =
    sym (ap (λ colon. option_map cost_in_range (pair_of (integer_of (take colon token)) (integer_of (drop (colon + 1) token)))) (sym is)
    ∙ ap (λ second. option_map cost_in_range (pair_of (integer_of (take colon token)) second)) (nothing_behind token colon all)
    ∙ ap (option_map cost_in_range) (no_second (integer_of (take colon token))))

-- an integer has bytes
nothing_spells : integer_of [] ≡ None
unfolding integer_of number_of
nothing_spells = refl

pub some_bytes : (word : List ℕ) (a : ℤ) → integer_of word ≡ Some a → 0 < length word
some_bytes [] a spells = absurd (none-some a (sym nothing_spells ∙ spells))
some_bytes (byte ∷ word) a spells = omega arith

-- an integer is no absent cell
minus_is_no_integer : integer_of (45 ∷ []) ≡ None
unfolding integer_of number_of
minus_is_no_integer = refl

pub integer_is_present : (token : List ℕ) (a : ℤ) → integer_of token ≡ Some a → is_absent token ≡ false
integer_is_present token a spells =
    ⊎_elim
    (λ absent. let same : token ≡ 45 ∷ [] = (bytes_eq-Decides token (45 ∷ [])).0 absent in absurd (none-some a (sym minus_is_no_integer ∙ ap integer_of (sym same) ∙ spells)))
    (λ present. present)
    (cases_Bool (is_absent token))

-- an integer in range is a cost in range
pub plain_in_range : (token : List ℕ) (a : ℤ) → integer_of token ≡ Some a → unsigned_abs a ≤ most_cost → Some (Some (record { a = a; b = pos 0 })) ≡ option_map cost_in_range (cost_of token)
plain_in_range token a spells in_range =
    sym (ap (λ a. option_map cost_in_range (option_or (option_map (λ a. record { a = a; b = pos 0 }) a) (pair_cost_of token))) spells ∙ ap (λ v. Some (cond (v && true) (Some (record { a = a; b = pos 0 })) None)) (le-leb _ _ in_range))

pub integer_cell : (place : ℕ) (text behind rest : List ℕ) (value : ℤ) → IsShortInteger text value behind → IsBehindSpace behind rest → IsCell place text (Some (record { a = value; b = pos 0 })) rest
integer_cell place text behind rest value short space = record {
  token = short.word;
  first = ap tokens (short.cut ∙ ap (λ behind. short.word ++ behind) space.cut) ∙ word_first is_space short.word space.separator rest (some_bytes short.word value short.spells) short.no_space space.separates;
  right = right_faults place short.word _ (integer_is_present short.word value short.spells) (plain_in_range short.word value short.spells short.in_range);
  is_cost = right_cell place short.word _ (integer_is_present short.word value short.spells) (plain_in_range short.word value short.spells short.in_range);
}

-- the parts of a short integer fit
pub short_fits : {text rest : List ℕ} {value : ℤ} → IsShortInteger text value rest → to_z w64 (of_z w64 value) ≡ value
short_fits {text} {rest} {value} short =
    let high = short.in_range in
    to_z-of_z w64 value (omega (arith, ints))

-- a short integer, with a separator behind it, is a cell
pub short_cell : (place : ℕ) (text behind rest : List ℕ) (value : ℤ) → IsShortInteger text value behind → IsBehindSpace behind rest → IsCell place text (Some (record { a = to_z w64 (of_z w64 value); b = pos 0 })) rest
short_cell place text behind rest value short space =
    subst (λ a. IsCell place text (Some (record { a = a; b = pos 0 })) rest) (sym (short_fits short)) (integer_cell place text behind rest value short space)

-- the token of an absent cell, with a separator behind it, is a cell
pub short_absent_cell : (place : ℕ) (text behind rest : List ℕ) → IsBehindSpace behind rest → text ≡ 45 ∷ behind → IsCell place text None rest
short_absent_cell place text behind rest space is = record {
  token = 45 ∷ [];
  first = ap tokens (is ∙ ap (λ behind. 45 ∷ behind) space.cut) ∙ word_first is_space (45 ∷ []) space.separator rest (omega arith) (All-cons (λ b. is_space b ≡ false) 45 [] refl (All-nil (λ b. is_space b ≡ false))) space.separates;
  right = absent_faults place (45 ∷ []) refl;
  is_cost = sym (absent_cell place (45 ∷ []) refl);
}

-- a token with a fault
pub faulty_cell : (place : ℕ) (text token : List ℕ) (more : List (List ℕ)) (told : Option Fault) → tokens text ≡ token ∷ more → IfSome told (λ fault. token_faults place token ≡ fault ∷ []) → IfSome told (HasFaultyCell place text)
faulty_cell place text token more None first h = h
faulty_cell place text token more (Some fault) first h =
    record { token = token; more = more; first = first; faulty = h }
