-- Plain numbers and absent cells as the next cells of a table.
use Rattle.asg_tokens.proofs.Common.{◌≡◌, ℕ, ◌+◌, ◌<◌, ◌≤◌, true, List, ◌∷◌, length, get_or, drop, set, ℤ, pos, FitsSigned, Some, None, sym, refl, ap, ◌∙◌, subst, ⊎_elim, arith, to_z-of_z, w64, to_z, of_z, drop_more, ints, length-set, absent, IsEntry, IsPartInRange, AreReadOn, IsPlainCell, IsShortAmount, IsBehindSpace, tokens, is_space, AreRead, first_part, integer_cell, short_absent_cell, short_fits, pieces_behind, one_more_read, slot_of_token, plain_integer}

pub nothing_more : (text : List ℕ) (from : ℕ) (firsts : List ℤ) → from ≤ length firsts → AreReadOn text text from from firsts firsts
nothing_more text from firsts within = record {
  forward = omega arith;
  within = within;
  room = refl;
  read = λ place all seconds before. before;
}

pub read_further : {text here rest : List ℕ} {from place upto : ℕ} {old firsts new : List ℤ} → AreReadOn text here from place old firsts → AreReadOn here rest place upto firsts new → AreReadOn text rest from upto old new
read_further first second = record {
  forward = omega (arith, first.forward, second.forward);
  within = second.within;
  room = second.room ∙ first.room;
  read = λ place all seconds before. second.read place all seconds (first.read place all seconds before);
}

-- a number, and the separator behind it
pub number_cell : {text behind rest : List ℕ} {amount : ℤ} → IsShortAmount text amount behind → IsBehindSpace behind rest → IsPlainCell text (to_z w64 (of_z w64 amount)) rest
number_cell {text} {behind} {rest} {amount} short space =
    let plain : IsPlainCell text amount rest = record {
      cost = Some (record { a = amount; b = pos 0 });
      is_first = refl;
      no_second = refl;
      is_cell = λ place. integer_cell place text behind rest amount (plain_integer short) space;
    } in
    subst (λ first. IsPlainCell text first rest) (sym (short_fits (plain_integer short))) plain

-- a separator at a place
pub space_at : (text : List ℕ) (place : ℕ) → place < length text → is_space (get_or text place 0) ≡ true → IsBehindSpace (drop place text) (drop (place + 1) text)
space_at text place within separates =
    record { separator = get_or text place 0; cut = drop_more text place 0 within; separates = separates }

-- the token of an absent cell, and the separator behind it
pub absent_cell_at : (text : List ℕ) (place : ℕ) → place + 1 < length text → get_or text place 0 ≡ 45 → is_space (get_or text (place + 1) 0) ≡ true → IsPlainCell (drop place text) absent (drop (place + 1 + 1) text)
absent_cell_at text place within is separates =
    let begins : drop place text ≡ 45 ∷ drop (place + 1) text = drop_more text place 0 (omega arith) ∙ ap (λ byte. byte ∷ drop (place + 1) text) is in
    record {
      cost = None;
      is_first = refl;
      no_second = refl;
      is_cell = λ here. short_absent_cell here (drop place text) (drop (place + 1) text) (drop (place + 1 + 1) text) (space_at text (place + 1) within separates) begins;
    }

-- one more such cell
pub one_more_cell : {text here rest : List ℕ} {from place : ℕ} {old firsts : List ℤ} {first : ℤ} → AreReadOn text here from place old firsts → place < length firsts → IsPlainCell here first rest → AreReadOn text rest from (place + 1) old (set firsts place (to_z w64 (of_z w64 first)))
one_more_cell {text} {here} {rest} {from} {place} {old} {firsts} {first} read room cell =
    let one = cell.is_cell 0 in
    let entry : IsEntry first = subst IsEntry (sym cell.is_first) (subst (λ c. IsEntry (first_part c)) (sym one.is_cost) (slot_of_token 0 one.token one.right).first_in_range) in
    let fits : FitsSigned w64 first = ⊎_elim (λ (none : first ≡ absent). omega (arith, ints, none)) (λ (some : IsPartInRange first). omega (arith, ints, some)) entry in
    let same : to_z w64 (of_z w64 first) ≡ first = to_z-of_z w64 first fits in
    record {
      forward = omega (arith, read.forward);
      within = omega (arith, length-set firsts place (to_z w64 (of_z w64 first)));
      room = length-set firsts place (to_z w64 (of_z w64 first)) ∙ read.room;
      read = λ start all seconds before.
          let so_far = read.read start all seconds before in
          one_more_read so_far here rest cell.cost (start + place) (to_z w64 (of_z w64 first)) (pos 0) (set firsts place (to_z w64 (of_z w64 first))) seconds room refl refl (cell.is_cell (start + place)) (same ∙ cell.is_first) (sym cell.no_second) refl
          (record { here = so_far.rest_is_zero place (omega arith); others = λ k other. refl })
          so_far.seconds_are;
    }

-- separators in front of the text behind them
pub past_spaces : {text here rest : List ℕ} {from upto : ℕ} {old new : List ℤ} → AreReadOn text here from upto old new → tokens rest ≡ tokens here → AreReadOn text rest from upto old new
past_spaces {text} {here} {rest} {from} {upto} {old} {new} read same = record {
  forward = read.forward;
  within = read.within;
  room = read.room;
  read = λ place all seconds before. subst (λ left. AreRead place all left upto new seconds) (sym same) (read.read place all seconds before);
}

pub tokens_behind : {text rest : List ℕ} → IsBehindSpace text rest → tokens text ≡ tokens rest
tokens_behind {text} {rest} space =
    ap tokens space.cut ∙ pieces_behind is_space space.separator rest space.separates
