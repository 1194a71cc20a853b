-- Pairs of plain numbers as the next cells of a table.
use Rattle.asg_tokens.proofs.Common.{◌≡◌, ℕ, ◌+◌, ◌*◌, ◌%◌, ◌^◌, ◌<◌, ◌≤◌, true, ◌≢◌, List, ◌∷◌, length, get_or, drop, set, ℤ, pos, bit_and, FitsSigned, Some, sym, refl, ap, ◌∙◌, subst, inr, ⊎_elim, arith, get_or-set_other, get_or-set_same, to_z-of_z, w64, to_z, of_z, All-set, and_le_l, bit_at, bit_not, drop_more, ints, is_ascii_digit, trailing_zeros, length-set, absent, IsEntry, IsPartInRange, AreDigitsFrom, ArePairsReadOn, IsShortAmount, IsShortInteger, IsBehindSpace, IsCell, tokens, first_part, AreRead, short_pair, slot_of_token, one_more_read, second_in_range, plain_integer}
use Rattle.asg_model.specs.declared.parts.Cost.{Cost}
use Rattle.asg_tokens.proofs.BlockLemmas.{end_low, end_past, digits_before, none_before, digits_behind}

pub no_pairs_more : (text : List ℕ) (from : ℕ) (firsts seconds : List ℤ) → from ≤ length firsts → ArePairsReadOn text text from from firsts firsts seconds seconds
no_pairs_more text from firsts seconds within = record {
  forward = omega arith;
  within = within;
  room = refl;
  whole = refl;
  read = λ place all before. before;
}

pub read_pairs_further : {text here rest : List ℕ} {from place upto : ℕ} {old_firsts firsts new_firsts old_seconds seconds new_seconds : List ℤ} → ArePairsReadOn text here from place old_firsts firsts old_seconds seconds → ArePairsReadOn here rest place upto firsts new_firsts seconds new_seconds → ArePairsReadOn text rest from upto old_firsts new_firsts old_seconds new_seconds
read_pairs_further first second = record {
  forward = omega (arith, first.forward, second.forward);
  within = second.within;
  room = second.room ∙ first.room;
  whole = second.whole ∙ first.whole;
  read = λ place all before. second.read place all (first.read place all before);
}

-- separators in front of the text behind them
pub pairs_past_spaces : {text here rest : List ℕ} {from upto : ℕ} {old_firsts firsts old_seconds seconds : List ℤ} → ArePairsReadOn text here from upto old_firsts firsts old_seconds seconds → tokens rest ≡ tokens here → ArePairsReadOn text rest from upto old_firsts firsts old_seconds seconds
pairs_past_spaces {text} {here} {rest} {from} {upto} {old_firsts} {firsts} {old_seconds} {seconds} read same = record {
  forward = read.forward;
  within = read.within;
  room = read.room;
  whole = read.whole;
  read = λ place all before. subst (λ left. AreRead place all left upto firsts seconds) (sym same) (read.read place all before);
}

-- the parts of a cell fit
parts_fit : (place : ℕ) (text rest : List ℕ) (cost : Cost) → IsCell place text (Some cost) rest → (to_z w64 (of_z w64 cost.a) ≡ cost.a) × (to_z w64 (of_z w64 cost.b) ≡ cost.b)
parts_fit place text rest cost cell =
    let entry : IsEntry (first_part (Some cost)) = subst (λ c. IsEntry (first_part c)) (sym cell.is_cost) (slot_of_token place cell.token cell.right).first_in_range in
    let part : IsPartInRange cost.b = second_in_range place text rest (Some cost) cell in
    let first : FitsSigned w64 cost.a = ⊎_elim (λ (none : cost.a ≡ absent). omega (arith, ints, none)) (λ (some : IsPartInRange cost.a). omega (arith, ints, some)) entry in
    let second : FitsSigned w64 cost.b = omega (arith, ints, part) in
    (to_z-of_z w64 cost.a first, to_z-of_z w64 cost.b second)

-- one more pair, and the separator behind it
pub one_more_pair : {text here rest : List ℕ} {from place : ℕ} {old_firsts firsts old_seconds seconds : List ℤ} (cost : Cost) → ArePairsReadOn text here from place old_firsts firsts old_seconds seconds → place < length firsts → length old_seconds ≡ length old_firsts → ((start : ℕ) → IsCell start here (Some cost) rest) → ArePairsReadOn text rest from (place + 1) old_firsts (set firsts place (to_z w64 (of_z w64 cost.a))) old_seconds (set seconds place (to_z w64 (of_z w64 cost.b)))
one_more_pair {text} {here} {rest} {from} {place} {old_firsts} {firsts} {old_seconds} {seconds} cost read room whole cells =
    let first = to_z w64 (of_z w64 cost.a) in
    let second = to_z w64 (of_z w64 cost.b) in
    let fit = parts_fit 0 here rest cost (cells 0) in
    let same : length seconds ≡ length firsts = read.whole ∙ whole ∙ sym read.room in
    record {
      forward = omega (arith, read.forward);
      within = omega (arith, length-set firsts place first);
      room = length-set firsts place first ∙ read.room;
      whole = length-set seconds place second ∙ read.whole;
      read = λ start all before.
          let so_far = read.read start all before in
          let cell = cells (start + place) in
          let part : IsPartInRange second = subst IsPartInRange (sym fit.1) (second_in_range (start + place) here rest (Some cost) cell) in
          one_more_read so_far here rest (Some cost) (start + place) first second (set firsts place first) (set seconds place second) room refl refl cell fit.0 fit.1 refl
          (record { here = get_or-set_same seconds place second (pos 0) (omega (arith, same)); others = λ k other. get_or-set_other seconds place k second (pos 0) other })
          (record { none_or_all = inr (length-set seconds place second ∙ same); in_range = All-set IsPartInRange seconds place second part so_far.seconds_are.in_range });
    }

-- a number behind which a colon stands, and a number behind which a separator stands
pub pair_from : (text : List ℕ) (start colon end : ℕ) (a b : ℤ) → colon < length text → get_or text colon 0 ≡ 58 → IsShortAmount (drop start text) a (drop colon text) → IsShortAmount (drop (colon + 1) text) b (drop end text) → IsBehindSpace (drop end text) (drop (end + 1) text) → (place : ℕ) → IsCell place (drop start text) (Some (record { a = to_z w64 (of_z w64 a); b = to_z w64 (of_z w64 b) })) (drop (end + 1) text)
pair_from text start colon end a b within is first second space place =
    let behind : drop colon text ≡ 58 ∷ drop (colon + 1) text = drop_more text colon 0 within ∙ ap (λ byte. byte ∷ drop (colon + 1) text) is in
    short_pair place (drop start text) (drop (colon + 1) text) (drop end text) (drop (end + 1) text) a b (subst (IsShortInteger (drop start text) a) behind (plain_integer first)) (plain_integer second) space

-- a word of bits without its lowest one
abbrev pub without_lowest : ℕ → ℕ
without_lowest ends = bit_and ends (bit_not w64 (1 * 2 ^ trailing_zeros w64 ends % 2 ^ 64))

-- the ends of the pair that begins at a place, and the ends that are left behind it
pub record ArePairEnds (text : List ℕ) (start colon end left : ℕ) : Type 0 where
  pub first : start ≤ colon
  pub second : colon + 1 ≤ end
  pub low : end < 64
  pub first_digits : (k : ℕ) → start ≤ k → k < colon → is_ascii_digit (get_or text k 0) ≡ true
  pub second_digits : (k : ℕ) → colon + 1 ≤ k → k < end → is_ascii_digit (get_or text k 0) ≡ true
  pub none : (k : ℕ) → k < end + 1 → bit_at left k ≡ 0
  pub digits : AreDigitsFrom (end + 1) text left

-- they are the two lowest bits
pub pair_ends : (text : List ℕ) (start ends : ℕ) → 0 < ends → ends < 2 ^ 64 → without_lowest ends ≢ 0 → ((k : ℕ) → k < start → bit_at ends k ≡ 0) → AreDigitsFrom start text ends → ArePairEnds text start (trailing_zeros w64 ends) (trailing_zeros w64 (without_lowest ends)) (without_lowest (without_lowest ends))
pair_ends text start ends some fits other none digits =
    let colon = trailing_zeros w64 ends in
    let left = without_lowest ends in
    let more : 0 < left = omega (arith, other) in
    let small : left < 2 ^ 64 = omega (arith, fits, and_le_l ends (bit_not w64 (1 * 2 ^ colon % 2 ^ 64))) in
    let none_behind = none_before text start ends some fits none digits in
    let behind = digits_behind text start ends some fits none digits in
    record {
      first = end_past text start ends some fits none digits;
      second = end_past text (colon + 1) left more small none_behind behind;
      low = end_low text (colon + 1) left more small none_behind behind;
      first_digits = digits_before text start ends some fits none digits;
      second_digits = digits_before text (colon + 1) left more small none_behind behind;
      none = none_before text (colon + 1) left more small none_behind behind;
      digits = digits_behind text (colon + 1) left more small none_behind behind;
    }
