-- What is counted for levels, row by row and level by level.
use Rattle.asg_verdicts.proofs.LevelCommon.{◌≡◌, ℕ, ◌+◌, ◌<◌, ◌≤◌, Bool, true, false, cond, List, [], ◌∷◌, ◌++◌, length, get_or, take, ℤ, slice_get, Some, None, sum_by, Option, option_to_list, filter_map, int_eq, sym, refl, ap, ◌∙◌, arith, bool_byte, filter-append, option_map_or, range_with_len, sum_by-append, sum_by-cons, take_more, live_at, Problem, chosen_cost, costs_at, Cost, Level, option_and_then}
use Rattle.std.proofs.lemmas.List.{length-append}
use Rattle.asg_model.specs.laws.Listing.{filter_map-range_more}

-- a truth value as a number
pub byte_is : (b : Bool) → bool_byte b ≡ cond b 1 0
byte_is true = refl
byte_is false = refl

pub byte_few : (b : Bool) → bool_byte b ≤ 1
byte_few true = omega arith
byte_few false = omega arith

module _ (X : Problem) (f : List (Option ℕ)) (cost : ℤ) where
  kept : (b : Bool) (found : Cost) → cond b 1 0 ≡ length (cond b (found ∷ []) [])
  kept true found = refl
  kept false found = refl

  one : (o : Option Cost) (has : Bool) → has ≡ option_map_or (λ found. int_eq found.a cost) o false → cond has 1 0 ≡ length (costs_at cost (option_to_list o))
  one None has e = ap (λ b. cond b 1 0) e
  one (Some found) has e = ap (λ b. cond b 1 0) e ∙ kept (int_eq found.a cost) found

  -- the chosen cells of a cost, with one row more
  pub count_more : (n count : ℕ) (column : Option ℕ) (has : Bool) → count ≡ length (costs_at cost (filter_map (chosen_cost X f) (range_with_len 0 n))) → slice_get f n ≡ Some column
      → has ≡ option_map_or (λ found. int_eq found.a cost) (option_and_then (live_at X n) column) false
      → count + cond has 1 0 ≡ length (costs_at cost (filter_map (chosen_cost X f) (range_with_len 0 (n + 1))))
  count_more n count column has is at e =
      let before = filter_map (chosen_cost X f) (range_with_len 0 n) in
      let chosen : option_and_then (live_at X n) column ≡ chosen_cost X f n = sym (ap (option_and_then (λ c. option_and_then (live_at X n) c)) at) in
      ap (λ m. m + cond has 1 0) is
      ∙ ap (λ m. length (costs_at cost before) + m) (one (chosen_cost X f n) has (e ∙ ap (λ o. option_map_or (λ found. int_eq found.a cost) o false) chosen))
      ∙ sym (
      ap (λ costs. length (costs_at cost costs)) (filter_map-range_more (chosen_cost X f) n)
      ∙ ap length (filter-append (λ (found : Cost). int_eq found.a cost) before (option_to_list (chosen_cost X f n)))
      ∙ length-append (costs_at cost before) (costs_at cost (option_to_list (chosen_cost X f n)))
      )

-- the counts of levels, with one level more
pub total_more : (levels : List Level) (n total : ℕ) (level : Level) → n < length levels → level ≡ get_or levels n level → total ≡ sum_by (λ (l : Level). l.count) (take n levels)
    → total + level.count ≡ sum_by (λ (l : Level). l.count) (take (n + 1) levels)
total_more levels n total level below at is =
    let front = sum_by (λ (l : Level). l.count) (take n levels) in
    let last : sum_by (λ (l : Level). l.count) (level ∷ []) ≡ level.count + 0 = sum_by-cons (λ (l : Level). l.count) level [] in
    let all = sum_by-append (λ (l : Level). l.count) (take n levels) (level ∷ []) in
    let whole = ap (sum_by (λ (l : Level). l.count)) (take_more levels n level below ∙ ap (λ l. take n levels ++ l ∷ []) (sym at)) in
    omega (arith, is, last, all, whole)
