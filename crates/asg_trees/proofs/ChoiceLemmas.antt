-- Choices that one list of numbers says.
use Rattle.asg_trees.proofs.Common.{◌≡◌, ℕ, zero, suc, ◌+◌, ◌-◌, ◌*◌, ◌^◌, ◌<◌, ◌≤◌, List, [], ◌∷◌, ◌++◌, map, length, get_or, take, drop, IfSome, slice_get, Some, None, All, Option, sym, refl, ap, ◌∙◌, suc-mul, le-mul_of_pos_right, arith, length-drop, length-take-le, take_all, drop-drop, count_by-le-length, drop-append-le, get_or-map, get_or_from_slice_get, length-map, map_more, same_lists, slice_get_within, take-append-le, IsInstance, Problem, IsValid, AreNumbersOf, choices_in, chosen_by, number_of}
use Rattle.std.proofs.lemmas.List.{append_assoc, length-append}
use Rattle.asg_values.specs.laws.LiveCells.{column-from_live}

-- ---- numbers

chosen_back : (f : List (Option ℕ)) → map chosen_by (map number_of f) ≡ f
chosen_back [] = refl
chosen_back (None ∷ f) = ap (λ g. None ∷ g) (chosen_back f)
chosen_back (Some c ∷ f) = ap (λ g. Some c ∷ g) (chosen_back f)

-- the place of a column that a valid choice chooses is small
module _ (X : Problem) (instance : IsInstance X) (f : List (Option ℕ)) (valid : IsValid X f) (r : ℕ) where
  pub column_fits : (chosen : Option ℕ) → slice_get f r ≡ Some chosen → IfSome chosen (λ c. c < 2 ^ 32 - 1)
  column_fits None at = tt
  column_fits (Some c) at =
      let within = column-from_live X r c (valid.alive r c at) in
      omega (arith, within, instance.well_formed.few_columns)

-- one more row's number
pub numbers_more : (numbers now : List ℕ) (f : List (Option ℕ)) (r : ℕ) (chosen : Option ℕ) → slice_get f r ≡ Some chosen → now ≡ numbers ++ map number_of (take r f) → now ++ number_of chosen ∷ [] ≡ numbers ++ map number_of (take (r + 1) f)
numbers_more numbers now f r chosen at is =
    ap (λ xs. xs ++ number_of chosen ∷ []) is
    ∙ append_assoc numbers (map number_of (take r f)) (number_of chosen ∷ [])
    ∙ ap (λ xs. numbers ++ xs) (sym (map_more number_of f r chosen (slice_get_within f r chosen at)
    ∙ ap (λ c. map number_of (take r f) ++ number_of c ∷ []) (get_or_from_slice_get f r chosen chosen at)))

-- a choice that gives each row what its number says
pub is_chosen : (f : List (Option ℕ)) (numbers : List ℕ) → length f ≡ length numbers → ((r : ℕ) (d : Option ℕ) → r < length numbers → get_or f r d ≡ chosen_by (get_or numbers r 0)) → f ≡ map chosen_by numbers
is_chosen f numbers same each =
    same_lists f (map chosen_by numbers) (same ∙ sym (length-map numbers chosen_by))
    (λ r d below. each r d (omega (arith, below, same)) ∙ sym (get_or-map chosen_by numbers r 0 d (omega (arith, below, same))))

-- ---- choices

pub length-choices_in : (rows count : ℕ) (numbers : List ℕ) → length (choices_in rows count numbers) ≡ count
length-choices_in rows zero numbers = refl
length-choices_in rows (suc count) numbers = ap suc (length-choices_in rows count (drop rows numbers))

pub choice_at : (rows count place : ℕ) (numbers : List ℕ) → place < count → slice_get (choices_in rows count numbers) place ≡ Some (map chosen_by (take rows (drop (place * rows) numbers)))
choice_at rows zero place numbers below = absurd (omega (arith, below))
choice_at rows (suc count) zero numbers below =
    let none : 0 ≡ 0 * rows = omega arith in
    ap (λ n. Some (map chosen_by (take rows (drop n numbers)))) none
choice_at rows (suc count) (suc place) numbers below =
    choice_at rows count place (drop rows numbers) (omega (arith, below))
    ∙ ap (λ xs. Some (map chosen_by (take rows xs))) (drop-drop (place * rows) rows numbers)
    ∙ ap (λ n. Some (map chosen_by (take rows (drop n numbers)))) (omega (arith, suc-mul place rows))

-- the choices of numbers behind which those of one more stand
choices_more : (rows count : ℕ) (numbers new : List ℕ) → length numbers ≡ count * rows → length new ≡ rows → choices_in rows (suc count) (numbers ++ new) ≡ choices_in rows count numbers ++ map chosen_by new ∷ []
choices_more rows zero [] new whole one = ap (λ xs. map chosen_by xs ∷ []) (take_all rows new (omega (arith, one)))
choices_more rows zero (x ∷ numbers) new whole one = absurd (omega (arith, whole))
choices_more rows (suc count) numbers new whole one =
    let more = suc-mul count rows in
    let first : rows ≤ length numbers = omega (arith, whole, more) in
    let rest : length (drop rows numbers) ≡ count * rows = length-drop rows numbers ∙ omega (arith, whole, more) in
    ap (λ xs. map chosen_by xs ∷ choices_in rows (suc count) (drop rows (numbers ++ new))) (take-append-le rows numbers new first)
    ∙ ap (λ xs. map chosen_by (take rows numbers) ∷ choices_in rows (suc count) xs) (drop-append-le rows numbers new first)
    ∙ ap (λ fs. map chosen_by (take rows numbers) ∷ fs) (choices_more rows count (drop rows numbers) new rest one)

-- valid choices have as many rows as the instance
same_rows : (X : Problem) (rows count : ℕ) (numbers : List ℕ) → length numbers ≡ suc count * rows → All (IsValid X) (choices_in rows (suc count) numbers) → rows ≡ length X.rows
same_rows X rows count numbers whole all =
    let more = suc-mul count rows in
    sym (length-take-le rows numbers (omega (arith, whole, more)))
    ∙ sym (length-map (take rows numbers) chosen_by)
    ∙ (all zero [] (omega (arith, length-choices_in rows (suc count) numbers))).over

-- one more valid choice
module _ (X : Problem) (instance : IsInstance X) (f : List (Option ℕ)) (valid : IsValid X f) where
  module _ (rows : ℕ) (numbers more : List ℕ) (is : more ≡ numbers ++ map number_of f) where
    abbrev new : List ℕ
    new = map number_of f

    one : length new ≡ length f
    one = length-map f number_of

    pub with_one : (count : ℕ) → AreNumbersOf rows count numbers → All (IsValid X) (choices_in rows count numbers) → choices_in (length f) (count + 1) more ≡ choices_in rows count numbers ++ f ∷ []
    with_one zero w all =
        ap (choices_in (length f) 1) is ∙ choices_more (length f) zero numbers new (w.whole ∙ omega arith) one ∙ ap (λ g. g ∷ []) (chosen_back f)
    with_one (suc count) w all =
        let same : rows ≡ length f = same_rows X rows count numbers w.whole all ∙ sym valid.over in
        let next : suc count + 1 ≡ suc (suc count) = omega arith in
        ap (λ n. choices_in (length f) n more) next
        ∙ ap (choices_in (length f) (suc (suc count))) is
        ∙ choices_more (length f) (suc count) numbers new (w.whole ∙ ap (λ n. suc count * n) same) one
        ∙ ap (λ n. choices_in n (suc count) numbers ++ map chosen_by new ∷ []) (sym same)
        ∙ ap (λ g. choices_in rows (suc count) numbers ++ g ∷ []) (chosen_back f)

    whole_more : (count : ℕ) → AreNumbersOf rows count numbers → All (IsValid X) (choices_in rows count numbers) → length more ≡ (count + 1) * length f
    whole_more zero w all = ap length is ∙ length-append numbers new ∙ omega (arith, w.whole, one)
    whole_more (suc count) w all =
        let same : rows ≡ length f = same_rows X rows count numbers w.whole all ∙ sym valid.over in
        let before : length numbers ≡ suc count * length f = w.whole ∙ ap (λ n. suc count * n) same in
        let next = suc-mul (suc count) (length f) in
        ap length is ∙ length-append numbers new ∙ omega (arith, before, one, next)

    pub numbers_with : (count : ℕ) → AreNumbersOf rows count numbers → All (IsValid X) (choices_in rows count numbers) → length more < 2 ^ 63 → AreNumbersOf (length f) (count + 1) more
    numbers_with count w all few =
        let whole = whole_more count w all in
        let active = count_by-le-length (λ row. row.active) X.rows in
        let some : 0 < length f = omega (arith, active, instance.well_formed.some_active, valid.over) in
        let least = le-mul_of_pos_right (count + 1) some in
        record { whole = whole; few = omega (arith, whole, least, few) }
