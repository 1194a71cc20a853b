-- There are at most as many different valid choices as ways to give each active row any column:
-- each choice is a number with a digit for each row that chooses.
use Rattle.asg_rank.proofs.Common.{◌≡◌, ℕ, suc, ◌+◌, ◌*◌, ◌^◌, ◌<◌, ◌≤◌, true, false, ◌≢◌, List, [], ◌∷◌, map, length, get_or, is_some, Some, None, All, Contains, count_by, Option, AllPairs, sym, refl, ap, ◌∙◌, subst, ⊎_elim, mul-le-mul_left, pow-suc, arith, cases_Bool, cases_lt, false≢true, get_or-map, length-map, length-range_with_len, pow-zero, range_with_len, sum_by-cons, placed, Problem, one, IsValid}
use Rattle.asg_model.specs.Live.{is_active}
use Rattle.asg_model.specs.laws.Counting.{length-le_contains}
use Rattle.asg_model.specs.laws.Listing.{Contains-range}
use Rattle.asg_rankings.specs.laws.ChosenRows.{chosen_at, chosen-in_active, none-from_inactive, chooses-from_chosen}
use Rattle.asg_model.specs.declared.parts.Place.TheVariants.{All as PlaceAll}
use Rattle.asg_values.specs.laws.LiveCells.{column-from_live}

-- the number of a choice of columns below m, the first row's digit last
abbrev code : ℕ → List (Option ℕ) → ℕ
code m [] = 0
code m (None ∷ f) = code m f
code m (Some c ∷ f) = c + m * code m f

-- each chosen column is below m
abbrev AreBelow : ℕ → List (Option ℕ) → Type 0
AreBelow m f = (r c : ℕ) → chosen_at f r ≡ Some c → c < m

code_below : (m : ℕ) (f : List (Option ℕ)) → AreBelow m f → code m f < m ^ count_by is_some f
code_below m [] below = let unit = pow-zero m in omega (arith, unit)
code_below m (None ∷ f) below =
    let rest = code_below m f (λ r c e. below (suc r) c e) in
    let same : count_by is_some (None ∷ f) ≡ count_by is_some f = (let s = sum_by-cons (λ (o : Option ℕ). one (is_some o)) None f in omega (arith, s)) in
    subst (λ n. code m f < m ^ n) (sym same) rest
code_below m (Some c ∷ f) below =
    let rest = code_below m f (λ r d e. below (suc r) d e) in
    let digit : c < m = below 0 c refl in
    let more : count_by is_some (Some c ∷ f) ≡ suc (count_by is_some f) = (let s = sum_by-cons (λ (o : Option ℕ). one (is_some o)) (Some c) f in omega (arith, s)) in
    let power = pow-suc m (count_by is_some f) in
    let far = mul-le-mul_left m (let h : code m f + 1 ≤ m ^ count_by is_some f = omega (arith, rest) in h) in
    let times : m * (code m f + 1) ≡ m * code m f + m = times_more m (code m f) in
    let turned : m ^ count_by is_some f * m ≡ m * m ^ count_by is_some f = commuted (m ^ count_by is_some f) m in
    subst (λ n. c + m * code m f < m ^ n) (sym more) (subst (λ p. c + m * code m f < p) (sym (power ∙ turned)) (omega (arith, far, times, digit)))
  where
    times_more : (a b : ℕ) → a * (b + 1) ≡ a * b + a
    times_more a b = grind (arith)

    commuted : (a b : ℕ) → a * b ≡ b * a
    commuted a b = grind (arith)

-- digits below m and the numbers before them are told by the number
digits : (m c d x y : ℕ) → c < m → d < m → c + m * x ≡ d + m * y → (c ≡ d) × (x ≡ y)
digits m c d x y below_c below_d e =
    ⊎_elim
    (λ (less : x < y). absurd (let far = mul-le-mul_left m (let h : x + 1 ≤ y = omega (arith, less) in h) in let t = times_more m x in omega (arith, far, t, e, below_c)))
    (λ (from : y ≤ x).
    ⊎_elim
    (λ (more : y < x). absurd (let far = mul-le-mul_left m (let h : y + 1 ≤ x = omega (arith, more) in h) in let t = times_more m y in omega (arith, far, t, e, below_d)))
    (λ (upto : x ≤ y).
    let same : x ≡ y = omega (arith, from, upto) in
    let times : m * x ≡ m * y = ap (λ z. m * z) same in
    (omega (arith, e, times), same))
    (cases_lt y x))
    (cases_lt x y)
  where
    times_more : (a b : ℕ) → a * (b + 1) ≡ a * b + a
    times_more a b = grind (arith)

-- choices of the same rows with the same number are the same
same_code : (m : ℕ) (f g : List (Option ℕ)) → length f ≡ length g → ((r : ℕ) → is_some (chosen_at f r) ≡ is_some (chosen_at g r)) → AreBelow m f → AreBelow m g → code m f ≡ code m g → f ≡ g
same_code m [] [] over rows below_f below_g e = refl
same_code m [] (o ∷ g) over rows below_f below_g e = absurd (omega (arith, over))
same_code m (o ∷ f) [] over rows below_f below_g e = absurd (omega (arith, over))
same_code m (None ∷ f) (None ∷ g) over rows below_f below_g e =
    ap (λ xs. None ∷ xs) (same_code m f g (omega (arith, over)) (λ r. rows (suc r)) (λ r c h. below_f (suc r) c h) (λ r c h. below_g (suc r) c h) e)
same_code m (None ∷ f) (Some d ∷ g) over rows below_f below_g e = absurd (false≢true (rows 0))
same_code m (Some c ∷ f) (None ∷ g) over rows below_f below_g e = absurd (false≢true (sym (rows 0)))
same_code m (Some c ∷ f) (Some d ∷ g) over rows below_f below_g e =
    let both = digits m c d (code m f) (code m g) (below_f 0 c refl) (below_g 0 d refl) e in
    let rest = same_code m f g (omega (arith, over)) (λ r. rows (suc r)) (λ r k h. below_f (suc r) k h) (λ r k h. below_g (suc r) k h) both.1 in
    ap (λ x. Some x ∷ f) both.0 ∙ ap (λ xs. Some d ∷ xs) rest

module _ (X : Problem) (all : X.place ≡ PlaceAll) where
  below_columns : (f : List (Option ℕ)) → IsValid X f → AreBelow (length X.columns) f
  below_columns f valid r c e =
      column-from_live X r c (valid.alive r c (chooses-from_chosen X f valid r c e))

  rows_of : (f : List (Option ℕ)) → IsValid X f → (r : ℕ) → is_some (chosen_at f r) ≡ is_active X r
  rows_of f valid r =
      ⊎_elim
      (λ (active : is_active X r ≡ true). let c = chosen-in_active X f valid all r active in ap is_some c.1 ∙ sym active)
      (λ (idle : is_active X r ≡ false). ap is_some (none-from_inactive X f valid r idle) ∙ sym idle)
      (cases_Bool (is_active X r))

  -- there are at most so many
  pub few_valid : (choices : List (List (Option ℕ))) → All (IsValid X) choices → AllPairs ◌≢◌ choices → length choices ≤ length X.columns ^ placed X
  few_valid choices valid apart =
      let m = length X.columns in
      let most = m ^ placed X in
      let codes = map (code m) choices in
      let count = length-map choices (code m) in
      let valid_at : (i : ℕ) → i < length choices → IsValid X (get_or choices i []) = λ i h. valid i [] h in
      let differ : AllPairs ◌≢◌ codes =
      λ i j d less h e.
      let within : j < length choices = omega (arith, h, count) in
      let low : i < length choices = omega (arith, less, within) in
      let at_i = get_or-map (code m) choices i [] d low in
      let at_j = get_or-map (code m) choices j [] d within in
      apart i j [] less within
      (same_code m (get_or choices i []) (get_or choices j []) ((valid_at i low).over ∙ sym (valid_at j within).over) (λ r. rows_of (get_or choices i []) (valid_at i low) r ∙ sym (rows_of (get_or choices j []) (valid_at j within) r)) (below_columns (get_or choices i []) (valid_at i low)) (below_columns (get_or choices j []) (valid_at j within)) (sym at_i ∙ e ∙ at_j)) in
      let below : (k d : ℕ) → k < length codes → Contains (range_with_len 0 most) (get_or codes k d) =
      λ k d h.
      let within : k < length choices = omega (arith, h, count) in
      let v = valid_at k within in
      let small = subst (λ n. code m (get_or choices k []) < m ^ n) v.counted (code_below m (get_or choices k []) (below_columns (get_or choices k []) v)) in
      Contains-range most (get_or codes k d) (subst (λ x. x < most) (sym (get_or-map (code m) choices k [] d within)) small) in
      let le = length-le_contains codes (range_with_len 0 most) differ below in
      omega (arith, le, count, length-range_with_len 0 most)
