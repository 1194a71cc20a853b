-- The first arc that repeats another at another cost, by arcs that are sorted by their ends.
use Rattle.asg_networks.proofs.Common.{◌≡◌, ℕ, zero, suc, ◌+◌, ◌-◌, ◌*◌, ◌^◌, ◌<◌, ◌≤◌, Bool, true, false, not, ◌&&◌, ◌⊎◌, List, [], ◌∷◌, ◌++◌, map, length, get_or, take, drop, IsTrue, slice_get, Some, All, int_eq, sym, refl, ap, ◌∙◌, subst, inl, inr, ⊎_elim, arith, take-append-drop, length-take-le, take_all, get_or-take, eq-eqb, eqb-true, All-permutation, Contains-permutation, Decides-int_eq, IsNonDecreasingBy, and_parts, cases_Bool, cases_lt, false≢true, get_or-map, get_or-range_with_len, get_or_default, length-map, length-range_with_len, list_any_at, list_any_none, range_with_len, take_more, are_unlike, differs_from, is_beside, AreByEnds, IsFirstTwice, IsFit, are_unlike_at, is_unlike, link_of, no_link, order_number, arc_of_link, twice_faults, Arc, Link, ArcTwice, fault_where, IsPermutation}
use Rattle.std.proofs.Math.Nat.{mul-le-mul_right}
use Rattle.asg_networks.proofs.TwiceLemmas.{twice_append, twice_more}

-- ---- the first that repeats another is the first fault

module _ (links : List Link) where
  abbrev differs_at : ℕ → Bool
  differs_at n = differs_from (map arc_of_link (take n links)) (arc_of_link (link_of links n))

  cut : (n : ℕ) → n < length links → take (suc n) links ≡ take n links ++ link_of links n ∷ []
  cut n within = let next : suc n ≡ n + 1 = omega arith in ap (λ k. take k links) next ∙ take_more links n no_link within

  none_upto : (n : ℕ) → n ≤ length links → ((m : ℕ) → m < n → differs_at m ≡ false) → twice_faults [] (take n links) ≡ []
  none_upto zero upto none = refl
  none_upto (suc n) upto none =
      ap (twice_faults []) (cut n (omega (arith, upto))) ∙ twice_more (take n links) (link_of links n)
      ∙ (λ i. none_upto n (omega (arith, upto)) (λ m less. none m (omega (arith, less))) i ++ fault_where (none n (omega arith) i) (ArcTwice (link_of links n).line))

  twice_at : (n : ℕ) → n < length links → ((m : ℕ) → m < n → differs_at m ≡ false) → differs_at n ≡ true → slice_get (twice_faults [] links) 0 ≡ Some (ArcTwice (link_of links n).line)
  twice_at n within none differs =
      let fault = ArcTwice (link_of links n).line in
      let first : twice_faults [] (take (suc n) links) ≡ fault ∷ [] =
      ap (twice_faults []) (cut n within) ∙ twice_more (take n links) (link_of links n)
      ∙ (λ i. none_upto n (omega (arith, within)) none i ++ fault_where (differs i) fault) in
      ap (λ links. slice_get (twice_faults [] links) 0) (sym (take-append-drop (suc n) links))
      ∙ ap (λ faults. slice_get faults 0) (twice_append [] (take (suc n) links) (drop (suc n) links))
      ∙ ap (λ faults. slice_get (faults ++ twice_faults (map arc_of_link (take (suc n) links)) (drop (suc n) links)) 0) first

  abbrev test : ℕ → Arc → Bool
  test n other = is_beside (arc_of_link (link_of links n)) other && are_unlike (Some (link_of links n).cost) other.cost

  count : (n : ℕ) → n < length links → length (map arc_of_link (take n links)) ≡ n
  count n within = length-map (take n links) arc_of_link ∙ length-take-le n links (omega (arith, within))

  earlier : (m n : ℕ) (d : Arc) → m < n → n < length links → get_or (map arc_of_link (take n links)) m d ≡ arc_of_link (link_of links m)
  earlier m n d before within =
      let long : length (take n links) ≡ n = length-take-le n links (omega (arith, within)) in
      get_or-map arc_of_link (take n links) m no_link d (omega (arith, before, long)) ∙ ap arc_of_link (get_or-take n links m no_link before)

  differs_by : (m n : ℕ) → m < n → n < length links → are_unlike_at links m n ≡ true → differs_at n ≡ true
  differs_by m n before within unlike =
      let many = count n within in
      list_any_at (test n) (map arc_of_link (take n links)) m (arc_of_link no_link) (omega (arith, before, many)) (ap (test n) (earlier m n (arc_of_link no_link) before within) ∙ unlike)

  alike_by : (n : ℕ) → n < length links → ((m : ℕ) → m < n → are_unlike_at links m n ≡ false) → differs_at n ≡ false
  alike_by n within alike =
      let many = count n within in
      list_any_none (test n) (map arc_of_link (take n links)) (λ m d less.
      let before : m < n = omega (arith, less, many) in
      ap (test n) (earlier m n d before within) ∙ alike m before)

  -- a place before which no arc repeats another, and at which one does, if it is within the arcs
  pub first_twice : (first : ℕ) → ((m n : ℕ) → m < n → n < length links → n < first → are_unlike_at links m n ≡ false) → (first < length links → (m : ℕ) × (m < first) × (are_unlike_at links m first ≡ true)) → IsFirstTwice links first
  first_twice first alike found = record {
    fault = λ within. twice_at first within (λ n less. alike_by n (omega (arith, less, within)) (λ m before. alike m n before (omega (arith, less, within)) less)) (differs_by (found within).0 first (found within).1 within (found within).2);
    none = λ past. ap (twice_faults []) (sym (take_all (length links) links (omega arith))) ∙ none_upto (length links) (omega arith) (λ n less. alike_by n less (λ m before. alike m n before less (omega (arith, less, past))));
  }

-- ---- arcs that are unlike

unlike_parts : (x y : Link) → is_unlike x y ≡ true → (x.source ≡ y.source) × (x.target ≡ y.target) × (int_eq x.cost y.cost ≡ false)
unlike_parts x y unlike =
    let both = and_parts _ _ unlike in
    let ends = and_parts _ _ both.0 in
    (eqb-true _ _ ends.0, eqb-true _ _ ends.1, by (int_eq x.cost y.cost) both.1)
  where
    by : (b : Bool) → not b ≡ true → b ≡ false
    by true e = absurd (false≢true e)
    by false e = refl

unlike_from : (x y : Link) → x.source ≡ y.source → x.target ≡ y.target → int_eq x.cost y.cost ≡ false → is_unlike x y ≡ true
unlike_from x y source target cost = rw (eq-eqb x.source y.source source, eq-eqb x.target y.target target, cost) refl

unlike_itself : (x : Link) → is_unlike x x ≡ true → ⊥
unlike_itself x unlike = false≢true (sym (unlike_parts x x unlike).2 ∙ (Decides-int_eq x.cost x.cost).1 refl)

-- an arc between two that are unlike, with their ends, is unlike one of them
unlike_one : (x y z : Link) → is_unlike z x ≡ true → y.source ≡ x.source → y.target ≡ x.target → is_unlike z y ≡ false → is_unlike y x ≡ true
unlike_one x y z unlike source target alike =
    let parts = unlike_parts z x unlike in
    let same : z.cost ≡ y.cost =
    ⊎_elim
    (λ (yes : int_eq z.cost y.cost ≡ true). (Decides-int_eq z.cost y.cost).0 yes)
    (λ (apart : int_eq z.cost y.cost ≡ false). absurd (false≢true (sym alike ∙ unlike_from z y (parts.0 ∙ sym source) (parts.1 ∙ sym target) apart)))
    (cases_Bool (int_eq z.cost y.cost)) in
    unlike_from y x source target (ap (λ cost. int_eq cost x.cost) (sym same) ∙ parts.2)

-- ---- the order of numbers with two parts

high_le : (word a b p q : ℕ) → q < word → a * word + p ≤ b * word + q → a ≤ b
high_le word a b p q small le =
    ⊎_elim
    (λ (above : b < a).
    let next : suc b * word ≤ a * word = mul-le-mul_right word above in
    let is : suc b * word ≡ b * word + word = omega arith in
    absurd (omega (arith, next, is, small, le)))
    (λ (upto : a ≤ b). upto)
    (cases_lt b a)

low_le : (word a b p q : ℕ) → a ≡ b → a * word + p ≤ b * word + q → p ≤ q
low_le word a b p q same le = let whole : a * word ≡ b * word = ap (λ k. k * word) same in omega (arith, whole, le)

-- ---- sorted places

module _ (links : List Link) (places : List ℕ) (are : AreByEnds links places) (fits : (k : ℕ) → suc k < length places → IsFit (link_of links (get_or places k 0))) (small : (k : ℕ) → get_or places k 0 < 2 ^ 32) where
  abbrev at : ℕ → ℕ
  at k = get_or places k 0

  abbrev ends : ℕ → ℕ
  ends n = (link_of links n).source * 2 ^ 32 + (link_of links n).target

  risen : (k l : ℕ) → k ≤ l → l < length places → order_number links (at k) ≤ order_number links (at l)
  risen k l upto within = are.ascending k l 0 upto within

  ends_risen : (k l : ℕ) → k ≤ l → l < length places → ends (at k) ≤ ends (at l)
  ends_risen k l upto within = high_le (2 ^ 32) (ends (at k)) (ends (at l)) (at k) (at l) (small l) (risen k l upto within)

  places_risen : (k l : ℕ) → k ≤ l → l < length places → ends (at k) ≡ ends (at l) → at k ≤ at l
  places_risen k l upto within same = low_le (2 ^ 32) (ends (at k)) (ends (at l)) (at k) (at l) same (risen k l upto within)

  same_source : (m n : ℕ) → IsFit (link_of links m) → IsFit (link_of links n) → ends m ≡ ends n → (link_of links m).source ≡ (link_of links n).source
  same_source m n here there same =
      let up = high_le (2 ^ 32) (link_of links m).source (link_of links n).source (link_of links m).target (link_of links n).target there.target (omega (arith, same)) in
      let down = high_le (2 ^ 32) (link_of links n).source (link_of links m).source (link_of links n).target (link_of links m).target here.target (omega (arith, same)) in
      omega (arith, up, down)

  same_target : (m n : ℕ) → IsFit (link_of links m) → IsFit (link_of links n) → ends m ≡ ends n → (link_of links m).target ≡ (link_of links n).target
  same_target m n here there same =
      let source = same_source m n here there same in
      let up = low_le (2 ^ 32) (link_of links m).source (link_of links n).source (link_of links m).target (link_of links n).target source (omega (arith, same)) in
      let down = low_le (2 ^ 32) (link_of links n).source (link_of links m).source (link_of links n).target (link_of links m).target (sym source) (omega (arith, same)) in
      omega (arith, up, down)

  same_ends : (m n : ℕ) → are_unlike_at links m n ≡ true → ends m ≡ ends n
  same_ends m n unlike =
      let parts = unlike_parts (link_of links n) (link_of links m) unlike in
      (λ i. sym parts.0 i * 2 ^ 32 + sym parts.1 i)

  -- of neighbours that are unlike the second comes later
  pair_rises : (k : ℕ) → suc k < length places → are_unlike_at links (at k) (at (suc k)) ≡ true → at k < at (suc k)
  pair_rises k within unlike =
      let upto = places_risen k (suc k) (omega arith) within (same_ends (at k) (at (suc k)) unlike) in
      ⊎_elim
      (λ (less : at k < at (suc k)). less)
      (λ (over : at (suc k) ≤ at k).
      let same : at (suc k) ≡ at k = omega (arith, upto, over) in
      absurd (unlike_itself (link_of links (at k)) (subst (λ n. are_unlike_at links (at k) n ≡ true) same unlike)))
      (cases_lt (at k) (at (suc k)))

  -- between two places of arcs that are unlike stand neighbours that are, the second no later
  module _ (first : ℕ) (pairs : (k : ℕ) → suc k < length places → are_unlike_at links (at k) (at (suc k)) ≡ true → first ≤ at (suc k)) where
    reaches : (d k l : ℕ) → k + d ≡ l → l < length places → are_unlike_at links (at k) (at l) ≡ true → first ≤ at l
    reaches zero k l sum within unlike =
        let same : k ≡ l = omega (arith, sum) in
        absurd (unlike_itself (link_of links (at l)) (subst (λ j. are_unlike_at links (at j) (at l) ≡ true) same unlike))
    reaches (suc d) k l sum within unlike =
        let j = k + d in
        let next : suc j ≡ l = omega (arith, sum) in
        let before : j < length places = omega (arith, next, within) in
        let ends_are = same_ends (at k) (at l) unlike in
        let upper = fits j (omega (arith, next, within)) in
        let lower = fits k (omega (arith, next, within)) in
        let low = ends_risen k j (omega arith) before in
        let high = ends_risen j l (omega (arith, next)) within in
        let left : ends (at j) ≡ ends (at k) = omega (arith, low, high, ends_are) in
        ⊎_elim
        (λ (yes : are_unlike_at links (at j) (at l) ≡ true).
        subst (λ n. first ≤ at n) next (pairs j (subst (λ n. n < length places) (sym next) within) (subst (λ n. are_unlike_at links (at j) (at n) ≡ true) (sym next) yes)))
        (λ (alike : are_unlike_at links (at j) (at l) ≡ false).
        let there = reaches d k j refl before (unlike_one (link_of links (at k)) (link_of links (at j)) (link_of links (at l)) unlike (same_source (at j) (at k) upper lower left) (same_target (at j) (at k) upper lower left) alike) in
        let rises = places_risen j l (omega (arith, next)) within (left ∙ ends_are) in
        omega (arith, there, rises))
        (cases_Bool (are_unlike_at links (at j) (at l)))

    none_before : (m n : ℕ) → m < n → n < length links → n < first → are_unlike_at links m n ≡ false
    none_before m n before within less =
        ⊎_elim
        (λ (unlike : are_unlike_at links m n ≡ true).
        let one = are.every m (omega (arith, before, within)) in
        let other = are.every n within in
        let here : at one.0 ≡ m = get_or_default places one.0 0 m one.1 ∙ one.2 in
        let there : at other.0 ≡ n = get_or_default places other.0 0 n other.1 ∙ other.2 in
        let pair : are_unlike_at links (at one.0) (at other.0) ≡ true = (λ i. are_unlike_at links (here i) (there i)) ∙ unlike in
        let ordered : one.0 ≤ other.0 =
        ⊎_elim
        (λ (back : other.0 < one.0).
        let falls = places_risen other.0 one.0 (omega (arith, back)) one.1 (sym (same_ends (at one.0) (at other.0) pair)) in
        absurd (omega (arith, falls, here, there, before)))
        (λ (on : one.0 ≤ other.0). on)
        (cases_lt other.0 one.0) in
        let upto = reaches (other.0 - one.0) one.0 other.0 (omega (arith, ordered)) other.1 pair in
        absurd (omega (arith, upto, there, less)))
        (λ (alike : are_unlike_at links m n ≡ false). alike)
        (cases_Bool (are_unlike_at links m n))

-- ---- the least of the places seen

-- of the neighbours before a number of places, the least second of two that are unlike
pub record IsLeastOf (links : List Link) (places : List ℕ) (upto first : ℕ) : Type 0 where
  pub either : (first ≡ length links) ⊎ ((k : ℕ) × (suc k < length places) × (first ≡ get_or places (suc k) 0) × (are_unlike_at links (get_or places k 0) (get_or places (suc k) 0) ≡ true))
  pub pairs : (k : ℕ) → suc k < upto → are_unlike_at links (get_or places k 0) (get_or places (suc k) 0) ≡ true → first ≤ get_or places (suc k) 0
  pub fits : (k : ℕ) → suc k < upto → IsFit (link_of links (get_or places k 0))

-- and the next place with the one before it
module _ (links : List Link) (places : List ℕ) (first next : ℕ) where
  abbrev IsFound : ℕ → ℕ → Type 0
  IsFound j k = (next ≡ first) ⊎ ((next ≡ get_or places k 0) × IsTrue (are_unlike_at links (get_or places j 0) (get_or places k 0)))

  abbrev IsBelow : ℕ → ℕ → Type 0
  IsBelow j k = IsTrue (are_unlike_at links (get_or places j 0) (get_or places k 0)) → next ≤ get_or places k 0

  abbrev IsEither : ℕ → Type 0
  IsEither n = (n ≡ length links) ⊎ ((j : ℕ) × (suc j < length places) × (n ≡ get_or places (suc j) 0) × (are_unlike_at links (get_or places j 0) (get_or places (suc j) 0) ≡ true))

  one_more : (k : ℕ) → suc k < length places → IsLeastOf links places (suc k) first → next ≤ first → IsBelow k (suc k) → IsFound k (suc k) → IsFit (link_of links (get_or places k 0)) → IsLeastOf links places (suc k + 1) next
  one_more k within is upto below found fit = record {
    either = ⊎_elim (λ (same : next ≡ first). subst IsEither (sym same) is.either) (λ here. inr (k, within, here.0, here.1)) found;
    pairs = λ j less unlike.
        ⊎_elim
        (λ (early : suc j < suc k). let least = is.pairs j early unlike in omega (arith, least, upto))
        (λ (late : suc k ≤ suc j).
        let same : j ≡ k = omega (arith, late, less) in
        subst (λ i. next ≤ get_or places (suc i) 0) (sym same) (below (subst (λ i. are_unlike_at links (get_or places i 0) (get_or places (suc i) 0) ≡ true) same unlike)))
        (cases_lt (suc j) (suc k));
    fits = λ j less.
        ⊎_elim
        (λ (early : suc j < suc k). is.fits j early)
        (λ (late : suc k ≤ suc j). let same : j ≡ k = omega (arith, late, less) in subst (λ i. IsFit (link_of links (get_or places i 0))) (sym same) fit)
        (cases_lt (suc j) (suc k));
  }

  pub one_more_seen : (at : ℕ) → 1 ≤ at → at < length places → IsLeastOf links places at first → next ≤ first → IsBelow (at - 1) at → IsFound (at - 1) at → IsFit (link_of links (get_or places (at - 1) 0)) → IsLeastOf links places (at + 1) next
  one_more_seen zero from within is upto below found fit = absurd (omega (arith, from))
  one_more_seen (suc k) from within is upto below found fit =
      let back : suc k - 1 ≡ k = omega arith in
      one_more k within is upto (subst (λ j. IsBelow j (suc k)) back below) (subst (λ j. IsFound j (suc k)) back found) (subst (λ j. IsFit (link_of links (get_or places j 0))) back fit)

-- one more number
range_more : (a n : ℕ) → range_with_len a (suc n) ≡ range_with_len a n ++ ((a + n) ∷ [])
range_more a zero = let same : a ≡ a + 0 = omega arith in ap (λ k. k ∷ []) same
range_more a (suc n) =
    let next : a + 1 + n ≡ a + suc n = omega arith in
    ap (λ ks. a ∷ ks) (range_more (a + 1) n ∙ ap (λ k. range_with_len (a + 1) n ++ k ∷ []) next)

pub one_more_number : (n : ℕ) → range_with_len 0 n ++ n ∷ [] ≡ range_with_len 0 (n + 1)
one_more_number n =
    let next : n + 1 ≡ suc n = omega arith in
    let last : 0 + n ≡ n = omega arith in
    sym (ap (range_with_len 0) next ∙ range_more 0 n ∙ ap (λ k. range_with_len 0 n ++ k ∷ []) last)

-- all numbers up to how many arcs there are, in the order of their ends
pub by_ends : (links : List Link) (count : ℕ) (places : List ℕ) → count ≡ length links → IsPermutation (range_with_len 0 count) places → IsNonDecreasingBy (order_number links) places → AreByEnds links places
by_ends links count places whole moved ascending = record {
  each = All-permutation (λ place. place < length links) (range_with_len 0 count) places moved below;
  every = λ place within. Contains-permutation (range_with_len 0 count) places place moved (place, there place within, get_or-range_with_len 0 count place place (omega (arith, within, whole)) ∙ omega arith);
  ascending = ascending;
}
  where
    there : (place : ℕ) → place < length links → place < length (range_with_len 0 count)
    there place within = let long = length-range_with_len 0 count in omega (arith, within, whole, long)

    below : All (λ place. place < length links) (range_with_len 0 count)
    below k d less =
        let long = length-range_with_len 0 count in
        let is = get_or-range_with_len 0 count k d (omega (arith, less, long)) in
        omega (arith, is, less, long, whole)

pub all_seen : (links : List Link) (places : List ℕ) → AreByEnds links places → ((k : ℕ) → get_or places k 0 < 2 ^ 32) → (upto first : ℕ) → length places ≤ upto → IsLeastOf links places upto first → IsFirstTwice links first
all_seen links places are small upto first whole is =
    let fits : (k : ℕ) → suc k < length places → IsFit (link_of links (get_or places k 0)) = λ k within. is.fits k (omega (arith, within, whole)) in
    first_twice links first (none_before links places are fits small first (λ k within unlike. is.pairs k (omega (arith, within, whole)) unlike)) (by fits is.either)
  where
    by : ((k : ℕ) → suc k < length places → IsFit (link_of links (get_or places k 0))) → (first ≡ length links) ⊎ ((k : ℕ) × (suc k < length places) × (first ≡ get_or places (suc k) 0) × (are_unlike_at links (get_or places k 0) (get_or places (suc k) 0) ≡ true)) → first < length links → (m : ℕ) × (m < first) × (are_unlike_at links m first ≡ true)
    by fits (inl past) within = absurd (omega (arith, past, within))
    by fits (inr one) within = (get_or places one.0 0, subst (λ n. get_or places one.0 0 < n) (sym one.2) (pair_rises links places are fits small one.0 one.1 one.3), subst (λ n. are_unlike_at links (get_or places one.0 0) n ≡ true) (sym one.2) one.3)
