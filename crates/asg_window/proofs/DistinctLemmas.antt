-- The different grades of entries in order.
use Rattle.asg_window.proofs.Common.{◌≡◌, ℕ, ◌+◌, ◌<◌, ◌≤◌, List, [], ◌∷◌, ◌++◌, length, All, Contains, refl, subst, ⊎_elim, arith, All-nil, All-push, All-weaker, Contains-append_left, Contains-push, IsNonDecreasingBy, cases_lt, get_or_append_left, get_or_push, length_push, entry_of, entry_at, Entry, IsAscending}

-- some entry has the grade
abbrev pub IsGradeOf : List Entry → ℕ → Type 0
IsGradeOf entries grade = (k : ℕ) × (k < length entries) × ((entry_at entries k).grade ≡ grade)

-- the grades of the entries before a place, of which the last is the greatest
pub record AreGradesBefore (entries : List Entry) (place last : ℕ) (grades : List ℕ) : Type 0 where
  pub upto : All (λ grade. grade ≤ last) grades
  pub rest : (k : ℕ) → place ≤ k → k < length entries → last ≤ (entry_at entries k).grade
  pub has_last : 0 < last → Contains grades last
  pub ascending : IsAscending grades
  pub each : All (IsGradeOf entries) grades
  pub every : (k : ℕ) → k < place → Contains grades (entry_at entries k).grade

-- no entry yet
pub grades_none : (entries : List Entry) → AreGradesBefore entries 0 0 []
grades_none entries = record {
  upto = All-nil (λ grade. grade ≤ 0);
  rest = λ k from below. omega arith;
  has_last = λ some. absurd (omega (arith, some));
  ascending = λ i j less below. absurd (omega (arith, less, below));
  each = All-nil (IsGradeOf entries);
  every = λ k h. absurd (omega (arith, h));
}

-- a greater number goes to the end
ascending_push : (grades : List ℕ) (grade last : ℕ) → IsAscending grades → All (λ g. g ≤ last) grades → last < grade → IsAscending (grades ++ grade ∷ [])
ascending_push grades grade last up upto h i j less within =
    let count = length_push grades grade in
    let first = get_or_append_left grades (grade ∷ []) 0 i (omega (arith, less, within, count)) in
    ⊎_elim
    (λ (inside : j < length grades).
    let second = get_or_append_left grades (grade ∷ []) 0 j inside in
    let order = up i j less inside in
    omega (arith, first, second, order))
    (λ (from : length grades ≤ j).
    let second = get_or_push grades grade 0 j (omega (arith, from, within, count)) in
    let below = upto i 0 (omega (arith, less, within, count)) in
    omega (arith, first, second, below, h))
    (cases_lt j (length grades))

module _ (entries : List Entry) (place last : ℕ) (grades : List ℕ) (up : IsNonDecreasingBy (λ (e : Entry). e.grade) entries) (within : place < length entries) (g : AreGradesBefore entries place last grades) where
  abbrev grade : ℕ
  grade = (entry_at entries place).grade

  -- the grade of the entry at the place is the least of those that are left
  least_left : (k : ℕ) → place + 1 ≤ k → k < length entries → grade ≤ (entry_at entries k).grade
  least_left k from below = up place k (entry_of 0 0 0) (omega (arith, from)) below

  pub grades_push : last < grade → AreGradesBefore entries (place + 1) grade (grades ++ grade ∷ [])
  grades_push more = record {
    upto = All-push (λ x. x ≤ grade) grades grade (All-weaker (λ x. x ≤ last) (λ x. x ≤ grade) (λ x h. omega (arith, h, more)) grades g.upto) (omega arith);
    rest = least_left;
    has_last = λ _. Contains-push grades grade;
    ascending = ascending_push grades grade last g.ascending g.upto more;
    each = All-push (IsGradeOf entries) grades grade g.each (place, within, refl);
    every = λ k h.
        ⊎_elim
        (λ (less : k < place). Contains-append_left grades (grade ∷ []) (entry_at entries k).grade (g.every k less))
        (λ (from : place ≤ k).
        let here : place ≡ k = omega (arith, h, from) in
        subst (λ n. Contains (grades ++ grade ∷ []) (entry_at entries n).grade) here (Contains-push grades grade))
        (cases_lt k place);
  }

  pub grades_skip : 0 < grade → grade ≤ last → AreGradesBefore entries (place + 1) last grades
  grades_skip some upto =
      let least = g.rest place (omega arith) within in
      let same : last ≡ grade = omega (arith, least, upto) in
      record {
        upto = g.upto;
        rest = λ k from below. g.rest k (omega (arith, from)) below;
        has_last = g.has_last;
        ascending = g.ascending;
        each = g.each;
        every = λ k h.
            ⊎_elim
            (λ (less : k < place). g.every k less)
            (λ (from : place ≤ k).
            let here : place ≡ k = omega (arith, h, from) in
            subst (λ n. Contains grades (entry_at entries n).grade) here (subst (Contains grades) same (g.has_last (omega (arith, same, some)))))
            (cases_lt k place);
      }
