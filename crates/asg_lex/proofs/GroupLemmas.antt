-- Perfect matchings by marked cells, and marks without those of one cost.
use Rattle.asg_lex.proofs.Common.{◌≡◌, ℕ, ◌+◌, ◌<◌, Bool, true, false, cond, ◌≢◌, List, [], map, length, get_or, is_some, IsSome, Some, None, Option, AllPairs, sym, refl, ap, ◌∙◌, subst, arith, false≢true, get_or-map, get_or-range_with_len, length-map, length-range_with_len, none-some, range_with_len, same_Some, BitTable, has_bit, bit_square, first_square, square_now, IsUnderway, LeavesOut, Work, IsMarked, MarksFewer, Entry, column_at, Matches, IsPerfect, Some-from_test, bounded_difference, level_sums, numbers_of, after_phases, IsAssignment}
use Rattle.std.proofs.Common.{unwrap_or}

-- the columns of the rows as a list
abbrev pub columns_of : ℕ → List (Option ℕ) → List ℕ
columns_of side m = map (λ r. unwrap_or (column_at m r) 0) (range_with_len 0 side)

module _ (side : ℕ) (m : List (Option ℕ)) where
  length-columns : length (columns_of side m) ≡ side
  length-columns = length-map (range_with_len 0 side) (λ r. unwrap_or (column_at m r) 0) ∙ length-range_with_len 0 side

  column_is : (r d : ℕ) → r < side → get_or (columns_of side m) r d ≡ unwrap_or (column_at m r) 0
  column_is r d h =
      let inside : r < length (range_with_len 0 side) = omega (arith, h, length-range_with_len 0 side) in
      get_or-map (λ r. unwrap_or (column_at m r) 0) (range_with_len 0 side) r 0 d inside
      ∙ ap (λ s. unwrap_or (column_at m s) 0) (here (get_or-range_with_len 0 side r 0 h))
    where
      here : {n : ℕ} → n ≡ 0 + r → n ≡ r
      here e = omega (arith, e)

  module _ (allows : ℕ → ℕ → Type 0) (perfect : IsPerfect allows side m) where
    matches_column : (r d : ℕ) → r < side → Matches m r (get_or (columns_of side m) r d)
    matches_column r d h =
        let found = Some-from_test (column_at m r) (perfect.all r h) in
        subst (Matches m r) (sym (column_is r d h ∙ ap (λ o. unwrap_or o 0) found.1)) found.1

    columns_apart : AllPairs ◌≢◌ (columns_of side m)
    columns_apart i j d before within e =
        let hj : j < side = subst (λ n. j < n) length-columns within in
        let hi : i < side = omega (arith, before, hj) in
        let same = perfect.columns.apart i j (get_or (columns_of side m) j d) (subst (Matches m i) e (matches_column i d hi)) (matches_column j d hj) in
        absurd (omega (arith, same, before))

    -- they are a perfect assignment of each square with cells where it is allowed
    pub assignment_of : {V : Type 0} (square : ℕ → ℕ → Option V) → ((r c : ℕ) → allows r c → IsSome (square r c)) → IsAssignment square side (columns_of side m)
    assignment_of square there = record {
      over = length-columns;
      apart = columns_apart;
      present = λ r h. there r (get_or (columns_of side m) r 0) (perfect.cells r (get_or (columns_of side m) r 0) (matches_column r 0 h));
    }

bit_there : (b d : Bool) → d ≡ true → is_some {T = ℕ} (cond b (Some 0) (cond d (Some 1) None)) ≡ true
bit_there true d e = refl
bit_there false true e = refl
bit_there false false e = absurd (false≢true e)

-- a matching that is perfect by cells of the bits for 1 is a perfect assignment of the square
pub perfect_of : (side : ℕ) (m : List (Option ℕ)) (zeros ones : BitTable) → IsPerfect (IsMarked ones side) side m → (p : List ℕ) × IsAssignment (bit_square zeros ones) side p
perfect_of side m zeros ones perfect =
    (columns_of side m, assignment_of side m (IsMarked ones side) perfect (bit_square zeros ones) (λ r c marked. bit_there (has_bit zeros r c) (has_bit ones r c) marked.bit))

zero_bit : (b d : Bool) → cond {A = Option ℕ} b (Some 0) (cond d (Some 1) None) ≡ Some 0 → b ≡ true
zero_bit true d e = refl
zero_bit false true e = let same : 1 ≡ 0 = same_Some 1 0 e in absurd (omega (arith, same))
zero_bit false false e = absurd (none-some 0 e)

-- with no phase the cells of the bits for 0 are marked
pub marked_none : (side : ℕ) (before : BitTable) (work : Work) (entries : List Entry) (from to : ℕ) → IsUnderway side work → work.phases.items ≡ [] → MarksFewer before work.zeros entries from to → LeavesOut side before work.marks.bits entries from to
marked_none side before work entries from to u none fewer r c =
    let same : square_now work r c ≡ first_square work r c = ap (λ items. after_phases level_sums bounded_difference (numbers_of items) (first_square work) r c) none in (
      λ marked.
          let zero = zero_bit (has_bit work.zeros r c) (has_bit work.ones r c) (sym same ∙ (u.marks r c).0 marked) in
          let both = (fewer r c).0 zero in
          (record { row = marked.row; column = marked.column; bit = both.0 }, both.1),
      λ h.
          let zero = (fewer r c).1 (h.0.bit, h.1) in
          (u.marks r c).1 (same ∙ ap (λ b. cond {A = Option ℕ} b (Some 0) (cond (has_bit work.ones r c) (Some 1) None)) zero),
    )
