-- Entries of live cells, row by row.
use Rattle.asg_live_cells.proofs.Common.{◌≡◌, ℕ, ◌+◌, ◌*◌, ◌/◌, ◌%◌, ◌<◌, ◌≤◌, true, ◌⊎◌, List, [], ◌∷◌, ◌++◌, Some, All, Contains, sym, ap, ◌∙◌, subst, inl, inr, ⊎_elim, arith, lt-ltb, All-push, Contains-append_left, Contains-push, bit_at, cases_eq, cases_lt, false≢true, same_Some, is_bit_set, HasBit, without_bit, HasBit-zero, HasBit-without, HasBit-without_other, bit_of, of_bit, entry_of, IsEntryOf, IsUnder, IsBefore, AddsEntry, AreEntriesBefore, is_under, Entry, Grid, cell_at}
use Rattle.asg_live_cells.proofs.UnderLemmas.{past_none}

-- a place with a live cell of a grade under the limit, whose entry is added
pub adds_one : (Q : Grid ℕ) (limit row column grade : ℕ) (entries : List Entry) → row < Q.side → column < Q.side → 0 < grade → grade < limit → cell_at Q row column ≡ Some grade → AddsEntry Q limit row column entries (entries ++ entry_of grade row column ∷ [])
adds_one Q limit row column grade entries row_in column_in some low here = record {
  each = λ h. All-push (IsEntryOf Q) entries (entry_of grade row column) h (record { row_below = row_in; column_below = column_in; live = some; cell = here });
  under = λ h. All-push (IsUnder limit) entries (entry_of grade row column) h low;
  kept = λ e h. Contains-append_left entries (entry_of grade row column ∷ []) e h;
  here = λ g live under cell.
      let same : grade ≡ g = same_Some grade g (sym here ∙ cell) in
      subst (λ x. Contains (entries ++ entry_of grade row column ∷ []) (entry_of x row column)) same (Contains-push entries (entry_of grade row column));
}

-- entries of all live cells with a grade under a limit before the end of a word of a row, but of
-- those of some bits of the word
pub record AreEntriesBut (Q : Grid ℕ) (limit row number rest : ℕ) (entries : List Entry) : Type 0 where
  pub each : All (IsEntryOf Q) entries
  pub under : All (IsUnder limit) entries
  pub inside : (k : ℕ) → k < 64 → HasBit rest k → 64 * number + k < Q.side
  pub every : (r c grade : ℕ) → r < Q.side → c < Q.side → IsBefore r c row (64 * number + 64) → 0 < grade → grade < limit
      → cell_at Q r c ≡ Some grade → Contains entries (entry_of grade r c) ⊎ ((r ≡ row) × (c / 64 ≡ number) × HasBit rest (c % 64))

-- of the bits of all cells under the limit
pub but_first : (Q : Grid ℕ) (limit row number word : ℕ) (entries : List Entry) → ((k : ℕ) → k < 64 → is_bit_set word k ≡ is_under limit (cell_at Q row (64 * number + k))) → AreEntriesBefore Q limit row (64 * number) entries → AreEntriesBut Q limit row number word entries
but_first Q limit row number word entries bits e = record {
  each = e.each;
  under = e.under;
  inside = λ k h has.
      inside_by (64 * number + k) (sym (bits k h) ∙ of_bit (bit_at word k) has);
  every = λ r c grade row_below column_below before live under cell.
      ⊎_elim
      (λ (h : r < row). inl (e.every r c grade row_below column_below (inl h) live under cell))
      (λ (h : (r ≡ row) × (c < 64 * number + 64)).
      ⊎_elim
      (λ (early : c < 64 * number). inl (e.every r c grade row_below column_below (inr (h.0, early)) live under cell))
      (λ (late : 64 * number ≤ c).
      let end = h.1 in
      let place : 64 * number + c % 64 ≡ c = omega (arith, end, late) in
      let there = subst (λ s. cell_at Q s c ≡ Some grade) h.0 cell in
      let set = bits (c % 64) (omega arith) ∙ ap (λ d. is_under limit (cell_at Q row d)) place ∙ ap (is_under limit) there ∙ lt-ltb grade limit under in
      inr (h.0, omega (arith, end, late), bit_of (bit_at word (c % 64)) set))
      (cases_lt c (64 * number)))
      before;
}
  where
    inside_by : (c : ℕ) → is_under limit (cell_at Q row c) ≡ true → c < Q.side
    inside_by c e =
        ⊎_elim
        (λ (less : c < Q.side). less)
        (λ (more : Q.side ≤ c). absurd (false≢true (sym (ap (is_under limit) (past_none Q row c more)) ∙ e)))
        (cases_lt c Q.side)

-- without one bit more, whose cell was added
pub but_more : (Q : Grid ℕ) (limit row number rest k : ℕ) (before after : List Entry) → k < 64 → AddsEntry Q limit row (64 * number + k) before after → AreEntriesBut Q limit row number rest before → AreEntriesBut Q limit row number (without_bit rest k) after
but_more Q limit row number rest k before after h adds so = record {
  each = adds.each so.each;
  under = adds.under so.under;
  inside = λ i low has. so.inside i low (HasBit-without rest k i h has).0;
  every = λ r c grade row_below column_below earlier live under cell.
      ⊎_elim
      (λ had. inl (adds.kept (entry_of grade r c) had))
      (λ (w : (r ≡ row) × (c / 64 ≡ number) × HasBit rest (c % 64)).
      ⊎_elim
      (λ (same : c % 64 ≡ k).
      let number_is = w.1 in
      let place : 64 * number + k ≡ c = omega (arith, same, number_is) in
      let there : cell_at Q row (64 * number + k) ≡ Some grade = subst (λ d. cell_at Q row d ≡ Some grade) (sym place) (subst (λ s. cell_at Q s c ≡ Some grade) w.0 cell) in
      inl
      (subst (λ d. Contains after (entry_of grade r d)) place
      (subst (λ s. Contains after (entry_of grade s (64 * number + k))) (sym w.0) (adds.here grade live under there))))
      (λ other. inr (w.0, w.1, HasBit-without_other rest k (c % 64) h (omega arith) w.2 other))
      (cases_eq (c % 64) k))
      (so.every r c grade row_below column_below earlier live under cell);
}

-- of no bit
pub but_none : (Q : Grid ℕ) (limit row number rest : ℕ) (entries : List Entry) → rest ≡ 0 → AreEntriesBut Q limit row number rest entries → AreEntriesBefore Q limit row (64 * number + 64) entries
but_none Q limit row number rest entries zero so = record {
  each = so.each;
  under = so.under;
  every = λ r c grade row_below column_below before live under cell.
      ⊎_elim (λ had. had) (λ w. absurd (HasBit-zero (c % 64) (subst (λ n. HasBit n (c % 64)) zero w.2))) (so.every r c grade row_below column_below before live under cell);
}
