-- Matchings from which cells are taken.
use Rattle.asg_lex.proofs.Common.{◌≡◌, ℕ, ◌+◌, ◌<◌, ◌≤◌, ◌⊎◌, List, is_some, Option, sym, ap, subst, inl, inr, ⊎_elim, arith, cases_eq, BitTable, Frees, FreesNamed, IsNamedRow, entry_at, IsMarked, MarksFewer, Entry, column_at, Matches, IsMatched, IsPerfect, AllAllowed, Some-from_test}

-- one entry more
pub named_more : (before middle after : List (Option ℕ)) (entries : List Entry) (from place : ℕ) → from ≤ place → FreesNamed before middle entries from place → Frees middle after (entry_at entries place).row (entry_at entries place).column → FreesNamed before after entries from (place + 1)
named_more before middle after entries from place past so frees = record {
  only = λ r c h. so.only r c (frees.only r c h);
  gone = λ r c named h.
      ⊎_elim
      (λ (same : named.place ≡ place).
      let there : Matches after (entry_at entries named.place).row (entry_at entries named.place).column =
      subst (λ d. Matches after (entry_at entries named.place).row d) (sym named.column) (subst (λ s. Matches after s c) (sym named.row) h) in
      frees.gone (subst (λ k. Matches after (entry_at entries k).row (entry_at entries k).column) same there))
      (λ other.
      let early = named.before in
      so.gone r c (record { place = named.place; after = named.after; before = omega (arith, early, other); row = named.row; column = named.column }) (frees.only r c h))
      (cases_eq named.place place);
  kept = λ r c h.
      ⊎_elim
      (λ (still : Matches middle r c).
      ⊎_elim
      (λ (row : r ≡ (entry_at entries place).row).
      ⊎_elim
      (λ (column : c ≡ (entry_at entries place).column). inr (record { place = place; after = past; before = omega arith; row = sym row; column = sym column }))
      (λ other. inl (frees.kept r c still (λ _ column. other column)))
      (cases_eq c (entry_at entries place).column))
      (λ other. inl (frees.kept r c still (λ row _. other row)))
      (cases_eq r (entry_at entries place).row))
      (λ named. inr (let early = named.before in record { place = named.place; after = named.after; before = omega (arith, early); row = named.row; column = named.column }))
      (so.kept r c h);
}

module _ (side : ℕ) (before after : List (Option ℕ)) (marks zeros : BitTable) (entries : List Entry) (from to : ℕ)
    (perfect : IsPerfect (IsMarked marks side) side before) (freed : FreesNamed before after entries from to) (fewer : MarksFewer marks zeros entries from to)
  where
    -- what is still matched is still marked
    pub freed_cells : AllAllowed (IsMarked zeros side) after
    freed_cells r c h =
        let marked = perfect.cells r c (freed.only r c h) in
        record { row = marked.row; column = marked.column; bit = (fewer r c).1 (marked.bit, λ named. freed.gone r c named h) }

    -- and only rows of the entries may be without a column
    pub freed_named : (r : ℕ) → r < side → IsMatched after r ⊎ IsNamedRow entries from to r
    freed_named r h =
        let found = Some-from_test (column_at before r) (perfect.all r h) in
        ⊎_elim (λ still. inl (ap is_some still)) (λ named. inr (named.place, named.after, named.before, named.row)) (freed.kept r found.0 found.1)
