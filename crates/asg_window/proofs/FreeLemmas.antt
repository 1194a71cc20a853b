-- Marks for free cells, row by row.
use Rattle.asg_window.proofs.Common.{◌≡◌, ℕ, ◌+◌, ◌<◌, ◌≤◌, true, false, Some, sym, ◌∙◌, subst, inl, inr, ⊎_elim, arith, cases_eq, cases_lt, false≢true, BitTable, has_bit, PutsBit, IsBefore, before_next, Grid, cell_at, MarksWithin, MarksFreeBefore}
use Rattle.asg_live_cells.specs.laws.Puts.{put_more}

-- no mark, before the first place
pub free_none : (Q : Grid ℕ) (B : BitTable) → ((r c : ℕ) → has_bit B r c ≡ false) → MarksFreeBefore Q 0 0 B
free_none Q B clear r c = (
  λ h. absurd (false≢true (sym (clear r c) ∙ h)),
  λ h. absurd (⊎_elim (λ less. omega arith) (λ both. let less = both.1 in omega arith) h.2),
)

-- the next row
pub free_row : (Q : Grid ℕ) (row : ℕ) (B : BitTable) → MarksFreeBefore Q row Q.side B → MarksFreeBefore Q (row + 1) 0 B
free_row Q row B marks r c = (
  λ h.
      let at = (marks r c).0 h in
      (at.0, at.1, ⊎_elim (λ less. inl (omega (arith, less))) (λ here. let same = here.0 in inl (omega (arith, same))) at.2, at.3),
  λ h.
      (marks r c).1 (
        h.0,
        h.1,
        ⊎_elim
            (λ (upto : r < row + 1). ⊎_elim (λ (less : r < row). inl less) (λ (more : row ≤ r). inr (omega (arith, upto, more), h.1)) (cases_lt r row))
            (λ here. let past = here.1 in absurd (omega arith))
            h.2,
        h.3,
      ),
)

before_kept : (r c row column : ℕ) → IsBefore r c row column → IsBefore r c row (column + 1)
before_kept r c row column b = ⊎_elim (λ less. inl less) (λ both. let less = both.1 in inr (both.0, omega (arith, less))) b

-- a place with a free cell, which is marked
pub free_put : (Q : Grid ℕ) (row column : ℕ) (B after : BitTable) → row < Q.side → column < Q.side → cell_at Q row column ≡ Some 0 → MarksFreeBefore Q row column B → PutsBit B after row column true → MarksFreeBefore Q row (column + 1) after
free_put Q row column B after row_in column_in here marks p r c =
    let put = put_more B after row column p r c in (
      λ h.
          ⊎_elim
          (λ had. let at = (marks r c).0 had in (at.0, at.1, before_kept r c row column at.2, at.3))
          (λ same. (
            subst (λ s. s < Q.side) (sym same.0) row_in,
            subst (λ d. d < Q.side) (sym same.1) column_in,
            inr (same.0, let column_same = same.1 in omega (arith, column_same)),
            subst (λ s. cell_at Q s c ≡ Some 0) (sym same.0) (subst (λ d. cell_at Q row d ≡ Some 0) (sym same.1) here),
          ))
          (put.0 h),
      λ h.
          ⊎_elim
          (λ before. put.1 (inl ((marks r c).1 (h.0, h.1, before, h.3))))
          (λ same. put.1 (inr same))
          (before_next r c row column h.2),
    )

-- a place without one
pub free_skip : (Q : Grid ℕ) (row column : ℕ) (B : BitTable) → (cell_at Q row column ≡ Some 0 → ⊥) → MarksFreeBefore Q row column B → MarksFreeBefore Q row (column + 1) B
free_skip Q row column B none marks r c = (
  λ h. let at = (marks r c).0 h in (at.0, at.1, before_kept r c row column at.2, at.3),
  λ h.
      ⊎_elim
      (λ before. (marks r c).1 (h.0, h.1, before, h.3))
      (λ same. absurd (none (subst (λ d. cell_at Q row d ≡ Some 0) same.1 (subst (λ s. cell_at Q s c ≡ Some 0) same.0 h.3))))
      (before_next r c row column h.2),
)

-- the free cells of all rows are those of the band without grades
pub free_all : (Q : Grid ℕ) (B : BitTable) → MarksFreeBefore Q Q.side 0 B → MarksWithin Q 1 1 B
free_all Q B marks r c = (
  λ h.
      let at = (marks r c).0 h in
      record { row = at.0; column = at.1; grade = 0; cell = at.3; inside = λ some. absurd (omega (arith, some)) },
  λ w.
      let free : w.grade ≡ 0 =
      ⊎_elim (λ e. e)
      (λ some. let both = w.inside (omega (arith, some)) in let low = both.0 in let high = both.1 in absurd (omega (arith, low, high)))
      (cases_eq w.grade 0) in
      (marks r c).1 (w.row, w.column, inl w.row, subst (λ g. cell_at Q r c ≡ Some g) free w.cell),
)
