-- Deficient rows of a band, and the next grade that helps them.
use Rattle.asg_window.proofs.Common.{◌≡◌, ℕ, ◌<◌, ◌≤◌, List, IsTrue, All, sym, ap, subst, ⊎_elim, arith, All-contains, cases_eq, cases_lt, BitTable, has_bit, entry_of, entry_at, AreEntries, IsPlaceOf, IsMarked, Entry, place_of_entry, HasColumn, IsColumnOf, IsDeficient, Grid, IsWithin, MarksWithin, IsRowMarked, Reaches, AreReachedBelow, GetNoColumn}
use Rattle.asg_window.specs.declared.next_grades.Reached.{Reached}

-- columns of rows by marks are columns of theirs within the band
column_within : (Q : Grid ℕ) (low high : ℕ) (B : BitTable) (rows : List ℕ) (c : ℕ) → MarksWithin Q low high B → IsColumnOf (λ r c. IsTrue (has_bit B r c)) rows c → IsColumnOf (IsWithin Q low high) rows c
column_within Q low high B rows c marks of = (of.0, of.1, (marks of.0 c).0 of.2)

-- up to the next grade the rows get no column
pub GetNoColumn-next : (Q : Grid ℕ) (entries : List Entry) (low high end next : ℕ) (B : BitTable) (rows : List ℕ) (reached : Reached) → AreEntries Q entries → MarksWithin Q low high B → IsPlaceOf entries high end → Reaches B rows reached → AreReachedBelow entries end reached next → GetNoColumn Q low high next rows
GetNoColumn-next Q entries low high end next B rows reached e marks p reaches below r c of w =
    ⊎_elim
    (λ (free : w.grade ≡ 0).
    (r, of, record { row = w.row; column = w.column; grade = w.grade; cell = w.cell; inside = λ some. absurd (omega (arith, free, some)) }))
    (λ some.
    let live : 0 < w.grade = omega (arith, some) in
    let at = place_of_entry entries (entry_of w.grade r c) (e.every r c w.grade w.row w.column live w.cell) in
    let grade : (entry_at entries at.0).grade ≡ w.grade = ap (λ (x : Entry). x.grade) at.2 in
    let inside = w.inside live in
    let high_in = inside.1 in
    ⊎_elim
    (λ (before : at.0 < end).
    let less = p.below at.0 before in
    (r, of, record { row = w.row; column = w.column; grade = w.grade; cell = w.cell; inside = λ _. (inside.0, omega (arith, less, grade)) }))
    (λ (from : end ≤ at.0).
    let marked = subst (IsRowMarked reached) (sym (ap (λ (x : Entry). x.row) at.2)) (All-contains (IsRowMarked reached) rows r reaches.marked of) in
    let has = below at.0 from at.1 (omega (arith, grade, high_in)) marked in
    let column = subst (HasColumn reached.columns.items) (ap (λ (x : Entry). x.column) at.2) has in
    column_within Q low high B rows c marks (reaches.columns c column))
    (cases_lt at.0 end))
    (cases_eq w.grade 0)

-- rows that get no column stay deficient
pub IsDeficient-next : (Q : Grid ℕ) (low high next : ℕ) (rows : List ℕ) → GetNoColumn Q low high next rows → IsDeficient (IsWithin Q low high) Q.side rows → IsDeficient (IsWithin Q low next) Q.side rows
IsDeficient-next Q low high next rows none s = record {
  below = s.below;
  apart = s.apart;
  few = record { columns = s.few.columns; fewer = s.few.fewer; all = λ c of. s.few.all c (none of.0 c of.1 of.2) };
}

-- rows that are deficient by marks are so within the band
pub IsDeficient-marks : (Q : Grid ℕ) (low high side : ℕ) (B : BitTable) (rows : List ℕ) → side ≡ Q.side → MarksWithin Q low high B → IsDeficient (IsMarked B side) side rows → IsDeficient (IsWithin Q low high) Q.side rows
IsDeficient-marks Q low high side B rows same marks s = record {
  below = subst (λ n. All (λ r. r < n) rows) same s.below;
  apart = s.apart;
  few = record { columns = s.few.columns; fewer = s.few.fewer; all = λ c of. let w = of.2 in s.few.all c (of.0, of.1, record { row = subst (λ n. of.0 < n) (sym same) w.row; column = subst (λ n. c < n) (sym same) w.column; bit = (marks of.0 c).1 w }) };
}
