-- What is passed stays so, and what stands in a row of costs.
use Rattle.asg_hall_windows.proofs.Common.{◌≡◌, ℕ, true, false, List, get_or, ℤ, Some, sym, ap, ◌∙◌, subst, ⊎_elim, arith, w64, FitsSigned, fits_signed_from_abs, rules, option_map_or, slice_get-get_or, AreNamed, IsPassed, IsRowPassed, KeepsMarks, Marks, Stretch, row_place_of, is_counted_id, is_counted, is_open, Problem, absent, IsEntry, Column}
use Rattle.asg_hall_windows.proofs.MarkLemmas.{marked_on}
use Rattle.asg_values.specs.laws.LiveCells.{column-from_open}
use Rattle.asg_values.specs.laws.Options.{option_passes}

-- ---- marks that are kept

pub passed_on : (stretches : List Stretch) (named before after : Marks) (r c : ℕ) (a : ℤ) → KeepsMarks before after → IsPassed stretches named r before c a → IsPassed stretches named r after c a
passed_on stretches named before after r c a keeps passed = record {
  place = passed.place;
  lies = passed.lies;
  marked = λ w d from to has. marked_on before after c w keeps (passed.marked w d from to has);
}

pub row_passed_on : (X : Problem) (stretches : List Stretch) (named before after : Marks) (r : ℕ) → KeepsMarks before after → IsRowPassed X stretches named before r → IsRowPassed X stretches named after r
row_passed_on X stretches named before after r keeps passed c cost live = passed_on stretches named before after r c cost.a keeps (passed c cost live)

pub named_on : (X : Problem) (ids : List ℕ) (w : ℕ) (before after : Marks) → KeepsMarks before after → AreNamed X ids w before → AreNamed X ids w after
named_on X ids w before after keeps named = record {
  different = named.different;
  counted = named.counted;
  marked = λ k d within r place. marked_on before after r w keeps (named.marked k d within r place);
}

-- ---- the costs of a row

-- what is absent or in range fits 64 bits
pub entry_fits : (a : ℤ) → IsEntry a → FitsSigned w64 a
entry_fits a entry =
    ⊎_elim (λ (none : a ≡ absent). subst (FitsSigned w64) (sym none) (search rules))
    (λ near. fits_signed_from_abs w64 a (omega (arith, near))) entry

pub usable_there : (X : Problem) (c : ℕ) (d : Column) → is_open X c ≡ true → (get_or X.columns c d).usable ≡ true
usable_there X c d usable =
    sym (ap (λ o. option_map_or (λ (column : Column). column.usable) o false) (slice_get-get_or X.columns c d (column-from_open X c usable))) ∙ usable

-- ---- ids

-- an id that names a counted row has a place
pub counted_there : (X : Problem) (id : ℕ) → is_counted_id X id ≡ true → (r : ℕ) × (row_place_of X id ≡ Some r)
counted_there X id counted = let found = option_passes (is_counted X) (row_place_of X id) counted in (found.0, found.1)
