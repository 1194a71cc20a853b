-- Which row an id names.
use Rattle.std.proofs.Common.{◌≡◌, ℕ, ◌<◌, ◌==◌, Bool, true, false, cond, length, get_or, Some, None, Option, option_and_then, sym, refl, ap, ◌∙◌}
use Rattle.std.proofs.lemmas.Bool.Decides.{Decides-eqb}
use Rattle.std.proofs.lemmas.Option.{none-some, same_Some}
use Rattle.std.proofs.lemmas.List.Quantifiers.{position-Some}
use Rattle.asg_model.specs.Counts.{is_counted}
use Rattle.asg_model.specs.HallSet.{row_place_of}
use Rattle.asg_model.specs.Problem.{Problem}
use Rattle.asg_model.specs.laws.Rows.{no_row}

-- the row at the place of an id has that id
pub id_at_place : (X : Problem) (id r : ℕ) → row_place_of X id ≡ Some r → (r < length X.rows) × ((get_or X.rows r no_row).id ≡ id)
id_at_place X id r e =
    let found = position-Some (λ row. row.id == id) X.rows r no_row e in
    (found.0, (Decides-eqb _ id).0 found.1)

-- the place of a counted row that an id names
pub counted_row : (X : Problem) (o : Option ℕ) (row : ℕ) → option_and_then (λ r. cond (is_counted X r) (Some r) None) o ≡ Some row → (o ≡ Some row) × (is_counted X row ≡ true)
counted_row X None row e = absurd (none-some row e)
counted_row X (Some r) row e = by_count (is_counted X r) refl e
  where
    by_count : (b : Bool) → is_counted X r ≡ b → cond b (Some r) None ≡ Some row → (Some r ≡ Some row) × (is_counted X row ≡ true)
    by_count true is e = (e, ap (is_counted X) (sym (same_Some r row e)) ∙ is)
    by_count false is e = absurd (none-some row e)
