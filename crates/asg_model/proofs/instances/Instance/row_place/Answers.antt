-- The row at the guessed place is the one that has the id.
use Rattle.asg_model.proofs.Common.{◌≡◌, ℕ, ◌<◌, true, false, List, length, IfSome, ◌==◌, slice_get, Some, Option, sym, ◌∙◌, subst, option_map_or, row_place_of, Row, no_row}
use Rattle.asg_model.proofs.Positions.{position-unique, position-there}
use Rattle.asg_model.proofs.instances.Instance.row_place.Goals as goal
use Rattle.asg_model.proofs.instances.Instance.row_place.Goals.{Then-is_row_at}

found_at_guess : (c : Then-is_row_at) → row_place_of c.args.self.now c.args.id ≡ Some c.saturating_sub-guess.result
found_at_guess c =
    let X = c.args.self.now in
    let guess = c.saturating_sub-guess.result in
    let at : option_map_or (λ row. row.id == c.args.id) (slice_get X.rows guess) false ≡ true =
    subst (λ (list : List Row). option_map_or (λ row. row.id == c.args.id) (slice_get list guess) false ≡ true) c.rows-rows.ensures.rows
    (sym c.is_row_at.ensures ∙ c.if-is_row_at.true) in
    position-unique (λ (row : Row). row.id) X.rows guess c.args.id no_row c.rows-rows.ensures.instance.well_formed.rows_differ at

pub returns-then-is_row_at-clause-place : goal.returns-then-is_row_at-clause-place
returns-then-is_row_at-clause-place c = sym (found_at_guess c)

pub returns-then-is_row_at-clause-there : goal.returns-then-is_row_at-clause-there
returns-then-is_row_at-clause-there c =
    let rows = c.args.self.now.rows in
    subst (λ (o : Option ℕ). IfSome o (λ k. k < length rows)) (found_at_guess c) (position-there (λ row. row.id == c.args.id) rows no_row)
