-- The column at the guessed place is the one that has the id.
use Rattle.asg_model.proofs.Common.{◌≡◌, ℕ, ◌<◌, true, false, List, length, IfSome, ◌==◌, slice_get, Some, Option, sym, ◌∙◌, subst, option_map_or, column_place_of, Column, no_column}
use Rattle.asg_model.proofs.Positions.{position-unique, position-there}
use Rattle.asg_model.proofs.instances.Instance.column_place.Goals as goal
use Rattle.asg_model.proofs.instances.Instance.column_place.Goals.{Then-is_column_at}

found_at_guess : (c : Then-is_column_at) → column_place_of c.args.self.now c.args.id ≡ Some c.saturating_sub-guess.result
found_at_guess c =
    let X = c.args.self.now in
    let guess = c.saturating_sub-guess.result in
    let at : option_map_or (λ column. column.id == c.args.id) (slice_get X.columns guess) false ≡ true =
    subst (λ (list : List Column). option_map_or (λ column. column.id == c.args.id) (slice_get list guess) false ≡ true) c.columns-columns.ensures.columns
    (sym c.is_column_at.ensures ∙ c.if-is_column_at.true) in
    position-unique (λ (column : Column). column.id) X.columns guess c.args.id no_column c.columns-columns.ensures.instance.well_formed.columns_differ at

pub returns-then-is_column_at-clause-place : goal.returns-then-is_column_at-clause-place
returns-then-is_column_at-clause-place c = sym (found_at_guess c)

pub returns-then-is_column_at-clause-there : goal.returns-then-is_column_at-clause-there
returns-then-is_column_at-clause-there c =
    let columns = c.args.self.now.columns in
    subst (λ (o : Option ℕ). IfSome o (λ k. k < length columns)) (found_at_guess c) (position-there (λ column. column.id == c.args.id) columns no_column)
