use Rattle.asg_window.proofs.Common.{◌≡◌, ℕ, ◌+◌, ◌<◌, Some, sym, ap, ◌∙◌, subst, grade_of, free_grade, square_side, choice_value, Balanced, ProvesWindows, choice_of, entered_or_free, grid_choice, rows_within}
use Rattle.asg_window.proofs.AssignmentLemmas.{IsPerm-within}
use Rattle.asg_window.proofs.ValueLemmas.{value_is}
use Rattle.asg_window.proofs.outcomes.best.Goals as goal

pub returns-clause-outcome : goal.returns-clause-outcome
returns-clause-outcome c =
    let X = c.args.inst.now in
    let Q = c.args.cells.now.square.now in
    let square = c.requires.square in
    let i = c.rows-rows.ensures.instance in
    let s = c.requires.least.spread in
    let perm = c.args.least.now.perm.items in
    let f = c.in_ok-choice.choice in
    let is_perm = IsPerm-within Q s.low (s.low + c.args.least.now.spread + 1) perm s.within in
    let inside = c.grid_law.ensures.within X free_grade grade_of Q square in
    let choice : f ≡ choice_of X perm = c.in_ok-choice.ensures.choice ∙ ap (grid_choice Q) c.as_slice.ensures.value ∙ c.grid_law.ensures.choice X Q perm i inside is_perm in
    let assigns = (c.grid_law.ensures.perms X free_grade grade_of Q perm square).0 is_perm in
    let valid = (c.square_law.ensures.choices X free_grade grade_of f i).1 (perm, assigns, sym choice) in
    let values = λ (r : ℕ) (h : r < square_side X). c.square_law.ensures.values X free_grade grade_of perm r assigns h ∙ ap (λ g. Some (entered_or_free X free_grade grade_of g r)) (sym choice) in
    let value = value_is X Q i square perm f valid values (rows_within X i.well_formed.place_in_range) c.args.least.now.spread s in
    record {
      valid = valid;
      proved = subst (ProvesWindows Balanced X (choice_value Balanced X f)) (sym c.from_vec.ensures)
          (subst (λ v. ProvesWindows Balanced X v c.in_ok-windows.windows.items) (sym value) c.in_ok-windows.ensures.proof);
    }
