use Rattle.asg_thresh.proofs.Common.{◌≡◌, ℕ, ◌<◌, Some, sym, ap, ◌∙◌, subst, arith, GivesHallSets, square_side, choice_of, entered_or_free, Grid, IsPerm, grid_choice, rows_within, grade_of, free_grade, no_grade, IsUnder}
use Rattle.asg_thresh.proofs.GradeLemmas.{grades_are, perm_graded}
use Rattle.asg_thresh.proofs.OutcomeLemmas.{IsHall-whole, IsPerm-upto, ProvesBelow-least}
use Rattle.asg_thresh.proofs.outcomes.outcome.Goals as goal

pub returns-then-found-eq-NO_GRADE-clause-outcome : goal.returns-then-found-eq-NO_GRADE-clause-outcome
returns-then-found-eq-NO_GRADE-clause-outcome c =
    let X = c.args.inst.now in
    let s = c.requires.square in
    let Q : Grid ℕ = record c.args.square.now { cells = s.cells } in
    let grades = grades_are Q c.args.square.now c.args.grades.now c.requires.count s.graded c.requires.grades in
    IsHall-whole X c.args.objective Q c.args.grades.now c.rows-rows.ensures.instance s.square grades c.in_ok-rows.rows
    (subst (λ n. GivesHallSets X (IsUnder c.args.grades.now Q.side n) c.in_ok-rows.rows) c.if-found-eq-NO_GRADE.true c.in_ok-rows.ensures)

pub hall_ids-requires-clause-labels : goal.hall_ids-requires-clause-labels
hall_ids-requires-clause-labels c =
    let labels = c.requires.square.square.labels in
    record { side = labels.side; rows = labels.rows; row_labels = labels.row_labels; column_labels = labels.column_labels }

pub choice_of-requires : goal.choice_of-requires
choice_of-requires c =
    let X = c.args.inst.now in
    let s = c.requires.square in
    let A = c.args.square.now in
    let Q : Grid ℕ = record A { cells = s.cells } in
    let grades = grades_are Q A c.args.grades.now c.requires.count s.graded c.requires.grades in
    let within : c.args.found.now.limit < no_grade = omega (arith, c.requires.limit, c.if-found-eq-NO_GRADE.false) in
    let perm = IsPerm-upto X c.args.objective Q c.args.grades.now c.rows-rows.ensures.instance s.square grades c.args.found.now.perm.items c.args.found.now.limit within (c.requires.least.assignment within) in
    record { perm = subst (IsPerm A) (sym c.as_slice.ensures.value) (perm_graded A s.cells c.args.found.now.perm.items s.graded perm) }

pub returns-clause-outcome : goal.returns-clause-outcome
returns-clause-outcome c =
    let X = c.args.inst.now in
    let s = c.requires.square in
    let Q : Grid ℕ = record c.args.square.now { cells = s.cells } in
    let grades = grades_are Q c.args.square.now c.args.grades.now c.requires.count s.graded c.requires.grades in
    let enter = grade_of c.args.objective in
    let i = c.rows-rows.ensures.instance in
    let perm = c.args.found.now.perm.items in
    let limit = c.args.found.now.limit in
    let f = c.in_ok-choice.choice in
    let within : limit < no_grade = omega (arith, c.requires.limit, c.if-found-eq-NO_GRADE.false) in
    let a = c.requires.least.assignment within in
    let is_perm = IsPerm-upto X c.args.objective Q c.args.grades.now i s.square grades perm limit within a in
    let inside = c.grid_law.ensures.within X free_grade enter Q s.square in
    let choice : f ≡ choice_of X perm = c.in_ok-choice.ensures.choice ∙ ap (grid_choice Q) c.as_slice.ensures.value ∙ c.grid_law.ensures.choice X Q perm i inside is_perm in
    let assigns = (c.grid_law.ensures.perms X free_grade enter Q perm s.square).0 is_perm in
    let valid = (c.square_law.ensures.choices X free_grade enter f i).1 (perm, assigns, sym choice) in
    let values = λ (r : ℕ) (h : r < square_side X). c.square_law.ensures.values X free_grade enter perm r ((c.grid_law.ensures.perms X free_grade enter Q perm s.square).0 is_perm) h ∙ ap (λ g. Some (entered_or_free X free_grade enter g r)) (sym choice) in
    record {
      valid = valid;
      proved = ProvesBelow-least c.args.objective X Q c.args.grades.now perm limit f c.in_ok-rows.rows c.requires.objective i s.square grades within a valid (rows_within X i.well_formed.place_in_range) values c.in_ok-rows.ensures
          (λ b hall better. c.bottleneck_law.ensures X b c.in_ok-rows.rows f hall valid better)
          (λ b hall better. c.bottleneck_max_law.ensures X b c.in_ok-rows.rows f hall valid better);
    }
