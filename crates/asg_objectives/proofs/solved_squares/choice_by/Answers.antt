use Rattle.asg_objectives.proofs.Common.{◌≡◌, sym, ap, ◌∙◌, subst, arith, IsChoiceBy, IsPerm, IsValidWithin, grid_choice}
use Rattle.asg_objectives.proofs.MatchedColumns.{IfOk-both, IsPerm-matched}
use Rattle.asg_objectives.proofs.solved_squares.choice_by.Goals as goal

pub columns_of-requires : goal.columns_of-requires
columns_of-requires g c r h = c.requires.all r (omega (arith, h, c.requires.rows))

pub choice_of-requires : goal.choice_of-requires
choice_of-requires g c =
    let Q = c.args.square in
    let found = c.in_ok-columns in
    let perm = IsPerm-matched Q c.args.matching.now found.columns.items c.requires found.ensures.count found.ensures.columns in
    record { perm = subst (IsPerm Q) (sym c.as_slice.ensures.value) perm }

pub returns : goal.returns
returns g c =
    let Q = c.args.square in
    let m = c.args.matching.now in
    let found = c.in_ok-columns in
    let columns = found.columns.items in
    IfOk-both c.choice_of.result (λ f. f ≡ grid_choice Q c.as_slice.result.now) (IsValidWithin Q) (IsChoiceBy Q m)
    (λ f is valid. record {
      columns = columns;
      over = found.ensures.count;
      matched = found.ensures.columns;
      perm = IsPerm-matched Q m columns c.requires found.ensures.count found.ensures.columns;
      chosen = is ∙ ap (grid_choice Q) c.as_slice.ensures.value;
      valid = valid;
    })
    c.choice_of.ensures.choice c.choice_of.ensures.valid
