use Rattle.asg_algebra.proofs.given.assign_given.Goals as goal

pub returns-in-Ok-Some-clause-assigned : goal.returns-in-Ok-Some-clause-assigned
returns-in-Ok-Some-clause-assigned g c =
    let solved = rw c.in-Ok-Some.field-0-is at c.in-Ok-Some.ensures.solved in
    record {
      after = g.M.Square.RowSquare.as_reduced c.in-Ok-Some.square;
      solved = solved;
      ends = λ rows. (rw c.in-Ok-Some.field-0-is at (c.in-Ok-Some.ensures.ends rows));
      presence = c.into_square.ensures;
    }
