use Rattle.asg_objectives.proofs.Common.{◌^◌, subst, arith, LeadTo, square_side, time_entered, square_cell}
use Rattle.asg_objectives.proofs.TableGrades.{lead_few, lead_proves}
use Rattle.asg_objectives.proofs.table_grades.proved_grades.Goals as goal

pub returns-clause-outcome : goal.returns-clause-outcome
returns-clause-outcome c =
    let X = c.args.inst.now in
    let listed = rw c.in-Some.is at c.in_ok-listed.ensures in
    let lead = subst (λ ws. LeadTo (2 ^ 120) (square_side X) (square_cell X (0, 0) time_entered) ws c.in-Some.index) c.as_slice.ensures.items (listed (2 ^ 120) (omega arith)) in
    let yes = c.if-not-has_fold.false in
    record {
      valid = c.has_fold.ensures.valid yes;
      proved = lead_proves X c.args.phases c.in-Some.index lead c.args.choice (c.has_fold.ensures.fold yes);
    }

pub returns-clause-phases : goal.returns-clause-phases
returns-clause-phases c =
    let X = c.args.inst.now in
    let listed = rw c.in-Some.is at c.in_ok-listed.ensures in
    let lead = subst (λ ws. LeadTo (2 ^ 120) (square_side X) (square_cell X (0, 0) time_entered) ws c.in-Some.index) c.as_slice.ensures.items (listed (2 ^ 120) (omega arith)) in
    lead_few X c.args.phases c.in-Some.index lead
    (let e = c.len.ensures.count in omega (arith, e, c.side.ensures.side))
