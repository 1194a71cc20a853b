use Rattle.asg_objectives.proofs.Common.{◌^◌, length, sym, ap, ◌∙◌, subst, arith, LeadTo, cell_at}
use Rattle.asg_objectives.proofs.ListedGrades.{list_few, list_proves}
use Rattle.asg_objectives.proofs.listed_grades.tested_outcome.Goals as goal

pub returns-clause-outcome : goal.returns-clause-outcome
returns-clause-outcome c =
    let Q = c.args.square.now in
    let listed = rw c.in-Some.is at c.in_ok-listed.ensures in
    let lead = subst (λ ws. LeadTo (2 ^ 120) Q.side (cell_at Q) ws c.in-Some.index) c.as_slice.ensures.items (listed (2 ^ 120) (omega arith)) in
    let yes = c.if-not-has_fold.false in
    record {
      valid = c.has_fold.ensures.valid yes;
      proved = list_proves c.args.inst.now Q c.requires.square c.args.phases c.in-Some.index lead c.in_ok-choice.choice (c.has_fold.ensures.fold yes);
    }

pub returns-clause-phases : goal.returns-clause-phases
returns-clause-phases c =
    let Q = c.args.square.now in
    let listed = rw c.in-Some.is at c.in_ok-listed.ensures in
    let lead = subst (λ ws. LeadTo (2 ^ 120) Q.side (cell_at Q) ws c.in-Some.index) c.as_slice.ensures.items (listed (2 ^ 120) (omega arith)) in
    list_few c.args.inst.now Q c.requires.square c.args.phases c.in-Some.index lead
    (let e = c.len.ensures.count in omega (arith, e, c.side.ensures.side))
