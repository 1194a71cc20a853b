use Rattle.asg_algebra.proofs.Common.{None, sym, ◌∙◌}
use Rattle.asg_algebra.proofs.SolvedLaws.{ArePushed-list}
use Rattle.asg_algebra.proofs.TakenLaws.{HasSolved-led, KeepsRows-perfect}
use Rattle.asg_algebra.proofs.given.end_by.Goals as goal

pub returns-clause-solved : goal.returns-clause-solved
returns-clause-solved g c =
    let lead = c.take_phases.ensures c.if-not-take_phases.false in
    HasSolved-led lead c.args.matching.now c.match_columns.new.matching c.requires.few tt c.match_columns.ensures

pub returns-clause-ends : goal.returns-clause-ends
returns-clause-ends g c = λ rows.
    let lead = c.take_phases.ensures c.if-not-take_phases.false in
    let after = g.S.RowSquare.as_reduced c.take_phases.new.square in
    KeepsRows-perfect (g.M.Ordered.monoid_of c.args.m.now) after c.args.matching.now c.match_columns.new.matching (c.requires.matching_side ∙ sym lead.labels.side) c.match_columns.ensures (c.is_perfect.ensures c.if-not-is_perfect.false)

pub match_columns-requires-clause-reduced : goal.match_columns-requires-clause-reduced
match_columns-requires-clause-reduced g c =
    let lead = c.take_phases.ensures c.if-not-take_phases.false in
    lead.reduced

pub match_columns-requires-clause-side : goal.match_columns-requires-clause-side
match_columns-requires-clause-side g c =
    let lead = c.take_phases.ensures c.if-not-take_phases.false in
    c.requires.matching_side ∙ sym lead.labels.side

pub match_columns-requires-clause-absorbed : goal.match_columns-requires-clause-absorbed
match_columns-requires-clause-absorbed g c = λ r k matched. absurd (c.requires.empty r k matched)

pub returns-clause-list : goal.returns-clause-list
returns-clause-list g c =
    let lead = c.take_phases.ensures c.if-not-take_phases.false in
    ArePushed-list c.args.given.now c.args.region.now c.take_phases.new.region None c.take_phases.new.last lead.pushed
