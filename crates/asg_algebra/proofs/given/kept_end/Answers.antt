use Rattle.asg_algebra.proofs.Common.{IfSome, IsTrue, None, sym, ap, ◌∙◌, subst, IsReduced, last_of, HasSolved, AreAdmittedPhases, cell_at}
use Rattle.asg_algebra.proofs.given.kept_end.Goals as goal

pub end_in_room-requires-clause-reduced : goal.end_in_room-requires-clause-reduced
end_in_room-requires-clause-reduced g c =
    subst (IsReduced (g.M.Ordered.monoid_of c.args.m.now)) (sym c.in_ok-square.ensures) c.requires.reduced

pub end_in_room-requires-clause-matching_side : goal.end_in_room-requires-clause-matching_side
end_in_room-requires-clause-matching_side g c =
    c.requires.matching_side ∙ sym (ap (λ d. d.now.side) c.in_ok-square.ensures)

pub end_in_room-requires-clause-region_side : goal.end_in_room-requires-clause-region_side
end_in_room-requires-clause-region_side g c =
    c.requires.region_side ∙ sym (ap (λ d. d.now.side) c.in_ok-square.ensures)

pub end_in_room-requires-clause-known : goal.end_in_room-requires-clause-known
end_in_room-requires-clause-known g c =
    subst (λ d. IsTrue c.in_ok-are_known.are_known → AreAdmittedPhases (g.M.Ordered.monoid_of c.args.m.now) (g.M.DMonoid.difference c.args.m.now) d.now.side c.args.given.now (cell_at d.now)) (sym c.in_ok-square.ensures) c.in_ok-are_known.ensures

pub returns-clause-solved : goal.returns-clause-solved
returns-clause-solved g c =
    let new = c.end_in_room.new in
    subst (λ d. IfSome c.end_in_room.result (λ s. HasSolved (g.M.Ordered.monoid_of c.args.m.now) (g.M.DMonoid.difference c.args.m.now) d (g.M.Square.RowSquare.as_reduced s.0) c.args.matching.now new.matching c.args.region.now new.region None (last_of s.1))) c.in_ok-square.ensures c.end_in_room.ensures.solved
