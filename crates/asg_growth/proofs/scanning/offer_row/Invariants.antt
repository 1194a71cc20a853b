use Rattle.asg_growth.proofs.Common.{◌/◌, ◌<◌, IsSome, leads_of, lead_at, Relaxes, Picks, AreNearest, AreValued, values_of, IsBelow, HasColumn, cell_at}
use Rattle.asg_growth.proofs.scanning.offer_row.Given as goal

-- the columns of the words so far were offered their keys
abbrev pub invariant-loop-number : goal.invariant-loop-number
invariant-loop-number g l =
    record {
      relaxed : Relaxes (g.M.Ordered.monoid_of l.m) (values_of (g.M.Ordered.monoid_of l.m) (g.S.RowSquare.as_reduced l.square).now l.row) l.sum l.place (λ k. (k / 64 < l.number) × IsSome (cell_at (g.S.RowSquare.as_reduced l.square).now l.row k) × HasColumn l.unseen k) (leads_of l.fn.keys l.fn.keyed l.fn.places) (leads_of l.keys l.keyed l.places);
      valued : AreValued (g.M.Ordered.monoid_of l.m) (leads_of l.keys l.keyed l.places) l.unseen;
      nearest : AreNearest (g.M.Ordered.monoid_of l.m) (leads_of l.keys l.keyed l.places) l.unseen l.nearest;
      picks : Picks (g.M.Ordered.monoid_of l.m) (lead_at (g.M.Ordered.monoid_of l.m) (leads_of l.keys l.keyed l.places)) (IsBelow l.number l.unseen) l.best;
    }
