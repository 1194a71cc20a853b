use Rattle.asg_growth.proofs.Common.{ℕ, ◌+◌, ◌*◌, ◌%◌, ◌<◌, set, IsSome, leads_of, lead_at, Relaxes, Picks, IsWithin, AreValued, IsBoth, values_of, IsAmong, HasBit, cell_at}
use Rattle.asg_growth.proofs.scanning.scan_word.Given as goal

-- the columns whose bits are no longer in the rest were offered their keys
abbrev pub invariant-columns : goal.invariant-columns
invariant-columns g l =
    record {
      unseen : IsAmong l.rest l.number l.unseen;
      present : (i : ℕ) → i < 64 → HasBit l.rest i → IsSome (cell_at (g.S.RowSquare.as_reduced l.square).now l.row (64 * l.number + i));
      relaxed : Relaxes (g.M.Ordered.monoid_of l.m) (values_of (g.M.Ordered.monoid_of l.m) (g.S.RowSquare.as_reduced l.square).now l.row) l.sum l.place (λ k. IsBoth l.number (cell_at (g.S.RowSquare.as_reduced l.square).now l.row) l.unseen k × (HasBit l.rest (k % 64) → ⊥)) (leads_of l.fn.keys l.fn.keyed l.fn.places) (leads_of l.keys (set l.fn.keyed l.number l.word) l.places);
      valued : AreValued (g.M.Ordered.monoid_of l.m) (leads_of l.keys (set l.fn.keyed l.number l.word) l.places) l.unseen;
      picks : Picks (g.M.Ordered.monoid_of l.m) (lead_at (g.M.Ordered.monoid_of l.m) (leads_of l.keys (set l.fn.keyed l.number l.word) l.places)) (IsWithin l.number l.unseen) l.nearest;
    }

abbrev pub decreases-columns : goal.decreases-columns
decreases-columns g l = l.rest
