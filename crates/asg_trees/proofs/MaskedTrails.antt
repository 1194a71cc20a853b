-- The square of a child after its parent's trail.
use Rattle.asg_trees.proofs.Common.{◌≡◌, ℕ, ◌<◌, List, Option, sym, ap, ◌∙◌, subst, BitTable, has_bit, HasSize, from_kept, masked_by, Problem, square_side, Word, PhaseOf, AreAdmittedPhases, HasSide-phases, child, masked, keeps_cell, square_cell, Grid, cell_at, masked_grid, IsTrailSquare, TreeOf}
use Rattle.asg_proof.specs.Steps.{HasSide}
use Rattle.asg_rankings.specs.laws.MaskedSquares.{AreAdmittedPhases-masked, square_cell-child, after_phases-child}
use Rattle.asg_proof.specs.laws.Squares.{HasSide-square_cell}

-- ---- the square of a child

module _ {V : Type 0} (T : TreeOf V) (Y : Problem) (trail : List (PhaseOf Word)) (Q : Grid V) (index : V) (s : IsTrailSquare T Y trail Q index) where
  -- a square after a trail has its side
  pub trail_side : HasSide Q.side (cell_at Q)
  trail_side =
      let has = HasSide-phases T.monoid T.difference (square_side Y) s.admitted.phases (square_cell Y T.monoid.unit T.enter) (HasSide-square_cell Y T.monoid.unit T.enter) in
      subst (λ n. HasSide n (cell_at Q)) (sym s.labels.side) (subst (HasSide (square_side Y)) (sym s.cells) has)

  module _ (f : List (Option ℕ)) (branch : ℕ) (bits : BitTable) (size : HasSize (square_side Y) bits) (each : (r k : ℕ) → r < square_side Y → k < square_side Y → has_bit bits r k ≡ keeps_cell Y f branch r k) where
    -- with the cells that a branch keeps it is that of the child
    pub child_square : IsTrailSquare T (child Y f branch) trail (masked_grid Q bits.words) index
    child_square =
        let M = T.monoid in
        let keep = keeps_cell Y f branch in
        let phases = s.admitted.phases in
        let sized : HasSize Q.side bits = subst (λ n. HasSize n bits) (sym s.labels.side) size in
        let kept : (r k : ℕ) → r < Q.side → k < Q.side → has_bit bits r k ≡ keep r k = λ r k hr hk. each r k (subst (λ n. r < n) s.labels.side hr) (subst (λ n. k < n) s.labels.side hk) in
        let is = masked_by Q bits keep sized kept trail_side in
        record {
          admitted = record {
            phases = phases;
            written = s.admitted.written;
            admitted = subst (AreAdmittedPhases M T.difference (square_side Y) phases) (sym (square_cell-child Y M.unit T.enter f branch))
                (AreAdmittedPhases-masked M T.difference (square_side Y) keep phases (square_cell Y M.unit T.enter) s.admitted.admitted);
          };
          labels = record { side = s.labels.side; rows = s.labels.rows; row_labels = s.labels.row_labels; column_labels = s.labels.column_labels };
          cells = is ∙ ap (masked keep) s.cells ∙ sym (after_phases-child M T.difference T.enter Y f branch phases);
          product = s.product;
          values = λ r k x hr hk at. s.values r k x hr hk (from_kept (keep r k) (cell_at Q r k) x (sym (ap (λ square. square r k) is) ∙ at));
          is_value = s.is_value;
        }
