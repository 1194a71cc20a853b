-- The square of an instance before any step.
use Rattle.std.proofs.Common.{◌≡◌, ◌<◌, sym, subst, ◌∙◌}
use Rattle.asg_model.specs.declared.parts.Cost.{Cost}
use Rattle.asg_model.specs.Problem.{Problem}
use Rattle.asg_order.specs.Monoid.{Monoid, IsValue, IsOrderedMonoid}
use Rattle.asg_square.specs.Grid.{IsSquareOf}
use Rattle.asg_proof.specs.PhaseProofs.{EntersValues}
use Rattle.asg_proof.specs.laws.Squares.{HasValues-square_cell}
use Rattle.asg_admit.specs.declared.reduced.Reduced.{Reduced}
use Rattle.asg_replays.specs.Replays.{IsStart}

module _ {V : Type 0} (M : Monoid V) (laws : IsOrderedMonoid M) (enter : Cost → V) (X : Problem) where
  -- the square of the instance is reduced by nothing
  pub start_of : (start : Reduced V) → EntersValues M enter X → IsSquareOf X M.unit enter start.now → start.index ≡ M.unit → IsStart M enter X start
  start_of start live square unit = record {
    square = square;
    index = unit;
    reduced = record {
      cells = λ r k x hr hk at.
          HasValues-square_cell M laws enter X live r k x (subst (λ side. r < side) square.labels.side hr) (subst (λ side. k < side) square.labels.side hk) (sym (square.cells r k) ∙ at);
      index = subst (IsValue M) (sym unit) laws.unit_is_value;
    };
  }
