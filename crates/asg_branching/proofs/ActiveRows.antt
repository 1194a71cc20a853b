-- How many active rows there are.
use Rattle.asg_branching.proofs.Common.{◌≡◌, ℕ, ◌<◌, true, length, sym, ap, ◌∙◌, arith, active_count, placed, placed_by, is_active, Problem, count_below, row-from_active, counted_total}
use Rattle.asg_square.specs.laws.Bijections.{rank-less}
use Rattle.asg_model.specs.declared.parts.Place.TheVariants.{All as PlaceAll}

module _ (X : Problem) (all : X.place ≡ PlaceAll) where
  -- all active rows are placed
  pub active_total : count_below (is_active X) (length X.rows) ≡ placed X
  active_total = counted_total X PlaceAll ∙ ap (λ place. placed_by place (active_count X)) (sym all)

  -- an active row has fewer active rows before it than there are
  pub active_less : (row made : ℕ) → is_active X row ≡ true → count_below (is_active X) row ≡ made → made < placed X
  active_less row made active number =
      let total = active_total in
      let less = rank-less (is_active X) row (length X.rows) (row-from_active X row active) active in
      omega (arith, number, less, total)
