-- Where all rows are placed, the capacity that rows reach is the number of columns of the square in
-- which they have cells: so a Hall set is told from the square, either way.
use Rattle.std.proofs.Common.{◌≡◌, ◌≢◌, ◌↔◌, ℕ, ◌+◌, ◌-◌, ◌<◌, Bool, true, false, ◌&&◌, ◌||◌, cond, List, [], ◌∷◌, length, refl, arith, sym, ap, subst, ◌∙◌}
use Rattle.std.specs.Prelude.{Option, Some, None, IsTrue, All}
use Rattle.std.specs.List.{list_any, enumerate_from}
use Rattle.std.specs.Option.{option_map_or}
use Rattle.std.proofs.lemmas.Bool.{false≢true, lt-ltb}
use Rattle.std.proofs.lemmas.List.Elements.{All-head, All-tail}
use Rattle.asg_model.specs.declared.bands.Band.TheVariants.{Whole}
use Rattle.asg_model.specs.declared.parts.Place.TheVariants.{All as PlaceAll}
use Rattle.asg_model.specs.Counts.{active_count, placed_by, counted_by, is_counted, total_capacity, slack}
use Rattle.asg_model.specs.HallSet.{row_place_of, is_live_within, reaches, is_reached, reached_capacity, is_counted_id, IsHall}
use Rattle.asg_model.specs.Instances.{IsPlaceInRange}
use Rattle.asg_model.specs.Problem.{Problem}
use Rattle.asg_model.specs.Shapes.{square_side}
use Rattle.asg_model.specs.Sums.{sum_below, count_below, one}
use Rattle.asg_model.specs.laws.Counting.{sum_below-same, sum_below-zero}
use Rattle.asg_square.specs.HallColumns.{TellsCells, is_met, met_count, OutnumberColumns}
use Rattle.asg_square.specs.Labels.{row_label, column_label, copies}
use Rattle.asg_cell_tables.specs.LabelledCells.{leaves_rows, is_labelled_within}
use Rattle.asg_square.specs.laws.Copies.{count-copies, count-labels}
use Rattle.asg_square.specs.laws.Rows.{row-from_counted, rows_within, copies_within}

list_any_same : (f g : ℕ → Bool) (P : ℕ → Type 0) → ((x : ℕ) → P x → f x ≡ g x) → (xs : List ℕ) → All P xs → list_any f xs ≡ list_any g xs
list_any_same f g P same [] all = refl
list_any_same f g P same (x ∷ xs) all =
    ap (λ b. b || list_any f xs) (same x (All-head P x xs all)) ∙ ap (λ b. g x || b) (list_any_same f g P same xs (All-tail P x xs all))

list_any_never : (xs : List ℕ) → list_any (λ _. false) xs ≡ false
list_any_never [] = refl
list_any_never (x ∷ xs) = list_any_never xs

module _ (X : Problem) (all : X.place ≡ PlaceAll) (has : ℕ → ℕ → Bool) (tells : TellsCells X has) (ids : List ℕ) where
  abbrev label_met : Option ℕ → Bool
  label_met None = false
  label_met (Some d) = is_reached X Whole ids d

  labels_met : count_below (λ k. label_met (column_label X k)) (square_side X) ≡ reached_capacity X Whole ids
  labels_met =
      let within = copies_within X in
      let extra = square_side X - total_capacity X in
      let side : square_side X ≡ total_capacity X + extra = omega arith in
      let whole = ap (count_below (λ k. label_met (column_label X k))) side ∙ count-labels X label_met extra in
      let zeros = sum_below-zero extra in
      let reached = count-copies (is_reached X Whole ids) (enumerate_from 0 X.columns) in
      omega (arith, whole, zeros, reached)

  abbrev by_label : ℕ → Option ℕ → Bool
  by_label id None = false
  by_label id (Some d) = reaches X Whole d id

  labelled : (id r : ℕ) (o : Option ℕ) → row_place_of X id ≡ Some r → is_labelled_within X Whole (Some r) o ≡ by_label id o
  labelled id r None e = ap leaves_rows all
  labelled id r (Some d) e = sym (ap (λ p. option_map_or (λ s. is_live_within X Whole s d) p false) e)

  each : (k : ℕ) → k < square_side X → (id : ℕ) → IsTrue (is_counted_id X id) → option_map_or (λ r. has r k) (row_place_of X id) false ≡ by_label id (column_label X k)
  each k below id counted = by (row_place_of X id) refl
    where
      at : (r : ℕ) → row_place_of X id ≡ Some r → is_counted X r ≡ true → has r k ≡ by_label id (column_label X k)
      at r e is =
          let few = rows_within X (subst (λ place. IsPlaceInRange X place) (sym all) tt) in
          let there = row-from_counted X X.place r is in
          let label : row_label X r ≡ Some r = ap (λ b. cond b (Some r) None) is in
          let inside : r < square_side X = omega (arith, few, there) in
          tells r k inside below
          ∙ (λ i. lt-ltb r (square_side X) inside i && lt-ltb k (square_side X) below i && is_labelled_within X Whole (label i) (column_label X k))
          ∙ labelled id r (column_label X k) e

      by : (p : Option ℕ) → row_place_of X id ≡ p → option_map_or (λ r. has r k) (row_place_of X id) false ≡ by_label id (column_label X k)
      by None e = absurd (false≢true (sym (ap (λ p. option_map_or (is_counted X) p false) e) ∙ counted))
      by (Some r) e =
          ap (λ p. option_map_or (λ s. has s k) p false) e
          ∙ at r e (sym (ap (λ p. option_map_or (is_counted X) p false) e) ∙ counted)

  by_labels : (o : Option ℕ) → list_any (λ id. by_label id o) ids ≡ label_met o
  by_labels None = list_any_never ids
  by_labels (Some d) = refl

  -- the reached capacity is the number of columns of the square in which the rows have cells
  pub reached_by_square : All (λ id. IsTrue (is_counted_id X id)) ids → met_count X has ids ≡ reached_capacity X Whole ids
  reached_by_square counted =
      sum_below-same (λ k. one (is_met X has ids k)) (λ k. one (label_met (column_label X k))) (square_side X)
      (λ k below. ap one (list_any_same _ (λ id. by_label id (column_label X k)) (λ id. IsTrue (is_counted_id X id)) (each k below) ids counted ∙ by_labels (column_label X k)))
      ∙ labels_met

  no_slack : slack X ≡ 0
  no_slack =
      let e : slack X ≡ active_count X - active_count X = ap (λ place. counted_by place (active_count X) (length X.rows) - placed_by place (active_count X)) all in
      omega (arith, e)

  -- a Hall set, either way
  pub hall_by_square : IsHall X Whole ids ↔ OutnumberColumns X has ids
  hall_by_square = (
    λ hall. record { different = hall.different; counted = hall.counted; short = omega (arith, hall.short, reached_by_square hall.counted) },
    λ more. record { different = more.different; counted = more.counted; short = omega (arith, more.short, reached_by_square more.counted, no_slack) },
  )
