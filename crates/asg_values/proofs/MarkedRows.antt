-- The columns that the cells of a row mark are those in which it has a live cell of the band.
use Rattle.asg_values.proofs.Common.{◌≡◌, ℕ, Bool, true, false, ◌&&◌, ◌==◌, List, get_or, ℤ, pos, int_le, Some, sym, refl, ap, ◌∙◌, and_parts, list_any, list_any_at, option_map_or, in_band, is_live_within, is_active, is_open, cost_at, Problem, IsPartInRange, Band, Cost}
use Rattle.std.proofs.Common.{eq-eqb, eqb-true}
use Rattle.std.proofs.lemmas.Bool.{and_from}
use Rattle.asg_model.specs.CellLists.{AreRowCells}
use Rattle.asg_values.specs.Marks.{is_met_at}
use Rattle.asg_values.specs.laws.Elements.{list_any-found}
use Rattle.asg_values.specs.laws.Options.{option_passes}
use Rattle.asg_values.specs.laws.RowCells.{cell_found}
use Rattle.asg_values.proofs.Slots.{is_live_within-active}

same_tests : (b d : Bool) → (b ≡ true → d ≡ true) → (d ≡ true → b ≡ true) → b ≡ d
same_tests true d there back = sym (there refl)
same_tests false true there back = back refl
same_tests false false there back = refl

module _ (X : Problem) (r : ℕ) (cells : List ((ℕ × ℕ) × Cost)) (are : AreRowCells X r cells) (band : Band) (low high : ℤ) (ends : (a : ℤ) → IsPartInRange a → in_band band a ≡ (int_le low a && int_le a high)) (active : is_active X r ≡ true) (c : ℕ) where
  abbrev none : (ℕ × ℕ) × Cost
  none = ((0, 0), record { a = pos 0; b = pos 0 })

  marked_live : list_any (is_met_at X.columns low high c) cells ≡ true → is_live_within X band r c ≡ true
  marked_live told =
      let found = list_any-found (is_met_at X.columns low high c) cells told in
      let cell = get_or cells found.0 none in
      let parts = and_parts (cell.0.1 == c) _ (found.2 none) in
      let more = and_parts (is_open X c) (int_le low cell.1.a && int_le cell.1.a high) parts.1 in
      let column = eqb-true cell.0.1 c parts.0 in
      let range = are.in_range found.0 none found.1 in
      let cost : cost_at X.cells r c ≡ Some cell.1 = ap (cost_at X.cells r) (sym column) ∙ are.each found.0 none found.1 in
      is_live_within-active X band r c active
      ∙ (λ i. more.0 i && option_map_or (λ (cost : Cost). in_band band cost.a) (cost i) false)
      ∙ ends cell.1.a range.a_in_range ∙ more.1

  live_marked : is_live_within X band r c ≡ true → list_any (is_met_at X.columns low high c) cells ≡ true
  live_marked told =
      let parts = and_parts (is_open X c) (option_map_or (λ (cost : Cost). in_band band cost.a) (cost_at X.cells r c) false) (sym (is_live_within-active X band r c active) ∙ told) in
      let passes = option_passes (λ (cost : Cost). in_band band cost.a) (cost_at X.cells r c) parts.1 in
      let found = cell_found cells r c passes.0 (sym (are.costs c) ∙ passes.1) in
      let cell = get_or cells found.at none in
      let is = found.is none in
      let range = are.in_range found.at none found.within in
      let cost : cell.1 ≡ passes.0 = ap (λ (cell : (ℕ × ℕ) × Cost). cell.1) is in
      let between : (int_le low cell.1.a && int_le cell.1.a high) ≡ true = sym (ends cell.1.a range.a_in_range) ∙ ap (λ (x : Cost). in_band band x.a) cost ∙ passes.2 in
      list_any_at (is_met_at X.columns low high c) cells found.at none found.within
      (and_from (cell.0.1 == c) _ (eq-eqb cell.0.1 c (ap (λ (cell : (ℕ × ℕ) × Cost). cell.0.1) is)) (and_from (is_open X c) _ parts.0 between))

  pub marks_are_live : list_any (is_met_at X.columns low high c) cells ≡ is_live_within X band r c
  marks_are_live = same_tests (list_any (is_met_at X.columns low high c) cells) (is_live_within X band r c) marked_live live_marked
