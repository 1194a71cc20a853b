-- Windows that prove a spread, from what one pass over the cells shows.
use Rattle.asg_hall_windows.proofs.Common.{◌≡◌, ℕ, ◌+◌, ◌-◌, ◌<◌, ◌≤◌, true, List, [], length, get_or, ℤ, pos, ◌≤ℤ◌, ◌+ℤ◌, ◌-ℤ◌, int_le, IsTrue, All, Some, arith, ints, list_any_at, AreAllNamed, FitsIn, IsHeldBy, IsPassed, IsRowPassed, IsStretch, LiesInStretch, Marks, ReachesMarked, Stretch, reached_capacity, reaches, row_place_of, slack, live_at, Problem, Band, Cost, ProvesSpread, holds_from, is_held, Window, word_count}
use Rattle.asg_model.proofs.Kit.{and_from, and_parts}
use Rattle.asg_model.specs.Bands.{in_band}
use Rattle.asg_model.specs.HallSet.{is_live_within}
use Rattle.asg_model.specs.declared.bands.Band.TheVariants.{Between}
use Rattle.asg_model.specs.laws.Rows.{row-from_active}
use Rattle.asg_values.specs.laws.Elements.{list_any-found}
use Rattle.asg_values.specs.laws.LiveCells.{live_cell}
use Rattle.asg_values.specs.laws.Options.{option_passes}

-- ---- tests of costs

le-test : (x y : ℤ) → x ≤ℤ y → int_le x y ≡ true
le-test x y le = grind (arith, ints)

test-le : (x y : ℤ) → int_le x y ≡ true → x ≤ℤ y
test-le x y e = omega (arith, ints, e)

-- ---- stretches

-- as many words as the windows need hold those of their stretches
pub fits_in : (windows : List Window) (spread : ℤ) (width : ℕ) (stretches : List Stretch) → width ≡ word_count (length windows) → All (IsStretch windows spread) stretches → All (FitsIn width) stretches
fits_in windows spread width stretches same all k d within =
    let stretch = all k d within in
    record { some = stretch.some; within = omega (arith, stretch.some, stretch.within, same); words = stretch.words }

-- a window that holds a stretch holds each of its costs
holds : (spread a : ℤ) (stretch : Stretch) (window : Window) → LiesInStretch a stretch → IsHeldBy spread stretch window → holds_from spread a window ≡ true
holds spread a stretch window inside held =
    let low : window.lo ≤ℤ a = omega (arith, ints, inside.0, held.0) in
    let high : ((a +ℤ spread) -ℤ pos 1) ≤ℤ window.hi = omega (arith, ints, inside.1, held.1) in
    and_from (int_le window.lo a) (int_le ((a +ℤ spread) -ℤ pos 1) window.hi) (le-test window.lo a low) (le-test ((a +ℤ spread) -ℤ pos 1) window.hi high)

some_stretch : Stretch
some_stretch = record { least = pos 0; most = pos 0; from = 0; to = 0; span = record { first = 0; last = 0; low = 0; high = 0 } }

module _ (X : Problem) (spread : ℤ) (windows : List Window) (stretches : List Stretch) (named reached : Marks)
    (are : All (IsStretch windows spread) stretches)
    (names : AreAllNamed X windows (length windows) named)
    (passed : (r : ℕ) → r < length X.rows → IsRowPassed X stretches named reached r)
    (short : (w : ℕ) (d : Window) (band : Band) → w < length windows → ReachesMarked X band (get_or windows w d).rows reached w
    → reached_capacity X band (get_or windows w d).rows + slack X < length (get_or windows w d).rows) where
  cell_passed : (r c : ℕ) (cost : Cost) → live_at X r c ≡ Some cost → IsPassed stretches named r reached c cost.a
  cell_passed r c cost live = passed r (row-from_active X r (live_cell X r c cost live).0) c cost live

  -- each live cost is held
  cost_held : (r c : ℕ) (cost : Cost) → live_at X r c ≡ Some cost → IsTrue (is_held windows spread cost.a)
  cost_held r c cost live =
      let cell = cell_passed r c cost live in
      let stretch = get_or stretches cell.place some_stretch in
      let is = are cell.place some_stretch cell.lies.within in
      let window : Window = record { lo = pos 0; hi = pos 0; rows = [] } in
      list_any_at (holds_from spread cost.a) windows (stretch.to - 1) window (omega (arith, is.some, is.within))
      (holds spread cost.a stretch (get_or windows (stretch.to - 1) window) (cell.lies.inside some_stretch) (is.held window))

  -- each column that the rows of a window reach is marked for it
  reaches_marked : (w : ℕ) (d : Window) → w < length windows → ReachesMarked X (Between (get_or windows w d).lo (get_or windows w d).hi) (get_or windows w d).rows reached w
  reaches_marked w d within c there reach =
      let window = get_or windows w d in
      let band = Between window.lo window.hi in
      let found = list_any-found (reaches X band c) window.rows reach in
      let row = option_passes (λ r. is_live_within X band r c) (row_place_of X (get_or window.rows found.0 0)) (found.2 0) in
      let r = row.0 in
      let cell = option_passes (λ (cost : Cost). in_band band cost.a) (live_at X r c) row.2 in
      let cost = cell.0 in
      let lies = and_parts (int_le window.lo cost.a) (int_le cost.a window.hi) cell.2 in
      let marks = cell_passed r c cost cell.1 in
      let is = are marks.place some_stretch marks.lies.within in
      let own = is.alone w d cost.a within (marks.lies.inside some_stretch) (test-le window.lo cost.a lies.0, test-le cost.a window.hi lies.1) in (
        (live_cell X r c cost cell.1).1,
        marks.marked w some_stretch own.0 own.1 ((names w d within).marked found.0 0 found.1 r row.1),
      )

  pub spread_proved : ProvesSpread X spread windows
  spread_proved = record {
    halls = λ w d within.
        let rows = names w d within in
        record {
          different = rows.different;
          counted = rows.counted;
          short = short w d (Between (get_or windows w d).lo (get_or windows w d).hi) within (reaches_marked w d within);
        };
    held = λ _. cost_held;
  }
