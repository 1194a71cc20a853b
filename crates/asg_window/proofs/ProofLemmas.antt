-- Windows of bands prove a spread.
use Rattle.asg_window.proofs.Common.{ℕ, ◌<◌, ◌≤◌, List, pos, IsTrue, All, sym, refl, subst, arith, All-contains, All-weaker, grade_of, free_grade, cost_of, AreEntries, Entry, IsInstance, Problem, Between, is_held, IsHallWindow, ProvesSpread, Window, first_part_in_range, Grid, IsSquareOf, IsBandWindow, AreGradesOf, IsLeast}
use Rattle.asg_window.specs.declared.gaps.Least.{Least}
use Rattle.asg_window.proofs.CostLemmas.{grade_listed, grades_fit, spread_fits}
use Rattle.asg_window.proofs.SquareBands.{IsBandOf, IsBandOf-between, AllowsCells-within}

module _ (X : Problem) (Q : Grid ℕ) (i : IsInstance X) (square : IsSquareOf X free_grade grade_of Q) where
  -- the rows of a window of a band are a Hall set of its costs
  band_hall : (w : Window) → IsBandWindow X Q w → IsHallWindow X w
  band_hall w b =
      let by = b.is in
      let band : IsBandOf (Between w.lo w.hi) b.low b.high =
      subst (λ z. IsBandOf (Between z w.hi) b.low b.high) (sym by.lo)
      (subst (λ z. IsBandOf (Between (cost_of b.low) z) b.low b.high) (sym by.hi) (IsBandOf-between b.low b.high)) in
      by.rows X (Between w.lo w.hi) refl refl refl (AllowsCells-within b.low b.high (Between w.lo w.hi) band X (first_part_in_range X i) Q square)

  module _ (entries : List Entry) (e : AreEntries Q entries) (grades : List ℕ) (g : AreGradesOf entries grades) where
    pub ProvesSpread-windows : (windows : List Window) (spread : ℕ) → All (IsBandWindow X Q) windows → All (λ v. IsTrue (is_held windows (pos spread) (cost_of v))) grades → ProvesSpread X (pos spread) windows
    ProvesSpread-windows windows spread halls held = record {
      halls = All-weaker (IsBandWindow X Q) (IsHallWindow X) band_hall windows halls;
      held = λ _ r c cost live.
          let listed = grade_listed X Q i square entries e grades g r c cost live in
          subst (λ v. IsTrue (is_held windows (pos spread) v)) listed.1
          (All-contains (λ v. IsTrue (is_held windows (pos spread) (cost_of v))) grades (grade_of cost) held listed.0);
    }

    -- the grades lie within the chain of gaps
    pub grades_in_chain : (least : Least) (l : IsLeast Q least) → 0 < least.spread → All (λ v. (1 ≤ v) × (v < l.low)) grades
    grades_in_chain least l some k d h =
        let fit = grades_fit X Q i square entries e grades g k d h in
        let upto = fit.1 in
        let few = spread_fits X Q i square entries e grades g least.perm.items least.spread l.spread in
        let all = l.all some in
        (fit.0, omega (arith, upto, few, all))
