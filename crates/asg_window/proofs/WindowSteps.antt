-- Windows that hold the grades of a list one after the other.
use Rattle.asg_window.proofs.Common.{◌≡◌, ℕ, ◌+◌, ◌-◌, ◌<◌, ◌≤◌, List, [], ◌∷◌, ◌++◌, length, get_or, pos, IsTrue, All, sym, subst, ⊎_elim, arith, All-nil, All-push, cases_lt, cost_of, Problem, is_held, Window, Grid, IsWindowBy, IsBandWindow, AddsWindow, IsAscending, ShowLeast, Gap}
use Rattle.asg_window.proofs.GapLemmas.{chained_holds, chained_some, chained_first}
use Rattle.asg_window.proofs.WindowLemmas.{window_holds, held_last, held_more}

-- the windows hold the first grades of the list, and those that lie below the reach
pub record AreHeld (X : Problem) (Q : Grid ℕ) (gaps : List Gap) (grades : List ℕ) (spread : ℕ) (windows : List Window) (number place reach : ℕ) : Type 0 where
  pub halls : All (IsBandWindow X Q) windows
  pub held : (k : ℕ) → k < number → IsTrue (is_held windows (pos spread) (cost_of (get_or grades k 0)))
  pub reached : (k : ℕ) → number ≤ k → k < length grades → get_or grades k 0 < reach → IsTrue (is_held windows (pos spread) (cost_of (get_or grades k 0)))
  pub within : (k : ℕ) → number ≤ k → k < length grades → place < length gaps
  pub begun : (k : ℕ) (d : Gap) → number ≤ k → k < length grades → (get_or gaps place d).low ≤ get_or grades k 0

module _ (X : Problem) (Q : Grid ℕ) (gaps : List Gap) (grades : List ℕ) (spread low : ℕ) (shown : ShowLeast Q gaps low spread) (fit : All (λ v. (1 ≤ v) × (v < low)) grades) (up : IsAscending grades) where
  pub held_none : AreHeld X Q gaps grades spread [] 0 0 0
  held_none = record {
    halls = All-nil (IsBandWindow X Q);
    held = λ k h. absurd (omega (arith, h));
    reached = λ k from below h. absurd (omega (arith, h));
    within = λ k from below. let both = fit k 0 below in chained_some gaps low spread (get_or grades k 0) shown.chained both.0 both.1;
    begun = λ k d from below.
        let both = fit k 0 below in
        let some = chained_some gaps low spread (get_or grades k 0) shown.chained both.0 both.1 in
        let first = chained_first gaps low spread d shown.chained some in
        let least = both.0 in
        omega (arith, first, least);
  }

  module _ (windows : List Window) (number place reach : ℕ) (here : number < length grades) (h : AreHeld X Q gaps grades spread windows number place reach) where
    abbrev grade : ℕ
    grade = get_or grades number 0

    later : (k : ℕ) → number ≤ k → k < length grades → grade ≤ get_or grades k 0
    later k from below =
        ⊎_elim
        (λ (less : number < k). let order = up number k less below in omega (arith, order))
        (λ (upto : k ≤ number). let same : number ≡ k = omega (arith, from, upto) in subst (λ n. grade ≤ get_or grades n 0) same (omega arith))
        (cases_lt number k)

    -- a grade below the reach is held
    pub held_skip : grade < reach → AreHeld X Q gaps grades spread windows (number + 1) place reach
    held_skip below = record {
      halls = h.halls;
      held = λ k less.
          ⊎_elim
          (λ (before : k < number). h.held k before)
          (λ (from : number ≤ k). let same : number ≡ k = omega (arith, less, from) in subst (λ n. IsTrue (is_held windows (pos spread) (cost_of (get_or grades n 0)))) same (h.reached number (omega arith) here below))
          (cases_lt k number);
      reached = λ k from within less. h.reached k (omega (arith, from)) within less;
      within = λ k from within. h.within k (omega (arith, from)) within;
      begun = λ k d from within. h.begun k d (omega (arith, from)) within;
    }

    module _ (after : List Window) (next : ℕ) (gap : Gap) (adds : AddsWindow X Q gaps grade windows after next) where
      last_gap : Gap
      last_gap = get_or gaps next gap

      abbrev window : Window
      window = adds.window

      is_window : IsWindowBy X Q (get_or gaps next gap).low (get_or gaps next gap).high window
      is_window = adds.is gap

      reaches : grade + spread ≤ (get_or gaps next gap).high
      reaches = let both = fit number 0 here in chained_holds gaps low spread next grade gap shown.chained adds.within (adds.last low both.1)

      -- the new window holds each grade from this one on that it reaches
      holds_now : (v : ℕ) → grade ≤ v → v + spread ≤ (get_or gaps next gap).high → IsTrue (is_held (windows ++ window ∷ []) (pos spread) (cost_of v))
      holds_now v from upto =
          let begun = adds.begun gap in
          held_last windows window (pos spread) (cost_of v)
          (window_holds X Q (get_or gaps next gap).low (get_or gaps next gap).high v spread window is_window (omega (arith, begun, from)) upto)

      held_pushed : (reached : ℕ) → reached ≡ (get_or gaps next gap).high - spread + 1 → AreHeld X Q gaps grades spread (windows ++ window ∷ []) (number + 1) next reached
      held_pushed reached is = record {
        halls = All-push (IsBandWindow X Q) windows window h.halls (record { low = (get_or gaps next gap).low; high = (get_or gaps next gap).high; is = is_window });
        held = λ k less.
            ⊎_elim
            (λ (before : k < number). held_more windows window (pos spread) (cost_of (get_or grades k 0)) (h.held k before))
            (λ (from : number ≤ k). let same : number ≡ k = omega (arith, less, from) in subst (λ n. IsTrue (is_held (windows ++ window ∷ []) (pos spread) (cost_of (get_or grades n 0)))) same (holds_now grade (omega arith) reaches))
            (cases_lt k number);
        reached = λ k from below less.
            let order = later k (omega (arith, from)) below in
            let enough = reaches in
            holds_now (get_or grades k 0) order (omega (arith, less, is, enough));
        within = λ k from below. adds.within;
        begun = λ k d from below.
            let order = later k (omega (arith, from)) below in
            let begun = adds.begun d in
            omega (arith, order, begun);
      }

      pub held_add : (reached : ℕ) → reached ≡ (get_or gaps next gap).high - spread + 1 → AreHeld X Q gaps grades spread after (number + 1) next reached
      held_add reached is = subst (λ xs. AreHeld X Q gaps grades spread xs (number + 1) next reached) (sym adds.pushed) (held_pushed reached is)
