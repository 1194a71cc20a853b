-- What verdicts tell of windows: the first that is no Hall set, and their least gap.
use Rattle.asg_check.proofs.Common.{◌≡◌, ℕ, suc, ◌<◌, ◌≤◌, Bool, true, false, ◌⊎◌, List, [], ◌∷◌, length, get_or, ℤ, pos, negsuc, ◌≤ℤ◌, ◌<ℤ◌, IfSome, unsigned_abs, FitsSigned, Some, None, All, Option, MatchOption, sym, refl, ap, ◌∙◌, subst, inl, inr, arith, All-cons, All-head, All-nil, All-tail, Bool-discrete, by_lt_z, dec→stable, false≢true, ints, of_iff, same_Some, slice_get-get_or, slice_get_within, live_parts, IsLeastGap, IsNoHallAt, LeaveGapAt, StandsOn, IsLiveCost, IsInstance, Problem, choice_value, Objective, Balanced, Value, One, cost_reach, is_spread_objective, IsHallWindow, ProvesWindows, is_held, Window, At, AtParts, IsNoLater, Overall, Spot, IsToldOf, Tells, NotHall, WindowGap, Verdict, No, Yes, dec_there, no_part, tested_part, Nowhere, Tested, w64, not}
use Rattle.asg_model.specs.ValueRange.{IsValueInRange}
use Rattle.asg_order.specs.Entering.{IsWithin}
use Rattle.asg_proof.specs.laws.LiveCosts.{lies_within}
use Rattle.asg_check.proofs.WindowGaps.{part_holds, parts_live}

-- ---- windows that are no Hall sets

module _ (X : Problem) (windows : List Window) where
  -- Hall sets of their bands stand nowhere
  pub halls_nowhere : All (IsHallWindow X) windows → Nowhere (AtParts (IsNoHallAt X windows))
  halls_nowhere halls = no_part (IsNoHallAt X windows) met
    where
      met : (n : ℕ) → IsNoHallAt X windows n → ⊥
      met n one =
          let within = slice_get_within windows n one.window one.there in
          let same : get_or windows n one.window ≡ one.window = same_Some (get_or windows n one.window) one.window (sym (slice_get-get_or windows n one.window within) ∙ one.there) in
          one.fails (subst (IsHallWindow X) same (halls n one.window within))

  -- nor does one that is a Hall set
  pub hall_at : (n : ℕ) (window : Window) → window ≡ get_or windows n window → IsHallWindow X window → n < length windows → ¬ IsNoHallAt X windows n
  hall_at n window at hall within one =
      let there = slice_get-get_or windows n window within ∙ ap Some (sym at) in
      one.fails (subst (IsHallWindow X) (same_Some window one.window (sym there ∙ one.there)) hall)

  pub no_hall_within : (n : ℕ) → IsNoHallAt X windows n → n < length windows
  no_hall_within n one = slice_get_within windows n one.window one.there

  module _ (decided : (window : Window) → Dec (IsHallWindow X window)) where
    dec_no_hall : (n : ℕ) → Dec (IsNoHallAt X windows n)
    dec_no_hall n =
        of_iff (λ one. record { window = one.0; there = one.1; fails = one.2 }, λ is. (is.window, is.there, is.fails))
        (dec_there windows n (λ window. ¬ IsHallWindow X window) (λ window. not (decided window)))

    pub halls_from_none : ((n : ℕ) → n < length windows → ¬ IsNoHallAt X windows n) → All (IsHallWindow X) windows
    halls_from_none none n d within =
        dec→stable (decided (get_or windows n d)) (λ fails. none n within (record { window = get_or windows n d; there = slice_get-get_or windows n d within; fails = fails }))

    pub halls_from_nowhere : Nowhere (AtParts (IsNoHallAt X windows)) → All (IsHallWindow X) windows
    halls_from_nowhere none = halls_from_none (λ n within one. none (At (pos (suc n))) (n, refl, one))

    pub tested_halls : Tested (AtParts (IsNoHallAt X windows)) NotHall
    tested_halls = tested_part (IsNoHallAt X windows) NotHall (length windows) no_hall_within dec_no_hall

-- ---- gaps

-- the cost of a live cell of an instance fits 64 bits
near_fits : (v : ℤ) → unsigned_abs v ≤ cost_reach → FitsSigned w64 v
near_fits (pos n) near = omega (arith, near)
near_fits (negsuc n) near = omega (arith, near)

pub live_fits : (X : Problem) → IsInstance X → (v : ℤ) → IsLiveCost X v → FitsSigned w64 v
live_fits X instance v one =
    let near : IsWithin cost_reach one.cost = subst (λ o. IfSome o (IsWithin cost_reach)) one.live (lies_within cost_reach X (omega arith) instance one.row one.column) in
    subst (FitsSigned w64) one.is (near_fits one.cost.a near.a_within)

-- the least of some numbers of which P holds, or none
least_in : (P : ℤ → Type 0) → ((x : ℤ) → Dec (P x)) → (L : ℤ → Type 0) (xs : List ℤ) → All L xs → ((x : ℤ) × L x × P x × All (λ y. P y → x ≤ℤ y) xs) ⊎ All (λ y. ¬ P y) xs
least_in P each L [] all = inr (All-nil (λ y. ¬ P y))
least_in P each L (x ∷ xs) all = by (least_in P each L xs (All-tail L x xs all)) (each x)
  where
    here : L x
    here = All-head L x xs all

    later : (z y : ℤ) → y ≤ℤ z → All (λ w. P w → z ≤ℤ w) xs → All (λ w. P w → y ≤ℤ w) xs
    later z y le least k d within p = omega (arith, ints, le, least k d within p)

    by : ((z : ℤ) × L z × P z × All (λ y. P y → z ≤ℤ y) xs) ⊎ All (λ y. ¬ P y) xs → Dec (P x) → ((z : ℤ) × L z × P z × All (λ y. P y → z ≤ℤ y) (x ∷ xs)) ⊎ All (λ y. ¬ P y) (x ∷ xs)
    by (inr none) (yes p) = inl (x, here, p, All-cons (λ y. P y → x ≤ℤ y) x xs (λ _. omega (arith, ints)) (λ k d within q. absurd (none k d within q)))
    by (inr none) (no fails) = inr (All-cons (λ y. ¬ P y) x xs fails none)
    by (inl (z, l, q, least)) (no fails) = inl (z, l, q, All-cons (λ y. P y → z ≤ℤ y) x xs (λ p. absurd (fails p)) least)
    by (inl (z, l, q, least)) (yes p) =
        by_lt_z x z
        (λ (below : x <ℤ z). inl (x, here, p, All-cons (λ y. P y → x ≤ℤ y) x xs (λ _. omega (arith, ints)) (later z x (omega (arith, ints, below)) least)))
        (λ (above : z ≤ℤ x). inl (z, l, q, All-cons (λ y. P y → z ≤ℤ y) x xs (λ _. above) least))

true_from : (b : Bool) → ¬ (b ≡ false) → b ≡ true
true_from true none = refl
true_from false none = absurd (none refl)

module _ (X : Problem) (d : ℤ) (windows : List Window) where
  pub gap_told : pos 0 <ℤ d → (v : ℤ) → IsLiveCost X v → is_held windows d v ≡ false → ((w : ℤ) → IsLiveCost X w → is_held windows d w ≡ false → v ≤ℤ w) → IsToldOf (LeaveGapAt X (One d) windows) WindowGap (No 8 v)
  gap_told above v live unheld least = record { spot = At v; stands = record { above = above; live = live; unheld = unheld }; least = first; told = refl }
    where
      first : (other : Spot) → LeaveGapAt X (One d) windows other → IsNoLater (At v) other
      first Overall gap = tt
      first (At w) gap = least w gap.live gap.unheld

  -- where each cost of a live cell is held, there is no gap
  pub held_nowhere : (pos 0 <ℤ d → (v : ℤ) → IsLiveCost X v → is_held windows d v ≡ true) → Nowhere (LeaveGapAt X (One d) windows)
  held_nowhere held Overall = λ none. none
  held_nowhere held (At v) = λ gap. false≢true (sym gap.unheld ∙ held gap.above v gap.live)

  pub held_from_nowhere : Nowhere (LeaveGapAt X (One d) windows) → pos 0 <ℤ d → (v : ℤ) → IsLiveCost X v → is_held windows d v ≡ true
  held_from_nowhere none above v live = true_from (is_held windows d v) (λ unheld. none (At v) (record { above = above; live = live; unheld = unheld }))

  dec_above : Dec (pos 0 <ℤ d)
  dec_above = by_lt_z (pos 0) d (λ above. yes above) (λ least. no (λ above. omega (arith, ints, above, least)))

  tested_spread : Dec (pos 0 <ℤ d) → Tested (LeaveGapAt X (One d) windows) WindowGap
  tested_spread (no none) = inr (held_nowhere (λ above. absurd (none above)))
  tested_spread (yes above) = by (least_in (λ v. is_held windows d v ≡ false) (λ v. Bool-discrete (is_held windows d v) false) (IsLiveCost X) (live_parts X (length X.rows)) (parts_live X (length X.rows)))
    where
      by : ((v : ℤ) × IsLiveCost X v × (is_held windows d v ≡ false) × All (λ w. is_held windows d w ≡ false → v ≤ℤ w) (live_parts X (length X.rows))) ⊎ All (λ w. ¬ (is_held windows d w ≡ false)) (live_parts X (length X.rows)) → Tested (LeaveGapAt X (One d) windows) WindowGap
      by (inl (v, live, unheld, least)) = inl (No 8 v, gap_told above v live unheld (λ w other. part_holds X (λ y. is_held windows d y ≡ false → v ≤ℤ y) least w other))
      by (inr none) = inr (held_nowhere (λ _ v live. true_from (is_held windows d v) (part_holds X (λ y. ¬ (is_held windows d y ≡ false)) none v live)))

pub tested_gap : (X : Problem) (value : Value) (windows : List Window) → Tested (LeaveGapAt X value windows) WindowGap
tested_gap X (One d) windows = tested_spread X d windows (dec_above X d windows)
tested_gap X value windows = inr (λ spot none. none)

-- the verdict on gaps
pub gap_tells : (X : Problem) (d : ℤ) (windows : List Window) (found : Option ℤ) (verdict : Verdict) → pos 0 <ℤ d → IsLeastGap X d windows found → MatchOption found (verdict ≡ Yes) (λ v. verdict ≡ No 8 v) → Tells (StandsOn X (One d) windows) (WindowGap ∷ []) verdict
gap_tells X d windows None verdict above held is = inr (held_nowhere X d windows (λ _ v live. held v live), is)
gap_tells X d windows (Some v) verdict above (live, unheld, least) is =
    inl (subst (IsToldOf (LeaveGapAt X (One d) windows) WindowGap) (sym is) (gap_told X d windows above v live unheld least))

-- ---- proofs

-- windows that prove a value stand nowhere
pub proved_halls : (objective : Objective) (X : Problem) (value : Value) (windows : List Window) → ProvesWindows objective X value windows → All (IsHallWindow X) windows
proved_halls Balanced X (One d) windows proved = proved.halls
proved_halls objective X value windows proved = absurd proved

pub proved_nowhere : (objective : Objective) (X : Problem) (value : Value) (windows : List Window) → ProvesWindows objective X value windows → Nowhere (LeaveGapAt X value windows)
proved_nowhere Balanced X (One d) windows proved =
    held_nowhere X d windows (λ above v live. subst (λ w. is_held windows d w ≡ true) live.is (proved.held above live.row live.column live.cost live.live))
proved_nowhere objective X value windows proved = absurd proved

-- a value in range for the objective that takes windows is one for `balanced`
pub spread_range : (objective : Objective) (value : Value) → is_spread_objective objective ≡ true → IsValueInRange objective value → IsValueInRange Balanced value
spread_range Balanced value fits range = range
spread_range objective value fits range = absurd (false≢true fits)

-- windows against which nothing stands prove the value of a choice
pub windows_prove : (objective : Objective) (X : Problem) (f : List (Option ℕ)) (windows : List Window) → is_spread_objective objective ≡ true → All (IsHallWindow X) windows → Nowhere (LeaveGapAt X (choice_value objective X f) windows)
    → ProvesWindows objective X (choice_value objective X f) windows
windows_prove Balanced X f windows fits halls gap = record {
  halls = halls;
  held = λ above r c cost live. held_from_nowhere X _ windows gap above cost.a (record { row = r; column = c; cost = cost; live = live; is = refl });
}
windows_prove objective X f windows fits halls gap = absurd (false≢true fits)
