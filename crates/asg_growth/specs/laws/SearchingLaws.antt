-- The moves of a phase that is being made.
use Rattle.std.proofs.Common.{◌≡◌, ◌≢◌, ◌↔◌, ◌⊎◌, inl, inr, ℕ, zero, suc, ◌<◌, true, false, leb, ltb, List, [], ◌∷◌, ◌++◌, length, Option, Some, None, get_or, set, is_some, refl, sym, ◌∙◌, ap, subst, arith, ⊎_elim}
use Rattle.std.specs.Prelude.{All, Contains}
use Rattle.std.proofs.lemmas.Bool.{cases_lt, cases_eq, leb-true, ltb-false, le-leb, lt-leb, lt-ltb, le-ltb}
use Rattle.std.proofs.lemmas.List.{get_or_default, length-set, get_or-set_other, get_or_append_left, get_or_push, length_push, take_all}
use Rattle.std.proofs.lemmas.Grind.{get_or-set_at}
use Rattle.std.proofs.lemmas.List.Elements.{Contains-push_cases, Contains-append_left, Contains-push, All-cons, All-nil}
use Rattle.std.proofs.lemmas.Option.{none-some}
use Rattle.asg_match.specs.laws.Matchings.{Matches-below, Some-from_test}
use Rattle.asg_match.specs.Matching.{Matches}
use Rattle.asg_match.specs.Alternating.{IsReached}
use Rattle.asg_order.specs.Monoid.{Monoid, IsValue, IsLe, IsOrderedMonoid, fold_of}
use Rattle.asg_order.specs.Differences.{HasDifferences}
use Rattle.asg_order.specs.laws.Products.{fold_is_value, fold_of-append}
use Rattle.asg_proof.specs.Steps.{stepped, IsAdmittedStep, HasValues}
use Rattle.asg_proof.specs.Phases.{phase_of, entered_at, staying_at, square_after, AreAdmittedSteps}
use Rattle.asg_proof.specs.laws.PhaseSteps.{steps_are_values}
use Rattle.asg_growth.specs.Growing.{IsAbsorbed, IsSplit, IsGrowing}
use Rattle.asg_growth.specs.laws.GrowingLaws.{IsAdmittedStep-from_tree, IsGrowing-step, IsGrowing-enter}
use Rattle.asg_growth.specs.Searching.{AreMarked, IsSearching}

-- two marks after now are the same for all earlier tests
module _ (marks : List ℕ) (side now never : ℕ) (is_taken : ℕ → Type 0) (state : AreMarked marks side now never is_taken) where
  -- the marks tell what is taken
  pub taken_test : (r : ℕ) → r < side → (leb (get_or marks r 0) now ≡ true) ↔ is_taken r
  taken_test r h = (λ e. state.marked r h (leb-true (get_or marks r 0) now e), λ t. le-leb (get_or marks r 0) now (state.taken r t))

  pub left_test : (r : ℕ) → r < side → (ltb now (get_or marks r 0) ≡ false) ↔ is_taken r
  left_test r h = (λ e. state.marked r h (ltb-false now (get_or marks r 0) e), λ t. le-ltb now (get_or marks r 0) (state.taken r t))

  -- a step passes
  pub AreMarked-step : suc now < never → AreMarked marks side (suc now) never is_taken
  AreMarked-step room = record {
    marks_side = state.marks_side;
    taken = λ r t. omega (arith, state.taken r t);
    marked = λ r h k.
        ⊎_elim
        (λ late. absurd (omega (arith, state.later r h late)))
        (λ before. state.marked r h before)
        (cases_lt now (get_or marks r 0));
    later = λ r h k. state.later r h (omega arith);
  }

  -- a place is taken now
  pub AreMarked-take : (place : ℕ) (then : ℕ → Type 0) → place < side → now < never → ((r : ℕ) → then r → is_taken r ⊎ (r ≡ place)) → ((r : ℕ) → is_taken r → then r) → then place → AreMarked (set marks place now) side now never then
  AreMarked-take place then h room cases kept new =
      let within : place < length marks = subst (λ n. place < n) (sym state.marks_side) h in
      let at = λ (r : ℕ) (e : r ≡ place). get_or-set_at marks place r now 0 e within in
      let other = λ (r : ℕ) (n : r ≡ place → ⊥). get_or-set_other marks place r now 0 n in
      record {
        marks_side = length-set marks place now ∙ state.marks_side;
        taken = λ r t.
            ⊎_elim
            (λ e. omega (arith, at r e))
            (λ n.
            ⊎_elim (λ was. omega (arith, other r n, state.taken r was)) (λ e. absurd (n e)) (cases r t))
            (cases_eq r place);
        marked = λ r below k.
            ⊎_elim
            (λ e. subst then (sym e) new)
            (λ n. kept r (state.marked r below (omega (arith, other r n))))
            (cases_eq r place);
        later = λ r below k.
            ⊎_elim
            (λ e. absurd (omega (arith, at r e)))
            (λ n. other r n ∙ state.later r below (omega (arith, other r n)))
            (cases_eq r place);
      }

  -- a place that is taken now passes each earlier test as it did
  pub same_entered : (place : ℕ) → place < side → now < get_or marks place 0 → (t : ℕ) → t < now → entered_at (set marks place now) t ≡ entered_at marks t
  same_entered place h late t before =
      let within : place < length marks = subst (λ n. place < n) (sym state.marks_side) h in
      let each : (r : ℕ) → entered_at (set marks place now) t r ≡ entered_at marks t r = λ r.
      ⊎_elim
      (λ e. lt-leb (get_or (set marks place now) r 0) t (omega (arith, get_or-set_at marks place r now 0 e within)) ∙ sym (lt-leb (get_or marks r 0) t (omega (arith, ap (λ k. get_or marks k 0) e))))
      (λ n. ap (λ m. leb m t) (get_or-set_other marks place r now 0 n))
      (cases_eq r place) in
      λ i r. each r i

  pub same_staying : (place : ℕ) → place < side → now < get_or marks place 0 → (t : ℕ) → t < now → staying_at (set marks place now) t ≡ staying_at marks t
  same_staying place h late t before =
      let within : place < length marks = subst (λ n. place < n) (sym state.marks_side) h in
      let each : (r : ℕ) → staying_at (set marks place now) t r ≡ staying_at marks t r = λ r.
      ⊎_elim
      (λ e. lt-ltb t (get_or (set marks place now) r 0) (omega (arith, get_or-set_at marks place r now 0 e within)) ∙ sym (lt-ltb t (get_or marks r 0) (omega (arith, ap (λ k. get_or marks k 0) e))))
      (λ n. ap (λ m. ltb t m) (get_or-set_other marks place r now 0 n))
      (cases_eq r place) in
      λ i r. each r i

module _ {V : Type 0} (M : Monoid V) (laws : IsOrderedMonoid M) (difference : V → V → V) (has : HasDifferences M difference) where
  -- the square after so many steps, by steps and tests that agree below that many
  pub square_after-same : (steps steps' : List V) (enters enters' leaves leaves' : List ℕ) (start : ℕ → ℕ → Option V) (n : ℕ) → ((t : ℕ) → t < n → get_or steps' t M.unit ≡ get_or steps t M.unit) → ((t : ℕ) → t < n → entered_at enters' t ≡ entered_at enters t) → ((t : ℕ) → t < n → staying_at leaves' t ≡ staying_at leaves t) → square_after M difference (phase_of steps' enters' leaves') start n ≡ square_after M difference (phase_of steps enters leaves) start n
  square_after-same steps steps' enters enters' leaves leaves' start zero p q s = refl
  square_after-same steps steps' enters enters' leaves leaves' start (suc n) p q s =
      let before = square_after-same steps steps' enters enters' leaves leaves' start n (λ t h. p t (omega arith)) (λ t h. q t (omega arith)) (λ t h. s t (omega arith)) in
      let e = q n (omega arith) in
      let l = s n (omega arith) in
      let c = p n (omega arith) in
      λ i. stepped M difference (e i) (l i) (c i) (before i)

  pub AreAdmitted-same : (side : ℕ) (steps steps' : List V) (enters enters' leaves leaves' : List ℕ) (start : ℕ → ℕ → Option V) (n : ℕ) → ((t : ℕ) → t < n → get_or steps' t M.unit ≡ get_or steps t M.unit) → ((t : ℕ) → t < n → entered_at enters' t ≡ entered_at enters t) → ((t : ℕ) → t < n → staying_at leaves' t ≡ staying_at leaves t) → AreAdmittedSteps M difference side (phase_of steps enters leaves) start n → AreAdmittedSteps M difference side (phase_of steps' enters' leaves') start n
  AreAdmitted-same side steps steps' enters enters' leaves leaves' start n p q s admitted t h =
      let before = square_after-same steps steps' enters enters' leaves leaves' start t (λ u k. p u (omega arith)) (λ u k. q u (omega arith)) (λ u k. s u (omega arith)) in
      let e = q t h in
      let l = s t h in
      let c = p t h in
      let same : IsAdmittedStep M side (entered_at enters' t) (staying_at leaves' t) (get_or steps' t M.unit) (square_after M difference (phase_of steps' enters' leaves') start t) ≡ IsAdmittedStep M side (entered_at enters t) (staying_at leaves t) (get_or steps t M.unit) (square_after M difference (phase_of steps enters leaves) start t) = λ i. IsAdmittedStep M side (e i) (l i) (c i) (before i) in
      subst (λ A. A) (sym same) (admitted t h)

  module _ (side never : ℕ) (start : ℕ → ℕ → Option V) (index : V) (steps : List V) (enters leaves : List ℕ) (m : List (Option ℕ)) (rows : List ℕ) (parents : ℕ → Option ℕ) (vi : IsValue M index) (start_values : HasValues M side start) (state : IsSearching M difference side never start index steps enters leaves m rows parents) where
    pub IsSplit-now : IsSplit side rows parents (entered_at enters (length steps)) (staying_at leaves (length steps))
    IsSplit-now = record {
      rows_are = taken_test enters side (length steps) never (Contains rows) state.entered;
      columns_are = left_test leaves side (length steps) never (IsReached parents) state.left;
    }

    pub values_so_far : All (IsValue M) steps
    values_so_far =
        subst (All (IsValue M)) (take_all (length steps) steps (omega arith))
        (steps_are_values M difference side (phase_of steps enters leaves) start (length steps) (omega arith) state.admitted)

    -- a step
    pub IsSearching-step : (c : V) → IsValue M c → suc (length steps) < never → ((r k : ℕ) (x : V) → r < side → k < side → entered_at enters (length steps) r ≡ true → staying_at leaves (length steps) k ≡ true → square_after M difference (phase_of steps enters leaves) start (length steps) r k ≡ Some x → IsLe M c x) → IsSearching M difference side never start index (steps ++ c ∷ []) enters leaves m rows parents
    IsSearching-step c vc room least =
        let n = length steps in
        let longer : length (steps ++ c ∷ []) ≡ suc n = omega (arith, length_push steps c) in
        let agree = λ (t : ℕ) (h : t < n). get_or_append_left steps (c ∷ []) M.unit t h in
        let last : get_or (steps ++ c ∷ []) n M.unit ≡ c = get_or_push steps c M.unit n refl in
        let now = square_after M difference (phase_of steps enters leaves) start n in
        let same = square_after-same steps (steps ++ c ∷ []) enters enters leaves leaves start n agree (λ t h. refl) (λ t h. refl) in
        let before = AreAdmitted-same side steps (steps ++ c ∷ []) enters enters leaves leaves start n agree (λ t h. refl) (λ t h. refl) state.admitted in
        let this = IsAdmittedStep-from_tree M laws difference has side now (M.product index (fold_of M steps)) m rows parents state.growing (entered_at enters n) (staying_at leaves n) IsSplit-now c vc least in
        let after : square_after M difference (phase_of (steps ++ c ∷ []) enters leaves) start (suc n) ≡ stepped M difference (entered_at enters n) (staying_at leaves n) c now = λ i. stepped M difference (entered_at enters n) (staying_at leaves n) (last i) (same i) in
        let v_fold = fold_is_value M laws steps values_so_far in
        let total : M.product (M.product index (fold_of M steps)) c ≡ M.product index (fold_of M (steps ++ c ∷ [])) =
        laws.associative index (fold_of M steps) c vi v_fold vc
        ∙ ap (M.product index) (ap (M.product (fold_of M steps)) (sym (laws.unit_neutral c vc)) ∙ sym (fold_of-append M laws steps (c ∷ []) values_so_far (All-cons (IsValue M) c [] vc (All-nil (IsValue M))))) in
        record {
          admitted = λ t h.
              ⊎_elim
              (λ earlier. before t earlier)
              (λ now_at.
              let e : n ≡ t = omega (arith, longer) in
              subst (λ u. IsAdmittedStep M side (entered_at enters u) (staying_at leaves u) (get_or (steps ++ c ∷ []) u M.unit) (square_after M difference (phase_of (steps ++ c ∷ []) enters leaves) start u)) e
              (subst (λ A. A) (λ i. IsAdmittedStep M side (entered_at enters n) (staying_at leaves n) ((sym last) i) ((sym same) i)) this))
              (cases_lt t n);
          growing =
              subst (λ u. IsGrowing M side (square_after M difference (phase_of (steps ++ c ∷ []) enters leaves) start u) (M.product index (fold_of M (steps ++ c ∷ []))) m rows parents) (sym longer)
              (subst (λ A. A) (λ i. IsGrowing M side ((sym after) i) (total i) m rows parents)
              (IsGrowing-step M laws difference has side now (M.product index (fold_of M steps)) m rows parents state.growing (entered_at enters n) (staying_at leaves n) IsSplit-now c vc));
          room = subst (λ u. u < never) (sym longer) room;
          entered = subst (λ u. AreMarked enters side u never (Contains rows)) (sym longer) (AreMarked-step enters side n never (Contains rows) state.entered room);
          left = subst (λ u. AreMarked leaves side u never (IsReached parents)) (sym longer) (AreMarked-step leaves side n never (IsReached parents) state.left room);
        }

    -- a row enters by an absorbed cell
    pub IsSearching-enter : (after : ℕ → Option ℕ) (p k next : ℕ) → after k ≡ Some p → ((d : ℕ) → d ≢ k → after d ≡ parents d) → p < length rows → k < side → parents k ≡ None → Matches m next k → IsAbsorbed M (M.product index (fold_of M steps)) (square_after M difference (phase_of steps enters leaves) start (length steps)) (get_or rows p 0) k → IsSearching M difference side never start index steps (set enters next (length steps)) (set leaves k (length steps)) m (rows ++ next ∷ []) after
    IsSearching-enter after p k next here others hp hk unreached h cell =
        let n = length steps in
        let now = square_after M difference (phase_of steps enters leaves) start n in
        let next_below : next < side = subst (λ u. next < u) state.growing.matching_side (Matches-below m next k h) in
        let grown = IsGrowing-enter M laws difference has side now (M.product index (fold_of M steps)) m rows parents state.growing after p k next here others hp hk unreached h cell in
        let apart : Contains rows next → ⊥ = λ w. grown.tree.apart w.0 (length rows) 0 w.1 (omega (arith, length_push rows next)) (get_or_append_left rows (next ∷ []) 0 w.0 w.1 ∙ get_or_default rows w.0 0 next w.1 ∙ w.2 ∙ sym (get_or_push rows next 0 (length rows) refl)) in
        let unmarked : IsReached parents k → ⊥ = λ w. let from = Some-from_test (parents k) w in none-some from.0 (sym unreached ∙ from.1) in
        let late : n < get_or enters next 0 = ⊎_elim (λ l. l) (λ early. absurd (apart (state.entered.marked next next_below early))) (cases_lt n (get_or enters next 0)) in
        let late_column : n < get_or leaves k 0 = ⊎_elim (λ l. l) (λ early. absurd (unmarked (state.left.marked k hk early))) (cases_lt n (get_or leaves k 0)) in
        let same_e = same_entered enters side n never (Contains rows) state.entered next next_below late in
        let same_l = same_staying leaves side n never (IsReached parents) state.left k hk late_column in
        let same = square_after-same steps steps enters (set enters next n) leaves (set leaves k n) start n (λ t h. refl) same_e same_l in
        record {
          admitted = AreAdmitted-same side steps steps enters (set enters next n) leaves (set leaves k n) start n (λ t h. refl) same_e same_l state.admitted;
          growing = subst (λ q. IsGrowing M side q (M.product index (fold_of M steps)) m (rows ++ next ∷ []) after) (sym same) grown;
          room = state.room;
          entered = AreMarked-take enters side n never (Contains rows) state.entered next (Contains (rows ++ next ∷ [])) next_below state.room
              (λ r w. ⊎_elim (λ was. inl was) (λ e. inr (sym e)) (Contains-push_cases rows next r w))
              (λ r w. Contains-append_left rows (next ∷ []) r w)
              (Contains-push rows next);
          left = AreMarked-take leaves side n never (IsReached parents) state.left k (IsReached after) hk state.room
              (λ r w. ⊎_elim (λ e. inr e) (λ n. inl (sym (ap (is_some {T = ℕ}) (others r n)) ∙ w)) (cases_eq r k))
              (λ r w. ap (is_some {T = ℕ}) (others r (λ e. unmarked (subst (IsReached parents) e w))) ∙ w)
              (ap (is_some {T = ℕ}) here);
        }
