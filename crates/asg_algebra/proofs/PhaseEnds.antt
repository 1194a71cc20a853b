-- How a phase begins and ends.
use Rattle.asg_algebra.proofs.Common.{◌≡◌, ℕ, ◌<◌, ◌≤◌, min, List, [], ◌∷◌, length, get_or, set, replicate, Some, None, Contains, Option, sym, refl, ap, ◌∙◌, subst, ⊎_elim, arith, length-set, get_or-set_other, le-ltb, lt-ltb, le-leb, All-cons, All-nil, cases_eq, cases_lt, get_or-map, get_or-replicate, get_or-set_at, get_or_past, length-map, length-replicate, lt-leb, none-some, IsReduced, IsPhaseTo, Reduced, made_of, IsPush, ArePushed, IsAbsorbed, IsGrowing, IsRest, cut, IsUnderway, Flips, column_at, HasDifferences, Monoid, IsValue, IsOrderedMonoid, fold_of, neutral_right, Forest, phase_of, entered_at, staying_at, square_after, IsAdmittedPhase, PhaseOf, cell_at}
use Rattle.asg_match.specs.laws.Matchings.{Some-from_test}
use Rattle.asg_match.specs.Alternating.{HasParent}
use Rattle.asg_admit.specs.Settled.{step_of, between}
use Rattle.asg_match.specs.laws.Trees.{IsTree-root}
use Rattle.asg_growth.specs.laws.GrowingLaws.{AllAllowed-flipped}
use Rattle.asg_growth.specs.laws.SearchingLaws.{square_after-same, AreAdmitted-same}

pub get_or-cut : (n : ℕ) (marks : List ℕ) (r : ℕ) → get_or (cut n marks) r 0 ≡ min (get_or marks r 0) n
get_or-cut n marks r =
    ⊎_elim
    (λ within. get_or-map (λ e. min e n) marks r 0 0 within)
    (λ past.
    let none : get_or marks r 0 ≡ 0 = get_or_past marks r 0 past in
    let zero_cut : 0 ≡ min (get_or marks r 0) n = omega (arith, none) in
    get_or_past (cut n marks) r 0 (subst (λ k. k ≤ r) (sym (length-map marks (λ e. min e n))) past) ∙ zero_cut)
    (cases_lt r (length marks))

-- cut marks pass the tests of the steps as the marks do
pub entered-cut : (n : ℕ) (marks : List ℕ) (t : ℕ) → t < n → entered_at (cut n marks) t ≡ entered_at marks t
entered-cut n marks t h =
    let each : (r : ℕ) → entered_at (cut n marks) t r ≡ entered_at marks t r = λ r.
    ⊎_elim
    (λ after. lt-leb (get_or (cut n marks) r 0) t (omega (arith, get_or-cut n marks r)) ∙ sym (lt-leb (get_or marks r 0) t after))
    (λ before. le-leb (get_or (cut n marks) r 0) t (omega (arith, get_or-cut n marks r)) ∙ sym (le-leb (get_or marks r 0) t before))
    (cases_lt t (get_or marks r 0)) in
    λ i r. each r i

pub staying-cut : (n : ℕ) (marks : List ℕ) (t : ℕ) → t < n → staying_at (cut n marks) t ≡ staying_at marks t
staying-cut n marks t h =
    let each : (r : ℕ) → staying_at (cut n marks) t r ≡ staying_at marks t r = λ r.
    ⊎_elim
    (λ after. lt-ltb t (get_or (cut n marks) r 0) (omega (arith, get_or-cut n marks r)) ∙ sym (lt-ltb t (get_or marks r 0) after))
    (λ before. le-ltb t (get_or (cut n marks) r 0) (omega (arith, get_or-cut n marks r)) ∙ sym (le-ltb t (get_or marks r 0) before))
    (cases_lt t (get_or marks r 0)) in
    λ i r. each r i

module _ {V : Type 0} (M : Monoid V) (laws : IsOrderedMonoid M) (difference : V → V → V) (has : HasDifferences M difference) where
  -- the phase that a search made so far is admitted
  pub phase_so_far : (never : ℕ) (side : ℕ) (start : ℕ → ℕ → Option V) (index : V) (m : List (Option ℕ)) (rows : List ℕ) (parents : ℕ → Option ℕ) (sums : List V) (leads : ℕ → Option V) (places : ℕ → ℕ) (enters leaves : List ℕ) (steps : List V) (sum : V) (seen : ℕ) → IsUnderway M difference never side start index m rows parents sums leads places enters leaves steps sum seen → IsAdmittedPhase M difference side (phase_of steps (cut (length steps) enters) (cut (length steps) leaves)) start
  phase_so_far never side start index m rows parents sums leads places enters leaves steps sum seen state =
      let n = length steps in
      let s = state.searching in
      record {
        rows = length-map enters (λ e. min e n) ∙ s.entered.marks_side;
        columns = length-map leaves (λ e. min e n) ∙ s.left.marks_side;
        admitted = AreAdmitted-same M laws difference has side steps steps enters (cut n enters) leaves (cut n leaves) start n (λ t h. refl) (entered-cut n enters) (staying-cut n leaves) s.admitted;
      }

  -- a phase ends: it is admitted, and the matching with the flipped path is absorbed on the square
  -- after it
  pub phase_ends : (never : ℕ) (side : ℕ) (start : ℕ → ℕ → Option V) (index : V) (m : List (Option ℕ)) (rows : List ℕ) (parents : ℕ → Option ℕ) (sums : List V) (leads : ℕ → Option V) (places : ℕ → ℕ) (enters leaves : List ℕ) (steps : List V) (sum : V) (seen : ℕ) → IsUnderway M difference never side start index m rows parents sums leads places enters leaves steps sum seen → (place column : ℕ) (after : List (Option ℕ)) → IsAbsorbed M (M.product index (fold_of M steps)) (square_after M difference (phase_of steps enters leaves) start (length steps)) (get_or rows place 0) column → Flips rows parents place column m after → IsAdmittedPhase M difference side (phase_of steps (cut (length steps) enters) (cut (length steps) leaves)) start × IsRest M side (square_after M difference (phase_of steps (cut (length steps) enters) (cut (length steps) leaves)) start (length steps)) (M.product index (fold_of M steps)) after
  phase_ends never side start index m rows parents sums leads places enters leaves steps sum seen state place column after cell flipped =
      let n = length steps in
      let s = state.searching in
      let same = square_after-same M laws difference has steps steps enters (cut n enters) leaves (cut n leaves) start n (λ t h. refl) (entered-cut n enters) (staying-cut n leaves) in
      let rest : IsRest M side (square_after M difference (phase_of steps enters leaves) start n) (M.product index (fold_of M steps)) after = record {
        values = s.growing.values;
        index_is_value = s.growing.index_is_value;
        matching_side = flipped.side ∙ s.growing.matching_side;
        columns = flipped.columns;
        absorbed = AllAllowed-flipped M laws difference has side (square_after M difference (phase_of steps enters leaves) start n) (M.product index (fold_of M steps)) m rows parents s.growing place column after cell flipped;
      } in (
        phase_so_far never side start index m rows parents sums leads places enters leaves steps sum seen state,
        subst (λ q. IsRest M side q (M.product index (fold_of M steps)) after) (sym same) rest,
      )

  module _ (never : ℕ) (some : 0 < never) (side : ℕ) (start : ℕ → ℕ → Option V) (index : V) (m : List (Option ℕ)) (root : ℕ) (rest : IsRest M side start index m) (root_below : root < side) (root_free : column_at m root ≡ None) (parents : ℕ → Option ℕ) (none : (k : ℕ) → parents k ≡ None) where
    abbrev rows : List ℕ
    rows = root ∷ []

    abbrev enters : List ℕ
    enters = set (replicate side never) root 0

    abbrev leaves : List ℕ
    leaves = replicate side never

    no_parent : (k p : ℕ) → HasParent parents k p → ⊥
    no_parent k p e = none-some p (sym (none k) ∙ e)

    row_is : (r : ℕ) → Contains rows r → r ≡ root
    row_is r w = let zero_place : 0 ≡ w.0 = omega (arith, w.1) in sym w.2 ∙ ap (λ i. get_or rows i r) (sym zero_place)

    mark_root : get_or enters root 0 ≡ 0
    mark_root = get_or-set_at (replicate side never) root root 0 0 refl (subst (λ n. root < n) (sym (length-replicate side never)) root_below)

    mark_other : (r : ℕ) → r < side → (r ≡ root → ⊥) → get_or enters r 0 ≡ never
    mark_other r h n = get_or-set_other (replicate side never) root r 0 0 n ∙ get_or-replicate side r never 0 h

    pub planted : (leads : ℕ → Option V) (places : ℕ → ℕ) → ((k : ℕ) → k < side → leads k ≡ None) → IsUnderway M difference never side start index m rows parents (M.unit ∷ []) leads places enters leaves [] M.unit 0
    planted leads places no_lead = record {
      index_is_value = rest.index_is_value;
      searching = record {
        admitted = λ t h. absurd (omega (arith, h));
        growing = subst (λ z. IsGrowing M side start z m rows parents) (sym (neutral_right M laws index rest.index_is_value)) (record {
          values = rest.values;
          index_is_value = rest.index_is_value;
          matching_side = rest.matching_side;
          columns = rest.columns;
          tree = IsTree-root m root parents (subst (λ n. root < n) (sym rest.matching_side) root_below) root_free none;
          tree_cells = λ k p e. absurd (no_parent k p e);
          matched_cells = rest.absorbed;
        });
        room = some;
        entered = record {
          marks_side = length-set (replicate side never) root 0 ∙ length-replicate side never;
          taken = λ r w. omega (arith, mark_root, ap (λ q. get_or enters q 0) (row_is r w));
          marked = λ r h low.
              ⊎_elim
              (λ e. (0, omega arith, sym e))
              (λ n. absurd (omega (arith, mark_other r h n, low, some)))
              (cases_eq r root);
          later = λ r h late.
              ⊎_elim
              (λ e. absurd (omega (arith, mark_root, ap (λ q. get_or enters q 0) e, late)))
              (λ n. mark_other r h n)
              (cases_eq r root);
        };
        left = record {
          marks_side = length-replicate side never;
          taken = λ k w. let from = Some-from_test (parents k) w in absurd (no_parent k from.0 from.1);
          marked = λ k h low. absurd (omega (arith, get_or-replicate side k never 0 h, low, some));
          later = λ k h late. get_or-replicate side k never 0 h;
        };
      };
      sums_are = record {
        sums_side = refl;
        now = refl;
        at_entry = λ i h.
            let first : 0 ≡ i = omega (arith, h) in
            subst (λ j. get_or (M.unit ∷ []) j M.unit ≡ between M (step_of M []) 0 (get_or enters (get_or rows j 0) 0)) first
            (ap (between M (step_of M []) 0) (sym mark_root));
      };
      scanned = record {
        values = rest.values;
        below = All-cons (λ r. r < side) root [] root_below (All-nil (λ r. r < side));
        sums_side = refl;
        sums_values = All-cons (IsValue M) M.unit [] laws.unit_is_value (All-nil (IsValue M));
      };
      sum_is_value = laws.unit_is_value;
      leads_are = λ k h _. record {
        found = λ key e. absurd (none-some key (sym (no_lead k h) ∙ e));
        least = λ i x l e. absurd (omega (arith, l));
      };
    }

-- a phase without steps leaves a reduced square as it is
pub no_steps : {V : Type 0} (M : Monoid V) → IsOrderedMonoid M → (difference : V → V → V) (phase : PhaseOf V) (reduced : Reduced V) → IsReduced M reduced → phase.steps ≡ [] → IsPhaseTo M difference phase reduced reduced
no_steps {V} M laws difference phase reduced is none = record {
  cells = λ r k. ap (λ (xs : List V). square_after M difference phase (cell_at reduced.now) (length xs) r k) (sym none);
  index = sym (neutral_right M laws reduced.index is.index) ∙ ap (λ (xs : List V). M.product reduced.index (fold_of M xs)) (sym none);
  labels = record { side = refl; rows = refl; row_labels = refl; column_labels = refl };
  reduced = is;
}

-- a phase with a step was pushed
pub ArePushed-made : {V : Type 0} (phase : PhaseOf V) → 0 < length phase.steps → (before after : Forest V) (trail : Option ℕ) (new : ℕ) → IsPush before after trail phase new → ArePushed (made_of phase phase.steps) before after trail (Some new)
ArePushed-made {V} phase some before after trail new is = made phase.steps some
  where
    made : (steps : List V) → 0 < length steps → ArePushed (made_of phase steps) before after trail (Some new)
    made [] none = absurd (omega (arith, none))
    made (c ∷ rest) _ = (after, new, is, (refl, refl))
