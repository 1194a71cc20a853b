-- What phases lead to where more were added.
use Rattle.asg_repair.proofs.Common.{◌≡◌, ℕ, ◌<◌, ◌≤◌, List, [], ◌∷◌, ◌++◌, length, is_some, IsSome, Some, None, Option, sym, refl, ap, ◌∙◌, subst, Reduced, LeadTo, ArePushed, unmatched, IsAbsorbed, LeadsTo, IsLed, column_at, Matches, IsMatching, AllAllowed, Problem, square_side, Cost, Monoid, IsValue, IsOrderedMonoid, Forest, EntersValues, PhaseOf, AreAdmittedPhases, after_phases, index_of, after_phases-append, AreAdmittedPhases-append, index_is_value, index_of-append, HasValues-square_cell, AreAbsorbed, AreAbsorbedAfter, square_cell, Grid, cell_at, IsSquareOf}
use Rattle.asg_admit.specs.laws.KeptLabels.{HasLabelsOf-kept}
use Rattle.asg_repair.proofs.UnmatchedLemmas.{unmatched-kept}

-- pushes keep the side
pub pushed_side : {V : Type 0} (phases : List (PhaseOf V)) (before after : Forest V) (trail last : Option ℕ) → ArePushed phases before after trail last → after.side ≡ before.side
pushed_side [] before after trail last pushed = ap (λ (F : Forest _). F.side) pushed.0
pushed_side (phase ∷ rest) before after trail last pushed =
    pushed_side rest pushed.0 after _ last pushed.3 ∙ pushed.2.side

module _ {V : Type 0} (M : Monoid V) (laws : IsOrderedMonoid M) (difference : V → V → V) (enter : Cost → V) (X : Problem) where
  -- phases that lead on
  pub IsLed-more : (phases more : List (PhaseOf V)) (before after : Reduced V) (forest forest_after : Forest V) (trail last : Option ℕ) → IsLed M difference enter X phases before → LeadTo M difference more before after forest forest_after trail last → IsLed M difference enter X (phases ++ more) after
  IsLed-more phases more before after forest forest_after trail last led lead =
      let start = square_cell X M.unit enter in
      let cells_are : cell_at before.now ≡ after_phases M difference phases start = λ i r k. led.cells r k i in
      let next : AreAdmittedPhases M difference (square_side X) more (after_phases M difference phases start) =
      subst (λ n. AreAdmittedPhases M difference n more (after_phases M difference phases start)) led.labels.side
      (subst (AreAdmittedPhases M difference before.now.side more) cells_are lead.admitted) in
      record {
        labels = HasLabelsOf-kept X before.now after.now lead.labels led.labels;
        admitted = AreAdmittedPhases-append M difference (square_side X) phases more start led.admitted next;
        cells = λ r k.
            lead.outcome r k
            ∙ ap (λ q. after_phases M difference more q r k) cells_are
            ∙ ap (λ q. q r k) (sym (after_phases-append M difference phases more start));
        index =
            lead.index
            ∙ ap (λ z. M.product z (index_of M more)) led.index
            ∙ sym (index_of-append M laws difference (square_side X) phases more start led.admitted next);
        is_reduced = lead.reduced;
      }

  -- phases that lead on from the square as it was filled
  pub IsLed-leads : (phases : List (PhaseOf V)) (before after : Reduced V) → IsLed M difference enter X [] before → AreAdmittedPhases M difference (square_side X) phases (square_cell X M.unit enter) → LeadsTo M difference phases before after → IsLed M difference enter X phases after
  IsLed-leads phases before after led admitted leads =
      let start = square_cell X M.unit enter in
      let cells_are : cell_at before.now ≡ start = λ i r k. led.cells r k i in
      record {
        labels = HasLabelsOf-kept X before.now after.now leads.labels led.labels;
        admitted = admitted;
        cells = λ r k. leads.cells r k ∙ ap (λ q. after_phases M difference phases q r k) cells_are;
        index =
            leads.index
            ∙ ap (λ z. M.product z (index_of M phases)) led.index
            ∙ laws.unit_neutral (index_of M phases) (index_is_value M laws difference (square_side X) phases start admitted);
        is_reduced = leads.is_reduced;
      }

-- the square of an instance, which no phase has changed
pub IsLed-filled : {V : Type 0} (M : Monoid V) → IsOrderedMonoid M → (difference : V → V → V) (enter : Cost → V) (X : Problem) (Q : Grid V) (index : V) → index ≡ M.unit → IsSquareOf X M.unit enter Q → EntersValues M enter X → IsLed M difference enter X [] (record { now = Q; index = index })
IsLed-filled M laws difference enter X Q index unit square live = record {
  labels = square.labels;
  admitted = tt;
  cells = square.cells;
  index = unit;
  is_reduced = record {
    cells = λ r k x hr hk e.
        HasValues-square_cell M laws enter X live r k x
        (subst (λ n. r < n) square.labels.side hr) (subst (λ n. k < n) square.labels.side hk) (sym (square.cells r k) ∙ e);
    index = subst (IsValue M) (sym unit) laws.unit_is_value;
  };
}

-- cells are absorbed on a square that phases led to exactly where they are on the square after them
module _ {V : Type 0} (M : Monoid V) (difference : V → V → V) (enter : Cost → V) (X : Problem) (phases : List (PhaseOf V)) (reduced : Reduced V) (led : IsLed M difference enter X phases reduced) (matching : List (Option ℕ)) where
  cells_led : cell_at reduced.now ≡ after_phases M difference phases (square_cell X M.unit enter)
  cells_led = λ i r k. led.cells r k i

  pub AreAbsorbedAfter-led : AllAllowed (IsAbsorbed M reduced.index (cell_at reduced.now)) matching → AreAbsorbedAfter M difference enter X phases matching
  AreAbsorbedAfter-led all =
      subst (λ q. AllAllowed (IsAbsorbed M (index_of M phases) q) matching) cells_led
      (subst (λ z. AllAllowed (IsAbsorbed M z (cell_at reduced.now)) matching) led.index all)

  pub absorbed-led : AreAbsorbedAfter M difference enter X phases matching → AllAllowed (IsAbsorbed M reduced.index (cell_at reduced.now)) matching
  absorbed-led all =
      subst (λ z. AllAllowed (IsAbsorbed M z (cell_at reduced.now)) matching) (sym led.index)
      (subst (λ q. AllAllowed (IsAbsorbed M (index_of M phases) q) matching) (sym cells_led) all)

-- a row keeps its column where its cell is absorbed, so where all are no row loses one
pub pruned_fewer : (allows : ℕ → ℕ → Type 0) (before after : List (Option ℕ)) → length after ≡ length before → ((r k : ℕ) → Matches before r k → allows r k → Matches after r k) → AllAllowed allows before → unmatched after ≤ unmatched before
pruned_fewer allows before after size kept all =
    unmatched-kept before after size (λ r. matched_by r (column_at before r) refl)
  where
    matched_by : (r : ℕ) (o : Option ℕ) → column_at before r ≡ o → IsSome (column_at before r) → IsSome (column_at after r)
    matched_by r None e has = absurd (let none = sym has ∙ ap is_some e in cc)
    matched_by r (Some k) e has = ap is_some (kept r k e (all r k e))

-- a matching over the square that phases led to
pub AreAbsorbed-pruned : {V : Type 0} (M : Monoid V) (reduced : Reduced V) (matching : List (Option ℕ)) → length matching ≡ reduced.now.side → IsMatching matching → AllAllowed (IsAbsorbed M reduced.index (cell_at reduced.now)) matching → AreAbsorbed M reduced matching
AreAbsorbed-pruned M reduced matching size is all = record { side = size; columns = is; absorbed = all }
