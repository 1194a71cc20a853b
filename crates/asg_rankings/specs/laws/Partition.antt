-- The valid choices of an instance other than a valid one are those of its children, each in one
-- child.
use Rattle.std.proofs.Common.{◌≡◌, ◌≢◌, ℕ, zero, suc, ◌+◌, ◌<◌, ◌≤◌, Bool, true, false, cond, not, eqb, List, [], ◌∷◌, length, Option, Some, None, refl, sym, ◌∙◌, ap, subst, arith, ⊎_elim, inl, inr, ◌⊎◌}
use Rattle.std.specs.Prelude.{IsSome, nat_lt}
use Rattle.std.proofs.lemmas.Bool.{false≢true, cases_lt, cases_Bool, cases_eq, cases_order, lt-ltb, le-ltb, eqb-true, eq-eqb, ne_eqb, cond-true, cond-false}
use Rattle.std.proofs.lemmas.Option.{same_Some}
use Rattle.asg_model.specs.declared.parts.Place.TheVariants.{All as PlaceAll}
use Rattle.asg_model.specs.Counts.{placed}
use Rattle.asg_model.specs.Live.{live_at, is_active}
use Rattle.asg_model.specs.Problem.{Problem}
use Rattle.asg_model.specs.Sums.{one}
use Rattle.asg_model.specs.ValidChoice.{IsValid, takes}
use Rattle.asg_square.specs.laws.Bijections.{sum_below-upto, same-rank}
use Rattle.asg_rankings.specs.Children.{row_number, is_chosen, is_kept_at, is_kept, child}
use Rattle.asg_rankings.specs.laws.ChildCells.{live-from_child, live-to_child}
use Rattle.asg_rankings.specs.laws.ChosenRows.{chosen_at, at_rank, chooses-from_chosen, chosen-from_chooses, active-from_chosen, none-from_inactive, active_total, chosen-in_active}
use Rattle.asg_values.specs.laws.Options.{some_there}

-- where lists are as long and not equal, they differ first at some place
pub first_difference : (f g : List (Option ℕ)) → length f ≡ length g → (f ≡ g) ⊎ ((r : ℕ) × (r < length f) × ((s : ℕ) → s < r → chosen_at f s ≡ chosen_at g s) × (chosen_at f r ≢ chosen_at g r))
first_difference [] [] e = inl refl
first_difference [] (o ∷ g) e = absurd (omega (arith, e))
first_difference (o ∷ f) [] e = absurd (omega (arith, e))
first_difference (o ∷ f) (q ∷ g) e =
    ⊎_elim
    (λ (same : o ≡ q).
    ⊎_elim
    (λ (rest : f ≡ g). inl (ap (λ x. x ∷ f) same ∙ ap (λ xs. q ∷ xs) rest))
    (λ (rest : (r : ℕ) × (r < length f) × ((s : ℕ) → s < r → chosen_at f s ≡ chosen_at g s) × (chosen_at f r ≢ chosen_at g r)).
    inr (suc rest.0, omega (arith, rest.1), before same rest.0 rest.2, rest.3))
    (first_difference f g (omega (arith, e))))
    (λ (other : o ≢ q). inr (0, omega arith, (λ s h. absurd (omega (arith, h))), other))
    (options o q)
  where
    options : (o q : Option ℕ) → (o ≡ q) ⊎ (o ≢ q)
    options None None = inl refl
    options None (Some d) = inr (λ e. cc e)
    options (Some c) None = inr (λ e. cc e)
    options (Some c) (Some d) =
        ⊎_elim (λ (e : c ≡ d). inl (ap Some e)) (λ (other : c ≡ d → ⊥). inr (λ e. other (same_Some c d e))) (cases_eq c d)

    before : o ≡ q → (r : ℕ) → ((s : ℕ) → s < r → chosen_at f s ≡ chosen_at g s) → (s : ℕ) → s < suc r → chosen_at (o ∷ f) s ≡ chosen_at (q ∷ g) s
    before same r rest zero h = same
    before same r rest (suc s) h = rest s (omega arith)

-- what a branch keeps in an active row
kept_before : (branch number : ℕ) (chosen : Bool) → number < branch → is_kept_at branch number chosen ≡ chosen
kept_before branch number chosen h = cond-true (nat_lt number branch) chosen (cond (eqb number branch) (not chosen) true) (lt-ltb number branch h)

kept_here : (branch number : ℕ) (chosen : Bool) → number ≡ branch → is_kept_at branch number chosen ≡ not chosen
kept_here branch number chosen e =
    cond-false (nat_lt number branch) chosen (cond (eqb number branch) (not chosen) true) (le-ltb number branch (omega (arith, e)))
    ∙ cond-true (eqb number branch) (not chosen) true (eq-eqb number branch e)

kept_after : (branch number : ℕ) (chosen : Bool) → branch < number → is_kept_at branch number chosen ≡ true
kept_after branch number chosen h =
    cond-false (nat_lt number branch) chosen (cond (eqb number branch) (not chosen) true) (le-ltb number branch (omega (arith, h)))
    ∙ cond-false (eqb number branch) (not chosen) true (ne_eqb number branch (λ e. omega (arith, h, e)))

taken : (f : List (Option ℕ)) (r c : ℕ) → is_chosen f (r, c) ≡ true → chosen_at f r ≡ Some c
taken f r c h = by (chosen_at f r) refl h
  where
    by : (o : Option ℕ) → chosen_at f r ≡ o → takes c o ≡ true → chosen_at f r ≡ Some c
    by None e h = absurd (false≢true h)
    by (Some d) e h = e ∙ ap Some (eqb-true d c h)

to_take : (f : List (Option ℕ)) (r c : ℕ) → chosen_at f r ≡ Some c → is_chosen f (r, c) ≡ true
to_take f r c e = ap (takes c) e ∙ eq-eqb c c refl

module _ (X : Problem) (f : List (Option ℕ)) where
  -- what an active row keeps
  kept_active : (branch r c : ℕ) → is_active X r ≡ true → is_kept X f branch (r, c) ≡ is_kept_at branch (row_number X r) (is_chosen f (r, c))
  kept_active branch r c active = cond-true (is_active X r) _ true active

  -- the choices of a child are valid in the instance
  pub IsValid-from_child : (branch : ℕ) (g : List (Option ℕ)) → IsValid (child X f branch) g → IsValid X g
  IsValid-from_child branch g valid = record {
    over = valid.over;
    alive = λ r c chooses.
        let some = some_there (live_at (child X f branch) r c) (valid.alive r c chooses) in
        subst IsSome (sym (live-from_child X f branch r c some.0 some.1).1) refl;
    within = valid.within;
    counted = valid.counted;
  }

  -- and choose cells that the branch keeps
  pub kept-from_child : (branch : ℕ) (g : List (Option ℕ)) → IsValid (child X f branch) g → (r c : ℕ) → chosen_at g r ≡ Some c → is_kept X f branch (r, c) ≡ true
  kept-from_child branch g valid r c e =
      let some = some_there (live_at (child X f branch) r c) (valid.alive r c (chooses-from_chosen (child X f branch) g valid r c e)) in
      (live-from_child X f branch r c some.0 some.1).0

  pub IsValid-to_child : (branch : ℕ) (g : List (Option ℕ)) → IsValid X g → ((r c : ℕ) → chosen_at g r ≡ Some c → is_kept X f branch (r, c) ≡ true) → IsValid (child X f branch) g
  IsValid-to_child branch g valid kept = record {
    over = valid.over;
    alive = λ r c chooses.
        subst IsSome (sym (live-to_child X f branch r c (kept r c (chosen-from_chooses X g valid r c chooses)))) (valid.alive r c chooses);
    within = valid.within;
    counted = valid.counted;
  }

  module _ (all : X.place ≡ PlaceAll) (valid : IsValid X f) where
    -- the active row of a branch
    branch_row : (branch : ℕ) → 1 ≤ branch → branch ≤ placed X → (r : ℕ) × (is_active X r ≡ true) × (row_number X r ≡ branch)
    branch_row branch from upto =
        let total = active_total X f valid all in
        let some : (i : ℕ) × (i + 1 ≡ branch) = by branch from in
        let at = at_rank (is_active X) (length X.rows) some.0 (omega (arith, total, some.1, upto)) in
        (at.0, at.2, omega (arith, at.3, some.1))
      where
        by : (branch : ℕ) → 1 ≤ branch → (i : ℕ) × (i + 1 ≡ branch)
        by zero h = absurd (omega arith)
        by (suc i) h = (i, omega arith)

    -- the choice itself is in no child
    pub not-in_child : (branch : ℕ) → 1 ≤ branch → branch ≤ placed X → IsValid (child X f branch) f → ⊥
    not-in_child branch from upto inside =
        let row = branch_row branch from upto in
        let chosen = chosen-in_active X f valid all row.0 row.1 in
        let kept = kept-from_child branch f inside row.0 chosen.0 chosen.1 in
        let lost = kept_active branch row.0 chosen.0 row.1 ∙ kept_here branch (row_number X row.0) (is_chosen f (row.0, chosen.0)) row.2 ∙ ap not (to_take f row.0 chosen.0 chosen.1) in
        false≢true (sym lost ∙ kept)

    -- a choice is in one child at most
    apart : (i j : ℕ) (g : List (Option ℕ)) → 1 ≤ i → i < j → j ≤ placed X → IsValid (child X f i) g → IsValid (child X f j) g → ⊥
    apart i j g from less upto in_i in_j =
        let row = branch_row i from (omega arith) in
        let chosen = chosen-in_active X g (IsValid-from_child i g in_i) all row.0 row.1 in
        let was = is_chosen f (row.0, chosen.0) in
        let first = sym (kept_active i row.0 chosen.0 row.1 ∙ kept_here i (row_number X row.0) was row.2) ∙ kept-from_child i g in_i row.0 chosen.0 chosen.1 in
        let second = sym (kept_active j row.0 chosen.0 row.1 ∙ kept_before j (row_number X row.0) was (omega (arith, row.2, less))) ∙ kept-from_child j g in_j row.0 chosen.0 chosen.1 in
        false≢true (sym (ap not second) ∙ first)

    pub once : (i j : ℕ) (g : List (Option ℕ)) → 1 ≤ i → i ≤ placed X → 1 ≤ j → j ≤ placed X → IsValid (child X f i) g → IsValid (child X f j) g → i ≡ j
    once i j g from_i upto_i from_j upto_j in_i in_j =
        ⊎_elim (λ (e : i ≡ j). e)
        (⊎_elim (λ (less : i < j). absurd (apart i j g from_i less upto_j in_i in_j))
        (λ (more : j < i). absurd (apart j i g from_j more upto_i in_j in_i)))
        (cases_order i j)

    -- each other valid choice is in some child
    pub covered : (g : List (Option ℕ)) → IsValid X g → f ≢ g → (i : ℕ) × (1 ≤ i) × (i ≤ placed X) × IsValid (child X f i) g
    covered g valid_g other =
        ⊎_elim
        (λ (same : f ≡ g). absurd (other same))
        (λ (at : (r : ℕ) × (r < length f) × ((s : ℕ) → s < r → chosen_at f s ≡ chosen_at g s) × (chosen_at f r ≢ chosen_at g r)).
        in_branch at.0 (omega (arith, at.1, valid.over)) at.2 at.3)
        (first_difference f g (valid.over ∙ sym valid_g.over))
      where
        in_branch : (r : ℕ) → r < length X.rows → ((s : ℕ) → s < r → chosen_at f s ≡ chosen_at g s) → chosen_at f r ≢ chosen_at g r → (i : ℕ) × (1 ≤ i) × (i ≤ placed X) × IsValid (child X f i) g
        in_branch r within before differ =
            let p = is_active X in
            let active : p r ≡ true =
            ⊎_elim (λ (yes : p r ≡ true). yes)
            (λ (idle : p r ≡ false). absurd (differ (none-from_inactive X f valid r idle ∙ sym (none-from_inactive X g valid_g r idle))))
            (cases_Bool (p r)) in
            let upto = sum_below-upto (λ k. one (p k)) (suc r) (length X.rows) (omega arith) in
            let here : one (p r) ≡ 1 = ap one active in
            let total = active_total X f valid all in
            let i = row_number X r in (
              i,
              omega arith,
              omega (arith, upto, here, total),
              IsValid-to_child i g valid_g (λ s c e. keeps s c e active),
            )
          where
            keeps : (s c : ℕ) → chosen_at g s ≡ Some c → is_active X r ≡ true → is_kept X f (row_number X r) (s, c) ≡ true
            keeps s c e active =
                let on = active-from_chosen X g valid_g s c e in
                let i = row_number X r in
                let number = row_number X s in
                let was = is_chosen f (s, c) in
                kept_active i s c on ∙
                ⊎_elim
                (λ (same : number ≡ i).
                let is : s ≡ r = same-rank (is_active X) s r on active (omega (arith, same)) in
                kept_here i number was same ∙
                ⊎_elim
                (λ (yes : was ≡ true). absurd (differ (sym (ap (chosen_at f) is) ∙ taken f s c yes ∙ sym e ∙ ap (chosen_at g) is)))
                (λ (other : was ≡ false). ap not other)
                (cases_Bool was))
                (⊎_elim
                (λ (less : number < i).
                kept_before i number was less ∙
                ⊎_elim
                (λ (earlier : s < r). to_take f s c (before s earlier ∙ e))
                (λ (from : r ≤ s). let le = sum_below-upto (λ k. one (is_active X k)) r s from in absurd (omega (arith, le, less)))
                (cases_lt s r))
                (λ (more : i < number). kept_after i number was more))
                (cases_order number i)
