-- A square that loses the cells of a branch, and to which the phase is applied that a trail has
-- beyond another one.
use Rattle.asg_nodes.proofs.Common.{◌≡◌, ℕ, ◌<◌, Bool, true, false, cond, List, [], ◌∷◌, ◌++◌, IfSome, Some, None, Option, option_and_then, unwrap_or, sym, refl, ap, ◌∙◌, subst, ⊎_elim, none-some, same_Some, Reduced, HasLabelsOf-kept, Problem, square_side, LosesCells, IsNext, Rules, Leads, IsReducedTo, reduced_cell, GrewOn, IsOwn, SettlesBy, SettlesOwn, IsValue, IsOrderedMonoid, fold_of, Forest, Branch, trail_at, phases_of, phases_to, last_phase, IsForest, IsGrown, PhaseOf, IsAdmittedPhase, AreAdmittedPhases, after_phase, after_phases, index_of, child, keeps_cell, after_phases-child, square_cell, cell_at}
use Rattle.std.proofs.Common.{option_map}
use Rattle.asg_pool.specs.laws.Trails.{last_phase-push}
use Rattle.asg_proof.specs.laws.PhaseLists.{after_phases-push, AreAdmittedPhases-back, index_of-push}

pub kept_value : {V : Type 0} (b : Bool) (o : Option V) (x : V) → cond b o None ≡ Some x → o ≡ Some x
kept_value true o x e = e
kept_value false o x e = absurd (none-some x e)

-- a trail that has nothing beyond the one before is that one
pub own_same : {V : Type 0} (F : Forest V) (before trail : Option ℕ) → IsNext F before trail → IsOwn before trail None → trail ≡ before
own_same F before trail next own =
    ⊎_elim
    (λ (same : trail ≡ before). same)
    (λ (none : trail ≡ None).
    ⊎_elim
    (λ (same : trail ≡ before). same)
    (λ (grew : (t : ℕ) × (trail ≡ Some t) × GrewOn F before t). absurd (none-some grew.0 (sym none ∙ grew.1)))
    next)
    own

module _ {V : Type 0} (R : Rules V) (F : Forest V) (Y : Problem) where
  -- the square of a child, from that of its parent's part
  pub cut_child : (f : List (Option ℕ)) (branch : ℕ) (trail : Option ℕ) (index : V) (work after : Reduced V) → IsReducedTo R F Y trail index work → after.index ≡ work.index → LosesCells (keeps_cell Y f branch) work.now after.now → IsReducedTo R F (child Y f branch) trail index after
  cut_child f branch trail index work after to same loses = record {
    labels = (let l = HasLabelsOf-kept Y work.now after.now loses.labels to.labels in record { side = l.side; rows = l.rows; row_labels = l.row_labels; column_labels = l.column_labels });
    values = record {
      cells = λ r k x hr hk e.
          let side = loses.labels.side in
          to.values.cells r k x (subst (λ n. r < n) side hr) (subst (λ n. k < n) side hk)
          (kept_value (keeps_cell Y f branch r k) (cell_at work.now r k) x (sym (loses.cells r k) ∙ e));
      index = subst (IsValue R.monoid) (sym same) to.values.index;
    };
    cells = λ r k.
        loses.cells r k
        ∙ ap (λ o. cond (keeps_cell Y f branch r k) o None) (to.cells r k)
        ∙ (λ i. sym (after_phases-child R.monoid R.difference R.enter Y f branch (phases_to F trail)) i r k);
    index_is = same ∙ to.index_is;
  }

  module _ (laws : IsOrderedMonoid R.monoid) (forest : IsForest F) (before trail : Option ℕ) (was index : V) (work : Reduced V) (to : IsReducedTo R F Y before was work)
      (next : IsNext F before trail) (leads_before : Leads R F Y before was) (leads : Leads R F Y trail index)
    where
      -- a trail that grew on the one before has its phases and then one more
      grown : (t : ℕ) → GrewOn F before t → (phase : PhaseOf V) × (phases_of F t ≡ phases_to F before ++ phase ∷ [])
      grown t grew = by (trail_at F t) refl (forest t)
        where
          by : (o : Option (Branch V)) → trail_at F t ≡ o → IfSome (trail_at F t) (IsGrown F) → (phase : PhaseOf V) × (phases_of F t ≡ phases_to F before ++ phase ∷ [])
          by None e h = absurd (let live = grew.live in cc (e, live))
          by (Some branch) e h =
              let is = subst (λ o. IfSome o (IsGrown F)) e h in
              let up : branch.parent ≡ before = sym (ap (option_and_then (λ (b : Branch V). b.parent)) e) ∙ grew.parent in (
                is.phase,
                ap (λ (o : Option (Branch V)). unwrap_or (option_map (λ b. b.phases) o) []) e ∙ is.list ∙ ap (λ p. phases_to F p ++ is.phase ∷ []) up,
              )

      own_grew : (t : ℕ) → IsOwn before trail (Some t) → GrewOn F before t
      own_grew t own =
          ⊎_elim
          (λ (same : trail ≡ before). absurd (own.1 same))
          (λ (grew : (u : ℕ) × (trail ≡ Some u) × GrewOn F before u). subst (GrewOn F before) (same_Some grew.0 t (sym grew.1 ∙ own.0)) grew.2)
          next

      own_list : (t : ℕ) → IsOwn before trail (Some t) → phases_to F trail ≡ phases_to F before ++ last_phase (phases_of F t) ∷ []
      own_list t own =
          let g = grown t (own_grew t own) in
          ap (phases_to F) own.0 ∙ g.1
          ∙ ap (λ phase. phases_to F before ++ phase ∷ []) (sym (ap last_phase g.1 ∙ last_phase-push (phases_to F before) g.0))

      square_is : cell_at work.now ≡ reduced_cell R F Y before
      square_is = λ i r k. to.cells r k i

      admitted_after : (t : ℕ) → IsOwn before trail (Some t) → IsAdmittedPhase R.monoid R.difference (square_side Y) (last_phase (phases_of F t)) (reduced_cell R F Y before)
      admitted_after t own =
          let square = square_cell Y R.monoid.unit R.enter in
          (AreAdmittedPhases-back R.monoid R.difference (square_side Y) (phases_to F before) (last_phase (phases_of F t) ∷ []) square
          (subst (λ phases. AreAdmittedPhases R.monoid R.difference (square_side Y) phases square) (own_list t own) leads.admitted)).0

      -- its last phase is admitted from the square
      pub own_admitted : (t : ℕ) → IsOwn before trail (Some t) → IsAdmittedPhase R.monoid R.difference work.now.side (last_phase (phases_of F t)) (cell_at work.now)
      own_admitted t own =
          subst (λ side. IsAdmittedPhase R.monoid R.difference side (last_phase (phases_of F t)) (cell_at work.now)) (sym to.labels.side)
          (subst (IsAdmittedPhase R.monoid R.difference (square_side Y) (last_phase (phases_of F t))) (sym square_is) (admitted_after t own))

      by_own : (own : Option ℕ) → IsOwn before trail own → (after : Reduced V) → SettlesBy R.monoid R.difference F work after own → IsReducedTo R F Y trail index after
      by_own None own after settles =
          let same = own_same F before trail next own in
          let z : index ≡ was = leads.index_is ∙ ap (λ t. index_of R.monoid (phases_to F t)) same ∙ sym leads_before.index_is in
          subst (λ w. IsReducedTo R F Y trail index w) (sym settles)
          (subst (λ t. IsReducedTo R F Y t index work) (sym same) (subst (λ x. IsReducedTo R F Y before x work) (sym z) to))
      by_own (Some t) own after settles =
          let phase = last_phase (phases_of F t) in
          let square = square_cell Y R.monoid.unit R.enter in record {
            labels = HasLabelsOf-kept Y work.now after.now settles.labels to.labels;
            values = settles.reduced;
            cells = λ r k.
                settles.cells r k
                ∙ (λ i. after_phase R.monoid R.difference phase (square_is i) r k)
                ∙ (λ i. sym (after_phases-push R.monoid R.difference (phases_to F before) phase square) i r k)
                ∙ (λ i. after_phases R.monoid R.difference (sym (own_list t own) i) square r k);
            index_is =
                settles.index
                ∙ ap (λ z. R.monoid.product z (fold_of R.monoid phase.steps)) (to.index_is ∙ leads_before.index_is)
                ∙ sym (index_of-push R.monoid laws R.difference (square_side Y) (phases_to F before) phase square leads_before.admitted (admitted_after t own))
                ∙ ap (index_of R.monoid) (sym (own_list t own))
                ∙ sym leads.index_is;
          }

      -- the square after the trail
      pub settled_own : (after : Reduced V) → SettlesOwn R.monoid R.difference F before trail work after → IsReducedTo R F Y trail index after
      settled_own after settles = by_own settles.0 settles.1 after settles.2
