-- Phases that are pushed and lead on, one after another.
use Rattle.asg_algebra.proofs.Common.{◌≡◌, ℕ, ◌+◌, ◌≤◌, ◌≢◌, List, [], ◌∷◌, ◌++◌, length, is_some, IfSome, Some, All, Option, unwrap_or, sym, refl, ap, ◌∙◌, subst, append_assoc, append-nil, arith, All-append, All-cons, All-nil, false≢true, IsReduced, IsPhaseTo, Reduced, made_of, IsPush, ArePushed, LeadTo, Monoid, IsOrderedMonoid, fold_of, neutral_right, Forest, IsLive, trail_at, grown_on, phases_to, PhaseOf, phase_of, IsAdmittedPhase, AreAdmittedPhases, after_phases, index_of, after_phases-append, AreAdmittedPhases-append, index_is_value, index_of-append, steps_value, cell_at}
use Rattle.std.proofs.Common.{option_map}
use Rattle.asg_admit.specs.laws.KeptLabels.{same_labels, chained_labels}

module _ {V : Type 0} where
  pub ArePushed-append : (phases more : List (PhaseOf V)) (first second third : Forest V) (trail middle last : Option ℕ) → ArePushed phases first second trail middle → ArePushed more second third middle last → ArePushed (phases ++ more) first third trail last
  ArePushed-append [] more first second third trail middle last a b =
      subst (λ f. ArePushed more f third trail last) a.0 (subst (λ t. ArePushed more second third t last) a.1 b)
  ArePushed-append (phase ∷ rest) more first second third trail middle last a b =
      (a.0, a.1, a.2, ArePushed-append rest more a.0 second third (Some a.1) middle last a.3 b)

  -- the new trail
  pushed_there : (before after : Forest V) (parent : Option ℕ) (phase : PhaseOf V) (t : ℕ) → IsPush before after parent phase t → trail_at after t ≡ Some (grown_on before parent phase)
  pushed_there before after parent phase t push =
      let changes = push.trails in
      changes.changed

  pub ArePushed-live : (phases : List (PhaseOf V)) (before after : Forest V) (trail last : Option ℕ) → ArePushed phases before after trail last → IfSome trail (IsLive before) → IfSome last (IsLive after)
  ArePushed-live [] before after trail last a live =
      subst (λ f. IfSome last (IsLive f)) (sym a.0) (subst (λ t. IfSome t (IsLive before)) (sym a.1) live)
  ArePushed-live (phase ∷ rest) before after trail last a live =
      ArePushed-live rest a.0 after (Some a.1) last a.3 (ap is_some (pushed_there before a.0 trail phase a.1 a.2))

  pub ArePushed-spare : (phases : List (PhaseOf V)) (before after : Forest V) (trail last : Option ℕ) → ArePushed phases before after trail last → after.spare + length phases ≡ before.spare
  ArePushed-spare [] before after trail last a = omega (arith, ap (λ f. f.spare) a.0)
  ArePushed-spare (phase ∷ rest) before after trail last a =
      let push = a.2 in
      omega (arith, push.spare, ArePushed-spare rest a.0 after (Some a.1) last a.3)

  pub ArePushed-side : (phases : List (PhaseOf V)) (before after : Forest V) (trail last : Option ℕ) → ArePushed phases before after trail last → after.side ≡ before.side
  ArePushed-side [] before after trail last a = ap (λ f. f.side) a.0
  ArePushed-side (phase ∷ rest) before after trail last a =
      let push = a.2 in
      ArePushed-side rest a.0 after (Some a.1) last a.3 ∙ push.side

  pub ArePushed-list : (phases : List (PhaseOf V)) (before after : Forest V) (trail last : Option ℕ) → ArePushed phases before after trail last → phases_to after last ≡ phases_to before trail ++ phases
  ArePushed-list [] before after trail last a =
      (λ i. phases_to (a.0 i) (a.1 i)) ∙ sym (append-nil (phases_to before trail))
  ArePushed-list (phase ∷ rest) before after trail last a =
      ArePushed-list rest a.0 after (Some a.1) last a.3
      ∙ ap (λ o. unwrap_or (option_map (λ branch. branch.phases) o) [] ++ rest) (pushed_there before a.0 trail phase a.1 a.2)
      ∙ append_assoc (phases_to before trail) (phase ∷ []) rest

  pub ArePushed-kept : (phases : List (PhaseOf V)) (before after : Forest V) (trail last : Option ℕ) → ArePushed phases before after trail last → (t : ℕ) → IsLive before t → trail_at after t ≡ trail_at before t
  ArePushed-kept [] before after trail last a t live = ap (λ f. trail_at f t) a.0
  ArePushed-kept (phase ∷ rest) before after trail last a t live =
      let push = a.2 in
      let changes = push.trails in
      let other : t ≢ a.1 = λ e. false≢true (sym (ap is_some (ap (trail_at before) e ∙ push.new)) ∙ live) in
      let same : trail_at a.0 t ≡ trail_at before t = changes.others t other in
      ArePushed-kept rest a.0 after (Some a.1) last a.3 t (ap is_some same ∙ live) ∙ same

module _ {V : Type 0} (M : Monoid V) (laws : IsOrderedMonoid M) (difference : V → V → V) where
  pub LeadTo-none : (before : Reduced V) (forest : Forest V) (trail : Option ℕ) → IsReduced M before → LeadTo M difference [] before before forest forest trail trail
  LeadTo-none before forest trail is = record {
    pushed = (refl, refl);
    admitted = tt;
    outcome = λ r k. refl;
    index = sym (neutral_right M laws before.index is.index);
    labels = same_labels before.now;
    reduced = is;
    sizes = All-nil (λ phase. (1 ≤ length phase.steps) × (length phase.steps ≤ before.now.side));
  }

  pub LeadTo-join : (phases more : List (PhaseOf V)) (first second third : Reduced V) (f g h : Forest V) (trail middle last : Option ℕ) → IsReduced M first → LeadTo M difference phases first second f g trail middle → LeadTo M difference more second third g h middle last → LeadTo M difference (phases ++ more) first third f h trail last
  LeadTo-join phases more first second third f g h trail middle last is a b =
      let side = first.now.side in
      let start = cell_at first.now in
      let same_side : second.now.side ≡ side = a.labels.side in
      let same : cell_at second.now ≡ after_phases M difference phases start = λ i r k. a.outcome r k i in
      let later : AreAdmittedPhases M difference side more (after_phases M difference phases start) = subst (λ A. A) (λ i. AreAdmittedPhases M difference (same_side i) more (same i)) b.admitted in
      let vp = index_is_value M laws difference side phases start a.admitted in
      let vm = index_is_value M laws difference side more (after_phases M difference phases start) later in
      record {
        pushed = ArePushed-append phases more f g h trail middle last a.pushed b.pushed;
        admitted = AreAdmittedPhases-append M difference side phases more start a.admitted later;
        outcome = λ r k.
            b.outcome r k
            ∙ ap (λ q. after_phases M difference more q r k) same
            ∙ ap (λ q. q r k) (sym (after_phases-append M difference phases more start));
        index =
            b.index
            ∙ ap (λ z. M.product z (index_of M more)) a.index
            ∙ laws.associative first.index (index_of M phases) (index_of M more) is.index vp vm
            ∙ ap (M.product first.index) (sym (index_of-append M laws difference side phases more start a.admitted later));
        labels = chained_labels first.now second.now third.now a.labels b.labels;
        reduced = b.reduced;
        sizes = All-append (λ phase. (1 ≤ length phase.steps) × (length phase.steps ≤ side)) phases more a.sizes
            (subst (λ n. All (λ phase. (1 ≤ length phase.steps) × (length phase.steps ≤ n)) more) same_side b.sizes);
      }

  -- the phase of a search, where it has a step, leads on
  pub LeadTo-made : (steps : List V) (enters leaves : List ℕ) (before after : Reduced V) (f g : Forest V) (trail last : Option ℕ) → IsReduced M before → length steps ≤ before.now.side → IsAdmittedPhase M difference before.now.side (phase_of steps enters leaves) (cell_at before.now) → IsPhaseTo M difference (phase_of steps enters leaves) before after → ArePushed (made_of (phase_of steps enters leaves) steps) f g trail last → LeadTo M difference (made_of (phase_of steps enters leaves) steps) before after f g trail last × (length (made_of (phase_of steps enters leaves) steps) ≤ 1)
  LeadTo-made [] enters leaves before after f g trail last is few admitted to pushed = (
    record {
      pushed = pushed;
      admitted = tt;
      outcome = to.cells;
      index = to.index;
      labels = to.labels;
      reduced = to.reduced;
      sizes = All-nil (λ phase. (1 ≤ length phase.steps) × (length phase.steps ≤ before.now.side));
    },
    omega arith,
  )
  LeadTo-made (c ∷ steps) enters leaves before after f g trail last is few admitted to pushed =
      let phase = phase_of (c ∷ steps) enters leaves in (
        record {
          pushed = pushed;
          admitted = (admitted, tt);
          outcome = to.cells;
          index = to.index ∙ ap (M.product before.index) (sym (neutral_right M laws (fold_of M (c ∷ steps)) (steps_value M laws difference before.now.side phase (cell_at before.now) admitted)));
          labels = to.labels;
          reduced = to.reduced;
          sizes = All-cons (λ phase. (1 ≤ length phase.steps) × (length phase.steps ≤ before.now.side)) phase [] (omega arith, few) (All-nil (λ phase. (1 ≤ length phase.steps) × (length phase.steps ≤ before.now.side)));
        },
        omega arith,
      )
