-- Phases that were given, one after another.
use Rattle.asg_algebra.proofs.Common.{◌≡◌, ℕ, suc, ◌+◌, ◌<◌, ◌≤◌, List, [], ◌∷◌, ◌++◌, length, get_or, take, drop, IfSome, Some, Option, sym, refl, ap, ◌∙◌, subst, arith, take-append-drop, drop-cons, All-cons, All-nil, take_more, IsReduced, IsPhaseTo, Reduced, IsPush, LeadTo, HasSolved, KeepsRows, unmatched, IsAbsorbed, IsMatched, IsPerfect, Monoid, IsOrderedMonoid, fold_of, neutral_right, Forest, IsLive, PhaseOf, phase_of, AreAdmittedPhases, IsAdmittedPhase, steps_value, AreAdmittedPhases-back, cell_at}
use Rattle.asg_algebra.proofs.SolvedLaws.{LeadTo-join, ArePushed-spare, ArePushed-live, ArePushed-side, ArePushed-list, ArePushed-kept}

module _ {V : Type 0} (M : Monoid V) (laws : IsOrderedMonoid M) (difference : V → V → V) where
  -- a phase that is applied and pushed leads on
  pub LeadTo-one : (phase : PhaseOf V) (before after : Reduced V) (f g : Forest V) (trail : Option ℕ) (t : ℕ) → 1 ≤ length phase.steps → length phase.steps ≤ before.now.side → IsAdmittedPhase M difference before.now.side phase (cell_at before.now) → IsPhaseTo M difference phase before after → IsPush f g trail phase t → LeadTo M difference (phase ∷ []) before after f g trail (Some t)
  LeadTo-one phase before after f g trail t some few admitted to push = record {
    pushed = (g, t, push, (refl, refl));
    admitted = (admitted, tt);
    outcome = to.cells;
    index = to.index ∙ ap (M.product before.index) (sym (neutral_right M laws (fold_of M phase.steps) (steps_value M laws difference before.now.side phase (cell_at before.now) admitted)));
    labels = to.labels;
    reduced = to.reduced;
    sizes = All-cons (λ p. (1 ≤ length p.steps) × (length p.steps ≤ before.now.side)) phase [] (some, few) (All-nil (λ p. (1 ≤ length p.steps) × (length p.steps ≤ before.now.side)));
  }

  -- the first phases of a list lead on, and then the next one, of these three lists
  pub LeadTo-more : (given : List (PhaseOf V)) (k : ℕ) (phase : PhaseOf V) (steps : List V) (enters leaves : List ℕ) (first second third : Reduced V) (f g h : Forest V) (trail middle last : Option ℕ) → k < length given → phase ≡ get_or given k phase → steps ≡ phase.steps → enters ≡ phase.enters → leaves ≡ phase.leaves → IsReduced M first → LeadTo M difference (take k given) first second f g trail middle → LeadTo M difference (phase_of steps enters leaves ∷ []) second third g h middle last → LeadTo M difference (take (k + 1) given) first third f h trail last
  LeadTo-more given k phase steps enters leaves first second third f g h trail middle last below at e e′ e″ is a b =
      let same : phase_of steps enters leaves ≡ get_or given k phase = (λ i. phase_of (e i) (e′ i) (e″ i)) ∙ at in
      subst (λ phases. LeadTo M difference phases first third f h trail last)
      (ap (λ p. take k given ++ p ∷ []) same ∙ sym (take_more given k phase below))
      (LeadTo-join M laws difference (take k given) (phase_of steps enters leaves ∷ []) first second third f g h trail middle last is a b)

  -- of phases that are admitted in turn the next one is, of these three lists, from where the first
  -- ones lead
  pub IsAdmitted-next : (given : List (PhaseOf V)) (k : ℕ) (phase : PhaseOf V) (steps : List V) (enters leaves : List ℕ) (first second : Reduced V) (f g : Forest V) (trail middle : Option ℕ) → k < length given → phase ≡ get_or given k phase → steps ≡ phase.steps → enters ≡ phase.enters → leaves ≡ phase.leaves → AreAdmittedPhases M difference first.now.side given (cell_at first.now) → LeadTo M difference (take k given) first second f g trail middle → IsAdmittedPhase M difference second.now.side (phase_of steps enters leaves) (cell_at second.now)
  IsAdmitted-next given k phase steps enters leaves first second f g trail middle below at e e′ e″ all a =
      let same : phase_of steps enters leaves ≡ get_or given k phase = (λ i. phase_of (e i) (e′ i) (e″ i)) ∙ at in
      let split : given ≡ take k given ++ get_or given k phase ∷ drop (suc k) given =
      sym (take-append-drop k given) ∙ ap (λ xs. take k given ++ xs) (drop-cons given k phase below) in
      let later = AreAdmittedPhases-back M difference first.now.side (take k given) (get_or given k phase ∷ drop (suc k) given) (cell_at first.now)
      (subst (λ phases. AreAdmittedPhases M difference first.now.side phases (cell_at first.now)) split all) in
      subst (λ A. A) (λ i. IsAdmittedPhase M difference ((sym a.labels.side) i) ((sym same) i) (λ r c. (sym (a.outcome r c)) i)) later.0

module _ {V : Type 0} {M : Monoid V} {difference : V → V → V} {phases : List (PhaseOf V)} {before after : Reduced V} {f g : Forest V} {trail last : Option ℕ} (lead : LeadTo M difference phases before after f g trail last) where
  pub lead_spare : g.spare + length phases ≡ f.spare
  lead_spare = ArePushed-spare phases f g trail last lead.pushed

  pub lead_live : IfSome trail (IsLive f) → IfSome last (IsLive g)
  lead_live live = ArePushed-live phases f g trail last lead.pushed live

  pub lead_sides : f.side ≡ before.now.side → g.side ≡ after.now.side
  lead_sides same = ArePushed-side phases f g trail last lead.pushed ∙ same ∙ sym lead.labels.side

  pub HasSolved-led : (m m' : List (Option ℕ)) → length phases ≤ unmatched m → IfSome trail (IsLive f) → KeepsRows M after m m' → HasSolved M difference before after m m' f g trail last
  HasSolved-led m m' few live rows = record {
    phases = phases;
    lead = lead;
    few = few;
    list = ArePushed-list phases f g trail last lead.pushed;
    spare = ArePushed-spare phases f g trail last lead.pushed;
    kept = ArePushed-kept phases f g trail last lead.pushed;
    live = ArePushed-live phases f g trail last lead.pushed live;
    rows = rows;
  }

module _ {V : Type 0} (M : Monoid V) (reduced : Reduced V) where
  -- where every row has a column then, all have absorbed cells
  pub KeepsRows-perfect : (m m' : List (Option ℕ)) → length m ≡ reduced.now.side → KeepsRows M reduced m m' → ((r : ℕ) → r < length m' → IsMatched m' r) → IsPerfect (IsAbsorbed M reduced.index (cell_at reduced.now)) reduced.now.side m'
  KeepsRows-perfect m m' side rows all = record {
    rows = rows.side ∙ side;
    columns = rows.columns;
    all = λ r h. all r (omega (arith, h, rows.side, side));
    cells = rows.absorbed;
  }
