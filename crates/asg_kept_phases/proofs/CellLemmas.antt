-- A cell that goes through phases, one after the other.
use Rattle.asg_kept_phases.proofs.Common.{◌≡◌, ℕ, suc, ◌+◌, ◌<◌, List, [], ◌∷◌, ◌++◌, length, get_or, take, slice_index, Some, Option, sym, refl, ap, ◌∙◌, subst, arith, cell_settled, cell_after_phases, AllowsPhases, AllowsSoMany, AllowsSteps, RefusesStep, settled, Monoid, IsValue, PhaseOf, take-step}

module _ {V : Type 0} (M : Monoid V) (difference : V → V → V) (r k : ℕ) where
  pub cell_after-append : (phases more : List (PhaseOf V)) (cell : Option V) → cell_after_phases M difference (phases ++ more) r k cell ≡ cell_after_phases M difference more r k (cell_after_phases M difference phases r k cell)
  cell_after-append [] more cell = refl
  cell_after-append (phase ∷ rest) more cell = cell_after-append rest more (cell_settled M difference phase r k cell)

  pub AllowsPhases-append : (phases more : List (PhaseOf V)) (cell : Option V) → AllowsPhases M difference phases r k cell → AllowsPhases M difference more r k (cell_after_phases M difference phases r k cell) → AllowsPhases M difference (phases ++ more) r k cell
  AllowsPhases-append [] more cell all next = next
  AllowsPhases-append (phase ∷ rest) more cell all next =
      (all.0, AllowsPhases-append rest more (cell_settled M difference phase r k cell) all.1 next)

  pub AllowsPhases-back : (phases more : List (PhaseOf V)) (cell : Option V) → AllowsPhases M difference (phases ++ more) r k cell → AllowsPhases M difference more r k (cell_after_phases M difference phases r k cell)
  AllowsPhases-back [] more cell all = all
  AllowsPhases-back (phase ∷ rest) more cell all = AllowsPhases-back rest more (cell_settled M difference phase r k cell) all.1

  -- a value went through the first so many phases
  pub record IsThrough (phases : List (PhaseOf V)) (x : V) (i : ℕ) (now : V) : Type 0 where
    pub allows : AllowsPhases M difference (take i phases) r k (Some x)
    pub value : IsValue M now
    pub cell : cell_after_phases M difference (take i phases) r k (Some x) ≡ Some now

  module _ (phases : List (PhaseOf V)) (d : PhaseOf V) (x : V) (i : ℕ) (now : V) (below : i < length phases) (so_far : IsThrough phases x i now) where
    abbrev phase : PhaseOf V
    phase = get_or phases i d

    -- one phase more
    pub IsThrough-next : (y : V) → AllowsSteps M difference phase.steps (slice_index phase.enters r) (slice_index phase.leaves k) now → y ≡ settled M difference phase.steps (slice_index phase.enters r) (slice_index phase.leaves k) now → IsValue M y → IsThrough phases x (i + 1) y
    IsThrough-next y allows is value =
        let one : i + 1 ≡ suc i = omega arith in
        let more = ap (λ n. take n phases) one ∙ take-step phases i d below in
        record {
          allows =
              subst (λ list. AllowsPhases M difference list r k (Some x)) (sym more)
              (AllowsPhases-append (take i phases) (phase ∷ []) (Some x) so_far.allows
              (subst (AllowsPhases M difference (phase ∷ []) r k) (sym so_far.cell)
              ((λ z at. subst (AllowsSteps M difference phase.steps (slice_index phase.enters r) (slice_index phase.leaves k)) (some_same now z at) allows), tt)));
          value = value;
          cell =
              ap (λ list. cell_after_phases M difference list r k (Some x)) more
              ∙ cell_after-append (take i phases) (phase ∷ []) (Some x)
              ∙ ap (cell_settled M difference phase r k) so_far.cell
              ∙ ap Some (sym is);
        }
      where
        some_same : (a b : V) → Some a ≡ Some b → a ≡ b
        some_same a b e = cc

    -- the next phase isn't allowed
    pub IsThrough-end : RefusesStep M difference phase.steps (slice_index phase.enters r) (slice_index phase.leaves k) now → AllowsSoMany M difference phases r k (Some x) i
    IsThrough-end refuses = record {
      within = omega (arith, below);
      allows = so_far.allows;
      no_more = λ h all.
          let last = AllowsPhases-back (take i phases) (phase ∷ []) (Some x) (subst (λ list. AllowsPhases M difference list r k (Some x)) (take-step phases i d below) all) in
          let steps = last.0 now so_far.cell refuses.0 refuses.1 refuses.2 refuses.3 in
          absurd (let no = refuses.4 in cc);
    }
