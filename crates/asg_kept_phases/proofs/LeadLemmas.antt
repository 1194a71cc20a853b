-- Phases that lead on, one more at the end.
use Rattle.asg_kept_phases.proofs.Common.{◌≡◌, ℕ, suc, ◌+◌, ◌<◌, List, [], ◌∷◌, ◌++◌, length, get_or, take, sym, refl, ap, ◌∙◌, subst, arith, IsReduced, IsPhaseTo, Reduced, same_labels, chained_labels, fewer_admitted, all_taken, LeadsTo, Monoid, IsOrderedMonoid, fold_of, PhaseOf, after_phase, after_phases, IsAdmittedPhase, AreAdmittedPhases, index_of, after_phases-push, AreAdmittedPhases-front, AreAdmittedPhases-back, index_of-push, index_is_value, steps_value, take-step, cell_at}
use Rattle.asg_order.specs.laws.Products.{neutral_right}

module _ {V : Type 0} (M : Monoid V) (laws : IsOrderedMonoid M) (difference : V → V → V) where
  -- no phase leads nowhere
  pub LeadsTo-none : (before : Reduced V) → IsReduced M before → LeadsTo M difference [] before before
  LeadsTo-none before reduced = record {
    cells = λ r k. refl;
    index = sym (neutral_right M laws before.index reduced.index);
    labels = same_labels before.now;
    is_reduced = reduced;
  }

  module _ (phases : List (PhaseOf V)) (d : PhaseOf V) (before middle : Reduced V) (i : ℕ) (below : i < length phases)
      (admitted : AreAdmittedPhases M difference before.now.side phases (cell_at before.now)) (start : IsReduced M before) (so_far : LeadsTo M difference (take i phases) before middle)
    where
      abbrev phase : PhaseOf V
      phase = get_or phases i d

      so_many : AreAdmittedPhases M difference before.now.side (take i phases ++ phase ∷ []) (cell_at before.now)
      so_many =
          subst (λ list. AreAdmittedPhases M difference before.now.side list (cell_at before.now)) (take-step phases i d below)
          (fewer_admitted M difference before.now.side phases (cell_at before.now) (suc i) (length phases) (omega arith) (all_taken M difference before.now.side phases (cell_at before.now) admitted))

      cells_are : cell_at middle.now ≡ after_phases M difference (take i phases) (cell_at before.now)
      cells_are = λ j r k. so_far.cells r k j

      first : AreAdmittedPhases M difference before.now.side (take i phases) (cell_at before.now)
      first = AreAdmittedPhases-front M difference before.now.side (take i phases) (phase ∷ []) (cell_at before.now) so_many

      last : IsAdmittedPhase M difference before.now.side phase (after_phases M difference (take i phases) (cell_at before.now))
      last = (AreAdmittedPhases-back M difference before.now.side (take i phases) (phase ∷ []) (cell_at before.now) so_many).0

      -- the next phase is admitted
      pub next_admitted : IsAdmittedPhase M difference middle.now.side phase (cell_at middle.now)
      next_admitted =
          subst (λ n. IsAdmittedPhase M difference n phase (cell_at middle.now)) (sym so_far.labels.side)
          (subst (IsAdmittedPhase M difference before.now.side phase) (sym cells_are) last)

      -- and leads on
      pub LeadsTo-next : (after : Reduced V) → IsPhaseTo M difference phase middle after → LeadsTo M difference (take (i + 1) phases) before after
      LeadsTo-next after one =
          let more : take (i + 1) phases ≡ take i phases ++ phase ∷ [] = ap (λ n. take n phases) (let e : i + 1 ≡ suc i = omega arith in e) ∙ take-step phases i d below in
          let index =
          one.index
          ∙ ap (λ z. M.product z (fold_of M phase.steps)) so_far.index
          ∙ laws.associative before.index (index_of M (take i phases)) (fold_of M phase.steps) start.index
          (index_is_value M laws difference before.now.side (take i phases) (cell_at before.now) first)
          (steps_value M laws difference before.now.side phase (after_phases M difference (take i phases) (cell_at before.now)) last)
          ∙ ap (M.product before.index) (sym (index_of-push M laws difference before.now.side (take i phases) phase (cell_at before.now) first last)) in
          record {
            cells = λ r k.
                one.cells r k
                ∙ ap (λ q. after_phase M difference phase q r k) cells_are
                ∙ ap (λ q. q r k) (sym (after_phases-push M difference (take i phases) phase (cell_at before.now)))
                ∙ ap (λ list. after_phases M difference list (cell_at before.now) r k) (sym more);
            index = index ∙ ap (λ list. M.product before.index (index_of M list)) (sym more);
            labels = chained_labels before.now middle.now after.now so_far.labels one.labels;
            is_reduced = one.reduced;
          }
