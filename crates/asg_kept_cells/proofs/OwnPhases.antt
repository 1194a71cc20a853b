-- The index of phases after another, from the kept cells of a square.
use Rattle.asg_kept_cells.proofs.Common.{◌≡◌, ℕ, suc, ◌<◌, List, [], ◌∷◌, map, take, sym, refl, ap, ◌∙◌, subst, fun_ext, IsReduced, KeepsLabels, Reduced, BitTable, AreAdmittedWithin, HaveIndexAfter, from_kept, Monoid, IsValue, IsOrderedMonoid, fold_of, Word, PhaseOf, worded, IsAdmittedPhase, AreAdmittedPhases, HasValues, steps_value, AreAdmittedFrom, AreReplayed, IsAdmittedFrom, IsFirstBad, admitted-take, Grid, cell_at, keeps, masked_grid, cell_at-masked}
use Rattle.asg_order.specs.laws.Products.{neutral_right}

module _ {V : Type 0} (M : Monoid V) (laws : IsOrderedMonoid M) (difference : V → V → V) (word_of : V → Word) (Q : Grid V) (kept : BitTable) (before : V) (is_value : IsValue M before) where
  -- no phases have the index itself
  pub index_none : HaveIndexAfter M difference word_of Q kept before [] before
  index_none = record {
    admitted = record { phases = []; written = refl; admitted = tt };
    product = sym (neutral_right M laws before is_value);
    is_value = is_value;
  }

  module _ (R : Grid V) (labels : KeepsLabels Q R) (cells : (r k : ℕ) → cell_at R r k ≡ cell_at (masked_grid Q kept.words) r k) where
    abbrev start : Reduced V
    start = record { now = R; index = before }

    same_cells : cell_at R ≡ cell_at (masked_grid Q kept.words)
    same_cells = fun_ext (λ r. fun_ext (λ k. cells r k))

    -- a square from which cells are taken out is reduced where the square is
    pub taken_reduced : HasValues M Q.side (cell_at Q) → IsReduced M start
    taken_reduced values = record {
      cells = λ r k x hr hk at. values r k x (subst (λ n. r < n) labels.side hr) (subst (λ n. k < n) labels.side hk)
          (from_kept (keeps Q.side kept.words r k) (cell_at Q r k) x (sym (cell_at-masked Q kept.words r k) ∙ sym (cells r k) ∙ at));
      index = is_value;
    }

    -- phases that lead on from it have the index that it ends with
    pub index_led : (own : List (PhaseOf Word)) (after : Reduced V) → AreReplayed M difference word_of own start after → HaveIndexAfter M difference word_of Q kept before own after.index
    index_led own after led =
        record {
          admitted = record {
            phases = led.phases;
            written = led.written;
            admitted = subst (λ n. AreAdmittedPhases M difference n led.phases (cell_at (masked_grid Q kept.words))) labels.side
                (subst (AreAdmittedPhases M difference R.side led.phases) same_cells led.admitted);
          };
          product = led.index;
          is_value = led.reduced.index;
        }

    -- where one is bad they aren't admitted
    pub index_bad : (own : List (PhaseOf Word)) (place : ℕ) → IsFirstBad M difference word_of R.side (cell_at R) own place → ¬ AreAdmittedWithin M difference word_of Q kept own
    index_bad own place bad = λ all.
        let here : AreAdmittedFrom M difference word_of R.side (cell_at R) own =
        subst (λ n. AreAdmittedFrom M difference word_of n (cell_at R) own) (sym labels.side)
        (subst (λ square. AreAdmittedFrom M difference word_of Q.side square own) (sym same_cells) all) in
        bad.bad
        (admitted-take M difference word_of R.side (cell_at R) (suc place) own here)

-- the kept cells of a square of values are values
pub kept_values : {V : Type 0} (M : Monoid V) (Q : Grid V) (words : List ℕ) → HasValues M Q.side (cell_at Q) → HasValues M Q.side (cell_at (masked_grid Q words))
kept_values M Q words values r k x hr hk at = values r k x hr hk (from_kept (keeps Q.side words r k) (cell_at Q r k) x (sym (cell_at-masked Q words r k) ∙ at))

module _ {V : Type 0} (M : Monoid V) (laws : IsOrderedMonoid M) (difference : V → V → V) (word_of : V → Word) (Q : Grid V) (kept : BitTable) (before : V) (phase : PhaseOf Word) where
  -- the words of one phase are those of one that is admitted
  pub one_from : AreAdmittedWithin M difference word_of Q kept (phase ∷ []) → IsAdmittedFrom M difference word_of Q.side (cell_at (masked_grid Q kept.words)) phase
  one_from all = by all.phases all.written all.admitted
    where
      by : (phases : List (PhaseOf V)) → map (worded word_of) phases ≡ phase ∷ [] → AreAdmittedPhases M difference Q.side phases (cell_at (masked_grid Q kept.words)) → IsAdmittedFrom M difference word_of Q.side (cell_at (masked_grid Q kept.words)) phase
      by [] same admitted = absurd (cc same)
      by (p ∷ ps) same admitted = record { phase = p; written = cc same; admitted = admitted.0 }

  -- and it has the index of its steps after the one before
  pub one_some : (p : PhaseOf V) (index : V) → worded word_of p ≡ phase → IsAdmittedPhase M difference Q.side p (cell_at (masked_grid Q kept.words)) → index ≡ M.product before (fold_of M p.steps) → IsValue M index → HaveIndexAfter M difference word_of Q kept before (phase ∷ []) index
  one_some p index same admitted is value = record {
    admitted = record { phases = p ∷ []; written = ap (λ w. w ∷ []) same; admitted = (admitted, tt) };
    product = is ∙ ap (M.product before) (sym (neutral_right M laws (fold_of M p.steps) (steps_value M laws difference Q.side p (cell_at (masked_grid Q kept.words)) admitted)));
    is_value = value;
  }
