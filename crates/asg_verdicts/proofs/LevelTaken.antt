-- A level is one after those before it, or not, by what a walk over its square tells.
use Rattle.asg_verdicts.proofs.LevelCommon.{◌≡◌, ℕ, suc, ◌^◌, Bool, List, ℤ, Option, sym, ap, ◌∙◌, subst, inl, inr, fun_ext, BitTable, IsDue, IsLeft, IsRefused, Admitted, from_parts, numbers_back, to_parts, Problem, square_side, bounded_difference, plain_word, IsLevel, is_zero, left_after, left_for, level_square, level_sums, numbers_of, after_phases, index_of, Level, index_is_value, AreAdmittedFrom, AreReplayed, IsFirstBad, choice_of, cell_at}
use Rattle.asg_monoids.specs.laws.Bounded.{bounded_laws}
use Rattle.asg_admit.specs.declared.reduced.Reduced.{Reduced}
use Rattle.asg_replays.specs.laws.PhaseWords.{admitted-take}

module _ (X : Problem) (perm : List ℕ) (before : Option ℤ) (left : ℕ → ℕ → Bool) (level : Level) where
  abbrev IsIt : Type 0
  IsIt = IsLevel X perm before left level

  abbrev its_square : ℕ → ℕ → Option ℕ
  its_square = level_square X (left_for X before left level) level.cost

  -- ---- where it isn't one

  pub not_due : ¬ IsDue X (choice_of X perm) before level → ¬ IsIt
  not_due other w = other (w.proved.falls, (w.proved.some, w.cells))

  module _ (start : Reduced ℕ) (side : start.now.side ≡ square_side X) (cells : (r c : ℕ) → cell_at start.now r c ≡ its_square r c) where
    same_square : cell_at start.now ≡ its_square
    same_square = fun_ext (λ r. fun_ext (λ c. cells r c))

    -- a phase that isn't admitted after those before it
    bad_phase : (place : ℕ) → IsFirstBad level_sums bounded_difference plain_word start.now.side (cell_at start.now) level.phases place → ¬ IsIt
    bad_phase place first w =
        let all : Admitted X perm before left level = (to_parts X perm before left level w).1.1.0 in
        first.bad
        (admitted-take level_sums bounded_difference plain_word start.now.side (cell_at start.now) (suc place) level.phases
        (subst (λ n. AreAdmittedFrom level_sums bounded_difference plain_word n (cell_at start.now) level.phases) (sym side)
        (subst (λ square. AreAdmittedFrom level_sums bounded_difference plain_word (square_side X) square level.phases) (sym same_square) all)))

    module _ (after : Reduced ℕ) (led : AreReplayed level_sums bounded_difference plain_word level.phases start after) where
      same_phases : led.phases ≡ numbers_of level.phases
      same_phases = sym (numbers_back X perm led.phases) ∙ ap numbers_of led.written

      admitted : Admitted X perm before left level
      admitted =
          subst (λ square. AreAdmittedFrom level_sums bounded_difference plain_word (square_side X) square level.phases) same_square
          (subst (λ n. AreAdmittedFrom level_sums bounded_difference plain_word n (cell_at start.now) level.phases) side
          (record { phases = led.phases; written = led.written; admitted = led.admitted }))

      -- the index that the walk has is that of the phases
      index_is : start.index ≡ 0 → after.index ≡ index_of level_sums (numbers_of level.phases)
      index_is zero =
          let value = index_is_value level_sums (bounded_laws (2 ^ 120)) bounded_difference start.now.side led.phases (cell_at start.now) led.admitted in
          led.index ∙ ap (λ n. level_sums.product n (index_of level_sums led.phases)) zero
          ∙ (bounded_laws (2 ^ 120)).unit_neutral (index_of level_sums led.phases) value
          ∙ ap (index_of level_sums) same_phases

      -- ---- where it is one

      pub is_one : IsDue X (choice_of X perm) before level → start.index ≡ 0 → after.index ≡ level.count → IsIt
      is_one due zero is = from_parts X perm before left level (due.0, (due.1.0, (admitted, (sym (index_is zero) ∙ is, due.1.1))))

      -- and what is left after it, by bits
      pub left_is : (side : ℕ) (bits : BitTable) → IsLeft side (λ r c. is_zero (cell_at after.now r c)) bits → IsLeft side (left_after X before left level) bits
      left_is side bits is =
          let same : cell_at after.now ≡ after_phases level_sums bounded_difference (numbers_of level.phases) its_square =
          led.cells ∙ ap (λ phases. after_phases level_sums bounded_difference phases (cell_at start.now)) same_phases
          ∙ ap (after_phases level_sums bounded_difference (numbers_of level.phases)) same_square in
          record {
            rows = is.rows;
            columns = is.columns;
            each = λ r c hr hc. is.each r c hr hc ∙ ap (λ (square : ℕ → ℕ → Option ℕ). is_zero (square r c)) same;
          }

    -- phases that are refused
    pub refused_phases : start.index ≡ 0 → IsRefused level.phases start level.count → ¬ IsIt
    refused_phases zero (inl bad) = bad_phase bad.0 bad.1
    refused_phases zero (inr other) = λ w. other.1.1 (index_is other.0 other.1.0 zero ∙ w.proved.index)
