-- A level whose phases are units on the square of bits.
use Rattle.asg_verdicts.proofs.LevelCommon.{◌≡◌, ℕ, ◌<◌, Bool, length, ℤ, Option, sym, ap, ◌∙◌, subst, fun_ext, BitTable, HasPhases, IsLeft, AreUnits, MarkZeros, bit_square, Problem, square_side, bounded_difference, is_between, is_zero, left_after, left_for, level_square, level_sums, numbers_of, without, AreAdmittedPhases, after_phases, Level}

module _ (X : Problem) (last before : Option ℤ) (left : ℕ → ℕ → Bool) (level : Level) (zeros ones : BitTable) (same : last ≡ before)
    (cells : (r c : ℕ) → bit_square zeros ones r c ≡ level_square X (without X (is_between last level.cost) left) level.cost r c)
  where
    abbrev its_square : ℕ → ℕ → Option ℕ
    its_square = level_square X (left_for X before left level) level.cost

    same_square : bit_square zeros ones ≡ its_square
    same_square = fun_ext (λ r. fun_ext (λ c. cells r c ∙ ap (λ b. level_square X (without X (is_between b level.cost) left) level.cost r c) same))

    -- its phases are those of the level
    pub phases_are : (side : ℕ) → side ≡ square_side X → AreUnits side zeros ones level.phases → length level.phases ≡ level.count → HasPhases X before left level
    phases_are side is units count = record {
      plain = units.plain;
      admitted =
          subst (λ n. AreAdmittedPhases level_sums bounded_difference n (numbers_of level.phases) its_square) is
          (subst (λ square. AreAdmittedPhases level_sums bounded_difference side (numbers_of level.phases) square) same_square units.admitted);
      index = units.index ∙ count;
    }

    -- and the bits of the cells that are 0 after them are what is left
    pub left_by : (side : ℕ) (marks : BitTable) → side ≡ square_side X → MarkZeros side zeros ones marks level.phases → IsLeft (square_side X) (left_after X before left level) marks
    left_by side marks is zero = record {
      rows = zero.rows ∙ is;
      columns = zero.columns ∙ is;
      each = λ r c hr hc.
          zero.each r c (subst (λ n. r < n) (sym is) hr) (subst (λ n. c < n) (sym is) hc)
          ∙ ap (λ (square : ℕ → ℕ → Option ℕ). is_zero (after_phases level_sums bounded_difference (numbers_of level.phases) square r c)) same_square;
    }
