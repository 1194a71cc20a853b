-- Steps by 1 on a square of cells that are 0 or 1: which cells are 0 by the counts, and the counts
-- after a step.
use Rattle.std.proofs.Common.{◌≡◌, ℕ, zero, suc, ◌+◌, ◌<◌, ◌≤◌, ◌^◌, Bool, true, false, cond, not, ◌⊎◌, inl, inr, ◌||◌, ◌&&◌, List, get_or, Option, Some, None, refl, sym, ◌∙◌, ap, arith, is_some, leb, ltb, ⊎_elim}
use Rattle.std.specs.Prelude.{nat_le, ◌==◌}
use Rattle.std.proofs.lemmas.Bool.{false≢true, cases_lt, cases_Bool, not-true, not_from_false, and_parts, and_from, eqb-true}
use Rattle.std.proofs.lemmas.Bool.Decides.{nat_tests, Decides-eqb}
use Rattle.asg_bit_rows.specs.BitTable.{BitTable, has_bit}
use Rattle.asg_monoids.specs.BoundedSums.{bounded_difference}
use Rattle.asg_proof.specs.Levels.{level_sums}
use Rattle.asg_proof.specs.Phases.{entered_at, staying_at, after_phase, IsAdmittedPhase}
use Rattle.asg_proof.specs.Steps.{moved, HasSide}
use Rattle.asg_proof.specs.laws.Stepped.{option_map_cases, is_some-stepped}
use Rattle.asg_levels.specs.Tight.{is_tight}
use Rattle.asg_levels.specs.UnitSteps.{AreDuals, CountsStep, unit_phase}

-- ---- which cells are 0

or_cases : (b d : Bool) → (b || d) ≡ true → (b ≡ true) ⊎ (d ≡ true)
or_cases true d e = inl refl
or_cases false d e = inr e

or_left : (b d : Bool) → b ≡ true → (b || d) ≡ true
or_left true d e = refl
or_left false d e = absurd (false≢true e)

or_right : (b d : Bool) → d ≡ true → (b || d) ≡ true
or_right true d e = refl
or_right false d e = e

there_is : (o : Option ℕ) → is_some o ≡ true → (x : ℕ) × (o ≡ Some x)
there_is None e = absurd (false≢true e)
there_is (Some x) e = (x, refl)

module _ (side count : ℕ) (zeros ones : BitTable) (ins outs : List ℕ) (square : ℕ → ℕ → Option ℕ) (duals : AreDuals side count zeros ones ins outs square) where
  zero_from : (r c base : ℕ) → (has_bit zeros r c || has_bit ones r c) ≡ true → cond {A = ℕ} (has_bit zeros r c) 0 1 ≡ base → get_or outs c 0 + base ≡ get_or ins r 0 → square r c ≡ Some 0
  zero_from r c base there is tight =
      let some = there_is (square r c) (duals.there r c ∙ there) in
      let was = duals.value r c some.0 some.1 in
      let none : some.0 ≡ 0 = omega (arith, was, is, tight) in
      some.1 ∙ ap Some none

  pub zero_where : (r c : ℕ) → is_tight zeros ones ins outs r c ≡ true → square r c ≡ Some 0
  zero_where r c e =
      ⊎_elim
      (λ (zero : (has_bit zeros r c && (get_or outs c 0 == get_or ins r 0)) ≡ true).
      let parts = and_parts (has_bit zeros r c) (get_or outs c 0 == get_or ins r 0) zero in
      zero_from r c 0 (or_left (has_bit zeros r c) (has_bit ones r c) parts.0) (ap (λ b. cond {A = ℕ} b 0 1) parts.0) (omega (arith, eqb-true (get_or outs c 0) (get_or ins r 0) parts.1)))
      (λ (one : ((has_bit ones r c && not (has_bit zeros r c)) && (get_or outs c 0 + 1 == get_or ins r 0)) ≡ true).
      let parts = and_parts (has_bit ones r c && not (has_bit zeros r c)) (get_or outs c 0 + 1 == get_or ins r 0) one in
      let both = and_parts (has_bit ones r c) (not (has_bit zeros r c)) parts.0 in
      zero_from r c 1 (or_right (has_bit zeros r c) (has_bit ones r c) both.0) (ap (λ b. cond {A = ℕ} b 0 1) (not-true (has_bit zeros r c) both.1)) (eqb-true (get_or outs c 0 + 1) (get_or ins r 0) parts.1))
      (or_cases (has_bit zeros r c && (get_or outs c 0 == get_or ins r 0)) ((has_bit ones r c && not (has_bit zeros r c)) && (get_or outs c 0 + 1 == get_or ins r 0)) e)

  pub tight_where : (r c : ℕ) → square r c ≡ Some 0 → is_tight zeros ones ins outs r c ≡ true
  tight_where r c e =
      let there = sym (duals.there r c) ∙ ap is_some e in
      let was = duals.value r c 0 e in
      ⊎_elim
      (λ (zero : has_bit zeros r c ≡ true).
      let none = ap (λ b. cond {A = ℕ} b 0 1) zero in
      or_left (has_bit zeros r c && (get_or outs c 0 == get_or ins r 0)) ((has_bit ones r c && not (has_bit zeros r c)) && (get_or outs c 0 + 1 == get_or ins r 0))
      (and_from (has_bit zeros r c) (get_or outs c 0 == get_or ins r 0) zero (same-eqb (get_or outs c 0) (get_or ins r 0) (omega (arith, was, none)))))
      (λ (other : has_bit zeros r c ≡ false).
      let some = ap (λ b. cond {A = ℕ} b 0 1) other in
      let one = sym (ap (λ b. b || has_bit ones r c) other) ∙ there in
      or_right (has_bit zeros r c && (get_or outs c 0 == get_or ins r 0)) ((has_bit ones r c && not (has_bit zeros r c)) && (get_or outs c 0 + 1 == get_or ins r 0))
      (and_from (has_bit ones r c && not (has_bit zeros r c)) (get_or outs c 0 + 1 == get_or ins r 0)
      (and_from (has_bit ones r c) (not (has_bit zeros r c)) one (not_from_false (has_bit zeros r c) other))
      (same-eqb (get_or outs c 0 + 1) (get_or ins r 0) (omega (arith, was, some)))))
      (cases_Bool (has_bit zeros r c))
    where
      same-eqb : (a b : ℕ) → a ≡ b → (a == b) ≡ true
      same-eqb a b e = (Decides-eqb a b).1 e

-- ---- the cells after the step

-- a cell after a step by 1
cell_after : (e s : Bool) (x y ins outs base : ℕ) → moved level_sums bounded_difference e s 1 x ≡ y → (e ≡ true → s ≡ true → nat_le 1 x ≡ true) → 1 + x ≤ 2 ^ 120 → x + ins ≡ base + outs → y + (ins + cond e 1 0) ≡ base + (outs + cond (not s) 1 0)
cell_after true true x y ins outs base is least fits same = let one = one_of x (least refl refl) in omega (arith, is, one, same)
  where
    one_of : (x : ℕ) → nat_le 1 x ≡ true → 1 ≤ x
    one_of x h = grind (arith, nat_tests, h)
cell_after true false x y ins outs base is least fits same = omega (arith, is, same)
cell_after false true x y ins outs base is least fits same = omega (arith, is, same)
cell_after false false x y ins outs base is least fits same = omega (arith, is, fits, same)

pub entered_test : (x : ℕ) → leb x 0 ≡ (x == 0)
entered_test zero = refl
entered_test (suc x) = grind (arith, nat_tests)

pub staying_test : (x : ℕ) → not (ltb 0 x) ≡ (x == 0)
staying_test zero = refl
staying_test (suc x) = grind (arith, nat_tests)

base_small : (b : Bool) → cond {A = ℕ} b 1 0 ≤ 1
base_small true = omega arith
base_small false = omega arith

base_few : (b : Bool) → cond {A = ℕ} b 0 1 ≤ 1
base_few true = omega arith
base_few false = omega arith

module _ (side count : ℕ) (zeros ones : BitTable) (ins outs enters leaves ins_after outs_after : List ℕ) (square : ℕ → ℕ → Option ℕ)
    (within : HasSide side square) (duals : AreDuals side count zeros ones ins outs square)
    (admitted : IsAdmittedPhase level_sums bounded_difference side (unit_phase enters leaves) square)
    (counts : CountsStep side enters leaves ins outs ins_after outs_after) (few : count + 2 ≤ 2 ^ 120)
  where
    abbrev after : ℕ → ℕ → Option ℕ
    after = after_phase level_sums bounded_difference (unit_phase enters leaves) square

    value_after : (r c y : ℕ) → after r c ≡ Some y → y + get_or ins_after r 0 ≡ cond (has_bit zeros r c) 0 1 + get_or outs_after c 0
    value_after r c y e =
        let from = option_map_cases (moved level_sums bounded_difference (entered_at enters 0 r) (staying_at leaves 0 c) 1) (square r c) y e in
        let x = from.0 in
        let inside = within r c (ap is_some from.1) in
        let was = duals.value r c x from.1 in
        let step = admitted.admitted 0 (omega arith) in
        let bound = base_few (has_bit zeros r c) in
        let small = duals.few c in
        let now = cell_after (entered_at enters 0 r) (staying_at leaves 0 c) x y (get_or ins r 0) (get_or outs c 0) (cond (has_bit zeros r c) 0 1) from.2
        (λ e s. step.least r c x inside.0 inside.1 e s from.1) (omega (arith, was, bound, small, few)) was in
        let row = counts.rows r inside.0 ∙ ap (λ b. get_or ins r 0 + cond {A = ℕ} b 1 0) (sym (entered_test (get_or enters r 0))) in
        let column = counts.columns c inside.1 ∙ ap (λ b. get_or outs c 0 + cond {A = ℕ} b 1 0) (sym (staying_test (get_or leaves c 0))) in
        omega (arith, now, row, column)

    -- the square after a step by 1
    pub duals_after : AreDuals side (count + 1) zeros ones ins_after outs_after after
    duals_after = record {
      there = λ r c. is_some-stepped level_sums bounded_difference (entered_at enters 0) (staying_at leaves 0) 1 square r c ∙ duals.there r c;
      value = value_after;
      few_ins = λ r h.
          let bound = base_small (get_or enters r 0 == 0) in
          omega (arith, counts.rows r h, duals.few_ins r h, bound);
      few = λ c.
          ⊎_elim
          (λ (h : c < side). let bound = base_small (get_or leaves c 0 == 0) in omega (arith, counts.columns c h, duals.few c, bound))
          (λ (h : side ≤ c). omega (arith, counts.rest c h, duals.few c))
          (cases_lt c side);
    }
