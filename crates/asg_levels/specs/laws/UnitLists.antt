-- Lists of phases of one step by 1: one more at the end, and the cells that are 0 after all.
use Rattle.std.proofs.Common.{◌≡◌, ℕ, zero, suc, get_or, ◌+◌, ◌<◌, ◌≤◌, ◌^◌, min, Bool, true, false, cond, ◌||◌, List, [], ◌∷◌, ◌++◌, length, map, Option, Some, None, refl, sym, ◌∙◌, ap, subst, arith, is_some, ⊎_elim}
use Rattle.std.specs.Prelude.{◌==◌}
use Rattle.std.proofs.lemmas.Bool.{false≢true, cases_Bool}
use Rattle.std.proofs.lemmas.List.{map-append, length-append}
use Rattle.asg_model.specs.Limits.{most_side}
use Rattle.asg_order.specs.declared.words.Word.{Word}
use Rattle.asg_monoids.specs.BoundedSums.{bounded_difference, plain_word}
use Rattle.asg_monoids.specs.laws.Bounded.{bounded_laws}
use Rattle.asg_bit_rows.specs.BitTable.{BitTable, has_bit}
use Rattle.asg_proof.specs.Levels.{is_zero, level_sums, numbers_of}
use Rattle.asg_proof.specs.Phases.{PhaseOf, phase_of, worded, after_phase, after_phases, IsAdmittedPhase, AreAdmittedPhases, index_of}
use Rattle.asg_proof.specs.Steps.{HasSide}
use Rattle.asg_proof.specs.laws.PhaseLists.{after_phases-push, HasSide-phases, AreAdmittedPhases-push, index_of-push}
use Rattle.asg_levels.specs.Tight.{Tightens, is_tight}
use Rattle.asg_levels.specs.UnitSteps.{AreDuals, CountsStep, IsBitSquare, bit_square, unit_phase}
use Rattle.asg_levels.specs.UnitLists.{AreCountedUnits, MarkZeros, square_after_units}
use Rattle.asg_levels.specs.laws.UnitSteps.{duals_after, tight_where, zero_where}

there_where : (b d : Bool) → is_some {T = ℕ} (cond b (Some 0) (cond d (Some 1) None)) ≡ true → (b ≡ true → ⊥) → d ≡ true
there_where true d e none = absurd (none refl)
there_where false true e none = refl
there_where false false e none = absurd (false≢true e)

-- the square of bits has its side
pub HasSide-bits : (side : ℕ) (zeros ones : BitTable) → IsBitSquare side zeros → IsBitSquare side ones → HasSide side (bit_square zeros ones)
HasSide-bits side zeros ones of_zeros of_ones r k h =
    ⊎_elim
    (λ (zero : has_bit zeros r k ≡ true). of_zeros.inside r k zero)
    (λ (other : has_bit zeros r k ≡ false). of_ones.inside r k (there_where (has_bit zeros r k) (has_bit ones r k) h (λ e. false≢true (sym other ∙ e))))
    (cases_Bool (has_bit zeros r k))

-- the words of a phase of one step by 1
one_word : (phase : PhaseOf Word) → phase.steps ≡ record { grade = 0; amount = 1 } ∷ [] → worded (λ word. word.amount) phase ≡ unit_phase phase.enters phase.leaves
one_word phase e = ap (λ steps. phase_of (map (λ (word : Word). word.amount) steps) phase.enters phase.leaves) e

one_plain : (phase : PhaseOf Word) → phase.steps ≡ record { grade = 0; amount = 1 } ∷ [] → worded plain_word (worded (λ word. word.amount) phase) ≡ phase
one_plain phase e =
    ap (λ steps. phase_of (map plain_word (map (λ (word : Word). word.amount) steps)) phase.enters phase.leaves) e
    ∙ ap (λ steps. phase_of steps phase.enters phase.leaves) (sym e)

module _ (side : ℕ) (zeros ones : BitTable) (ins outs ins_after outs_after : List ℕ) (words : List (PhaseOf Word)) (phase : PhaseOf Word)
    (sided : HasSide side (bit_square zeros ones)) (less : length words ≤ most_side)
    (so : AreCountedUnits side zeros ones ins outs words)
    (step : phase.steps ≡ record { grade = 0; amount = 1 } ∷ [])
    (one : IsAdmittedPhase level_sums bounded_difference side (unit_phase phase.enters phase.leaves) (square_after_units zeros ones words))
    (counts : CountsStep side phase.enters phase.leaves ins outs ins_after outs_after)
  where
    abbrev before : ℕ → ℕ → Option ℕ
    before = square_after_units zeros ones words

    within : HasSide side before
    within = HasSide-phases level_sums bounded_difference side (numbers_of words) (bit_square zeros ones) sided

    numbers : numbers_of (words ++ phase ∷ []) ≡ numbers_of words ++ unit_phase phase.enters phase.leaves ∷ []
    numbers = map-append (worded (λ word. word.amount)) words (phase ∷ []) ∙ ap (λ p. numbers_of words ++ p ∷ []) (one_word phase step)

    -- the square after one more phase
    pub square_is : square_after_units zeros ones (words ++ phase ∷ []) ≡ after_phase level_sums bounded_difference (unit_phase phase.enters phase.leaves) before
    square_is =
        ap (λ phases. after_phases level_sums bounded_difference phases (bit_square zeros ones)) numbers
        ∙ after_phases-push level_sums bounded_difference (numbers_of words) (unit_phase phase.enters phase.leaves) (bit_square zeros ones)

    longer : length (words ++ phase ∷ []) ≡ length words + 1
    longer = length-append words (phase ∷ [])

    duals : AreDuals side (length words + 1) zeros ones ins_after outs_after (after_phase level_sums bounded_difference (unit_phase phase.enters phase.leaves) before)
    duals = duals_after side (length words) zeros ones ins outs phase.enters phase.leaves ins_after outs_after before within so.duals one counts (omega (arith, less))

    one_more : (n : ℕ) → n + 2 ≤ 2 ^ 120 → min (n + 1) (2 ^ 120) ≡ n + 1
    one_more n h = omega (arith, h)

    -- what holds with one more phase
    pub units_more : AreCountedUnits side zeros ones ins_after outs_after (words ++ phase ∷ [])
    units_more = record {
      units = record {
        plain =
            ap (map (worded plain_word)) (map-append (worded (λ word. word.amount)) words (phase ∷ []))
            ∙ map-append (worded plain_word) (numbers_of words) (worded (λ word. word.amount) phase ∷ [])
            ∙ ap (λ xs. xs ++ worded plain_word (worded (λ word. word.amount) phase) ∷ []) so.units.plain
            ∙ ap (λ p. words ++ p ∷ []) (one_plain phase step);
        admitted =
            subst (λ phases. AreAdmittedPhases level_sums bounded_difference side phases (bit_square zeros ones)) (sym numbers)
            (AreAdmittedPhases-push level_sums bounded_difference side (numbers_of words) (unit_phase phase.enters phase.leaves) (bit_square zeros ones) so.units.admitted one);
        index =
            ap (index_of level_sums) numbers
            ∙ index_of-push level_sums (bounded_laws (2 ^ 120)) bounded_difference side (numbers_of words) (unit_phase phase.enters phase.leaves) (bit_square zeros ones) so.units.admitted one
            ∙ ap (λ n. min (n + 1) (2 ^ 120)) so.units.index
            ∙ one_more (length words) (omega (arith, less))
            ∙ sym longer;
      };
      duals =
          subst (λ n. AreDuals side n zeros ones ins_after outs_after (square_after_units zeros ones (words ++ phase ∷ []))) (sym longer)
          (subst (AreDuals side (length words + 1) zeros ones ins_after outs_after) (sym square_is) duals);
    }

-- no phases yet
none_there : (b d : Bool) → is_some {T = ℕ} (cond b (Some 0) (cond d (Some 1) None)) ≡ (b || d)
none_there true d = refl
none_there false true = refl
none_there false false = refl

first_value : (b d : Bool) (x : ℕ) → cond b (Some 0) (cond d (Some 1) None) ≡ Some x → x ≡ cond {A = ℕ} b 0 1
first_value true d x e = cc (e)
first_value false true x e = cc (e)
first_value false false x e = absurd (cc (e))

-- ---- the cells that are 0

some_more : (x : ℕ) → (suc x == 0) ≡ false
some_more x = grind arith

zero_test : (o : Option ℕ) (b : Bool) → (b ≡ true → o ≡ Some 0) → (o ≡ Some 0 → b ≡ true) → b ≡ is_zero o
zero_test o true f g = sym (ap is_zero (f refl))
zero_test None false f g = refl
zero_test (Some zero) false f g = absurd (false≢true (g refl))
zero_test (Some (suc x)) false f g = sym (some_more x)

pub marks_after : (side : ℕ) (zeros ones marks : BitTable) (ins outs : List ℕ) (words : List (PhaseOf Word)) → AreCountedUnits side zeros ones ins outs words → Tightens marks zeros ones ins outs side side → MarkZeros side zeros ones marks words
marks_after side zeros ones marks ins outs words so tight = record {
  rows = tight.rows;
  columns = tight.columns;
  each = λ r c hr hc.
      tight.done r c hr
      ∙ zero_test (square_after_units zeros ones words r c) (is_tight zeros ones ins outs r c)
      (zero_where side (length words) zeros ones ins outs (square_after_units zeros ones words) so.duals r c)
      (tight_where side (length words) zeros ones ins outs (square_after_units zeros ones words) so.duals r c);
}

-- ---- by equal lists

-- one more step counted
pub counts_more : (side : ℕ) (enters leaves ins outs ins_after outs_after entered left : List ℕ) → entered ≡ enters → left ≡ leaves → length enters ≡ side → length leaves ≡ side
    → ((k : ℕ) → k < length entered → get_or ins_after k 0 ≡ get_or ins k 0 + cond (get_or entered k 0 == 0) 1 0)
    → ((k : ℕ) → k < length left → get_or outs_after k 0 ≡ get_or outs k 0 + cond (get_or left k 0 == 0) 1 0)
    → ((k : ℕ) → length left ≤ k → get_or outs_after k 0 ≡ get_or outs k 0)
    → CountsStep side enters leaves ins outs ins_after outs_after
counts_more side enters leaves ins outs ins_after outs_after entered left e l es ls rows columns rest = record {
  rows = λ r h. rows r (omega (arith, h, es, ap length e)) ∙ ap (λ xs. get_or ins r 0 + cond {A = ℕ} (get_or xs r 0 == 0) 1 0) e;
  columns = λ c h. columns c (omega (arith, h, ls, ap length l)) ∙ ap (λ xs. get_or outs c 0 + cond {A = ℕ} (get_or xs c 0 == 0) 1 0) l;
  rest = λ c h. rest c (omega (arith, h, ls, ap length l));
}

-- the cells that are 0 by equal counts
pub tightens_by : (after zeros ones : BitTable) (ins ins_is outs outs_is : List ℕ) (rows side : ℕ) → ins ≡ ins_is → outs ≡ outs_is → rows ≡ side → Tightens after zeros ones ins outs rows rows → Tightens after zeros ones ins_is outs_is side side
tightens_by after zeros ones ins ins_is outs outs_is rows side e f g t =
    subst (λ n. Tightens after zeros ones ins_is outs_is n n) g
    (subst (λ xs. Tightens after zeros ones ins_is xs rows rows) f (subst (λ xs. Tightens after zeros ones xs outs rows rows) e t))
