-- One more phase of one step by 1 at a level.
use Rattle.asg_lex.proofs.Common.{◌≡◌, ℕ, zero, suc, ◌+◌, ◌^◌, ◌<◌, ◌≤◌, Bool, true, false, cond, ◌≢◌, List, [], ◌∷◌, ◌++◌, length, get_or, nat_le, Some, None, All, sum, Option, AllPairs, filter_map, refl, ap, ◌∙◌, arith, cons_option, nat_tests, none-some, range_with_len, same_Some, sum_by-cons, BitTable, has_bit, Tightens, bit_square, unit_phase, CountsStep, IsBitSquare, HasSide-bits, square_is, units_more, MarksZeros, SplitsTree, IsMarked, IsStuck, IsMatching, AllAllowed, most_side, bounded_difference, Word, level_sums, numbers_of, PhaseOf, after_phase, IsAdmittedPhase, index_of, HasSide, HasValues, HasSide-phases, assignment_values}
use Rattle.asg_monoids.specs.laws.SumFolds.{bounded_fold}
use Rattle.asg_order.specs.Monoid.{fold_of}
use Rattle.asg_levels.specs.UnitLists.{AreCountedUnits, square_after_units}
use Rattle.asg_lex.proofs.UnitSteps.{unit_admitted, marks_zeros, matched_stays}

-- what holds of the phases so far
pub record ArePhasesSoFar (side : ℕ) (zeros ones marks : BitTable) (ins outs : List ℕ) (words : List (PhaseOf Word)) : Type 0 where
  pub counted : AreCountedUnits side zeros ones ins outs words
  pub zeros_marked : MarksZeros side marks (square_after_units zeros ones words)

module _ (side : ℕ) (zeros ones marks marks_after : BitTable) (ins outs ins_after outs_after : List ℕ) (words : List (PhaseOf Word)) (phase : PhaseOf Word)
    (m : List (Option ℕ)) (root : ℕ) (rows : List ℕ)
    (of_zeros : IsBitSquare side zeros) (of_ones : IsBitSquare side ones) (few : side ≤ most_side) (less : length words ≤ side)
    (so : ArePhasesSoFar side zeros ones marks ins outs words)
    (matching : IsMatching m) (matching_side : length m ≡ side) (stuck : IsStuck (IsMarked marks side) m root rows) (below : All (λ r. r < side) rows) (apart : AllPairs ◌≢◌ rows)
    (steps : phase.steps ≡ record { grade = 0; amount = 1 } ∷ []) (split : SplitsTree side m rows phase.enters phase.leaves)
    (counts : CountsStep side phase.enters phase.leaves ins outs ins_after outs_after) (tight : Tightens marks_after zeros ones ins_after outs_after side side)
  where
    abbrev before : ℕ → ℕ → Option ℕ
    before = square_after_units zeros ones words

    sided : HasSide side (bit_square zeros ones)
    sided = HasSide-bits side zeros ones of_zeros of_ones

    one : IsAdmittedPhase level_sums bounded_difference side (unit_phase phase.enters phase.leaves) before
    one =
        unit_admitted (IsMarked marks side) side m root rows phase.enters phase.leaves matching matching_side stuck below apart split before
        (λ r c e. (so.zeros_marked r c).1 e)

    at_most : length words ≤ most_side
    at_most = omega (arith, few, less)

    square_so : square_after_units zeros ones (words ++ phase ∷ []) ≡ after_phase level_sums bounded_difference (unit_phase phase.enters phase.leaves) before
    square_so = square_is side zeros ones ins outs ins_after outs_after words phase sided at_most so.counted steps one counts

    counted : AreCountedUnits side zeros ones ins_after outs_after (words ++ phase ∷ [])
    counted = units_more side zeros ones ins outs ins_after outs_after words phase sided at_most so.counted steps one counts

    -- what holds with one more phase
    pub phases_more : ArePhasesSoFar side zeros ones marks_after ins_after outs_after (words ++ phase ∷ [])
    phases_more = record {
      counted = counted;
      zeros_marked =
          marks_zeros side (length (words ++ phase ∷ [])) zeros ones marks_after ins_after outs_after (square_after_units zeros ones (words ++ phase ∷ []))
          (HasSide-phases level_sums bounded_difference side (numbers_of (words ++ phase ∷ [])) (bit_square zeros ones) sided) counted.duals (λ r c h. tight.done r c h);
    }

    -- matched cells that were 0 are 0
    pub matched_more : AllAllowed (IsMarked marks side) m → AllAllowed (IsMarked marks_after side) m
    matched_more cells r c has =
        let marked = cells r c has in
        let zero = (so.zeros_marked r c).0 marked in
        (phases_more.zeros_marked r c).1
        (ap (λ square. square r c) square_so
        ∙ matched_stays (IsMarked marks side) side m rows phase.enters phase.leaves before matching split r c marked.row marked.column has zero)

-- ---- how many phases there may be

bit_small : (b d : Bool) (x : ℕ) → cond {A = Option ℕ} b (Some 0) (cond d (Some 1) None) ≡ Some x → x ≤ 1
bit_small true d x e = let same = same_Some 0 x e in omega (arith, same)
bit_small false true x e = let same = same_Some 1 x e in omega (arith, same)
bit_small false false x e = absurd (none-some x e)

small_value : (x : ℕ) → x ≤ 1 → nat_le x (2 ^ 120) ≡ true
small_value x h = grind (arith, nat_tests, h)

pub HasValues-bits : (side : ℕ) (zeros ones : BitTable) → HasValues level_sums side (bit_square zeros ones)
HasValues-bits side zeros ones r k x hr hk e = small_value x (bit_small (has_bit zeros r k) (has_bit ones r k) x e)

sum_small : (h : ℕ → Option ℕ) (a n : ℕ) → ((r x : ℕ) → h r ≡ Some x → x ≤ 1) → sum (filter_map h (range_with_len a n)) ≤ n
sum_small h a zero small = omega arith
sum_small h a (suc n) small = with_first (h a) (λ x e. small a x e) (sum_small h (a + 1) n small)
  where
    with_first : (o : Option ℕ) → ((x : ℕ) → o ≡ Some x → x ≤ 1) → sum (filter_map h (range_with_len (a + 1) n)) ≤ n → sum (cons_option o (filter_map h (range_with_len (a + 1) n))) ≤ suc n
    with_first None each rest = omega (arith, rest)
    with_first (Some x) each rest =
        let more = sum_by-cons (λ y. y) x (filter_map h (range_with_len (a + 1) n)) in
        omega (arith, each x refl, rest, more)

-- a perfect assignment of bits adds up to no more than there are rows
fold_small : (side : ℕ) (zeros ones : BitTable) (p : List ℕ) → fold_of level_sums (assignment_values (bit_square zeros ones) side p) ≤ side
fold_small side zeros ones p =
    let sums = bounded_fold (2 ^ 120) (assignment_values (bit_square zeros ones) side p) in
    let small = sum_small (λ r. bit_square zeros ones r (get_or p r 0)) 0 side (λ r x e. bit_small (has_bit zeros r (get_or p r 0)) (has_bit ones r (get_or p r 0)) x e) in
    omega (arith, sums, small)

le_of : (x y : ℕ) → nat_le x y ≡ true → x ≤ y
le_of x y e = grind (arith, nat_tests, e)

-- so there are no more phases than rows
pub phases_few : (side : ℕ) (zeros ones : BitTable) (phases : List (PhaseOf ℕ)) (count : ℕ) (p : List ℕ) → nat_le (index_of level_sums phases) (fold_of level_sums (assignment_values (bit_square zeros ones) side p)) ≡ true → index_of level_sums phases ≡ count → count ≤ side
phases_few side zeros ones phases count p bound index =
    omega (arith, le_of (index_of level_sums phases) (fold_of level_sums (assignment_values (bit_square zeros ones) side p)) bound, fold_small side zeros ones p, index)
