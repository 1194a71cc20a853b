-- Phases of one step to a grade.
use Rattle.asg_grade_lists.proofs.Common.{◌≡◌, ℕ, zero, suc, ◌+◌, ◌<◌, ◌≤◌, Bool, false, List, [], ◌∷◌, length, get_or, drop, is_some, IfSome, IfOk, slice_index, Some, Option, Result, sym, ap, ◌∙◌, subst, ⊎_elim, arith, ltb-true, leb-true, IfOk-weaker, IfSome_then, cases_lt, drop_more, false≢true, BeginWithRise, NoneLower, NoneLowerIn, IsRiseTo, graded_word, Word, CountsRight, IsRisePhase, PhaseOf, entered_at, phase_of, staying_at}
use Rattle.asg_proof.specs.Steps.{count_below}

-- one more cell of a row
pub lower_more : (g : ℕ) (leaves : List ℕ) (cells : ℕ → Option (ℕ × ℕ)) (k : ℕ) → NoneLower g k leaves cells → ((x : ℕ × ℕ) → 0 < slice_index leaves k → cells k ≡ Some x → g ≤ x.0) → NoneLower g (k + 1) leaves cells
lower_more g leaves cells k all here i x h stays is =
    ⊎_elim
    (λ (early : i < k). all i x early stays is)
    (λ (last : k ≤ i).
    let same : i ≡ k = omega (arith, last, h) in
    here x (subst (λ j. 0 < slice_index leaves j) same (ltb-true 0 (slice_index leaves i) stays)) (subst (λ j. cells j ≡ Some x) same is))
    (cases_lt i k)

-- one more row
pub rows_more : (g side : ℕ) (enters leaves : List ℕ) (square : ℕ → ℕ → Option (ℕ × ℕ)) (r : ℕ) → NoneLowerIn g side r enters leaves square → (slice_index enters r ≤ 0 → NoneLower g side leaves (square r)) → NoneLowerIn g side (r + 1) enters leaves square
rows_more g side enters leaves square r all here i h enters_now =
    ⊎_elim
    (λ (early : i < r). all i early enters_now)
    (λ (last : r ≤ i).
    let same : i ≡ r = omega (arith, last, h) in
    subst (λ j. NoneLower g side leaves (square j)) (sym same)
    (here (subst (λ j. slice_index enters j ≤ 0) same (leb-true (slice_index enters i) 0 enters_now))))
    (cases_lt i r)

-- a cell that has a value of no lower grade
pub value_stays : (g leave : ℕ) (value : ℕ × ℕ) (cell : Option (ℕ × ℕ)) → ((x : ℕ × ℕ) → cell ≡ Some x → value ≡ x) → (0 < leave → g ≤ value.0) → (x : ℕ × ℕ) → 0 < leave → cell ≡ Some x → g ≤ x.0
value_stays g leave value cell is enough x stays here = subst (λ (v : ℕ × ℕ). g ≤ v.0) (is x here) (enough stays)

-- no cell
pub absent_stays : (g leave : ℕ) (found cell : Option (ℕ × ℕ)) → found ≡ cell → is_some found ≡ false → (x : ℕ × ℕ) → 0 < leave → cell ≡ Some x → g ≤ x.0
absent_stays g leave found cell same none x stays here = absurd (false≢true (sym none ∙ ap is_some (same ∙ here)))

-- the step is admitted
pub rises_all : (g side : ℕ) (enters leaves : List ℕ) (square : ℕ → ℕ → Option (ℕ × ℕ)) → CountsRight side (phase_of (0 ∷ []) enters leaves) → NoneLowerIn g side side enters leaves square → IsRisePhase g side enters leaves square
rises_all g side enters leaves square right none = record {
  rows = right.rows;
  columns = right.columns;
  count =
      subst (λ n. count_below (entered_at enters 0) side + count_below (staying_at leaves 0) n ≡ side + 1) right.columns
      (subst (λ n. count_below (entered_at enters 0) n + count_below (staying_at leaves 0) (length leaves) ≡ n + 1) right.rows (right.counted 0 (omega arith)));
  none_lower = λ r k x hr hk enter stay is. none r hr enter k x hk stay is;
}

-- a word without an amount
pub word_is : (word : Word) → word.amount ≤ 0 → word ≡ graded_word (word.grade, 0)
word_is word none =
    let zero : word.amount ≡ 0 = omega (arith, none) in
    ap (λ n. graded_word (word.grade, n)) zero

-- words of one step by 0
pub zero_step : (words : List Word) (word : Word) → length words ≡ 1 → word ≡ get_or words 0 word → word.amount ≤ 0 → words ≡ graded_word (word.grade, 0) ∷ []
zero_step [] word count is none = absurd (omega (arith, count))
zero_step (x ∷ []) word count is none = ap (λ w. w ∷ []) (sym is ∙ word_is word none)
zero_step (x ∷ y ∷ rest) word count is none = absurd (omega (arith, count))

-- the first of phases
pub begin_is : (g side : ℕ) (first : PhaseOf Word) (phases : List (PhaseOf Word)) (square : ℕ → ℕ → Option (ℕ × ℕ)) → 0 < length phases → first ≡ get_or phases 0 first → IsRiseTo g side square first → BeginWithRise g side square phases
begin_is g side first phases square some is rises = record {
  some = some;
  first = first;
  split = drop_more phases 0 first some ∙ ap (λ p. p ∷ drop 1 phases) (sym is);
  rises = rises;
}

-- a side with rows that enter at once has rows
pub side_some : (side : ℕ) (a b : ℕ → Bool) → count_below a side + count_below b side ≡ side + 1 → 1 ≤ side
side_some zero a b count = absurd (omega (arith, count))
side_some (suc n) a b count = omega arith

-- what follows of each number follows where there is one
pub found_weaker : {E : Type 0} (r : Result (Option ℕ) E) (P Q : ℕ → Type 0) → ((g : ℕ) → P g → Q g) → IfOk r (λ found. IfSome found P) → IfOk r (λ found. IfSome found Q)
found_weaker r P Q follows = IfOk-weaker r (λ found. IfSome found P) (λ found. IfSome found Q) (λ found has. IfSome_then found has follows)
