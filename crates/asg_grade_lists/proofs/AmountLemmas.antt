-- Phases of amounts at a grade.
use Rattle.asg_grade_lists.proofs.Common.{◌≡◌, ℕ, ◌<◌, ◌≤◌, List, [], ◌∷◌, ◌++◌, map, length, sym, refl, ap, ◌∙◌, subst, All-cons, All-nil, All-push, length-map, map-append, AreAmountsAt, AreOfGrade, TakesIn, graded_word, Word, AreTotals, CountsRight, Totals, HasPositiveSteps, graded_phase, of_grade, PhaseOf, phase_of, worded, IsPhaseOver}

-- no steps
pub amounts_none : (g : ℕ) (amounts : List ℕ) → amounts ≡ [] → AreAmountsAt g [] amounts
amounts_none g amounts none = subst (AreAmountsAt g []) (sym none) (record { written = refl; positive = All-nil (λ n. 0 < n) })

-- the words of the amounts of a list, and of one more
words_more : (g : ℕ) (amounts : List ℕ) (c : ℕ) → map graded_word (map (of_grade g) (amounts ++ c ∷ [])) ≡ map graded_word (map (of_grade g) amounts) ++ graded_word (g, c) ∷ []
words_more g amounts c =
    ap (map graded_word) (map-append (of_grade g) amounts (c ∷ []))
    ∙ map-append graded_word (map (of_grade g) amounts) ((g, c) ∷ [])

-- one more step
pub amounts_more : (g : ℕ) (words : List Word) (amounts : List ℕ) (word : Word) → AreAmountsAt g words amounts → word.grade ≡ g → 0 < word.amount → AreAmountsAt g (words ++ word ∷ []) (amounts ++ word.amount ∷ [])
amounts_more g words amounts word are at over = record {
  written =
      words_more g amounts word.amount
      ∙ ap (λ ws. ws ++ graded_word (g, word.amount) ∷ []) are.written
      ∙ ap (λ n. words ++ graded_word (n, word.amount) ∷ []) (sym at);
  positive = All-push (λ n. 0 < n) amounts word.amount are.positive over;
}

-- as many amounts as words
pub amounts_count : (g : ℕ) (words : List Word) (amounts : List ℕ) → AreAmountsAt g words amounts → length amounts ≡ length words
amounts_count g words amounts are = sym (length-map amounts (of_grade g)) ∙ sym (length-map (map (of_grade g) amounts) graded_word) ∙ ap length are.written

-- no phases
pub grade_none : (g side : ℕ) (totals : Totals) → AreTotals [] totals → AreOfGrade g side [] totals
grade_none g side totals are = record {
  amounts = [];
  written = refl;
  positive = All-nil HasPositiveSteps;
  sizes = All-nil (IsPhaseOver {V = Word} side);
  come = are;
}

-- one more phase, before the others
pub takes_in : (g side : ℕ) (words : PhaseOf Word) (amounts : List ℕ) (before after : Totals) → 1 ≤ length words.steps → length words.steps ≤ side → AreAmountsAt g words.steps amounts → CountsRight side (phase_of amounts words.enters words.leaves) → ((others : List (PhaseOf ℕ)) → AreTotals others before → AreTotals (phase_of amounts words.enters words.leaves ∷ others) after) → TakesIn g side words before after
takes_in g side words amounts before after some few are right more rest all = record {
  amounts = phase_of amounts words.enters words.leaves ∷ all.amounts;
  written =
      ap (λ ws. phase_of ws words.enters words.leaves ∷ map (worded graded_word) (map (graded_phase g) all.amounts)) are.written
      ∙ ap (λ ps. words ∷ ps) all.written;
  positive = All-cons HasPositiveSteps (phase_of amounts words.enters words.leaves) all.amounts are.positive all.positive;
  sizes = All-cons (IsPhaseOver side) words rest (record { some = some; few = few; enters = right.rows; leaves = right.columns }) all.sizes;
  come = more all.amounts all.come;
}
