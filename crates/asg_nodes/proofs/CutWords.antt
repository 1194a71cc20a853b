-- Squares that lose the present cells of a row at columns that stand side by side, word by word.
use Rattle.asg_nodes.proofs.Common.{◌≡◌, ℕ, ◌+◌, ◌-◌, ◌*◌, ◌/◌, ◌%◌, ◌<◌, ◌≤◌, Bool, true, false, cond, not, ◌&&◌, ◌||◌, eqb, ◌↔◌, List, get_or, is_some, nat_lt, nat_le, Some, None, Option, sym, refl, ap, ◌∙◌, subst, ⊎_elim, arith, ltb-true, le-ltb, lt-ltb, eq-eqb, ne_eqb, eqb-true, le-leb, and_from, and_parts, bit_at, bit_at-zero, cases_lt, false≢true, lt-leb, or_cases, or_left, or_right, AreWordsOf, is_bit_set, is_from_to, word_count, HasBit, HasBit-without, HasBit-without_other, without_bit, bit_in_row, bit_of, of_bit, in_run, out_of_run, run_parts, same_bool, total_capacity, Problem, IsRunOf, keeps_copies, label_in, cuts_cell, cuts_word, cuts_between, cuts_row, Run, label_is, Grid, cell_at, HasLabelsOf, column_label}
use Rattle.asg_nodes.proofs.CopyLemmas.{alone_keeps, others_keep}

-- ---- the bits of a word from one on and before another

ones_bit : (ones n k : ℕ) → k < 64 → HasBit ones k ↔ ((k < n) × (k < 64)) → is_bit_set ones k ≡ nat_lt k n
ones_bit ones n k h is =
    same_bool (is_bit_set ones k) (nat_lt k n)
    (λ e. let below = is.0 (bit_of (bit_at ones k) e) in lt-ltb k n below.0)
    (λ e. of_bit (bit_at ones k) (is.1 (ltb-true k n e, h)))

not_less : (k n : ℕ) → not (nat_lt k n) ≡ nat_le n k
not_less k n =
    ⊎_elim
    (λ (less : k < n). ap not (lt-ltb k n less) ∙ sym (lt-leb n k less))
    (λ (from : n ≤ k). ap not (le-ltb k n from) ∙ sym (le-leb n k from))
    (cases_lt k n)

pub between_bit : (from to upto before k : ℕ) (bit : Bool) → k < 64 → HasBit upto k ↔ ((k < to) × (k < 64)) → HasBit before k ↔ ((k < from) × (k < 64)) → ((bit && is_bit_set upto k) && not (is_bit_set before k)) ≡ (bit && is_from_to from to k)
between_bit from to upto before k bit h low high =
    (λ i. (bit && ones_bit upto to k h low i) && not (ones_bit before from k h high i))
    ∙ ap (λ b. (bit && nat_lt k to) && b) (not_less k from)
    ∙ turned bit (nat_lt k to) (nat_le from k)
  where
    turned : (a b c : Bool) → ((a && b) && c) ≡ (a && (c && b))
    turned false b c = refl
    turned true true true = refl
    turned true true false = refl
    turned true false true = refl
    turned true false false = refl

-- ---- the columns of a word

-- the columns of a word, from one on and before another, were cut, but for those whose bits are
-- left
abbrev pub cut_but : ℕ → ℕ → ℕ → ℕ → ℕ → ℕ → ℕ → Bool
cut_but row number from to rest r k =
    not (eqb r row && (eqb (k / 64) number && (is_from_to from to k && not (is_bit_set rest (k % 64)))))

-- which bits were left at first
module _ {V : Type 0} (Q : Grid V) (row number from to low bits : ℕ) (words : List ℕ) (are : AreWordsOf (λ k. is_some (cell_at Q row k)) Q.side words) (below : number < word_count Q.side) (low_is : low ≡ from - 64 * number) (bits_are : (j : ℕ) → j < 64 → is_bit_set bits j ≡ (is_bit_set (get_or words number 0) j && is_from_to low (to - 64 * number) j)) where
  pub bits_run : (j : ℕ) → j < 64 → HasBit bits j → is_from_to from to (64 * number + j) ≡ true
  bits_run j h has =
      let both = and_parts (is_bit_set (get_or words number 0) j) (is_from_to low (to - 64 * number) j) (sym (bits_are j h) ∙ of_bit (bit_at bits j) has) in
      let run = run_parts low (to - 64 * number) j both.1 in
      in_run from to (64 * number + j) (omega (arith, run.0, low_is)) (omega (arith, run.1))

  -- a column without its bit has no cell in the row
  pub bit_absent : (r k : ℕ) → cut_but row number from to bits r k ≡ false → cell_at Q r k ≡ None
  bit_absent r k e =
      let at = parts (eqb r row) (eqb (k / 64) number) (is_from_to from to k) (is_bit_set bits (k % 64)) e in
      let here = eqb-true (k / 64) number at.1 in
      let place : 64 * number + k % 64 ≡ k = omega (arith, here) in
      let run = run_parts from to k at.2 in
      let inside : is_from_to low (to - 64 * number) (k % 64) ≡ true = in_run low (to - 64 * number) (k % 64) (omega (arith, run.0, low_is, place)) (omega (arith, run.1, place)) in
      let clear : is_bit_set (get_or words number 0) (k % 64) ≡ false = lacks (is_bit_set (get_or words number 0) (k % 64)) (is_from_to low (to - 64 * number) (k % 64)) inside (sym (bits_are (k % 64) (omega arith)) ∙ at.3) in
      let bit = bit_in_row (λ j. is_some (cell_at Q row j)) Q.side words number (k % 64) are below (omega arith) in
      let none : is_some (cell_at Q row k) ≡ false = ap (λ j. is_some (cell_at Q row j)) (sym place) ∙ sym bit ∙ clear in
      ap (λ s. cell_at Q s k) (eqb-true r row at.0) ∙ absent (cell_at Q row k) none
    where
      parts : (a b c d : Bool) → not (a && (b && (c && not d))) ≡ false → (a ≡ true) × (b ≡ true) × (c ≡ true) × (d ≡ false)
      parts true true true false e = (refl, refl, refl, refl)
      parts true true true true e = absurd (false≢true (sym e))
      parts true true false d e = absurd (false≢true (sym e))
      parts true false c d e = absurd (false≢true (sym e))
      parts false b c d e = absurd (false≢true (sym e))

      lacks : (a b : Bool) → b ≡ true → (a && b) ≡ false → a ≡ false
      lacks false b e f = refl
      lacks true b e f = absurd (false≢true (sym f ∙ e))

      absent : (o : Option V) → is_some o ≡ false → o ≡ None
      absent None e = refl
      absent (Some x) e = absurd (false≢true (sym e))

module _ (row number from to rest : ℕ) where
  -- the cell of a bit that was left is cut
  pub cut_bit : (b : ℕ) → b < 64 → is_from_to from to (64 * number + b) ≡ true → (r k : ℕ) → (cut_but row number from to rest r k && cuts_cell row (64 * number + b) r k) ≡ cut_but row number from to (without_bit rest b) r k
  cut_bit b h run r k =
      ap (λ x. cut_but row number from to rest r k && not (eqb r row && x)) place
      ∙ step (eqb r row) (eqb (k / 64) number) (is_from_to from to k) (is_bit_set rest (k % 64)) (eqb (k % 64) b)
      (λ e f.
      let here = eqb-true (k / 64) number e in
      let bit = eqb-true (k % 64) b f in
      let same : k ≡ 64 * number + b = omega (arith, here, bit) in
      ap (is_from_to from to) same ∙ run)
      ∙ ap (λ x. not (eqb r row && (eqb (k / 64) number && (is_from_to from to k && not x)))) (sym without)
    where
      place : eqb k (64 * number + b) ≡ (eqb (k / 64) number && eqb (k % 64) b)
      place =
          same_bool (eqb k (64 * number + b)) (eqb (k / 64) number && eqb (k % 64) b)
          (λ e.
          let same = eqb-true k (64 * number + b) e in
          and_from (eqb (k / 64) number) (eqb (k % 64) b) (eq-eqb (k / 64) number (omega (arith, same, h))) (eq-eqb (k % 64) b (omega (arith, same, h))))
          (λ e.
          let both = and_parts (eqb (k / 64) number) (eqb (k % 64) b) e in
          let here = eqb-true (k / 64) number both.0 in
          let bit = eqb-true (k % 64) b both.1 in
          eq-eqb k (64 * number + b) (omega (arith, here, bit)))

      without : is_bit_set (without_bit rest b) (k % 64) ≡ (is_bit_set rest (k % 64) && not (eqb (k % 64) b))
      without =
          same_bool (is_bit_set (without_bit rest b) (k % 64)) (is_bit_set rest (k % 64) && not (eqb (k % 64) b))
          (λ e.
          let has = HasBit-without rest b (k % 64) h (bit_of (bit_at (without_bit rest b) (k % 64)) e) in
          and_from (is_bit_set rest (k % 64)) (not (eqb (k % 64) b)) (of_bit (bit_at rest (k % 64)) has.0) (ap not (ne_eqb (k % 64) b has.1)))
          (λ e.
          let both = and_parts (is_bit_set rest (k % 64)) (not (eqb (k % 64) b)) e in
          of_bit (bit_at (without_bit rest b) (k % 64))
          (HasBit-without_other rest b (k % 64) h (omega arith) (bit_of (bit_at rest (k % 64)) both.0)
          (λ same. false≢true (sym (ap not (eq-eqb (k % 64) b same)) ∙ both.1))))

      step : (a n run x m : Bool) → (n ≡ true → m ≡ true → run ≡ true) → (not (a && (n && (run && not x))) && not (a && (n && m))) ≡ not (a && (n && (run && not (x && not m))))
      step false n run x m inside = refl
      step true false run x m inside = refl
      step true true true true true inside = refl
      step true true true true false inside = refl
      step true true true false true inside = refl
      step true true true false false inside = refl
      step true true false x true inside = absurd (false≢true (inside refl refl))
      step true true false x false inside = refl

  -- no bit is left
  pub cut_all_bits : rest ≡ 0 → (r k : ℕ) → cut_but row number from to rest r k ≡ cuts_word row number from to r k
  cut_all_bits none r k =
      let clear : is_bit_set rest (k % 64) ≡ false = ap (λ w. is_bit_set w (k % 64)) none ∙ ap (λ n. eqb n 1) (bit_at-zero (k % 64)) in
      ap (λ b. not (eqb r row && (eqb (k / 64) number && (is_from_to from to k && not b)))) clear
      ∙ ap (λ b. not (eqb r row && (eqb (k / 64) number && b))) (and_true (is_from_to from to k))
    where
      and_true : (b : Bool) → (b && true) ≡ b
      and_true true = refl
      and_true false = refl

-- ---- the words of a row

-- the words before one were cut
abbrev pub cut_upto : ℕ → ℕ → ℕ → ℕ → ℕ → ℕ → Bool
cut_upto row number from to r k = not (eqb r row && (nat_lt (k / 64) number && is_from_to from to k))

module _ (row from to r k : ℕ) where
  pub cut_no_words : cut_upto row (from / 64) from to r k ≡ true
  cut_no_words =
      kept (eqb r row) (nat_lt (k / 64) (from / 64)) (is_from_to from to k)
      (λ e f. let less = ltb-true (k / 64) (from / 64) e in let run = run_parts from to k f in omega (arith, less, run.0))
    where
      kept : (a b c : Bool) → (b ≡ true → c ≡ true → ⊥) → not (a && (b && c)) ≡ true
      kept false b c none = refl
      kept true false c none = refl
      kept true true false none = refl
      kept true true true none = absurd (none refl refl)

  pub cut_next_word : (number : ℕ) → (cut_upto row number from to r k && cuts_word row number from to r k) ≡ cut_upto row (number + 1) from to r k
  cut_next_word number =
      joined (eqb r row) (nat_lt (k / 64) number) (eqb (k / 64) number) (is_from_to from to k)
      ∙ ap (λ b. not (eqb r row && (b && is_from_to from to k))) (sym more)
    where
      more : nat_lt (k / 64) (number + 1) ≡ (nat_lt (k / 64) number || eqb (k / 64) number)
      more =
          same_bool (nat_lt (k / 64) (number + 1)) (nat_lt (k / 64) number || eqb (k / 64) number)
          (λ e.
          let below = ltb-true (k / 64) (number + 1) e in
          ⊎_elim
          (λ (less : k / 64 < number). or_left (nat_lt (k / 64) number) (eqb (k / 64) number) (lt-ltb (k / 64) number less))
          (λ (from : number ≤ k / 64). or_right (nat_lt (k / 64) number) (eqb (k / 64) number) (eq-eqb (k / 64) number (omega (arith, below, from))))
          (cases_lt (k / 64) number))
          (λ e.
          ⊎_elim
          (λ (f : nat_lt (k / 64) number ≡ true). let less = ltb-true (k / 64) number f in lt-ltb (k / 64) (number + 1) (omega (arith, less)))
          (λ (f : eqb (k / 64) number ≡ true). let same = eqb-true (k / 64) number f in lt-ltb (k / 64) (number + 1) (omega (arith, same)))
          (or_cases (nat_lt (k / 64) number) (eqb (k / 64) number) e))

      joined : (a b c d : Bool) → (not (a && (b && d)) && not (a && (c && d))) ≡ not (a && ((b || c) && d))
      joined false b c d = refl
      joined true false c d = refl
      joined true true c true = refl
      joined true true true false = refl
      joined true true false false = refl

  pub cut_all_words : (number : ℕ) → word_count to ≤ number → cut_upto row number from to r k ≡ cuts_between row from to r k
  cut_all_words number past =
      ap (λ b. not (eqb r row && b))
      (within (nat_lt (k / 64) number) (is_from_to from to k) (λ e. let run = run_parts from to k e in lt-ltb (k / 64) number (omega (arith, run.1, past))))
    where
      within : (a b : Bool) → (b ≡ true → a ≡ true) → (a && b) ≡ b
      within true b f = refl
      within false true f = absurd (false≢true (f refl))
      within false false f = refl

-- ---- a row

-- the columns before a run, and those past it before an end, were cut
beside_run : (from to end k : ℕ) → from ≤ to → to ≤ end → (not (is_from_to 0 from k) && not (is_from_to to end k)) ≡ (is_from_to from to k || nat_le end k)
beside_run from to end k low high =
    ⊎_elim
    (λ (before : k < from).
    (λ i. not (in_run 0 from k (omega arith) before i) && not (is_from_to to end k))
    ∙ sym (λ i. out_of_run from to k (λ l h. omega (arith, l, before)) i || lt-leb end k (omega (arith, before, low, high)) i))
    (λ (since : from ≤ k).
    ⊎_elim
    (λ (inside : k < to).
    (λ i. not (out_of_run 0 from k (λ l h. omega (arith, h, since)) i) && not (out_of_run to end k (λ l h. omega (arith, l, inside)) i))
    ∙ sym (or_left (is_from_to from to k) (nat_le end k) (in_run from to k since inside)))
    (λ (after : to ≤ k).
    ⊎_elim
    (λ (within : k < end).
    (λ i. not (out_of_run 0 from k (λ l h. omega (arith, h, since)) i) && not (in_run to end k after within i))
    ∙ sym (λ i. out_of_run from to k (λ l h. omega (arith, h, after)) i || lt-leb end k within i))
    (λ (past : end ≤ k).
    (λ i. not (out_of_run 0 from k (λ l h. omega (arith, h, since)) i) && not (out_of_run to end k (λ l h. omega (arith, h, past)) i))
    ∙ sym (or_right (is_from_to from to k) (nat_le end k) (le-leb end k past)))
    (cases_lt k end))
    (cases_lt k to))
    (cases_lt k from)

module _ {V : Type 0} (X : Problem) (Q : Grid V) (labels : HasLabelsOf X Q) (chosen : Option ℕ) (run : Run) (is : IsRunOf X chosen run) (row r k : ℕ) (below : k < Q.side) where
  label_here : label_in Q k ≡ column_label X k
  label_here = label_is X Q labels k (subst (λ n. k < n) labels.side below)

  -- a row keeps the copies of its column alone
  pub alone_row : (end : ℕ) → end ≡ total_capacity X → (cuts_between row 0 run.from r k && cuts_between row run.to end r k) ≡ cuts_row Q row chosen true r k
  alone_row end whole =
      both (eqb r row) (is_from_to 0 run.from k) (is_from_to run.to end k) (keeps_copies chosen true (label_in Q k))
      (beside_run run.from run.to end k is.order (omega (arith, is.within, whole))
      ∙ ap (λ n. is_from_to run.from run.to k || nat_le n k) whole
      ∙ alone_keeps X chosen run is k
      ∙ ap (keeps_copies chosen true) (sym label_here))
    where
      both : (a b c x : Bool) → (not b && not c) ≡ x → (not (a && b) && not (a && c)) ≡ cond a x true
      both true b c x e = e
      both false b c x e = refl

  -- or loses them
  pub lost_row : cuts_between row run.from run.to r k ≡ cuts_row Q row chosen false r k
  lost_row =
      one (eqb r row) (is_from_to run.from run.to k) (keeps_copies chosen false (label_in Q k))
      (others_keep X chosen run is k ∙ ap (keeps_copies chosen false) (sym label_here))
    where
      one : (a b x : Bool) → not b ≡ x → not (a && b) ≡ cond a x true
      one true b x e = e
      one false b x e = refl
