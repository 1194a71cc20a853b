-- Marks of the cells that are 0, from before a step by 1 to after it.
use Rattle.asg_levels.proofs.Common.{◌≡◌, ℕ, ◌+◌, ◌*◌, ◌/◌, ◌%◌, ◌<◌, ◌≤◌, Bool, true, false, cond, not, ◌&&◌, ◌||◌, List, length, get_or, is_some, ◌==◌, Some, None, Option, sym, refl, ap, ◌∙◌, subst, ⊎_elim, arith, eq-eqb, ne_eqb, eqb-true, and_parts, cases_Bool, cases_eq, cases_lt, false_from_ne_true, false≢true, BitTable, word_count, is_bit_set, has_bit, IsBitTable, AreWordsOf, PutsWord, place_hit, place_missed, bit_in_row, ClearsColumns, ClearsWord, RenewsRows, TightensWords, Tightens, is_tight, AreDuals, CountsStep}
use Rattle.asg_levels.proofs.TightWords.{two_parts, past_words, first_false}

and_true : (b : Bool) → (b && true) ≡ b
and_true true = refl
and_true false = refl

and_false : (b : Bool) → (b && false) ≡ false
and_false true = refl
and_false false = refl

-- ---- the marks of one word of a row

module _ (middle after : BitTable) (words : List ℕ) (row number left word : ℕ) (are : AreWordsOf (has_bit middle row) middle.columns words) (below : number < word_count middle.columns)
    (bits : (k : ℕ) → k < 64 → is_bit_set word k ≡ (is_bit_set (get_or words number 0) k && not (is_bit_set left k)))
  where
    -- no bit past the last column is set
    pub cleared_inside : IsBitTable middle → (k : ℕ) → k < 64 → is_bit_set word k ≡ true → 64 * number + k < middle.columns
    cleared_inside table k h set =
        let both = and_parts (is_bit_set (get_or words number 0) k) (not (is_bit_set left k)) (sym (bits k h) ∙ set) in
        (table.inside row (64 * number + k) (sym (bit_in_row (has_bit middle row) middle.columns words number k are below h) ∙ both.0)).1

    module _ (put : PutsWord middle after row number word) where
      pub cleared_here : (c : ℕ) → c / 64 ≡ number → has_bit after row c ≡ (has_bit middle row c && not (is_bit_set left (c % 64)))
      cleared_here c here =
          let place : 64 * number + c % 64 ≡ c = omega (arith, here) in
          put.bits row c
          ∙ place_hit row row (c / 64) number (is_bit_set word (c % 64)) (has_bit middle row c) refl here
          ∙ bits (c % 64) (omega arith)
          ∙ ap (λ b. b && not (is_bit_set left (c % 64))) (bit_in_row (has_bit middle row) middle.columns words number (c % 64) are below (omega arith) ∙ ap (has_bit middle row) place)

      pub cleared_else : (r c : ℕ) → (r ≡ row → c / 64 ≡ number → ⊥) → has_bit after r c ≡ has_bit middle r c
      cleared_else r c other = put.bits r c ∙ place_missed r row (c / 64) number (is_bit_set word (c % 64)) (has_bit middle r c) other

-- ---- one word more of the columns that are out

pub columns_more : (before middle after : BitTable) (leaves : List ℕ) (number word : ℕ) → before.columns ≡ length leaves → ClearsColumns before middle leaves number → ClearsWord middle after number word
    → ((k : ℕ) → k < 64 → 64 * number + k < length leaves → is_bit_set word k ≡ (get_or leaves (64 * number + k) 0 == 0))
    → ClearsColumns before after leaves (number + 1)
columns_more before middle after leaves number word size so clear bits = record {
  rows = clear.rows ∙ so.rows;
  columns = clear.columns ∙ so.columns;
  done = λ r c hr hc h.
      ⊎_elim
      (λ (here : c / 64 ≡ number).
      let place : 64 * number + c % 64 ≡ c = omega (arith, here) in
      let within : 64 * number + c % 64 < length leaves = omega (arith, place, hc, size) in
      let same : has_bit middle r c ≡ has_bit before r c = so.rest r c (omega (arith, here)) in
      clear.here r c (omega (arith, hr, so.rows)) here
      ∙ ap (λ b. b && not (is_bit_set word (c % 64))) same
      ∙ ap (λ b. has_bit before r c && not b) (bits (c % 64) (omega arith) within ∙ ap (λ d. get_or leaves d 0 == 0) place))
      (λ there.
      let less : c < 64 * number = earlier c there h in
      clear.others r c there ∙ so.done r c hr hc less)
      (cases_eq (c / 64) number);
  rest = λ r c h. clear.others r c (λ e. absurd (omega (arith, e, h))) ∙ so.rest r c (omega (arith, h));
}
  where
    earlier : (c : ℕ) → (c / 64 ≡ number → ⊥) → c < 64 * (number + 1) → c < 64 * number
    earlier c there h =
        ⊎_elim
        (λ (less : c < 64 * number). less)
        (λ (more : 64 * number ≤ c). let same : c / 64 ≡ number = omega (arith, h, more) in absurd (there same))
        (cases_lt c (64 * number))

-- ---- one row more

module _ (before middle after zeros ones : BitTable) (enters ins outs : List ℕ) (row : ℕ) (so : RenewsRows before middle zeros ones enters ins outs row) where
  renews_entered : zeros.columns ≡ middle.columns → ones.columns ≡ middle.columns → get_or enters row 0 ≡ 0 → TightensWords middle after zeros ones outs (get_or ins row 0) row (word_count middle.columns) → RenewsRows before after zeros ones enters ins outs (row + 1)
  renews_entered zero_columns one_columns in_step words = record {
    rows = words.rows ∙ so.rows;
    columns = words.columns ∙ so.columns;
    entered = λ r c h enter.
        ⊎_elim
        (λ (here : r ≡ row). subst (λ s. has_bit after s c ≡ is_tight zeros ones ins outs s c) (sym here) (tight c))
        (λ other. words.others r c other ∙ so.entered r c (omega (arith, h, other)) enter)
        (cases_eq r row);
    others = λ r c out. words.others r c (λ e. out (ap (λ s. get_or enters s 0) e ∙ in_step)) ∙ so.others r c out;
    rest = λ r c h. words.others r c (λ e. absurd (omega (arith, e, h))) ∙ so.rest r c (omega (arith, h));
  }
    where
      far : {c : ℕ} (B : BitTable) → B.columns ≡ middle.columns → 64 * word_count middle.columns ≤ c → 64 * word_count B.columns ≤ c
      far B e past = omega (arith, e, past)

      tight : (c : ℕ) → has_bit after row c ≡ is_tight zeros ones ins outs row c
      tight c =
          ⊎_elim
          (λ (inside : c < 64 * word_count middle.columns). words.done c inside)
          (λ (past : 64 * word_count middle.columns ≤ c).
          past_words after row c (far after words.columns past)
          ∙ sym (two_parts _ _ _ _
          (first_false (has_bit zeros row c) (get_or outs c 0 == get_or ins row 0) (past_words zeros row c (far zeros zero_columns past)))
          (first_false (has_bit ones row c && not (has_bit zeros row c)) (get_or outs c 0 + 1 == get_or ins row 0) (first_false (has_bit ones row c) (not (has_bit zeros row c)) (past_words ones row c (far ones one_columns past))))))
          (cases_lt c (64 * word_count middle.columns))

  renews_other : (get_or enters row 0 ≡ 0 → ⊥) → after ≡ middle → RenewsRows before after zeros ones enters ins outs (row + 1)
  renews_other out same =
      subst (λ B. RenewsRows before B zeros ones enters ins outs (row + 1)) (sym same)
      (record {
        rows = so.rows;
        columns = so.columns;
        entered = λ r c h enter. so.entered r c (less r h enter) enter;
        others = so.others;
        rest = λ r c h. so.rest r c (omega (arith, h));
      })
    where
      less : (r : ℕ) → r < row + 1 → get_or enters r 0 ≡ 0 → r < row
      less r h enter =
          ⊎_elim
          (λ (here : r ≡ row). absurd (out (sym (ap (λ s. get_or enters s 0) here) ∙ enter)))
          (λ other. omega (arith, h, other))
          (cases_eq r row)

  -- by whether the row is in the step
  pub renews_more : zeros.columns ≡ middle.columns → ones.columns ≡ middle.columns → (get_or enters row 0 ≡ 0 → TightensWords middle after zeros ones outs (get_or ins row 0) row (word_count middle.columns)) → ((get_or enters row 0 ≡ 0 → ⊥) → after ≡ middle) → RenewsRows before after zeros ones enters ins outs (row + 1)
  renews_more zero_columns one_columns entered other =
      ⊎_elim
      (λ (in_step : get_or enters row 0 ≡ 0). renews_entered zero_columns one_columns in_step (entered in_step))
      (λ out. renews_other out (other out))
      (cases_eq (get_or enters row 0) 0)

-- ---- the cells that are 0 after the step

base_few : (b : Bool) → cond {A = ℕ} b 0 1 ≤ 1
base_few true = omega arith
base_few false = omega arith

or_true : (b d : Bool) → (b || d) ≡ true → (b ≡ true → ⊥) → d ≡ true
or_true true d e none = absurd (none refl)
or_true false d e none = e

module _ (side count : ℕ) (before middle after zeros ones : BitTable) (enters leaves ins_before outs_before ins outs : List ℕ) (square : ℕ → ℕ → Option ℕ)
    (rows : before.rows ≡ side) (columns : before.columns ≡ side) (zero_columns : zeros.columns ≡ side) (one_columns : ones.columns ≡ side)
    (zero_table : IsBitTable zeros) (one_table : IsBitTable ones) (table : IsBitTable after)
    (long : length leaves ≡ side)
    (clears : ClearsColumns before middle leaves (word_count (length leaves))) (renews : RenewsRows middle after zeros ones enters ins outs side)
    (duals : AreDuals side count zeros ones ins_before outs_before square) (tight : Tightens before zeros ones ins_before outs_before side side)
    (counts : CountsStep side enters leaves ins_before outs_before ins outs)
  where
    -- a cell past the last column isn't there
    past : (B : BitTable) (r c : ℕ) → IsBitTable B → B.columns ≡ side → side ≤ c → has_bit B r c ≡ false
    past B r c t e h = false_from_ne_true (has_bit B r c) (λ set. let inside = t.inside r c set in absurd (omega (arith, inside.1, e, h)))

    -- a row that isn't in the step is in as many as before
    same_ins : (r : ℕ) → r < side → (get_or enters r 0 ≡ 0 → ⊥) → get_or ins r 0 ≡ get_or ins_before r 0
    same_ins r h out = let now = counts.rows r h ∙ ap (λ b. get_or ins_before r 0 + cond {A = ℕ} b 1 0) (ne_eqb (get_or enters r 0) 0 out) in omega (arith, now)

    -- none of its cells in a column that is out of the step is 0 after it
    none_tight : (r c : ℕ) → r < side → c < side → (get_or enters r 0 ≡ 0 → ⊥) → get_or leaves c 0 ≡ 0 → is_tight zeros ones ins outs r c ≡ true → ⊥
    none_tight r c hr hc out left e =
        let more = counts.columns c hc ∙ ap (λ b. get_or outs_before c 0 + cond {A = ℕ} b 1 0) (eq-eqb (get_or leaves c 0) 0 left) in
        let same = same_ins r hr out in
        at_cases more same
      where
        -- the cell was there, and not less than 0
        was : (has_bit zeros r c || has_bit ones r c) ≡ true → get_or ins_before r 0 ≤ cond {A = ℕ} (has_bit zeros r c) 0 1 + get_or outs_before c 0
        was there = by_cell (square r c) refl (duals.there r c ∙ there)
          where
            by_cell : (o : Option ℕ) → square r c ≡ o → is_some (square r c) ≡ true → get_or ins_before r 0 ≤ cond {A = ℕ} (has_bit zeros r c) 0 1 + get_or outs_before c 0
            by_cell None at some = absurd (false≢true (sym (ap is_some at) ∙ some))
            by_cell (Some x) at some = let value = duals.value r c x at in omega (arith, value)

        by_zero : has_bit zeros r c ≡ true → get_or outs c 0 ≡ get_or ins r 0
        by_zero zero = eqb-true (get_or outs c 0) (get_or ins r 0) (of_zero (has_bit zeros r c) (has_bit ones r c) zero (get_or outs c 0 == get_or ins r 0) (get_or outs c 0 + 1 == get_or ins r 0) e)
          where
            of_zero : (z o : Bool) → z ≡ true → (x y : Bool) → ((z && x) || ((o && not z) && y)) ≡ true → x ≡ true
            of_zero true o h true y e = refl
            of_zero true true h false y e = e
            of_zero true false h false y e = e
            of_zero false o h x y e = absurd (false≢true h)

        by_one : has_bit zeros r c ≡ false → (has_bit ones r c ≡ true) × (get_or outs c 0 + 1 ≡ get_or ins r 0)
        by_one other =
            let both = of_one (has_bit zeros r c) (has_bit ones r c) other (get_or outs c 0 == get_or ins r 0) (get_or outs c 0 + 1 == get_or ins r 0) e in
            (both.0, eqb-true (get_or outs c 0 + 1) (get_or ins r 0) both.1)
          where
            of_one : (z o : Bool) → z ≡ false → (x y : Bool) → ((z && x) || ((o && not z) && y)) ≡ true → (o ≡ true) × (y ≡ true)
            of_one true o h x y e = absurd (false≢true (sym h))
            of_one false true h x y e = (refl, e)
            of_one false false h x y e = absurd (false≢true e)

        at_cases : get_or outs c 0 ≡ get_or outs_before c 0 + 1 → get_or ins r 0 ≡ get_or ins_before r 0 → ⊥
        at_cases more same =
            ⊎_elim
            (λ (zero : has_bit zeros r c ≡ true).
            let bound = was (ap (λ b. b || has_bit ones r c) zero) in
            let base = ap (λ b. cond {A = ℕ} b 0 1) zero in
            let now = by_zero zero in
            omega (arith, bound, base, now, more, same))
            (λ (other : has_bit zeros r c ≡ false).
            let both = by_one other in
            let bound = was (ap (λ b. b || has_bit ones r c) other ∙ both.0) in
            let base = ap (λ b. cond {A = ℕ} b 0 1) other in
            omega (arith, bound, base, both.1, more, same))
            (cases_Bool (has_bit zeros r c))

    -- its cells in the other columns are 0 where they were
    kept_tight : (r c : ℕ) → r < side → c < side → (get_or enters r 0 ≡ 0 → ⊥) → (get_or leaves c 0 ≡ 0 → ⊥) → is_tight zeros ones ins outs r c ≡ is_tight zeros ones ins_before outs_before r c
    kept_tight r c hr hc out stays =
        let column : get_or outs c 0 ≡ get_or outs_before c 0 = (let now = counts.columns c hc ∙ ap (λ b. get_or outs_before c 0 + cond {A = ℕ} b 1 0) (ne_eqb (get_or leaves c 0) 0 stays) in omega (arith, now)) in
        let row = same_ins r hr out in
        ap (λ n. (has_bit zeros r c && (n == get_or ins r 0)) || ((has_bit ones r c && not (has_bit zeros r c)) && (n + 1 == get_or ins r 0))) column
        ∙ ap (λ n. (has_bit zeros r c && (get_or outs_before c 0 == n)) || ((has_bit ones r c && not (has_bit zeros r c)) && (get_or outs_before c 0 + 1 == n))) row

    outside : (r c : ℕ) → r < side → c < side → (get_or enters r 0 ≡ 0 → ⊥) → has_bit after r c ≡ is_tight zeros ones ins outs r c
    outside r c hr hc out =
        renews.others r c out
        ∙ clears.done r c (omega (arith, hr, rows)) (omega (arith, hc, columns)) (omega (arith, hc, long))
        ∙ ap (λ b. b && not (get_or leaves c 0 == 0)) (tight.done r c hr)
        ∙ ⊎_elim
        (λ (left : get_or leaves c 0 ≡ 0).
        ap (λ b. is_tight zeros ones ins_before outs_before r c && not b) (eq-eqb (get_or leaves c 0) 0 left)
        ∙ and_false (is_tight zeros ones ins_before outs_before r c)
        ∙ sym (false_from_ne_true (is_tight zeros ones ins outs r c) (none_tight r c hr hc out left)))
        (λ stays.
        ap (λ b. is_tight zeros ones ins_before outs_before r c && not b) (ne_eqb (get_or leaves c 0) 0 stays)
        ∙ and_true (is_tight zeros ones ins_before outs_before r c)
        ∙ sym (kept_tight r c hr hc out stays))
        (cases_eq (get_or leaves c 0) 0)

    beyond : (r c : ℕ) → side ≤ c → has_bit after r c ≡ is_tight zeros ones ins outs r c
    beyond r c h =
        past after r c table (renews.columns ∙ clears.columns ∙ columns) h
        ∙ sym (two_parts _ _ _ _
        (first_false (has_bit zeros r c) (get_or outs c 0 == get_or ins r 0) (past zeros r c zero_table zero_columns h))
        (first_false (has_bit ones r c && not (has_bit zeros r c)) (get_or outs c 0 + 1 == get_or ins r 0) (first_false (has_bit ones r c) (not (has_bit zeros r c)) (past ones r c one_table one_columns h))))

    -- the marks are those of the cells that are 0 after the step
    pub next_tight : Tightens after zeros ones ins outs side side
    next_tight = record {
      rows = renews.rows ∙ clears.rows ∙ rows;
      columns = renews.columns ∙ clears.columns ∙ columns;
      done = λ r c hr.
          ⊎_elim
          (λ (in_step : get_or enters r 0 ≡ 0). renews.entered r c hr in_step)
          (λ out. ⊎_elim (λ (hc : c < side). outside r c hr hc out) (λ (h : side ≤ c). beyond r c h) (cases_lt c side))
          (cases_eq (get_or enters r 0) 0);
    }
