-- Whether answers have right cells and values, are repeated or are out of order is decided.
use Rattle.asg_check.proofs.Common.{◌≡◌, ℕ, suc, ◌<◌, ◌⊎◌, ◌↔◌, List, [], ◌∷◌, ℤ, ◌<ℤ◌, slice_get, Some, Option, sym, ap, ◌∙◌, subst, inl, inr, arith, List-discrete, and, by_lt_z, ints, of_iff, ×_discrete, ℕ_discrete, ℤ_discrete, IsNoChoiceAt, IsOutOfOrderAt, IsRepeatedAt, IsWrongValueAt, HasWrongValue, IsWrittenAs, SpellNone, read_cells, cells_by_id, Answer, IsBetter, IsBetterNumber, IsLessList, IsInstance, Problem, IsValid, choice_value, Objective, SumMax, BottleneckMax, Value, One, Two, Many, dec_some_below, dec_there, not}
use Rattle.asg_check.proofs.Decisions.{same_value}
use Rattle.asg_check.proofs.Reading.{written-read}

-- ---- whether a value is better than another

dec_or : {A B : Type 0} → Dec A → Dec B → Dec (A ⊎ B)
dec_or (yes x) b = yes (inl x)
dec_or (no none) (yes y) = yes (inr y)
dec_or {A} {B} (no none) (no neither) = no by
  where
    by : A ⊎ B → ⊥
    by (inl x) = none x
    by (inr y) = neither y

dec_less : (x y : ℤ) → Dec (x <ℤ y)
dec_less x y = by_lt_z x y (λ less. yes less) (λ le. no (λ less. absurd (omega (arith, ints, less, le))))

dec_better_number : (objective : Objective) (x y : ℤ) → Dec (IsBetterNumber objective x y)
dec_better_number SumMax x y = dec_less y x
dec_better_number BottleneckMax x y = dec_less y x
dec_better_number objective x y = dec_less x y

dec_less_list : (xs ys : List ℤ) → Dec (IsLessList xs ys)
dec_less_list [] [] = no (λ none. none)
dec_less_list (x ∷ xs) [] = no (λ none. none)
dec_less_list [] (y ∷ ys) = yes tt
dec_less_list (x ∷ xs) (y ∷ ys) = dec_or (dec_less x y) (and (ℤ_discrete x y) (dec_less_list xs ys))

pub dec_better : (objective : Objective) (x y : Value) → Dec (IsBetter objective x y)
dec_better objective (One x) (One y) = dec_better_number objective x y
dec_better objective (Two x s) (Two y t) = dec_or (dec_less x y) (and (ℤ_discrete x y) (dec_less s t))
dec_better objective (Many xs) (Many ys) = dec_less_list xs ys
dec_better objective x y = no (λ none. none)

-- ---- one answer

-- the choice that an answer's cells are read as
abbrev pub read_choice : Problem → Answer → List (Option ℕ)
read_choice X answer = (read_cells X X.rows answer.cells).0

pub same_cells : (cells others : List (ℕ × ℕ)) → Dec (cells ≡ others)
same_cells cells others = List-discrete (×_discrete ℕ_discrete ℕ_discrete) cells others

module _ (decided : (X : Problem) (f : List (Option ℕ)) → Dec (IsValid X f)) (objective : Objective) (X : Problem) (i : IsInstance X) where
  module _ (answer : Answer) where
    pub dec_written : Dec (IsWrittenAs X answer.cells (read_choice X answer))
    dec_written =
        let read = read_choice X answer in
        of_iff (λ both. record { valid = both.0; written = both.1 }, λ w. (w.valid, w.written)) (and (decided X read) (same_cells answer.cells (cells_by_id X read)))

    pub is_read : (f : List (Option ℕ)) → IsWrittenAs X answer.cells f → f ≡ read_choice X answer
    is_read f w = sym (ap (λ more. more.0) (written-read X answer.cells f i w))

    pub unwritten : (¬ IsWrittenAs X answer.cells (read_choice X answer)) ↔ SpellNone X answer.cells
    unwritten = (λ none f w. none (subst (IsWrittenAs X answer.cells) (is_read f w) w), λ none. none (read_choice X answer))

    pub dec_none : Dec (SpellNone X answer.cells)
    dec_none = of_iff unwritten (not dec_written)

    pub dec_value : Dec (answer.value ≡ choice_value objective X (read_choice X answer))
    dec_value = same_value answer.value (choice_value objective X (read_choice X answer))

    pub dec_wrong : Dec (HasWrongValue objective X answer)
    dec_wrong =
        of_iff (
          λ both. (read_choice X answer, both.0, both.1),
          λ other. (
            subst (IsWrittenAs X answer.cells) (is_read other.0 other.1) other.1,
            λ same. other.2 (same ∙ ap (choice_value objective X) (sym (is_read other.0 other.1))),
          ),
        )
        (and dec_written (not dec_value))

  -- ---- listed answers

  module _ (answers : List Answer) where
    pub dec_no_choice_at : (n : ℕ) → Dec (IsNoChoiceAt X answers n)
    dec_no_choice_at n =
        of_iff (λ one. record { answer = one.0; there = one.1; none = one.2 }, λ is. (is.answer, is.there, is.none))
        (dec_there answers n (λ answer. SpellNone X answer.cells) dec_none)

    pub dec_wrong_at : (n : ℕ) → Dec (IsWrongValueAt objective X answers n)
    dec_wrong_at n =
        of_iff (λ one. record { answer = one.0; there = one.1; wrong = one.2 }, λ is. (is.answer, is.there, is.wrong))
        (dec_there answers n (HasWrongValue objective X) dec_wrong)

    abbrev RepeatsIn : ℕ → Answer → Type 0
    RepeatsIn n answer = (place : ℕ) × (place < n) × ((earlier : Answer) × (slice_get answers place ≡ Some earlier) × (earlier.cells ≡ answer.cells))

    pub dec_repeated_at : (n : ℕ) → Dec (IsRepeatedAt answers n)
    dec_repeated_at n =
        of_iff (
          λ one. record { answer = one.0; there = one.1; place = one.2.0; before = one.2.1; earlier = one.2.2.0; earlier_there = one.2.2.1; same = one.2.2.2 },
          λ is. (is.answer, is.there, (is.place, is.before, (is.earlier, is.earlier_there, is.same))),
        )
        (
        dec_there answers n (RepeatsIn n)
        (
        λ answer.
        dec_some_below (λ place. (earlier : Answer) × (slice_get answers place ≡ Some earlier) × (earlier.cells ≡ answer.cells))
        (λ place. dec_there answers place (λ earlier. earlier.cells ≡ answer.cells) (λ earlier. same_cells earlier.cells answer.cells)) n
        )
        )

    abbrev LeavesOrderIn : ℕ → Answer → Type 0
    LeavesOrderIn n answer = (place : ℕ) × (place < n) × ((suc place ≡ n) × ((earlier : Answer) × (slice_get answers place ≡ Some earlier) × IsBetter objective answer.value earlier.value))

    pub dec_out_of_order_at : (n : ℕ) → Dec (IsOutOfOrderAt objective answers n)
    dec_out_of_order_at n =
        of_iff (
          λ one. record { answer = one.0; there = one.1; place = one.2.0; before = one.2.2.0; earlier = one.2.2.1.0; earlier_there = one.2.2.1.1; better = one.2.2.1.2 },
          λ is. (is.answer, is.there, (is.place, omega (arith, is.before), (is.before, (is.earlier, is.earlier_there, is.better)))),
        )
        (
        dec_there answers n (LeavesOrderIn n)
        (
        λ answer.
        dec_some_below (λ place. (suc place ≡ n) × ((earlier : Answer) × (slice_get answers place ≡ Some earlier) × IsBetter objective answer.value earlier.value))
        (λ place. and (ℕ_discrete (suc place) n) (dec_there answers place (λ earlier. IsBetter objective answer.value earlier.value) (λ earlier. dec_better objective answer.value earlier.value))) n
        )
        )
