-- Steps over ranked answers: what holds at a place, and the cells that were seen.
use Rattle.asg_check.proofs.Common.{◌≡◌, ℕ, zero, suc, ◌+◌, ◌-◌, ◌<◌, ◌≤◌, Bool, true, false, cond, ◌⊎◌, ◌↔◌, List, [], ◌∷◌, ◌++◌, map, length, get_or, take, slice_get, Some, All, Option, nat_cmp, is_eq, BTreeSet, sym, refl, ap, ◌∙◌, subst, inl, inr, ⊎_elim, arith, Bor, All-append, IsEmpty, Updates, cases_lt, contains, false≢true, get_or_default, get_or_from_slice_get, is_at, length-map, list_any, map-append, nat_cmp_is, ordering_then, same_Some, slice_cmp, slice_get-get_or, slice_get_within, take_more, IsAmissAt, IsNoChoiceAt, IsOutOfOrderAt, IsRepeatedAt, AreWrittenAs, HasItsValue, HasWrongValue, IsWrittenAs, SpellChoice, SpellNone, cells_by_id, Answer, IsBetter, IsInstance, by_places, Problem, IsValid, choice_value, Objective}
use Rattle.std.proofs.Common.{not, Ordering, Less, Equal, Greater}
use Rattle.std.proofs.lemmas.List.{length-append}
use Rattle.std.proofs.lemmas.Map.Lookups.{exact_pairs, exact_unsigned}
use Rattle.asg_check.proofs.Reading.{written-once}

-- ---- choices and values

module _ (X : Problem) (answers : List Answer) where
  pub unspelled_within : (n : ℕ) → IsNoChoiceAt X answers n → n < length answers
  unspelled_within n is = slice_get_within answers n is.answer is.there

  module _ (n : ℕ) (answer : Answer) (at : answer ≡ get_or answers n answer) (within : n < length answers) where
    there : slice_get answers n ≡ Some answer
    there = slice_get-get_or answers n answer within ∙ ap Some (sym at)

    pub unspelled_at : SpellNone X answer.cells → IsNoChoiceAt X answers n
    unspelled_at none = record { answer = answer; there = there; none = none }

    pub spelled_at : SpellChoice X answer.cells → ¬ IsNoChoiceAt X answers n
    spelled_at spelled is = is.none spelled.0 (subst (λ a. IsWrittenAs X a.cells spelled.0) (same_Some answer is.answer (sym there ∙ is.there)) spelled.1)

    -- the answers up to a place spell choices
    pub spelled_more : ((m : ℕ) (d : Answer) → m < n → SpellChoice X (get_or answers m d).cells) → SpellChoice X answer.cells → (m : ℕ) (d : Answer) → m < n + 1 → SpellChoice X (get_or answers m d).cells
    spelled_more before spelled m d less =
        ⊎_elim (λ (early : m < n). before m d early)
        (λ (late : n ≤ m).
        let same : n ≡ m = omega (arith, less, late) in
        subst (λ k. SpellChoice X (get_or answers k d).cells) same (subst (λ a. SpellChoice X a.cells) (at ∙ get_or_default answers n answer d within) spelled))
        (cases_lt m n)

    module _ (objective : Objective) where
      pub amiss_at : SpellNone X answer.cells ⊎ HasWrongValue objective X answer → IsAmissAt objective X answers n
      amiss_at (inl none) = inl (unspelled_at none)
      amiss_at (inr wrong) = inr (record { answer = answer; there = there; wrong = wrong })

      pub well_at : IsInstance X → HasItsValue objective X answer → ¬ IsAmissAt objective X answers n
      well_at i its (inl is) = spelled_at (its.0, its.1) is
      well_at i its (inr is) =
          let one = same_Some is.answer answer (sym is.there ∙ there) in
          let wrong = is.wrong in
          let spelled = subst (λ a. IsWrittenAs X a.cells wrong.0) one wrong.1 in
          wrong.2 (ap (λ a. a.value) one ∙ its.2 ∙ ap (choice_value objective X) (written-once X answer.cells its.0 wrong.0 i its.1 spelled))

pub amiss_within : (objective : Objective) (X : Problem) (answers : List Answer) (n : ℕ) → IsAmissAt objective X answers n → n < length answers
amiss_within objective X answers n (inl is) = unspelled_within X answers n is
amiss_within objective X answers n (inr is) = slice_get_within answers n is.answer is.there

-- ---- choices that are read

-- one more choice that is written as the next answer
module _ (X : Problem) (answers : List Answer) (n : ℕ) (choices : List (List (Option ℕ))) (count : length choices ≡ n) (w : AreWrittenAs X (take n answers) choices) (answer : Answer) (choice : List (Option ℕ)) (within : n < length answers) (at : answer ≡ get_or answers n answer) (here : IsWrittenAs X answer.cells choice) where
  more_taken : take (n + 1) answers ≡ take n answers ++ answer ∷ []
  more_taken = take_more answers n answer within ∙ ap (λ a. take n answers ++ a ∷ []) (sym at)

  valid_one : All (IsValid X) (choice ∷ [])
  valid_one zero d less = here.valid
  valid_one (suc k) d less = absurd (omega (arith, less))

  pub written_more : AreWrittenAs X (take (n + 1) answers) (choices ++ choice ∷ [])
  written_more = record {
    valid = All-append (IsValid X) choices (choice ∷ []) w.valid valid_one;
    written =
        ap (map (λ a. a.cells)) more_taken ∙ map-append (λ a. a.cells) (take n answers) (answer ∷ [])
        ∙ ap (λ cells. cells ++ answer.cells ∷ []) w.written ∙ ap (λ c. map (cells_by_id X) choices ++ c ∷ []) here.written
        ∙ sym (map-append (cells_by_id X) choices (choice ∷ []));
  }

  pub count_more : length (choices ++ choice ∷ []) ≡ n + 1
  count_more = length-append choices (choice ∷ []) ∙ ap (λ k. k + 1) count

-- ---- order

module _ (objective : Objective) (answers : List Answer) where
  pub out_within : (n : ℕ) → IsOutOfOrderAt objective answers n → n < length answers
  out_within n is = slice_get_within answers n is.answer is.there

  pub first_in_order : (m : ℕ) → m < 1 → ¬ IsOutOfOrderAt objective answers m
  first_in_order m less is = let before = is.before in absurd (omega (arith, less, before))

  module _ (n : ℕ) (answer earlier : Answer) (from : 1 ≤ n) (within : n < length answers) (at : answer ≡ get_or answers n answer) (before : earlier ≡ get_or answers (n - 1) earlier) where
    pub out_at : IsBetter objective answer.value earlier.value → IsOutOfOrderAt objective answers n
    out_at better = record {
      answer = answer;
      there = slice_get-get_or answers n answer within ∙ ap Some (sym at);
      place = n - 1;
      before = omega (arith, from);
      earlier = earlier;
      earlier_there = slice_get-get_or answers (n - 1) earlier (omega (arith, within)) ∙ ap Some (sym before);
      better = better;
    }

    pub in_order_at : ¬ IsBetter objective answer.value earlier.value → ¬ IsOutOfOrderAt objective answers n
    in_order_at none is =
        let step = is.before in
        let place : is.place ≡ n - 1 = omega (arith, step) in
        let one : is.answer ≡ answer = sym (get_or_from_slice_get answers n is.answer answer is.there) ∙ sym at in
        let other : is.earlier ≡ earlier = sym (get_or_from_slice_get answers is.place is.earlier earlier is.earlier_there) ∙ ap (λ k. get_or answers k earlier) place ∙ sym before in
        none (subst (λ a. IsBetter objective a.value earlier.value) one (subst (λ e. IsBetter objective is.answer.value e.value) other is.better))

-- ---- cells that were seen

-- the order of lists of cells
abbrev pub cells_cmp : Bor (List (ℕ × ℕ)) → Bor (List (ℕ × ℕ)) → Ordering
cells_cmp x y = slice_cmp by_places x.now y.now

same_then : (a b : Ordering) → is_eq (ordering_then a b) ≡ true → (a ≡ Equal) × (is_eq b ≡ true)
same_then Equal b is = (refl, is)
same_then Less b is = absurd (false≢true is)
same_then Greater b is = absurd (false≢true is)

same_lists : (xs ys : List (ℕ × ℕ)) → is_eq (slice_cmp by_places xs ys) ≡ true → xs ≡ ys
same_lists [] [] is = refl
same_lists [] (y ∷ ys) is = absurd (false≢true is)
same_lists (x ∷ xs) [] is = absurd (false≢true is)
same_lists (x ∷ xs) (y ∷ ys) is =
    let two = same_then (by_places x y) (slice_cmp by_places xs ys) is in
    let first = exact_pairs nat_cmp nat_cmp exact_unsigned exact_unsigned x y two.0 in
    let rest = same_lists xs ys two.1 in
    ap (λ z. z ∷ xs) first ∙ ap (λ zs. y ∷ zs) rest

same_number : (n : ℕ) → nat_cmp n n ≡ Equal
same_number n = sym (nat_cmp_is n n Equal refl)

itself : (xs : List (ℕ × ℕ)) → is_eq (slice_cmp by_places xs xs) ≡ true
itself [] = refl
itself (x ∷ xs) = ap (λ o. is_eq (ordering_then o (slice_cmp by_places xs xs))) (ap (λ o. ordering_then o (nat_cmp x.1 x.1)) (same_number x.0) ∙ same_number x.1) ∙ itself xs

-- the answers before a place that have these cells
abbrev pub HasBefore : List Answer → ℕ → List (ℕ × ℕ) → Type 0
HasBefore answers n cells = (k : ℕ) × (k < n) × ((earlier : Answer) × (slice_get answers k ≡ Some earlier) × (earlier.cells ≡ cells))

-- the set has the cells of the answers before a place, and no others
abbrev pub AreSeen : List Answer → ℕ → BTreeSet (Bor (List (ℕ × ℕ))) → Type 0
AreSeen answers n seen = (q : Bor (List (ℕ × ℕ))) → (contains cells_cmp seen q ≡ true) ↔ HasBefore answers n q.now

-- whether a key was new tells whether such cells were seen
module _ (answers : List Answer) (n : ℕ) (seen : BTreeSet (Bor (List (ℕ × ℕ)))) (key : Bor (List (ℕ × ℕ))) (answer : Answer) (of : key.now ≡ answer.cells) (are : AreSeen answers n seen) where
  pub seen_at : not (contains cells_cmp seen key) ≡ false → HasBefore answers n answer.cells
  seen_at old = subst (HasBefore answers n) of ((are key).0 (by (contains cells_cmp seen key) old))
    where
      by : (b : Bool) → not b ≡ false → b ≡ true
      by true e = refl
      by false e = absurd (false≢true (sym e))

  pub unseen_at : not (contains cells_cmp seen key) ≡ true → ¬ HasBefore answers n answer.cells
  unseen_at new has = false≢true (sym (ap not ((are key).1 (subst (HasBefore answers n) (sym of) has))) ∙ new)

module _ (answers : List Answer) where
  pub repeated_within : (n : ℕ) → IsRepeatedAt answers n → n < length answers
  repeated_within n is = slice_get_within answers n is.answer is.there

  module _ (n : ℕ) (answer : Answer) (within : n < length answers) (at : answer ≡ get_or answers n answer) where
    here_there : slice_get answers n ≡ Some answer
    here_there = slice_get-get_or answers n answer within ∙ ap Some (sym at)

    pub repeated_at : HasBefore answers n answer.cells → IsRepeatedAt answers n
    repeated_at one = record { answer = answer; there = here_there; place = one.0; before = one.1; earlier = one.2.0; earlier_there = one.2.1; same = one.2.2 }

    pub fresh_at : ¬ HasBefore answers n answer.cells → ¬ IsRepeatedAt answers n
    fresh_at none is =
        let one = same_Some is.answer answer (sym is.there ∙ here_there) in
        none (is.place, is.before, (is.earlier, is.earlier_there, is.same ∙ ap (λ a. a.cells) one))

    -- and with the cells of the answer at the place those up to it
    pub seen_more : (before after : BTreeSet (Bor (List (ℕ × ℕ)))) (key : Bor (List (ℕ × ℕ))) → key.now ≡ answer.cells → AreSeen answers n before → Updates cells_cmp before after key true → AreSeen answers (n + 1) after
    seen_more before after key of seen updates q = (to (is_eq (slice_cmp by_places key.now q.now)) refl, from)
      where
        earlier : HasBefore answers n q.now → HasBefore answers (n + 1) q.now
        earlier one = (one.0, omega (arith, one.1), one.2)

        to : (b : Bool) → is_eq (slice_cmp by_places key.now q.now) ≡ b → contains cells_cmp after q ≡ true → HasBefore answers (n + 1) q.now
        to true is has = (n, omega arith, (answer, here_there, sym of ∙ same_lists key.now q.now is))
        to false is has =
            earlier ((seen q).0 (ap (λ b. cond b true (contains cells_cmp before q)) (sym is) ∙ sym (updates.0 q) ∙ has))

        from : HasBefore answers (n + 1) q.now → contains cells_cmp after q ≡ true
        from one = updates.0 q ∙ by one (is_eq (slice_cmp by_places key.now q.now)) refl
          where
            by : HasBefore answers (n + 1) q.now → (b : Bool) → is_eq (slice_cmp by_places key.now q.now) ≡ b → cond b true (contains cells_cmp before q) ≡ true
            by one true is = refl
            by one false is =
                ⊎_elim (λ (early : one.0 < n). (seen q).1 (one.0, early, one.2))
                (λ (late : n ≤ one.0).
                let place : one.0 ≡ n = omega (arith, late, one.1) in
                let same : one.2.0 ≡ answer = same_Some one.2.0 answer (sym one.2.1 ∙ ap (slice_get answers) place ∙ here_there) in
                let cells : q.now ≡ key.now = sym one.2.2 ∙ ap (λ a. a.cells) same ∙ sym of in
                absurd (false≢true (sym is ∙ subst (λ cs. is_eq (slice_cmp by_places key.now cs) ≡ true) (sym cells) (itself key.now))))
                (cases_lt one.0 n)

-- nothing was seen at first
pub none_seen : (answers : List Answer) (seen : BTreeSet (Bor (List (ℕ × ℕ)))) → IsEmpty seen → AreSeen answers 0 seen
none_seen answers seen empty q = (λ has. absurd (false≢true (sym (ap (λ keys. list_any (is_at (cells_cmp q)) keys) empty) ∙ has)), λ one. absurd (omega (arith, one.1)))
