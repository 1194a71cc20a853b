-- The choices of ranked answers: nothing stands against answers that list them, and answers against
-- which nothing stands list them.
use Rattle.asg_check.proofs.Common.{◌≡◌, ℕ, zero, suc, ◌+◌, ◌-◌, ◌<◌, ◌≤◌, ◌≢◌, List, [], ◌∷◌, map, length, get_or, slice_get, Some, All, Option, AllPairs, sym, refl, ap, ◌∙◌, subst, arith, All-get_or, dec→stable, get_or-map, get_or_from_slice_get, length-map, slice_get-get_or, slice_get_within, IsNoChoiceAt, IsOutOfOrderAt, IsRepeatedAt, IsWrongValueAt, AreWrittenAs, IsWrittenAs, cells_by_id, Answer, IsBetter, IsInstance, Problem, IsValid, choice_value, Objective, answer_at}
use Rattle.asg_rankings.specs.Ranked.{AreListed, IsBetterChoice}
use Rattle.asg_check.proofs.AnswersTold.{dec_value, dec_written, read_choice, unwritten}
use Rattle.asg_check.proofs.Reading.{written-once}

-- what maps that agree give at a place
same_at : {A B C : Type 0} (f : A → C) (g : B → C) (xs : List A) (ys : List B) (n : ℕ) (x : A) (d : B) → map f xs ≡ map g ys → n < length xs → length xs ≡ length ys → f (get_or xs n x) ≡ g (get_or ys n d)
same_at f g xs ys n x d same within lengths =
    sym (get_or-map f xs n x (f x) within) ∙ ap (λ zs. get_or zs n (f x)) same ∙ get_or-map g ys n d (f x) (subst (λ l. n < l) lengths within)

-- lists that agree at each place
same_maps : {A B C : Type 0} (f : A → C) (g : A → B) (h : B → C) (xs : List A) → All (λ x. f x ≡ h (g x)) xs → map f xs ≡ map h (map g xs)
same_maps f g h [] each = refl
same_maps {A} f g h (x ∷ xs) each =
    ap (λ c. c ∷ map f xs) (each 0 x (omega arith)) ∙ ap (λ cs. h (g x) ∷ cs) (same_maps f g h xs (λ n d less. each (suc n) d (omega (arith, less))))

-- the answers spell one list of choices
module _ (X : Problem) (i : IsInstance X) where
  -- they are as many, and each is that of the answer at its place
  pub as_many : (answers : List Answer) (choices : List (List (Option ℕ))) → AreWrittenAs X answers choices → length answers ≡ length choices
  as_many answers choices w = sym (length-map answers (λ answer. answer.cells)) ∙ ap length w.written ∙ length-map choices (cells_by_id X)

  pub written_at : (answers : List Answer) (choices : List (List (Option ℕ))) → AreWrittenAs X answers choices → (n : ℕ) (answer : Answer) → slice_get answers n ≡ Some answer → IsWrittenAs X answer.cells (get_or choices n [])
  written_at answers choices w n answer there =
      let within = slice_get_within answers n answer there in
      let lengths = as_many answers choices w in
      let here : get_or answers n answer ≡ answer = get_or_from_slice_get answers n answer answer there in
      record {
        valid = All-get_or (IsValid X) choices n [] (subst (λ l. n < l) lengths within) w.valid;
        written = ap (λ one. one.cells) (sym here) ∙ same_at (λ one. one.cells) (cells_by_id X) answers choices n answer [] w.written within lengths;
      }

  -- where each answer spells the choice at its place, they spell them all
  tail_written : (answer : Answer) (answers : List Answer) (f : List (Option ℕ)) (fs : List (List (Option ℕ))) → AreWrittenAs X (answer ∷ answers) (f ∷ fs) → AreWrittenAs X answers fs
  tail_written answer answers f fs w = let same = w.written in record { valid = λ n d less. w.valid (suc n) d (omega (arith, less)); written = cc }

  pub choices_once : (answers : List Answer) (fs gs : List (List (Option ℕ))) → AreWrittenAs X answers fs → AreWrittenAs X answers gs → fs ≡ gs
  choices_once [] [] [] v w = refl
  choices_once [] (f ∷ fs) gs v w = let same = v.written in absurd (cc)
  choices_once [] [] (g ∷ gs) v w = let same = w.written in absurd (cc)
  choices_once (answer ∷ answers) [] gs v w = let same = v.written in absurd (cc)
  choices_once (answer ∷ answers) (f ∷ fs) [] v w = let same = w.written in absurd (cc)
  choices_once (answer ∷ answers) (f ∷ fs) (g ∷ gs) v w =
      let first = written-once X answer.cells f g i (written_at (answer ∷ answers) (f ∷ fs) v 0 answer refl) (written_at (answer ∷ answers) (g ∷ gs) w 0 answer refl) in
      ap (λ h. h ∷ fs) first ∙ ap (λ hs. g ∷ hs) (choices_once answers fs gs (tail_written answer answers f fs v) (tail_written answer answers g gs w))

-- ---- nothing stands against answers whose choices are listed

module _ (objective : Objective) (X : Problem) (i : IsInstance X) (answers : List Answer) (choices : List (List (Option ℕ))) (w : AreWrittenAs X answers choices) where
  pub all_written : (n : ℕ) → ¬ IsNoChoiceAt X answers n
  all_written n is = is.none (get_or choices n []) (written_at X i answers choices w n is.answer is.there)

  module _ (values : map (λ answer. answer.value) answers ≡ map (choice_value objective X) choices) where
    value_at : (n : ℕ) (answer : Answer) → slice_get answers n ≡ Some answer → answer.value ≡ choice_value objective X (get_or choices n [])
    value_at n answer there =
        ap (λ one. one.value) (sym (get_or_from_slice_get answers n answer answer there))
        ∙ same_at (λ one. one.value) (choice_value objective X) answers choices n answer [] values (slice_get_within answers n answer there) (as_many X i answers choices w)

    pub all_valued : (n : ℕ) → ¬ IsWrongValueAt objective X answers n
    all_valued n is =
        let wrong = is.wrong in
        let same = written-once X is.answer.cells wrong.0 (get_or choices n []) i wrong.1 (written_at X i answers choices w n is.answer is.there) in
        wrong.2 (value_at n is.answer is.there ∙ ap (choice_value objective X) (sym same))

    module _ (count : ℕ) (listed : AreListed objective X count choices) where
      pub none_repeated : (n : ℕ) → ¬ IsRepeatedAt answers n
      none_repeated n is =
          let here = written_at X i answers choices w n is.answer is.there in
          let there = written_at X i answers choices w is.place is.earlier is.earlier_there in
          let within : n < length choices = subst (λ l. n < l) (as_many X i answers choices w) (slice_get_within answers n is.answer is.there) in
          listed.different is.place n [] is.before within (written-once X is.answer.cells (get_or choices is.place []) (get_or choices n []) i (subst (λ cells. IsWrittenAs X cells (get_or choices is.place [])) is.same there) here)

      pub none_out_of_order : (n : ℕ) → ¬ IsOutOfOrderAt objective answers n
      none_out_of_order n is =
          let within : n < length choices = subst (λ l. n < l) (as_many X i answers choices w) (slice_get_within answers n is.answer is.there) in
          let step = is.before in
          let later : get_or choices n [] ≡ answer_at choices (n + 1) = ap (λ k. get_or choices k []) (omega arith) in
          let sooner : get_or choices is.place [] ≡ answer_at choices n = ap (λ k. get_or choices k []) (omega (arith, step)) in
          listed.in_order n (omega (arith, step)) within
          (
          subst (λ g. IsBetterChoice objective X (answer_at choices (n + 1)) g) sooner
          (subst (λ f. IsBetterChoice objective X f (get_or choices is.place [])) later
          (subst (IsBetter objective (choice_value objective X (get_or choices n []))) (value_at is.place is.earlier is.earlier_there)
          (subst (λ v. IsBetter objective v is.earlier.value) (value_at n is.answer is.there) is.better)))
          )

-- ---- answers against which nothing stands list the choices that they are read as

abbrev pub read_choices : Problem → List Answer → List (List (Option ℕ))
read_choices X answers = map (read_choice X) answers

all_valid : (X : Problem) (xs : List Answer) → All (λ answer. IsWrittenAs X answer.cells (read_choice X answer)) xs → All (IsValid X) (read_choices X xs)
all_valid X [] each = λ n d less. absurd (omega (arith, less))
all_valid X (x ∷ xs) each = by (all_valid X xs (λ m e below. each (suc m) e (omega (arith, below))))
  where
    by : All (IsValid X) (read_choices X xs) → All (IsValid X) (read_choices X (x ∷ xs))
    by rest zero d less = (each 0 x (omega arith)).valid
    by rest (suc n) d less = rest n d (omega (arith, less))

module _ (decided : (X : Problem) (f : List (Option ℕ)) → Dec (IsValid X f)) (objective : Objective) (X : Problem) (i : IsInstance X) (answers : List Answer) (chosen : (n : ℕ) → ¬ IsNoChoiceAt X answers n) where
  each_written : All (λ answer. IsWrittenAs X answer.cells (read_choice X answer)) answers
  each_written n d within =
      let answer = get_or answers n d in
      dec→stable (dec_written decided objective X i answer) (λ none. chosen n (record { answer = answer; there = slice_get-get_or answers n d within; none = (unwritten decided objective X i answer).0 none }))

  pub read_written : AreWrittenAs X answers (read_choices X answers)
  read_written = record {
    valid = all_valid X answers each_written;
    written = same_maps (λ answer. answer.cells) (read_choice X) (cells_by_id X) answers (λ n d within. (each_written n d within).written);
  }

  module _ (valued : (n : ℕ) → ¬ IsWrongValueAt objective X answers n) where
    -- what stands at a place of the list of choices
    read_at : (n : ℕ) (d : List (Option ℕ)) (e : Answer) → n < length answers → get_or (read_choices X answers) n d ≡ read_choice X (get_or answers n e)
    read_at n d e within = get_or-map (read_choice X) answers n e d within

    valued_at : (n : ℕ) (e : Answer) → n < length answers → (get_or answers n e).value ≡ choice_value objective X (read_choice X (get_or answers n e))
    valued_at n e within =
        let answer = get_or answers n e in
        dec→stable (dec_value decided objective X i answer)
        (λ differ. valued n (record { answer = answer; there = slice_get-get_or answers n e within; wrong = (read_choice X answer, each_written n e within, differ) }))

    pub read_values : map (λ answer. answer.value) answers ≡ map (choice_value objective X) (read_choices X answers)
    read_values = same_maps (λ answer. answer.value) (read_choice X) (choice_value objective X) answers valued_at

    module _ (apart : (n : ℕ) → ¬ IsRepeatedAt answers n) (ordered : (n : ℕ) → ¬ IsOutOfOrderAt objective answers n) (count : ℕ) (some : 1 ≤ length answers) (few : length answers ≤ count) where
      lengths : length (read_choices X answers) ≡ length answers
      lengths = length-map answers (read_choice X)

      -- some answer, where there is one at a place
      any : (xs : List Answer) (n : ℕ) → n < length xs → Answer
      any [] n less = absurd (omega (arith, less))
      any (x ∷ xs) n less = x

      differ : AllPairs ◌≢◌ (read_choices X answers)
      differ j k d less below same =
          let within : k < length answers = omega (arith, below, lengths) in
          let before : j < length answers = omega (arith, less, within) in
          let e = any answers k within in
          let reads = sym (read_at j d e before) ∙ same ∙ read_at k d e within in
          apart k (
          record {
            answer = get_or answers k e;
            there = slice_get-get_or answers k e within;
            place = j;
            before = less;
            earlier = get_or answers j e;
            earlier_there = slice_get-get_or answers j e before;
            same = (each_written j e before).written ∙ ap (cells_by_id X) reads ∙ sym (each_written k e within).written;
          }
          )

      in_order : (a : ℕ) → 1 ≤ a → a < length (read_choices X answers) → ¬ IsBetterChoice objective X (answer_at (read_choices X answers) (a + 1)) (answer_at (read_choices X answers) a)
      in_order zero from below better = absurd (omega (arith, from))
      in_order (suc p) from below better =
          let within : suc p < length answers = omega (arith, below, lengths) in
          let before : p < length answers = omega (arith, within) in
          let e = any answers p before in
          let later : answer_at (read_choices X answers) (suc p + 1) ≡ read_choice X (get_or answers (suc p) e) = ap (λ k. get_or (read_choices X answers) k []) (omega arith) ∙ read_at (suc p) [] e within in
          let sooner : answer_at (read_choices X answers) (suc p) ≡ read_choice X (get_or answers p e) = ap (λ k. get_or (read_choices X answers) k []) (omega arith) ∙ read_at p [] e before in
          ordered (suc p) (
          record {
            answer = get_or answers (suc p) e;
            there = slice_get-get_or answers (suc p) e within;
            place = p;
            before = refl;
            earlier = get_or answers p e;
            earlier_there = slice_get-get_or answers p e before;
            better =
                subst (λ v. IsBetter objective v (get_or answers p e).value) (ap (choice_value objective X) later ∙ sym (valued_at (suc p) e within))
                (subst (IsBetter objective (choice_value objective X (answer_at (read_choices X answers) (suc p + 1)))) (ap (choice_value objective X) sooner ∙ sym (valued_at p e before)) better);
          }
          )

      pub read_listed : AreListed objective X count (read_choices X answers)
      read_listed = record { some = omega (arith, some, lengths); few = omega (arith, few, lengths); different = differ; in_order = in_order }
