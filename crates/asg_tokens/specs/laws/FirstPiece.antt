-- The first piece of a text, behind the separators before it.
use Rattle.std.proofs.Common.{◌≡◌, ℕ, suc, ◌+◌, ◌<◌, ◌≤◌, Bool, true, false, cond, List, [], ◌∷◌, ◌++◌, length, get_or, take, drop, sym, refl, ap, ◌∙◌, ⊎_elim, arith, add-one, drop-cons, length-drop, get_or-drop, add-zero, append-nil}
use Rattle.std.specs.Prelude.{filter, nat_lt, not, All}
use Rattle.std.specs.List.{slice_split, onto_first, prefix_len, position_or_len, before_first, after_first}
use Rattle.std.proofs.lemmas.List.{nil_from_length, length-take-le}
use Rattle.std.proofs.Math.Seq.{take-length, drop-length}
use Rattle.std.proofs.lemmas.List.Splits.{slice_split-cons_yes, slice_split_first, slice_split_none}
use Rattle.std.proofs.lemmas.List.Sums.{prefix_len-le-length, prefix_len_stops, passes_at_first, fails_before_first}
use Rattle.std.proofs.lemmas.List.Elements.{All-from_get_or}
use Rattle.std.proofs.lemmas.Bool.{cases_lt, cond_both, both_ways, lt-ltb}
use Rattle.asg_tokens.specs.Pieces.{pieces}

-- the pieces in which anything stands
abbrev filled : List (List ℕ) → List (List ℕ)
filled pieces = filter (λ piece. nat_lt 0 (length piece)) pieces

drop_front : (n b : ℕ) (bs : List ℕ) → drop (1 + n) (b ∷ bs) ≡ drop n bs
drop_front n b bs = let e : 1 + n ≡ suc n = omega arith in rw e refl

-- one piece, and those after it
filled_cons : (piece : List ℕ) (pieces : List (List ℕ)) → filled (piece ∷ pieces) ≡ filled (piece ∷ []) ++ filled pieces
filled_cons piece pieces =
    elim (nat_lt 0 (length piece)) as (λ v. cond v (piece ∷ filled pieces) (filled pieces) ≡ cond v (piece ∷ []) [] ++ filled pieces) [ true ↦ refl | false ↦ refl ]

-- at the separators that a test names
module _ (p : ℕ → Bool) where
  -- a separator in front adds no piece
  filled_behind : (b : ℕ) (bs : List ℕ) → p b ≡ true → filled (slice_split p (b ∷ bs)) ≡ filled (slice_split p bs)
  filled_behind b bs e = ap filled (slice_split-cons_yes p b bs e)

  -- nor do all of those in front
  filled_skipped : (text : List ℕ) → filled (slice_split p (drop (prefix_len p text) text)) ≡ filled (slice_split p text)
  filled_skipped [] = refl
  filled_skipped (b ∷ bs) =
      cond_both (p b) (1 + prefix_len p bs) 0 (λ n. filled (slice_split p (drop n (b ∷ bs))) ≡ filled (slice_split p (b ∷ bs)))
      (λ yes. ap (λ s. filled (slice_split p s)) (drop_front (prefix_len p bs) b bs) ∙ filled_skipped bs ∙ sym (filled_behind b bs yes))
      (λ no. refl)

  -- a separator stands at the end of the front without one
  cut_at_first : (text : List ℕ) → position_or_len p text < length text → filled (slice_split p (drop (position_or_len p text) text)) ≡ filled (slice_split p (after_first p text))
  cut_at_first text within =
      let cut : drop (position_or_len p text) text ≡ get_or text (position_or_len p text) 0 ∷ drop (suc (position_or_len p text)) text = drop-cons text (position_or_len p text) 0 within in
      ap (λ s. filled (slice_split p s)) cut ∙ filled_behind (get_or text (position_or_len p text) 0) (drop (suc (position_or_len p text)) text) (passes_at_first p text 0 within) ∙ ap (λ i. filled (slice_split p (drop i text))) (sym (add-one (position_or_len p text)))

  -- the pieces of a text are what stands before its first separator, and those of the rest from it
  -- on
  filled_first : (text : List ℕ) → filled (slice_split p text) ≡ filled (take (position_or_len p text) text ∷ []) ++ filled (slice_split p (drop (position_or_len p text) text))
  filled_first text =
      ⊎_elim
      (λ within. ap filled (slice_split_first p text 0 within) ∙ filled_cons (before_first p text) (slice_split p (after_first p text)) ∙ ap (λ pieces. filled (take (position_or_len p text) text ∷ []) ++ pieces) (sym (cut_at_first text within)))
      (λ past.
      let is_all : position_or_len p text ≡ length text = omega (arith, prefix_len-le-length (λ x. not (p x)) text) in
      let whole : take (position_or_len p text) text ≡ text = ap (λ n. take n text) is_all ∙ take-length text in
      let nothing : drop (position_or_len p text) text ≡ [] = ap (λ n. drop n text) is_all ∙ drop-length text in
      let none : All (λ x. p x ≡ false) text = All-from_get_or (λ x. p x ≡ false) text 0 (λ k below. fails_before_first p text k 0 (omega arith)) in
      ap filled (slice_split_none p text none) ∙ sym (append-nil (filled (text ∷ []))) ∙ sym (ap (λ front. filled (front ∷ []) ++ []) whole) ∙ sym (ap (λ rest. filled (take (position_or_len p text) text ∷ []) ++ filled (slice_split p rest)) nothing))
      (cases_lt (position_or_len p text) (length text))

-- at the separators that a test names
module _ (p : ℕ → Bool) where
  pieces_of_nothing : pieces p [] ≡ []
  unfolding pieces
  pieces_of_nothing = refl

  -- the separators in front of a text add no piece
  pub pieces_skipped : (text : List ℕ) → pieces p (drop (prefix_len p text) text) ≡ pieces p text
  unfolding pieces
  pieces_skipped text = filled_skipped p text

  -- a separator in front adds no piece
  pub pieces_behind : (b : ℕ) (text : List ℕ) → p b ≡ true → pieces p (b ∷ text) ≡ pieces p text
  unfolding pieces
  pieces_behind b text separates = filled_behind p b text separates

  -- what stands before the first separator of a text is its first piece, where anything does
  pub pieces_first : (text : List ℕ) → 0 < position_or_len p text → pieces p text ≡ take (position_or_len p text) text ∷ pieces p (drop (position_or_len p text) text)
  unfolding pieces
  pieces_first text more =
      let n = position_or_len p text in
      let filled_front : nat_lt 0 (length (take n text)) ≡ true = lt-ltb _ _ (omega (arith, length-take-le n text (prefix_len-le-length (λ x. not (p x)) text))) in
      filled_first p text ∙ ap (λ v. cond v (take n text ∷ []) [] ++ pieces p (drop n text)) filled_front

-- a list whose first element fails a test and passes it is empty
nothing_left : (p : ℕ → Bool) (rest : List ℕ) → (0 < length rest → p (get_or rest 0 0) ≡ false) → position_or_len p rest ≡ 0 → rest ≡ []
nothing_left p rest fails none =
    ⊎_elim
    (λ within. absurd (both_ways (p (get_or rest 0 0)) (fails within) (ap (λ i. p (get_or rest i 0)) (sym none) ∙ passes_at_first p rest 0 (omega arith))))
    (λ past. nil_from_length rest (omega arith))
    (cases_lt 0 (length rest))

-- behind the separators in front of a text another piece begins, or the text ends
ended_at_none : (p : ℕ → Bool) (text : List ℕ) → position_or_len p (drop (prefix_len p text) text) ≡ 0 → drop (prefix_len p text) text ≡ []
ended_at_none p text none =
    nothing_left p (drop (prefix_len p text) text)
    (λ within. ap p (get_or-drop (prefix_len p text) text 0 0 ∙ ap (λ i. get_or text i 0) (add-zero (prefix_len p text))) ∙ prefix_len_stops p text 0 (omega (arith, length-drop (prefix_len p text) text)))
    none

-- a text cut into the separators in front, the bytes up to the next one, and the rest
pub record IsCut (p : ℕ → Bool) (text word rest : List ℕ) : Type 0 where
  pub from_word : List ℕ
  pub skipped : from_word ≡ drop (prefix_len p text) text
  pub front : word ≡ take (position_or_len p from_word) from_word
  pub back : rest ≡ drop (position_or_len p from_word) from_word

module _ {p : ℕ → Bool} {text word rest : List ℕ} (cut : IsCut p text word rest) where
  length_word : length word ≡ position_or_len p cut.from_word
  length_word = ap length cut.front ∙ length-take-le (position_or_len p cut.from_word) cut.from_word (prefix_len-le-length (λ x. not (p x)) cut.from_word)

  -- where bytes stand there, they are the first piece
  pub cut_first : 0 < length word → pieces p text ≡ word ∷ pieces p rest
  cut_first more =
      sym (pieces_skipped p text) ∙ ap (pieces p) (sym cut.skipped) ∙ pieces_first p cut.from_word (omega (arith, length_word)) ∙ (λ i. sym cut.front i ∷ pieces p (sym cut.back i))

  -- else the text has no piece
  pub cut_none : length word ≡ 0 → pieces p text ≡ []
  cut_none empty =
      let none : position_or_len p cut.from_word ≡ 0 = omega (arith, length_word) in
      let ended : cut.from_word ≡ [] = cut.skipped ∙ ended_at_none p text (ap (λ s. position_or_len p s) (sym cut.skipped) ∙ none) in
      sym (pieces_skipped p text) ∙ ap (pieces p) (sym cut.skipped ∙ ended) ∙ pieces_of_nothing p

-- one more byte in the first part adds at most one piece
length-filled_onto : (x : ℕ) (parts : List (List ℕ)) → length (filled (onto_first x parts)) ≤ length (filled parts) + 1
length-filled_onto x [] = omega arith
length-filled_onto x (part ∷ parts) =
    let filled_front : nat_lt 0 (length (x ∷ part)) ≡ true = lt-ltb _ _ (omega arith) in
    let whole : length (filled ((x ∷ part) ∷ parts)) ≡ length (filled parts) + 1 = ap (λ v. length (cond v ((x ∷ part) ∷ filled parts) (filled parts))) filled_front ∙ (let more : length ((x ∷ part) ∷ filled parts) ≡ length (filled parts) + 1 = omega arith in more) in
    elim (nat_lt 0 (length part)) as (λ v. length (filled ((x ∷ part) ∷ parts)) ≤ length (cond v (part ∷ filled parts) (filled parts)) + 1) [ true ↦ omega (arith, whole) | false ↦ omega (arith, whole) ]

length-filled : (p : ℕ → Bool) (text : List ℕ) → length (filled (slice_split p text)) ≤ length text
length-filled p [] = omega arith
length-filled p (b ∷ bs) =
    let so_far = length-filled p bs in
    elim (p b) as (λ v. length (filled (cond v ([] ∷ slice_split p bs) (onto_first b (slice_split p bs)))) ≤ length (b ∷ bs)) [ true ↦ omega arith | false ↦ omega (arith, length-filled_onto b (slice_split p bs)) ]

-- a text has no more pieces than bytes
pub length-pieces : (p : ℕ → Bool) (text : List ℕ) → length (pieces p text) ≤ length text
unfolding pieces
length-pieces p text = length-filled p text
