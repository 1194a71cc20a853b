-- Rect texts piece by piece.
use Rattle.asg_text.proofs.Common.{◌≡◌, ℕ, zero, suc, ◌+◌, ◌<◌, cond, List, [], ◌∷◌, ◌++◌, map, length, ℤ, slice_index_or, flat_map, sym, refl, ap, ◌∙◌, append_assoc, append-nil, map-id, arith, ne_eqb, flat_map-append, join_with_byte, length-map-range_with_len, map-map, map-range_with_len_more, range_with_len, cost_at, Problem, absent, table_cost, AreRowParts, next_text, cell_text, costs_of_row, row_line}

-- one more token of a line
join_behind : (first : List ℕ) (tokens : List (List ℕ)) (token : List ℕ) → join_with_byte 32 (first ∷ (tokens ++ token ∷ [])) ≡ join_with_byte 32 (first ∷ tokens) ++ 32 ∷ token
join_behind first [] token = refl
join_behind first (next ∷ tokens) token =
    ap (λ more. first ++ 32 ∷ more) (join_behind next tokens token) ∙ sym (append_assoc first (32 ∷ join_with_byte 32 (next ∷ tokens)) (32 ∷ token))

next_behind : (before : ℕ) (token : List ℕ) → 0 < before → next_text before token ≡ 32 ∷ token
next_behind before token some = ap (λ none. cond none token (32 ∷ token)) (ne_eqb before 0 (λ e. omega (arith, some, e)))

join_more : (tokens : List (List ℕ)) (token : List ℕ) → join_with_byte 32 (tokens ++ token ∷ []) ≡ join_with_byte 32 tokens ++ next_text (length tokens) token
join_more [] token = refl
join_more (first ∷ tokens) token =
    join_behind first tokens token ∙ ap (λ text. join_with_byte 32 (first ∷ tokens) ++ text) (sym (next_behind (length (first ∷ tokens)) token (omega arith)))

pub one_more_token : (token : ℕ → List ℕ) (before : List ℕ) (i : ℕ) (text after : List ℕ) → text ≡ before ++ join_with_byte 32 (map token (range_with_len 0 i)) → after ≡ text ++ next_text i (token i) → after ≡ before ++ join_with_byte 32 (map token (range_with_len 0 (i + 1)))
one_more_token token before i text after so_far more =
    let front : List (List ℕ) = map token (range_with_len 0 i) in
    let join : join_with_byte 32 (map token (range_with_len 0 (i + 1))) ≡ join_with_byte 32 front ++ next_text i (token i) =
    ap (join_with_byte 32) (map-range_with_len_more token 0 i i (omega arith)) ∙ join_more front (token i) ∙ ap (λ n. join_with_byte 32 front ++ next_text n (token i)) (length-map-range_with_len token 0 i) in
    more ∙ ap (λ text. text ++ next_text i (token i)) so_far ∙ append_assoc before (join_with_byte 32 front) (next_text i (token i)) ∙ ap (λ text. before ++ text) (sym join)

range_more : (a n : ℕ) → range_with_len a (n + 1) ≡ range_with_len a n ++ (a + n) ∷ []
range_more a n =
    sym (map-id (range_with_len a (n + 1))) ∙ map-range_with_len_more (λ k. k) a n (a + n) refl ∙ ap (λ ks. ks ++ (a + n) ∷ []) (map-id (range_with_len a n))

pub one_more_row : (line : ℕ → List ℕ) (before : List ℕ) (i : ℕ) (text after : List ℕ) → text ≡ before ++ flat_map line (range_with_len 0 i) → after ≡ text ++ line i → after ≡ before ++ flat_map line (range_with_len 0 (i + 1))
one_more_row line before i text after so_far more =
    let lines : flat_map line (range_with_len 0 (i + 1)) ≡ flat_map line (range_with_len 0 i) ++ line i =
    ap (flat_map line) (range_more 0 i) ∙ ap (λ k. flat_map line (range_with_len 0 i ++ k ∷ [])) (let last : 0 + i ≡ i = omega arith in last) ∙ flat_map-append line (range_with_len 0 i) (i ∷ []) ∙ ap (λ last. flat_map line (range_with_len 0 i) ++ last) (append-nil (line i)) in
    more ∙ ap (λ text. text ++ line i) so_far ∙ append_assoc before (flat_map line (range_with_len 0 i)) (line i) ∙ ap (λ text. before ++ text) (sym lines)

-- functions that agree below a bound
map_agrees : {A : Type 0} (f g : ℕ → A) (a n : ℕ) → ((k : ℕ) → k < a + n → f k ≡ g k) → map f (range_with_len a n) ≡ map g (range_with_len a n)
map_agrees f g a zero agree = refl
map_agrees f g a (suc n) agree =
    (λ i. agree a (omega arith) i ∷ map_agrees f g (a + 1) n (λ k below. agree k (omega arith)) i)

-- the line of a row, by the parts of its costs
module _ (X : Problem) (r : ℕ) (firsts seconds : List ℤ) (parts : AreRowParts X r firsts seconds) where
  cells_are : map (λ c. cell_text (table_cost seconds c (slice_index_or firsts c absent))) (range_with_len 0 (length X.columns)) ≡ map cell_text (costs_of_row X r)
  cells_are =
      map_agrees (λ c. cell_text (table_cost seconds c (slice_index_or firsts c absent))) (λ c. cell_text (cost_at X.cells r c)) 0 (length X.columns) (λ c within. ap cell_text (sym (parts.costs c (omega arith))))
      ∙ sym (map-map cell_text (cost_at X.cells r) (range_with_len 0 (length X.columns)))

  pub row_put : (before text after : List ℕ) (columns : ℕ) → columns ≡ length X.columns
      → text ≡ before ++ join_with_byte 32 (map (λ c. cell_text (table_cost seconds c (slice_index_or firsts c absent))) (range_with_len 0 columns))
      → after ≡ text ++ 10 ∷ [] → after ≡ before ++ row_line X r
  row_put before text after columns all cells ended =
      let joined : join_with_byte 32 (map (λ c. cell_text (table_cost seconds c (slice_index_or firsts c absent))) (range_with_len 0 columns)) ≡ join_with_byte 32 (map cell_text (costs_of_row X r)) =
      ap (λ n. join_with_byte 32 (map (λ c. cell_text (table_cost seconds c (slice_index_or firsts c absent))) (range_with_len 0 n))) all ∙ ap (join_with_byte 32) cells_are in
      ended ∙ ap (λ text. text ++ 10 ∷ []) (cells ∙ ap (λ cells. before ++ cells) joined) ∙ append_assoc before (join_with_byte 32 (map cell_text (costs_of_row X r))) (10 ∷ [])
