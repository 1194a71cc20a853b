-- Rows of a square that are filled 64 cells at a time.
use Rattle.asg_cell_tables.proofs.Common.{◌≡◌, ℕ, ◌+◌, ◌-◌, ◌*◌, ◌/◌, ◌%◌, ◌<◌, ◌≤◌, min, Bool, true, false, cond, ◌&&◌, eqb, ltb, List, ◌++◌, length, get_or, take, drop, ℤ, is_some, IsTrue, None, Option, sym, refl, ap, ◌∙◌, subst, ⊎_elim, append-nil, arith, length-drop, length-take, length-take-le, get_or-drop, take_all, get_or-take, drop-drop, le-ltb, lt-ltb, eq-eqb, ne_eqb, cases_lt, cases_order, drop_all, get_or_past, option_map_or, slice_get_past, BitTable, word_count, PutsWord, CellTable, entry_at, table_at, is_present_at, stored_cells, IsStored, piece_cell, IsLiveRow, ArePieceOf, AreBitsOf, FillsPiece, FillsRow, is_active, is_open, cost_at, Problem, absent, table_cost, AreRowParts, length-append}
use Rattle.asg_model.specs.declared.parts.Column.{Column}
use Rattle.asg_cell_tables.proofs.PieceLemmas.{some_cond, some_piece, bits_same}
use Rattle.asg_cell_tables.proofs.TablePieces.{PutsPiece, spliced, stored_after, puts_piece}

-- ---- a row that is live as a whole

-- the parts of a row, where it is active and all columns are open
pub live_of_parts : (X : Problem) (r : ℕ) (firsts seconds : List ℤ) → is_active X r ≡ true → ((d : ℕ) → d < length X.columns → IsTrue (is_open X d)) → AreRowParts X r firsts seconds → IsLiveRow X r firsts seconds
live_of_parts X r firsts seconds active opened parts d =
    ⊎_elim
    (λ (within : d < length X.columns).
    ap (λ b. cond (b && is_open X d) (cost_at X.cells r d) None) active
    ∙ ap (λ b. cond b (cost_at X.cells r d) None) (opened d within)
    ∙ parts.costs d within)
    (λ (past : length X.columns ≤ d).
    let closed : is_open X d ≡ false = ap (λ o. option_map_or (λ (column : Column). column.usable) o false) (slice_get_past X.columns d past) in
    ap (λ b. cond (b && is_open X d) (cost_at X.cells r d) None) active
    ∙ ap (λ b. cond b (cost_at X.cells r d) None) closed
    ∙ sym (ap (table_cost seconds d) (get_or_past firsts d absent (omega (arith, past, parts.whole)))))
    (cases_lt d (length X.columns))

-- ---- pieces

-- the labels of a piece
pub piece_labels : {A : Type 0} (columns : List A) (first count k : ℕ) (o : A) → k < count → get_or (take count (drop first columns)) k o ≡ get_or columns (first + k) o
piece_labels columns first count k o h = get_or-take count (drop first columns) k o h ∙ get_or-drop first columns k o

-- what was put is the piece of these columns
fills_from : {A : Type 0} (side r number count : ℕ) (before after : ℕ → ℕ → A) (columns : List (Option ℕ)) (cell : Option ℕ → A) (put : ℕ → A) → min 64 (side - 64 * number) ≤ count → ((s d : ℕ) → d < side → after s d ≡ cond (eqb s r && eqb (d / 64) number) (put (d % 64)) (before s d)) → ((k : ℕ) → k < count → put k ≡ cell (get_or columns (64 * number + k) None)) → FillsPiece side before after r number columns cell
fills_from {A} side r number count before after columns cell put enough puts piece = λ s d h. puts s d h ∙ here s d h (eqb s r)
  where
    inner : (s d : ℕ) → d < side → d / 64 ≡ number → put (d % 64) ≡ cell (get_or columns d None)
    inner s d h e =
        piece (d % 64) (omega (arith, e, h, enough))
        ∙ ap (λ i. cell (get_or columns i None)) (omega (arith, e))

    here : (s d : ℕ) → d < side → (b : Bool) → cond (b && eqb (d / 64) number) (put (d % 64)) (before s d) ≡ cond (b && eqb (d / 64) number) (cell (get_or columns d None)) (before s d)
    here s d h false = refl
    here s d h true =
        ⊎_elim
        (λ (same : d / 64 ≡ number). rw (eq-eqb (d / 64) number same) (inner s d h same))
        (⊎_elim
        (λ (less : d / 64 < number). rw (ne_eqb (d / 64) number (λ e. omega (arith, e, less))) refl)
        (λ (more : number < d / 64). rw (ne_eqb (d / 64) number (λ e. omega (arith, e, more))) refl))
        (cases_order (d / 64) number)

-- what was written is the piece of these columns
pub fills_piece : {V : Type 0} (T after : CellTable V) (r number : ℕ) (columns : List (Option ℕ)) (cell : Option ℕ → Option V) (values : List V) (word count : ℕ) → min 64 (T.side - 64 * number) ≤ count → PutsPiece T after r number values word → ArePieceOf count values word (λ k. cell (get_or columns (64 * number + k) None)) → FillsPiece T.side (table_at T) (table_at after) r number columns cell
fills_piece T after r number columns cell values word count enough puts piece =
    fills_from T.side r number count (table_at T) (table_at after) columns cell (piece_cell values word) enough puts.each piece.each

-- and it is present where the labels say so
pub fills_present : {V : Type 0} (T after : CellTable V) (r number : ℕ) (columns : List (Option ℕ)) (has : Option ℕ → Bool) (values : List V) (word count : ℕ) → min 64 (T.side - 64 * number) ≤ count → count ≤ length values → PutsPiece T after r number values word → AreBitsOf count (λ k. has (get_or columns (64 * number + k) None)) word → FillsPiece T.side (is_present_at T) (is_present_at after) r number columns has
fills_present T after r number columns has values word count enough within puts bits =
    fills_from T.side r number count (is_present_at T) (is_present_at after) columns has (λ k. is_some (piece_cell values word k)) enough
    (λ s d h. ap is_some (puts.each s d h) ∙ some_cond (eqb s r && eqb (d / 64) number) (piece_cell values word (d % 64)) (entry_at T.side T.cells s d))
    (λ k h. some_piece values word k (omega (arith, h, within)) ∙ bits.each k h)

-- the row as far as its first n pieces is filled
abbrev pub FilledPieces : {A : Type 0} → ℕ → (ℕ → ℕ → A) → (ℕ → ℕ → A) → ℕ → ℕ → List (Option ℕ) → (Option ℕ → A) → Type 0
FilledPieces side before now r n columns cell = (s d : ℕ) → d < side → now s d ≡ cond (eqb s r && ltb (d / 64) n) (cell (get_or columns d None)) (before s d)

-- nothing yet
pub pieces_none : {A : Type 0} (side : ℕ) (before : ℕ → ℕ → A) (r : ℕ) (columns : List (Option ℕ)) (cell : Option ℕ → A) → FilledPieces side before before r 0 columns cell
pieces_none side before r columns cell s d within = none (eqb s r)
  where
    none : (b : Bool) → before s d ≡ cond (b && ltb (d / 64) 0) (cell (get_or columns d None)) (before s d)
    none true = rw (le-ltb (d / 64) 0 (omega arith)) refl
    none false = refl

step_by : {A : Type 0} (c d : ℕ) (x old : A) (b : Bool) → cond (b && eqb d c) x (cond (b && ltb d c) x old) ≡ cond (b && ltb d (c + 1)) x old
step_by c d x old false = refl
step_by c d x old true =
    ⊎_elim
    (λ (here : d ≡ c). rw (eq-eqb d c here, lt-ltb d (c + 1) (omega arith)) refl)
    (⊎_elim
    (λ (before : d < c). rw (ne_eqb d c (λ e. omega arith), lt-ltb d c before, lt-ltb d (c + 1) (omega arith)) refl)
    (λ (after : c < d). rw (ne_eqb d c (λ e. omega arith), le-ltb d c (omega arith), le-ltb d (c + 1) (omega arith)) refl))
    (cases_order d c)

-- one piece more
pub pieces_more : {A : Type 0} (side width : ℕ) (before now after : ℕ → ℕ → A) (r n : ℕ) (columns : List (Option ℕ)) (cell : Option ℕ → A) → width ≡ side → FillsPiece width now after r n columns cell → FilledPieces side before now r n columns cell → FilledPieces side before after r (n + 1) columns cell
pieces_more side width before now after r n columns cell same fills filled s d within =
    fills s d (omega (arith, within, same))
    ∙ ap (cond (eqb s r && eqb (d / 64) n) (cell (get_or columns d None))) (filled s d within)
    ∙ step_by n (d / 64) (cell (get_or columns d None)) (before s d) (eqb s r)

-- the whole row
pub pieces_all : {A : Type 0} (side : ℕ) (before now : ℕ → ℕ → A) (r n : ℕ) (columns : List (Option ℕ)) (cell : Option ℕ → A) → side ≤ 64 * n → FilledPieces side before now r n columns cell → FillsRow side before now r columns cell
pieces_all side before now r n columns cell enough filled = λ s d within. filled s d within ∙ whole s d within (eqb s r)
  where
    whole : (s d : ℕ) → d < side → (b : Bool) → cond (b && ltb (d / 64) n) (cell (get_or columns d None)) (before s d) ≡ cond b (cell (get_or columns d None)) (before s d)
    whole s d within true = rw (lt-ltb (d / 64) n (omega (arith, within, enough))) refl
    whole s d within false = refl

-- ---- a piece written into a list

-- the list that is given back has the piece
pub written_back : {V : Type 0} (len start count : ℕ) (old xs new : List V) → xs ≡ old → len ≡ length old → length new ≡ count → start + count ≤ length old → take len ((take start xs ++ (new ++ drop (start + count - start) (drop start xs))) ++ drop (length (take start xs ++ (new ++ drop (start + count - start) (drop start xs)))) old) ≡ take start old ++ (new ++ drop (start + count) old)
written_back len start count old xs new same long size fits =
    let back = take start old ++ (new ++ drop (start + count) old) in
    let is : take start xs ++ (new ++ drop (start + count - start) (drop start xs)) ≡ back =
    ap (λ ys. take start ys ++ (new ++ drop (start + count - start) (drop start ys))) same
    ∙ ap (λ ys. take start old ++ (new ++ ys)) (drop-drop (start + count - start) start old ∙ ap (λ n. drop n old) (omega arith)) in
    let whole : length back ≡ length old =
    omega (arith, length-append (take start old) (new ++ drop (start + count) old), length-append new (drop (start + count) old), length-take-le start old (omega (arith, fits)), length-drop (start + count) old, fits, size) in
    ap (λ ys. take len (ys ++ drop (length ys) old)) is
    ∙ ap (λ ys. take len (back ++ ys)) (drop_all (length back) old (omega (arith, whole)))
    ∙ ap (take len) (append-nil back)
    ∙ take_all len back (omega (arith, whole, long))

-- what was written into a table is the piece of these columns
pub stored_piece : {V : Type 0} (side : ℕ) (values new : List V) (present after : BitTable) → IsStored side values present → (r number word end : ℕ) (columns : List (Option ℕ)) (piece : List V) → r < side → number < word_count side → length columns ≡ side → end ≡ min (64 * number + 64) side → length piece ≡ length (take (end - 64 * number) (drop (64 * number) columns)) → PutsWord present after r number word → new ≡ take (r * side + 64 * number) values ++ (piece ++ drop (r * side + 64 * number + length (take (end - 64 * number) (drop (64 * number) columns))) values) → IsStored side new after × PutsPiece (record { side = side; cells = stored_cells side values present }) (record { side = side; cells = stored_cells side new after }) r number piece word
stored_piece side values new present after s r number word end columns piece row below count ends size puts written =
    let start = r * side + 64 * number in
    let is : new ≡ spliced values piece start = written ∙ ap (λ n. take start values ++ (piece ++ drop (start + n) values)) (sym size) in
    let size_is : length piece ≡ min 64 (side - 64 * number) = omega (arith, size, length-take (end - 64 * number) (drop (64 * number) columns), length-drop (64 * number) columns, ends, count, below) in (
      subst (λ xs. IsStored side xs after) (sym is) (stored_after side values present after s r number piece word row below size_is puts),
      subst (λ xs. PutsPiece (record { side = side; cells = stored_cells side values present }) (record { side = side; cells = stored_cells side xs after }) r number piece word) (sym is)
          (puts_piece side values present after s r number piece word row below size_is puts),
    )

-- the piece goes as far as the row
pub piece_enough : (side number end : ℕ) (columns : List (Option ℕ)) → length columns ≡ side → end ≡ min (64 * number + 64) side → min 64 (side - 64 * number) ≤ length (take (end - 64 * number) (drop (64 * number) columns))
piece_enough side number end columns count ends =
    omega (arith, length-take (end - 64 * number) (drop (64 * number) columns), length-drop (64 * number) columns, ends, count)

-- the cells by the labels of the piece are those by all labels
pub labelled_piece : {V : Type 0} (count first : ℕ) (columns : List (Option ℕ)) (cell : Option ℕ → Option V) (values : List V) (word : ℕ) → ArePieceOf (length (take count (drop first columns))) values word (λ k. cell (get_or (take count (drop first columns)) k None)) → ArePieceOf (length (take count (drop first columns))) values word (λ k. cell (get_or columns (first + k) None))
labelled_piece count first columns cell values word piece = record {
  each = λ k h. piece.each k h ∙ ap cell (piece_labels columns first count k None (omega (arith, h, length-take count (drop first columns))));
  inside = piece.inside;
}

-- and so are the bits
pub labelled_bits : (count first : ℕ) (columns : List (Option ℕ)) (has : Option ℕ → Bool) (word : ℕ) → AreBitsOf (length (take count (drop first columns))) (λ k. has (get_or (take count (drop first columns)) k None)) word → AreBitsOf (length (take count (drop first columns))) (λ k. has (get_or columns (first + k) None)) word
labelled_bits count first columns has word bits =
    bits_same _ word _ _ bits (λ k h. ap has (piece_labels columns first count k None (omega (arith, h, length-take count (drop first columns)))))
