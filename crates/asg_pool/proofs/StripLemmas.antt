-- Rows one behind another in one list: what is read and written there.
use Rattle.asg_pool.proofs.Common.{◌≡◌, ℕ, zero, suc, ◌+◌, ◌*◌, ◌<◌, ◌≤◌, List, [], ◌∷◌, ◌++◌, length, get_or, take, drop, set, All, sym, refl, ap, ◌∙◌, arith, length-drop, length-take-le, drop-drop, take_at, drop-append-le, drop-take, mul-le, nil_from_length, put_mid, row_fits, take-append-le, Rows, rows_of, with_row}
use Rattle.std.proofs.lemmas.Slice.{take-put_mid, take-put_mid_below, drop-put_mid}
use Rattle.asg_pool.proofs.LinkLemmas.{set_is_with_row}

module _ (width : ℕ) where
  within_rest : (n : ℕ) (lens : List ℕ) → All (λ m. m ≤ width) (n ∷ lens) → All (λ m. m ≤ width) lens
  within_rest n lens within = λ i d below. within (suc i) d (omega (arith, below))

  within_first : (n : ℕ) (lens : List ℕ) → All (λ m. m ≤ width) (n ∷ lens) → n ≤ width
  within_first n lens within = within 0 0 (omega arith)

module _ {T : Type 0} (width : ℕ) where
  -- there are as many rows as lengths
  pub rows_count : (lens : List ℕ) (values : List T) → length (rows_of width lens values) ≡ length lens
  rows_count [] values = refl
  rows_count (n ∷ lens) values = ap suc (rows_count lens (drop width values))

  -- the row at a place
  pub row_is : (lens : List ℕ) (values : List T) (k : ℕ) → k < length lens → get_or (rows_of width lens values) k [] ≡ take (get_or lens k 0) (drop (k * width) values)
  row_is [] values k below = absurd (omega (arith, below))
  row_is (n ∷ lens) values zero below = ap (λ m. take n (drop m values)) (let none : 0 ≡ 0 * width = omega arith in none)
  row_is (n ∷ lens) values (suc k) below =
      let more : width + k * width ≡ suc k * width = omega arith in
      row_is lens (drop width values) k (omega (arith, below)) ∙ ap (take (get_or lens k 0)) (drop-drop (k * width) width values ∙ ap (λ m. drop m values) more)

  count_rest : (n : ℕ) (lens : List ℕ) (values : List T) → length values ≡ length (n ∷ lens) * width → length (drop width values) ≡ length lens * width
  count_rest n lens values count = omega (arith, length-drop width values, count)

  count_first : (n : ℕ) (lens : List ℕ) (values : List T) → length values ≡ length (n ∷ lens) * width → width ≤ length values
  count_first n lens values count = omega (arith, count)

  -- a row that is put behind the others, and what fills it up
  pub rows_pushed : (lens : List ℕ) (values row more : List T) → length values ≡ length lens * width → All (λ m. m ≤ width) lens
      → rows_of width (lens ++ length row ∷ []) (values ++ (row ++ more)) ≡ rows_of width lens values ++ row ∷ []
  rows_pushed [] values row more count within =
      let none : values ≡ [] = nil_from_length values (omega (arith, count)) in
      ap (λ vs. take (length row) (vs ++ (row ++ more)) ∷ []) none ∙ ap (λ r. r ∷ []) (take_at row more (length row) refl)
  rows_pushed (n ∷ lens) values row more count within =
      let wide = count_first n lens values count in
      let few = within_first width n lens within in
      ap (λ r. r ∷ rows_of width (lens ++ length row ∷ []) (drop width (values ++ (row ++ more)))) (take-append-le n values (row ++ more) (omega (arith, few, wide)))
      ∙ ap (λ vs. take n values ∷ rows_of width (lens ++ length row ∷ []) vs) (drop-append-le width values (row ++ more) wide)
      ∙ ap (λ rows. take n values ∷ rows) (rows_pushed lens (drop width values) row more (count_rest n lens values count) (within_rest width n lens within))

  put_later : (k m : ℕ) (values row : List T) → width + k * width ≤ length values → drop width (put_mid (width + k * width) m values row) ≡ put_mid (k * width) m (drop width values) row
  put_later k m values row fits =
      let front = length-take-le (width + k * width) values fits in
      drop-append-le width (take (width + k * width) values) (row ++ drop m (drop (width + k * width) values)) (omega (arith, front))
      ∙ (λ i. drop-take width (k * width) values i ++ (row ++ drop m (sym (drop-drop (k * width) width values) i)))

  -- a row that is written over another one
  pub rows_put : (lens : List ℕ) (values row : List T) (k : ℕ) → k < length lens → length values ≡ length lens * width → All (λ m. m ≤ width) lens → length row ≤ width
      → rows_of width (set lens k (length row)) (put_mid (k * width) (length row) values row) ≡ set (rows_of width lens values) k row
  rows_put [] values row k below count within short = absurd (omega (arith, below))
  rows_put (n ∷ lens) values row zero below count within short =
      let wide = count_first n lens values count in
      let none : 0 * width ≡ 0 = omega arith in
      ap (λ a. rows_of width (length row ∷ lens) (put_mid a (length row) values row)) none
      ∙ ap (λ r. r ∷ rows_of width lens (drop width (put_mid 0 (length row) values row))) (take-put_mid 0 (length row) values row (length row) (omega arith) (omega arith))
      ∙ ap (λ vs. row ∷ rows_of width lens vs) (drop-put_mid 0 (length row) values row width (omega (arith, short)) (omega arith) refl)
  rows_put (n ∷ lens) values row (suc k) below count within short =
      let wide = count_first n lens values count in
      let few = within_first width n lens within in
      let times : k * width ≤ length lens * width = mul-le k width (length lens) width (omega (arith, below)) (omega arith) in
      let fits : width + k * width ≤ length values = omega (arith, count, times) in
      let more : suc k * width ≡ width + k * width = omega arith in
      ap (λ a. rows_of width (n ∷ set lens k (length row)) (put_mid a (length row) values row)) more
      ∙ ap (λ r. r ∷ rows_of width (set lens k (length row)) (drop width (put_mid (width + k * width) (length row) values row)))
      (take-put_mid_below (width + k * width) (length row) values row n (omega (arith, few)) fits)
      ∙ ap (λ vs. take n values ∷ rows_of width (set lens k (length row)) vs) (put_later k (length row) values row fits)
      ∙ ap (λ rows. take n values ∷ rows) (rows_put lens (drop width values) row k (omega (arith, below)) (count_rest n lens values count) (within_rest width n lens within) short)

-- next after the last one, a row is put behind the others
pub pushed_is_with_row : {X : Type 0} (xs : List X) (k : ℕ) (x : X) → k ≡ length xs → xs ++ x ∷ [] ≡ with_row xs k x
pushed_is_with_row [] zero x last = refl
pushed_is_with_row [] (suc k) x last = absurd (omega (arith, last))
pushed_is_with_row (y ∷ ys) zero x last = absurd (omega (arith, last))
pushed_is_with_row (y ∷ ys) (suc k) x last = ap (λ zs. y ∷ zs) (pushed_is_with_row ys k x (omega (arith, last)))

module _ {T : Type 0} (width room : ℕ) (lens : List ℕ) (values row : List T) (S : Rows T) (shows : record { width = width; room = room; rows = rows_of width lens values } ≡ S) (count : length values ≡ length lens * width) (within : All (λ m. m ≤ width) lens) where
  abbrev as_rows : List (List T) → Rows T
  as_rows rows = record { width = width; room = room; rows = rows }

  -- a strip after a row was put behind the others
  pub strip_pushed : (more : List T) (k : ℕ) → k ≡ length lens → record { width = width; room = room; rows = rows_of width (lens ++ length row ∷ []) (values ++ (row ++ more)) } ≡ record S { rows = with_row S.rows k row }
  strip_pushed more k last =
      ap as_rows (rows_pushed width lens values row more count within ∙ pushed_is_with_row (rows_of width lens values) k row (last ∙ sym (rows_count width lens values)))
      ∙ ap (λ (R : Rows T). record R { rows = with_row R.rows k row }) shows

  -- and after one was written over another
  pub strip_put : (k : ℕ) → k < length lens → length row ≤ width → record { width = width; room = room; rows = rows_of width (set lens k (length row)) (put_mid (k * width) (length row) values row) } ≡ record S { rows = with_row S.rows k row }
  strip_put k below short =
      ap as_rows (rows_put width lens values row k below count within short ∙ set_is_with_row (rows_of width lens values) k row (let n = rows_count width lens values in omega (arith, n, below)))
      ∙ ap (λ (R : Rows T). record R { rows = with_row R.rows k row }) shows

-- the places of a row stand within the list
pub place_fits : {T : Type 0} (width k : ℕ) (lens : List ℕ) (values : List T) → k < length lens → length values ≡ length lens * width → k * width + width ≤ length values
place_fits width k lens values below count =
    let upto = row_fits k width (length lens) width below (omega arith) in
    omega (arith, upto, count)

-- a row that a strip has
pub place_below : {T : Type 0} (width room k : ℕ) (lens : List ℕ) (values : List T) (S : Rows T) → record { width = width; room = room; rows = rows_of width lens values } ≡ S → k < length S.rows → k < length lens
place_below width room k lens values S shows there =
    let count = rows_count width lens values in
    let rows = ap (λ (R : Rows _). length R.rows) shows in
    omega (arith, count, rows, there)
