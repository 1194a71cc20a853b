-- Reading written cells row by row.
use Rattle.asg_check.proofs.Common.{◌≡◌, ℕ, zero, suc, ◌+◌, ◌<◌, Bool, true, false, cond, ◌&&◌, eqb, ltb, ◌≢◌, List, [], ◌∷◌, ◌++◌, length, get_or, take, drop, set, IsSome, slice_get, Some, None, All, Option, option_map, AllPairs, zip, filter_map, option_and_then, sym, refl, ap, ◌∙◌, append_assoc, append-nil, arith, lt-ltb, eq-eqb, ne_eqb, eqb-true, All-head, All-tail, cons_option, drop_more, get_or_from_slice_get, option_map_or, position-Some, position_or_len_is, slice_get-get_or, slice_get_within, take_more_set, IsWrittenAs, cells_left, column_given, read_cells, cell_by_id, cells_by_id, column_id, column_place_of, IsInstance, is_active, cost_at, Problem, Chooses, IsValid}
use Rattle.asg_model.specs.declared.parts.Row.{Row}
use Rattle.asg_model.specs.declared.parts.Column.{Column}

-- what the rows before chose, and what those after them read
abbrev pub joined : List (Option ℕ) → List (Option ℕ) × List (ℕ × ℕ) → List (Option ℕ) × List (ℕ × ℕ)
joined chosen more = (chosen ++ more.0, more.1)

-- one row more
pub read-step : (X : Problem) (rows : List Row) (any : Row) (choice : List (Option ℕ)) (place : ℕ) (o : Option ℕ) (cells rest : List (ℕ × ℕ)) → place < length rows → place < length choice
    → o ≡ column_given X (get_or rows place any) cells → rest ≡ cells_left o cells
    → joined (take (place + 1) (set choice place o)) (read_cells X (drop (place + 1) rows) rest) ≡ joined (take place choice) (read_cells X (drop place rows) cells)
read-step X rows any choice place o cells rest here below is_o is_rest =
    let more = read_cells X (drop (place + 1) rows) rest in
    ap (λ t. joined t more) (take_more_set choice place o below)
    ∙ ap (λ l. (l, more.1)) (append_assoc (take place choice) (o ∷ []) more.0)
    ∙ ap (λ cs. joined (take place choice) (joined (o ∷ []) (read_cells X (drop (place + 1) rows) cs))) is_rest
    ∙ ap (λ q. joined (take place choice) (joined (q ∷ []) (read_cells X (drop (place + 1) rows) (cells_left q cells)))) is_o
    ∙ ap (λ rs. joined (take place choice) (read_cells X rs cells)) (sym (drop_more rows place any here))

-- one row read gives back its cell, if it chose
given-back : (X : Problem) (row : Row) (cells : List (ℕ × ℕ)) → cons_option (cell_by_id X (row, column_given X row cells)) (cells_left (column_given X row cells) cells) ≡ cells
given-back X row [] = refl
given-back X row (cell ∷ cells) = by (eqb cell.0 row.id) refl
  where
    column_id-from_place : (c : ℕ) → column_place_of X cell.1 ≡ Some c → column_id X c ≡ Some cell.1
    column_id-from_place c e =
        let any : Column = record { id = 0; cap = 0; usable = false } in
        let found = position-Some (λ (column : Column). eqb column.id cell.1) X.columns c any e in
        ap (option_map (λ column. column.id)) (slice_get-get_or X.columns c any found.0) ∙ ap Some (eqb-true _ cell.1 found.1)

    found : (o : Option ℕ) → column_place_of X cell.1 ≡ o → cell.0 ≡ row.id → cons_option (cell_by_id X (row, o)) (cells_left o (cell ∷ cells)) ≡ cell ∷ cells
    found None e same = refl
    found (Some c) e same = ap (λ o. cons_option (option_map (λ id. (row.id, id)) o) cells) (column_id-from_place c e) ∙ ap (λ id. (id, cell.1) ∷ cells) (sym same)

    by : (b : Bool) → eqb cell.0 row.id ≡ b → cons_option (cell_by_id X (row, cond b (column_place_of X cell.1) None)) (cells_left (cond b (column_place_of X cell.1) None) (cell ∷ cells)) ≡ cell ∷ cells
    by false e = refl
    by true e = found (column_place_of X cell.1) refl (eqb-true cell.0 row.id e)

-- what was read gives back the cells, before those that no row read
read-gives : (X : Problem) (rows : List Row) (cells : List (ℕ × ℕ)) → filter_map (cell_by_id X) (zip rows (read_cells X rows cells).0) ++ (read_cells X rows cells).1 ≡ cells
read-gives X [] cells = refl
read-gives X (row ∷ rows) cells =
    let chosen = column_given X row cells in
    joined (cell_by_id X (row, chosen)) _ _
    ∙ ap (cons_option (cell_by_id X (row, chosen))) (read-gives X rows (cells_left chosen cells))
    ∙ given-back X row cells
  where
    joined : (o : Option (ℕ × ℕ)) (xs ys : List (ℕ × ℕ)) → cons_option o xs ++ ys ≡ cons_option o (xs ++ ys)
    joined None xs ys = refl
    joined (Some cell) xs ys = refl

-- where each cell is read, they are the cells of what was read
pub cells-read : (X : Problem) (cells : List (ℕ × ℕ)) → (read_cells X X.rows cells).1 ≡ [] → cells ≡ cells_by_id X (read_cells X X.rows cells).0
cells-read X cells none = let all = cells_by_id X (read_cells X X.rows cells).0 in sym (read-gives X X.rows cells) ∙ ap (λ more. all ++ more) none ∙ append-nil all

-- the cells of other rows give a row nothing
given-none : (X : Problem) (row : Row) (rows : List Row) (f : List (Option ℕ)) → All (λ other. row.id ≢ other.id) rows → column_given X row (filter_map (cell_by_id X) (zip rows f)) ≡ None
given-none X row [] f differ = refl
given-none X row (other ∷ rows) [] differ = refl
given-none X row (other ∷ rows) (chosen ∷ f) differ =
    by (option_and_then (column_id X) chosen) (given-none X row rows f (All-tail (λ r. row.id ≢ r.id) other rows differ))
  where
    by : (o : Option ℕ) → column_given X row (filter_map (cell_by_id X) (zip rows f)) ≡ None → column_given X row (cons_option (option_map (λ id. (other.id, id)) o) (filter_map (cell_by_id X) (zip rows f))) ≡ None
    by None more = more
    by (Some id) more = ap (λ b. cond b (column_place_of X id) None) (ne_eqb other.id row.id (λ e. All-head (λ r. row.id ≢ r.id) other rows differ (sym e)))

-- each chosen column has an id, which leads back to its place
abbrev IsNamed : Problem → ℕ → Type 0
IsNamed X c = (id : ℕ) × (column_id X c ≡ Some id) × (column_place_of X id ≡ Some c)

-- the columns of a valid choice have ids
IsNamed-valid : (X : Problem) → IsInstance X → (f : List (Option ℕ)) → IsValid X f → (r c : ℕ) → Chooses f r c → IsNamed X c
IsNamed-valid X i f valid r c chooses = at (is_active X r) (slice_get X.columns c) refl (valid.alive r c chooses)
  where
    at : (active : Bool) (o : Option Column) → slice_get X.columns c ≡ o → IsSome (cond (active && option_map_or (λ column. column.usable) o false) (cost_at X.cells r c) None) → IsNamed X c
    at true None e live = absurd (cc)
    at false None e live = absurd (cc)
    at active (Some column) e live =
        let below = slice_get_within X.columns c column e in
        let here = ap (λ (column : Column). column.id) (get_or_from_slice_get X.columns c column column e) in
        let first =
        position_or_len_is (λ (other : Column). eqb other.id column.id) X.columns c column (omega arith)
        (λ k less. ne_eqb _ column.id (λ same. i.well_formed.columns_differ k c column less below (same ∙ sym here)))
        (λ _. eq-eqb _ column.id here) in (
          column.id,
          ap (option_map (λ column. column.id)) e,
          ap (λ n. cond (ltb n (length X.columns)) (Some n) None) first ∙ ap (λ b. cond b (Some c) None) (lt-ltb c (length X.columns) below),
        )

-- a choice is read back from its cells, and none is left
read_back : (X : Problem) (rows : List Row) (f : List (Option ℕ)) → AllPairs (λ x y. x.id ≢ y.id) rows → length f ≡ length rows → ((r c : ℕ) → Chooses f r c → IsNamed X c)
    → read_cells X rows (filter_map (cell_by_id X) (zip rows f)) ≡ (f, [])
read_back X [] [] differ over named = refl
read_back X [] (chosen ∷ f) differ over named = absurd (omega (arith, over))
read_back X (row ∷ rows) [] differ over named = absurd (omega (arith, over))
read_back X (row ∷ rows) (chosen ∷ f) differ over named =
    head chosen (λ c e. named zero c (ap Some e)) (given-none X row rows f (λ k d below. differ 0 (suc k) d (omega arith) (omega arith)))
    ∙ ap (joined (chosen ∷ [])) (read_back X rows f (λ j k d less below. differ (suc j) (suc k) d (omega arith) (omega arith)) (omega (arith, over)) (λ r c chooses. named (suc r) c chooses))
  where
    rest : List (ℕ × ℕ)
    rest = filter_map (cell_by_id X) (zip rows f)

    after : List (ℕ × ℕ) → Option ℕ → List (Option ℕ) × List (ℕ × ℕ)
    after cells o = joined (o ∷ []) (read_cells X rows (cells_left o cells))

    head : (o : Option ℕ) → ((c : ℕ) → o ≡ Some c → IsNamed X c) → column_given X row rest ≡ None
        → read_cells X (row ∷ rows) (cons_option (cell_by_id X (row, o)) rest) ≡ joined (o ∷ []) (read_cells X rows rest)
    head None named none = ap (after rest) none
    head (Some c) named none =
        let id = named c refl in
        ap (λ o. read_cells X (row ∷ rows) (cons_option (option_map (λ id. (row.id, id)) o) rest)) id.1
        ∙ ap (λ b. after ((row.id, id.0) ∷ rest) (cond b (column_place_of X id.0) None)) (eq-eqb row.id row.id refl)
        ∙ ap (after ((row.id, id.0) ∷ rest)) id.2

-- a valid choice that the cells spell is the one that is read
pub written-read : (X : Problem) (cells : List (ℕ × ℕ)) (f : List (Option ℕ)) → IsInstance X → IsWrittenAs X cells f → read_cells X X.rows cells ≡ (f, [])
written-read X cells f i w = ap (read_cells X X.rows) w.written ∙ read_back X X.rows f i.well_formed.rows_differ w.valid.over (IsNamed-valid X i f w.valid)

-- a valid choice is the only one that its cells spell
pub written-once : (X : Problem) (cells : List (ℕ × ℕ)) (f g : List (Option ℕ)) → IsInstance X → IsWrittenAs X cells f → IsWrittenAs X cells g → f ≡ g
written-once X cells f g i v w = ap (λ read. read.0) (sym (written-read X cells f i v) ∙ written-read X cells g i w)
