-- Cells in order are those of the table of their costs.
use Rattle.asg_text.proofs.Common.{◌≡◌, ℕ, suc, ◌+◌, ◌*◌, ◌/◌, ◌%◌, ◌<◌, ◌≤◌, cond, ◌&&◌, ◌≢◌, List, [], ◌∷◌, length, get_or, ◌==◌, Some, None, All, Option, option_map, nat_cmp, Less, Equal, Greater, sym, refl, ap, ◌∙◌, subst, ⊎_elim, mul-le-mul_right, div-add-mod', arith, eq-eqb, eqb-true, All-head, All-tail, IsStrictlySortedBy, and_from, and_parts, cases_Bool, cases_lt, cases_order, cons_option, div-mul-add, enumerate_from, keys_of, mod-mul-add, nat_cmp_is, ordering_then, sorted_tail, by_places, cost_at, Cost, filter_map}
use Rattle.std.proofs.lemmas.Map.Views.{All-after_first}
use Rattle.asg_tokens.specs.Readings.{cells_of_rows}

abbrev Cell : Type 0
Cell = (ℕ × ℕ) × Cost

-- the index of a cell in a table of m columns
abbrev pub index_of : ℕ → Cell → ℕ
index_of m cell = cell.0.0 * m + cell.0.1

-- the indexes of cells ascend, from k on
abbrev pub Ascend : ℕ → ℕ → List Cell → Type 0
Ascend m k [] = Unit {0}
Ascend m k (cell ∷ cells) = (k ≤ index_of m cell) × (cell.0.1 < m) × Ascend m (index_of m cell + 1) cells

-- an earlier place is an earlier index
earlier : (m : ℕ) (x y : ℕ × ℕ) → x.1 < m → by_places x y ≡ Less → x.0 * m + x.1 + 1 ≤ y.0 * m + y.1
earlier m x y within less =
    ⊎_elim
    (λ (same : x.0 ≡ y.0).
    let columns : nat_cmp x.1 y.1 ≡ Less = ap (λ o. ordering_then o (nat_cmp x.1 y.1)) (nat_cmp_is x.0 y.0 Equal same) ∙ less in
    let row : x.0 * m ≡ y.0 * m = ap (λ r. r * m) same in
    ⊎_elim
    (λ (equal : x.1 ≡ y.1). let e : Equal ≡ Less = nat_cmp_is x.1 y.1 Equal equal ∙ columns in absurd cc)
    (⊎_elim
    (λ (before : x.1 < y.1). omega (arith, row))
    (λ (after : y.1 < x.1). let e : Greater ≡ Less = nat_cmp_is x.1 y.1 Greater after ∙ columns in absurd cc))
    (cases_order x.1 y.1))
    (⊎_elim
    (λ (before : x.0 < y.0).
    let rows : suc x.0 * m ≤ y.0 * m = mul-le-mul_right m (let e : suc x.0 ≤ y.0 = omega arith in e) in omega (arith, rows))
    (λ (after : y.0 < x.0).
    let e : Greater ≡ Less = ap (λ o. ordering_then o (nat_cmp x.1 y.1)) (nat_cmp_is x.0 y.0 Greater after) ∙ less in absurd cc))
    (cases_order x.0 y.0)

pub ascend : (m k : ℕ) (cells : List Cell) → IsStrictlySortedBy by_places (keys_of cells) → All (λ cell. cell.0.1 < m) cells → ((d : Cell) → 0 < length cells → k ≤ index_of m (get_or cells 0 d)) → Ascend m k cells
ascend m k [] sorted within first = tt
ascend m k (cell ∷ []) sorted within first = (first cell (omega arith), All-head (λ cell. cell.0.1 < m) cell [] within, tt)
ascend m k (cell ∷ next ∷ cells) sorted within first =
    let here : cell.0.1 < m = All-head (λ cell. cell.0.1 < m) cell (next ∷ cells) within in
    let less : by_places cell.0 next.0 ≡ Less = All-head (λ place. by_places cell.0 place ≡ Less) next.0 (keys_of cells) (All-after_first by_places cell.0 (keys_of (next ∷ cells)) sorted) in
    let later = sorted_tail by_places cell.0 (keys_of (next ∷ cells)) sorted in (
      first cell (omega arith),
      here,
      ascend m (index_of m cell + 1) (next ∷ cells) later (All-tail (λ cell. cell.0.1 < m) cell (next ∷ cells) within) (λ d some. earlier m cell.0 next.0 here less),
    )

-- the first cell, and others
at_first : (cell : Cell) (cells : List Cell) (r c : ℕ) → cell.0.0 ≡ r → cell.0.1 ≡ c → cost_at (cell ∷ cells) r c ≡ Some cell.1
at_first cell cells r c row column =
    ap (λ v. cond v (Some cell.1) (cost_at cells r c)) (and_from _ _ (eq-eqb cell.0.0 r row) (eq-eqb cell.0.1 c column))

at_other : (m : ℕ) (cell : Cell) (cells : List Cell) (r c : ℕ) → index_of m cell ≢ r * m + c → cost_at (cell ∷ cells) r c ≡ cost_at cells r c
at_other m cell cells r c other =
    ⊎_elim
    (λ yes.
    let parts = and_parts _ _ yes in
    absurd (other (λ i. eqb-true cell.0.0 r parts.0 i * m + eqb-true cell.0.1 c parts.1 i)))
    (λ no. ap (λ v. cond v (Some cell.1) (cost_at cells r c)) no)
    (cases_Bool ((cell.0.0 == r) && (cell.0.1 == c)))

none_before : (m k r c : ℕ) (cells : List Cell) → Ascend m k cells → r * m + c < k → cost_at cells r c ≡ None
none_before m k r c [] up before = refl
none_before m k r c (cell ∷ cells) up before =
    at_other m cell cells r c (λ same. absurd (omega (arith, up.0, same))) ∙ none_before m (index_of m cell + 1) r c cells up.2 (omega (arith, up.0))

-- the cost at an index
abbrev pub cost_of_index : ℕ → List Cell → ℕ → Option Cost
cost_of_index m cells k = cost_at cells (k / m) (k % m)

-- the cell at an index, where it has a cost
abbrev front : ℕ → ℕ → Option Cost → List Cell → List Cell
front m k cost cells = cons_option (option_map (λ cost. ((k / m, k % m), cost)) cost) cells

-- costs from index k on make the cells that have them
cells_from : (m k : ℕ) (costs : List (Option Cost)) (cells : List Cell) → Ascend m k cells → All (λ cell. index_of m cell < k + length costs) cells → ((i : ℕ) → i < length costs → get_or costs i None ≡ cost_of_index m cells (k + i))
    → filter_map (λ entry. option_map (λ cost. ((entry.0 / m, entry.0 % m), cost)) entry.1) (enumerate_from k costs) ≡ cells
cells_from m k [] [] up few at = refl
cells_from m k [] (cell ∷ cells) up few at = absurd (omega (arith, up.0, All-head (λ cell. index_of m cell < k + 0) cell cells few))
cells_from m k (cost ∷ costs) [] up few at =
    (λ i. front m k (at 0 (omega arith) i) (cells_from m (k + 1) costs [] tt (λ j d none. absurd (omega arith)) (λ j within. at (suc j) (omega arith)) i))
cells_from m k (cost ∷ costs) (cell ∷ cells) up few at =
    ⊎_elim
    (λ (past : k < index_of m cell).
    (λ i. front m k (none past i) (cells_from m (k + 1) costs (cell ∷ cells) (omega (arith, past), up.1, up.2) (λ j d there. omega (arith, few j d there)) (λ j within. later j within) i)))
    (λ here.
    let same : index_of m cell ≡ k = omega (arith, up.0, here) in
    (λ i. front m k (first same i) (cells_from m (k + 1) costs cells (rest same) (λ j d there. omega (arith, All-tail (λ cell. index_of m cell < k + length (cost ∷ costs)) cell cells few j d there)) (λ j within. later j within ∙ other same j) i))
    ∙ (λ i. ((row same i, column same i), cell.1) ∷ cells))
    (cases_lt k (index_of m cell))
  where
    now : cost ≡ cost_of_index m (cell ∷ cells) k
    now = at 0 (omega arith) ∙ ap (cost_of_index m (cell ∷ cells)) (let e : k + 0 ≡ k = omega arith in e)

    later : (j : ℕ) → j < length costs → get_or costs j None ≡ cost_of_index m (cell ∷ cells) (k + 1 + j)
    later j within = at (suc j) (omega arith) ∙ ap (cost_of_index m (cell ∷ cells)) (let e : k + suc j ≡ k + 1 + j = omega arith in e)

    none : k < index_of m cell → cost ≡ None
    none past = now ∙ none_before m (index_of m cell) (k / m) (k % m) (cell ∷ cells) (omega arith, up.1, up.2) (omega (arith, past, div-add-mod' k m))

    row : index_of m cell ≡ k → k / m ≡ cell.0.0
    row same = ap (λ k. k / m) (sym same) ∙ div-mul-add cell.0.0 m cell.0.1 up.1

    column : index_of m cell ≡ k → k % m ≡ cell.0.1
    column same = ap (λ k. k % m) (sym same) ∙ mod-mul-add cell.0.0 m cell.0.1 up.1

    first : index_of m cell ≡ k → cost ≡ Some cell.1
    first same = now ∙ at_first cell cells (k / m) (k % m) (sym (row same)) (sym (column same))

    rest : index_of m cell ≡ k → Ascend m (k + 1) cells
    rest same = subst (λ k. Ascend m (k + 1) cells) same up.2

    other : index_of m cell ≡ k → (j : ℕ) → cost_of_index m (cell ∷ cells) (k + 1 + j) ≡ cost_of_index m cells (k + 1 + j)
    other same j = at_other m cell cells ((k + 1 + j) / m) ((k + 1 + j) % m) (λ e. absurd (omega (arith, same, e, div-add-mod' (k + 1 + j) m)))

-- the cells of a table whose costs are those of cells in order
pub same_table : (m : ℕ) (costs : List (Option Cost)) (cells : List Cell) → Ascend m 0 cells → All (λ cell. index_of m cell < length costs) cells → ((k : ℕ) → k < length costs → get_or costs k None ≡ cost_of_index m cells k) → cells_of_rows m costs ≡ cells
unfolding cells_of_rows
same_table m costs cells up few at =
    cells_from m 0 costs cells up (λ j d there. let below = few j d there in omega (arith, below))
    (λ j within. at j within ∙ ap (cost_of_index m cells) (let e : j ≡ 0 + j = omega arith in e))
