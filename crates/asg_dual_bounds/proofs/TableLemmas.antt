-- What stands at the places of a table.
use Rattle.asg_dual_bounds.proofs.Common.{◌≡◌, ℕ, ◌+◌, ◌*◌, ◌<◌, ◌≤◌, Bool, true, false, cond, ◌≢◌, List, length, get_or, nat_lt, ◌==◌, slice_index, Some, None, Option, option_map, sym, refl, ap, ◌∙◌, subst, ⊎_elim, mul-le-mul_right, arith, ltb-true, le-ltb, lt-ltb, and_left, and_right, cases_eq, cases_lt, eqb-false, get_or_default, get_or_past, none-some, option_map_or, row_fits, same_Some, slice_get_past, number_at, Table, absent, number_of, number_in, IsTable, IsTableOf, is_active, is_open, cost_at, Problem, Objective, sum_entered}
use Rattle.asg_dual_bounds.specs.Tables.{IsRowOf}

inside_is : (b : Bool) (o : Option ℕ) (x : ℕ) → cond b o None ≡ Some x → (b ≡ true) × (o ≡ Some x)
inside_is true o x e = (refl, e)
inside_is false o x e = absurd (none-some x e)

slot_is : (b : Bool) (slot x : ℕ) → cond b None (Some slot) ≡ Some x → (b ≡ false) × (slot ≡ x)
slot_is true slot x e = absurd (none-some x e)
slot_is false slot x e = (refl, same_Some slot x e)

-- a number is what stands at its place
pub number_of-some : (slot x : ℕ) → number_of slot ≡ Some x → (slot ≢ absent) × (slot ≡ x)
number_of-some slot x e =
    let h = slot_is (slot == absent) slot x e in
    (eqb-false slot absent h.0, h.1)

-- a number of a row is what stands in its column
pub stands_in_row : (table : Table) (r c x : ℕ) (slots : List ℕ) → IsRowOf table r slots → number_in table r c ≡ Some x → (c < table.columns) × (slice_index slots c ≢ absent) × (slice_index slots c ≡ x)
stands_in_row table r c x slots row is =
    let inside = inside_is (nat_lt c table.columns) (number_of (get_or table.slots (r * table.columns + c) absent)) x is in
    let column : c < table.columns = ltb-true c table.columns inside.0 in
    let here = number_of-some (slice_index slots c) x (sym (row.each c column) ∙ is) in
    (column, here.0, here.1)

-- a number stands within the table
pub number_in-within : (table : Table) (r c x : ℕ) → IsTable table → number_in table r c ≡ Some x → (r < table.rows) × (c < table.columns)
number_in-within table r c x is e =
    let inside = inside_is (nat_lt c table.columns) (number_of (get_or table.slots (r * table.columns + c) absent)) x e in
    let column : c < table.columns = ltb-true c table.columns inside.0 in
    ⊎_elim
    (λ (within : r < table.rows). (within, column))
    (λ (past : table.rows ≤ r).
    let far = mul-le-mul_right table.columns past in
    let none = get_or_past table.slots (r * table.columns + c) absent (omega (arith, is.whole, far)) in
    absurd ((number_of-some (get_or table.slots (r * table.columns + c) absent) x inside.1).0 none))
    (cases_lt r table.rows)

-- ---- the table of an instance

-- the places of rows before a row are before its own
place_before : (r n c m : ℕ) → r < n → c < m → r * m + c < n * m
place_before r n c m h k = let fits = row_fits r m n m h (omega arith) in omega (arith, fits, k)

no_row : (objective : Objective) (X : Problem) (r c : ℕ) → length X.rows ≤ r → number_at objective X r c ≡ None
no_row objective X r c past =
    ap (λ b. option_map (sum_entered objective) (cond b (cost_at X.cells r c) None))
    (and_left (is_active X r) (is_open X c) (ap (λ o. option_map_or (λ row. row.active) o false) (slice_get_past X.rows r past)))

no_column : (objective : Objective) (X : Problem) (r c : ℕ) → length X.columns ≤ c → number_at objective X r c ≡ None
no_column objective X r c past =
    ap (λ b. option_map (sum_entered objective) (cond b (cost_at X.cells r c) None))
    (and_right (is_active X r) (is_open X c) (ap (λ o. option_map_or (λ column. column.usable) o false) (slice_get_past X.columns c past)))

-- rows up to one more have their numbers
pub filled_more : (objective : Objective) (X : Problem) (m row : ℕ) (before after : List ℕ) → ((r c : ℕ) → r < row → c < m → number_of (slice_index before (r * m + c)) ≡ number_at objective X r c) → ((c : ℕ) → c < m → number_of (slice_index after (row * m + c)) ≡ number_at objective X row c) → ((k : ℕ) → k < row * m → slice_index after k ≡ slice_index before k) → (r c : ℕ) → r < row + 1 → c < m → number_of (slice_index after (r * m + c)) ≡ number_at objective X r c
filled_more objective X m row before after old new kept r c h k =
    ⊎_elim
    (λ (same : r ≡ row). subst (λ i. number_of (slice_index after (i * m + c)) ≡ number_at objective X i c) (sym same) (new c k))
    (λ other.
    let earlier : r < row = omega (arith, h, other) in
    ap number_of (kept (r * m + c) (place_before r row c m earlier k)) ∙ old r c earlier k)
    (cases_eq r row)

-- a whole table whose rows have the numbers of an instance
pub table_is : (objective : Objective) (X : Problem) (n m : ℕ) (slots : List ℕ) → n ≡ length X.rows → m ≡ length X.columns → length slots ≡ n * m → ((r c : ℕ) → r < n → c < m → number_of (slice_index slots (r * m + c)) ≡ number_at objective X r c) → IsTableOf objective X (record { rows = n; columns = m; slots = slots })
table_is objective X n m slots rows columns whole filled =
    let table : Table = record { rows = n; columns = m; slots = slots } in
    record {
      rows = rows;
      columns = columns;
      numbers = λ r c.
          sym (⊎_elim
          (λ (k : c < m).
          ap (λ b. cond b (number_of (get_or slots (r * m + c) absent)) None) (lt-ltb c m k)
          ∙ ⊎_elim
          (λ (h : r < n).
          let there : r * m + c < length slots = let at = place_before r n c m h k in omega (arith, at, whole) in
          ap number_of (get_or_default slots (r * m + c) absent 0 there) ∙ filled r c h k)
          (λ (past : n ≤ r).
          let far = mul-le-mul_right m past in
          ap number_of (get_or_past slots (r * m + c) absent (omega (arith, whole, far))) ∙ sym (no_row objective X r c (omega (arith, past, rows))))
          (cases_lt r n))
          (λ (past : m ≤ c).
          ap (λ b. cond b (number_of (get_or slots (r * m + c) absent)) None) (le-ltb c m past) ∙ sym (no_column objective X r c (omega (arith, past, columns))))
          (cases_lt c m));
    }
