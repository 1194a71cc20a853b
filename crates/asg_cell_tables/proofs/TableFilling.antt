-- Tables that are filled cell by cell.
use Rattle.asg_cell_tables.proofs.Common.{◌≡◌, ℕ, ◌+◌, ◌*◌, ◌<◌, ◌≤◌, Bool, true, false, cond, ◌&&◌, eqb, ltb, is_some, slice_set, Option, sym, refl, ap, ◌∙◌, ⊎_elim, arith, length-set, le-ltb, lt-ltb, eq-eqb, ne_eqb, cases_lt, cases_order, CellTable, IsCellTable, table_at, is_present_at}
use Rattle.asg_cell_tables.proofs.PieceLemmas.{some_cond}
use Rattle.asg_cell_tables.specs.laws.Entries.{entry_at-set}

-- ---- one row, column by column

-- the row as far as its first c columns are filled
abbrev pub FilledTo : {A : Type 0} → ℕ → (ℕ → ℕ → A) → (ℕ → ℕ → A) → ℕ → ℕ → (ℕ → A) → Type 0
FilledTo side before now r c cell = (s d : ℕ) → d < side → now s d ≡ cond (eqb s r && ltb d c) (cell d) (before s d)

step_by : {A : Type 0} (c d : ℕ) (x y old : A) (b : Bool) → (d ≡ c → x ≡ y) → cond (b && eqb d c) x (cond (b && ltb d c) y old) ≡ cond (b && ltb d (c + 1)) y old
step_by c d x y old false is = refl
step_by c d x y old true is =
    ⊎_elim
    (λ (here : d ≡ c). rw (eq-eqb d c here, lt-ltb d (c + 1) (omega arith)) (is here))
    (⊎_elim
    (λ (before : d < c). rw (ne_eqb d c (λ e. omega arith), lt-ltb d c before, lt-ltb d (c + 1) (omega arith)) refl)
    (λ (after : c < d). rw (ne_eqb d c (λ e. omega arith), le-ltb d c (omega arith), le-ltb d (c + 1) (omega arith)) refl))
    (cases_order d c)

-- one column more
pub filled_more : {A : Type 0} (side : ℕ) (before now after : ℕ → ℕ → A) (r c : ℕ) (cell : ℕ → A) (x : A) → ((s d : ℕ) → after s d ≡ cond (eqb s r && eqb d c) x (now s d)) → x ≡ cell c → FilledTo side before now r c cell → FilledTo side before after r (c + 1) cell
filled_more side before now after r c cell x puts is filled s d within =
    puts s d
    ∙ ap (cond (eqb s r && eqb d c) x) (filled s d within)
    ∙ step_by c d x (cell d) (before s d) (eqb s r) (λ e. is ∙ sym (ap cell e))

-- the whole row
pub filled_row : {A : Type 0} (side : ℕ) (before now : ℕ → ℕ → A) (r : ℕ) (cell : ℕ → A) → FilledTo side before now r side cell → (s d : ℕ) → d < side → now s d ≡ cond (eqb s r) (cell d) (before s d)
filled_row side before now r cell filled s d within = filled s d within ∙ whole (eqb s r)
  where
    whole : (b : Bool) → cond (b && ltb d side) (cell d) (before s d) ≡ cond b (cell d) (before s d)
    whole true = rw (lt-ltb d side within) refl
    whole false = refl

-- one cell set
pub set_at : {V : Type 0} (now : CellTable V) (r c : ℕ) (x : Option V) → IsCellTable now → r < now.side → c < now.side → (s d : ℕ) → table_at (record now { cells = slice_set now.cells (r * now.side + c) x }) s d ≡ cond (eqb s r && eqb d c) x (table_at now s d)
set_at now r c x table h k s d = entry_at-set now.side now.cells r c x s d table.count h k

pub set_present_at : {V : Type 0} (now : CellTable V) (r c : ℕ) (x : Option V) → IsCellTable now → r < now.side → c < now.side → (s d : ℕ) → is_present_at (record now { cells = slice_set now.cells (r * now.side + c) x }) s d ≡ cond (eqb s r && eqb d c) (is_some x) (is_present_at now s d)
set_present_at now r c x table h k s d = ap is_some (set_at now r c x table h k s d) ∙ some_cond (eqb s r && eqb d c) x (table_at now s d)

-- one row more
pub row_more : {A : Type 0} (s r : ℕ) (x old y : A) → s < r + 1 → (s < r → old ≡ y) → (s ≡ r → x ≡ y) → cond (eqb s r) x old ≡ y
row_more s r x old y below before here =
    ⊎_elim
    (λ (less : s < r). ap (λ b. cond b x old) (ne_eqb s r (λ e. omega (arith, e, less))) ∙ before less)
    (λ (from : r ≤ s). let is : s ≡ r = omega (arith, below, from) in ap (λ b. cond b x old) (eq-eqb s r is) ∙ here is)
    (cases_lt s r)

-- a table stays one
pub set_is_table : {V : Type 0} (T : CellTable V) (k : ℕ) (x : Option V) → IsCellTable T → IsCellTable (record T { cells = slice_set T.cells k x })
set_is_table T k x table = record { few = table.few; count = length-set T.cells k x ∙ table.count }
