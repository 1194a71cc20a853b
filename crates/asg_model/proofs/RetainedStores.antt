-- Stores of whose cells some are taken out.
use Rattle.asg_model.proofs.Common.{◌≡◌, ℕ, suc, ◌+◌, ◌/◌, ◌%◌, ◌<◌, ◌≤◌, Bool, true, false, cond, List, [], ◌∷◌, ◌++◌, length, get_or, set, ℤ, pos, Some, None, All, Option, Vec, option_map, filter_map, int_eq, Global, sym, refl, ap, ◌∙◌, subst, inl, ⊎_elim, add-zero, arith, length-set, get_or-set_other, get_or-set_same, All-from_get_or, All-head, All-same, All-tail, Decides-int_eq, FoldsTo, cases_eq, cond-true, cons_option, enumerate_from, cells_in, IsStored, IsCellStore, stored_problem, IsCostInRange, problem_of, retained, AnswersAs, RetainsCells, absent, table_cost, table_cell, IsEntry, IsTable, RetainsFirsts, CellStore, Table, Column, Cost, Place, Row, IsInstance-cells, AreCellsOf-instance, All-retained, kept_from_answers}
use Rattle.std.specs.Map.Calls.{SomeCallAtPair, CallableOnEachPair, RetainsPairs}
use Rattle.asg_model.specs.Table.{table_cells}
use Rattle.asg_model.proofs.Tables.{cells_ascend}

abbrev Cell : Type 0
Cell = (ℕ × ℕ) × Cost

-- ---- cells of a map: T is a call of the closure f, which stays as it is
module _ {F : Type 0} (T : F → ℕ × ℕ → Cost → Bool → Cost → F → Type 0) (f : F) where
  same_after : (before : List Cell) (last : F) → ((k : ℕ × ℕ) (v : Cost) (b : Bool) (w : Cost) (g : F) → T f k v b w g → g ≡ f) → FoldsTo (SomeCallAtPair T) f before last → last ≡ f
  same_after [] last says calls = sym calls
  same_after (cell ∷ before) last says calls =
      same_after before last says (subst (λ g. FoldsTo (SomeCallAtPair T) g before last) (says cell.0 cell.1 calls.1.0 calls.1.1 calls.0 calls.1.2) calls.2)

  middle : (P : Cell → Type 0) (before after : List Cell) (cell : Cell) → All P (before ++ cell ∷ after) → P cell
  middle P [] after cell all = All-head P cell after all
  middle P (first ∷ before) after cell all = middle P before after cell (All-tail P first (before ++ cell ∷ after) all)

  -- it may be called at each cell
  pub callable_on_each : (Q : F → ℕ × ℕ → Cost → Type 0) (may : ℕ × ℕ → Type 0) (cells : List Cell) → ((k : ℕ × ℕ) (v : Cost) (b : Bool) (w : Cost) (g : F) → T f k v b w g → g ≡ f) → ((k : ℕ × ℕ) (v : Cost) → may k → Q f k v) → All (λ cell. may cell.0) cells → CallableOnEachPair T Q f cells
  callable_on_each Q may cells says takes all = record {
    at = λ before after last k v is calls.
        subst (λ g. Q g k v) (sym (same_after before last says calls))
        (takes k v (middle (λ cell. may cell.0) before after (k, v) (All-same (λ cell. may cell.0) (before ++ (k, v) ∷ after) cells (sym is) all)));
  }

  -- what it leaves
  pub RetainsCells-pairs : (answers : ℕ → ℕ → Bool → Type 0) → ((k : ℕ × ℕ) (v : Cost) (b : Bool) (w : Cost) (g : F) → T f k v b w g → answers k.0 k.1 b × (w ≡ v) × (g ≡ f)) → (cells after : List Cell) → RetainsPairs T f cells after → RetainsCells answers cells after
  RetainsCells-pairs answers says [] after r = r
  RetainsCells-pairs answers says (cell ∷ cells) after r =
      let said = says cell.0 cell.1 r.0 r.1 r.2 r.4 in (
        r.0,
        r.3,
        said.0,
        RetainsCells-pairs answers says cells r.3 (subst (λ g. RetainsPairs T g cells r.3) said.2 r.5),
        r.6 ∙ ap (λ w. cond r.0 ((cell.0, w) ∷ r.3) r.3) said.1,
      )

-- ---- cells of a table
module _ (answers : ℕ → ℕ → Bool → Type 0) (n : ℕ) where
  keep_front : (b : Bool) (o : Option Cost) (place : ℕ × ℕ) → answers place.0 place.1 b → (rest after : List Cell) → RetainsCells answers rest after → RetainsCells answers (cons_option (option_map (λ cost. (place, cost)) o) rest) (cons_option (option_map (λ cost. (place, cost)) (cond b o None)) after)
  keep_front true None place said rest after r = r
  keep_front true (Some cost) place said rest after r = (true, after, said, r, refl)
  keep_front false None place said rest after r = r
  keep_front false (Some cost) place said rest after r = (false, after, said, r, refl)

  cost_kept : (seconds : List ℤ) (k : ℕ) (b : Bool) (a : ℤ) → table_cost seconds k (cond b a absent) ≡ cond b (table_cost seconds k a) None
  cost_kept seconds k true a = refl
  cost_kept seconds k false a =
      cond-true (int_eq absent absent) None (Some (record { a = absent; b = get_or seconds k (pos 0) })) ((Decides-int_eq absent absent).1 refl)

  -- of the first parts from an index on those stay at whose places the answer is true
  abbrev KeepsFrom : ℕ → List ℤ → List ℤ → Type 0
  KeepsFrom start firsts after =
      (k : ℕ) → k < length firsts → (b : Bool) × answers ((start + k) / n) ((start + k) % n) b × (get_or after k absent ≡ cond b (get_or firsts k absent) absent)

  cells_kept : (seconds : List ℤ) (start : ℕ) (firsts after : List ℤ) → length after ≡ length firsts → KeepsFrom start firsts after
      → RetainsCells answers (filter_map (table_cell n seconds) (enumerate_from start firsts)) (filter_map (table_cell n seconds) (enumerate_from start after))
  cells_kept seconds start [] [] size each = refl
  cells_kept seconds start [] (x ∷ after) size each = absurd (omega (arith, size))
  cells_kept seconds start (a ∷ firsts) [] size each = absurd (omega (arith, size))
  cells_kept seconds start (a ∷ firsts) (x ∷ after) size each =
      let head = each 0 (omega arith) in
      let said : answers (start / n) (start % n) head.0 = subst (λ j. answers (j / n) (j % n) head.0) (add-zero start) head.1 in
      let cost : table_cost seconds start x ≡ cond head.0 (table_cost seconds start a) None = ap (table_cost seconds start) head.2 ∙ cost_kept seconds start head.0 a in
      let more = cells_kept seconds (start + 1) firsts after (omega (arith, size))
      (λ k h.
      let one = each (suc k) (omega arith) in
      let j : start + suc k ≡ start + 1 + k = omega arith in (
        one.0,
        subst (λ j. answers (j / n) (j % n) one.0) j one.1,
        one.2,
      )) in
      subst (λ o. RetainsCells answers (filter_map (table_cell n seconds) (enumerate_from start (a ∷ firsts))) (cons_option (option_map (λ cost. ((start / n, start % n), cost)) o) (filter_map (table_cell n seconds) (enumerate_from (start + 1) after)))) (sym cost)
      (keep_front head.0 (table_cost seconds start a) (start / n, start % n) said _ _ more)

  -- what is left of the cells
  pub RetainsCells-table : (firsts after seconds : List ℤ) → RetainsFirsts answers n firsts after → RetainsCells answers (table_cells n firsts seconds) (table_cells n after seconds)
  unfolding table_cells
  RetainsCells-table firsts after seconds r =
      cells_kept seconds 0 firsts after r.count
      (λ k h.
      let one = r.each k h in
      let j : k ≡ 0 + k = omega arith in (
        one.0,
        subst (λ j. answers (j / n) (j % n) one.0) j one.1,
        one.2,
      ))

  entry_kept : (b : Bool) (a : ℤ) → IsEntry a → IsEntry (cond b a absent)
  entry_kept true a is = is
  entry_kept false a is = inl refl

  -- the table is whole
  pub IsTable-retained : (rows : ℕ) (firsts after seconds : List ℤ) → RetainsFirsts answers n firsts after → IsTable rows n firsts seconds → IsTable rows n after seconds
  IsTable-retained rows firsts after seconds r table = record {
    whole = r.count ∙ table.whole;
    firsts_in_range = All-from_get_or IsEntry after absent
        (λ k h.
        let within : k < length firsts = omega (arith, h, r.count) in
        let one = r.each k within in
        subst IsEntry (sym one.2) (entry_kept one.0 (get_or firsts k absent) (table.firsts_in_range k absent within)));
    seconds_in_range = table.seconds_in_range;
  }

  -- it is a store of cells of so many rows and columns
  pub IsCellStore-table : (rows : ℕ) (firsts after seconds : Vec ℤ Global) → RetainsFirsts answers n firsts.items after.items → IsCellStore rows n (Table firsts seconds) → IsCellStore rows n (Table after seconds)
  IsCellStore-table rows firsts after seconds r store =
      let table = IsTable-retained rows firsts.items after.items seconds.items r store.whole in
      record {
        whole = table;
        cells = All-retained answers (λ cell. ((cell.0.0 < rows) × (cell.0.1 < n)) × IsCostInRange cell.1) (table_cells n firsts.items seconds.items) (table_cells n after.items seconds.items) (RetainsCells-table firsts.items after.items seconds.items r) store.cells;
        ascend = cells_ascend rows n after.items seconds.items table.whole;
      }

  -- the same, of the first parts before an index; those from it on are as before
  pub record KeptTo (firsts now : List ℤ) (i : ℕ) : Type 0 where
    pub count : length now ≡ length firsts
    pub each : (k : ℕ) → k < i → k < length firsts → (b : Bool) × answers (k / n) (k % n) b × (get_or now k absent ≡ cond b (get_or firsts k absent) absent)
    pub others : (k : ℕ) → i ≤ k → get_or now k absent ≡ get_or firsts k absent

  pub none_kept : (firsts : List ℤ) → KeptTo firsts firsts 0
  none_kept firsts = record {
    count = refl;
    each = λ k h within. absurd (omega (arith, h));
    others = λ k h. refl;
  }

  -- one more index
  pub kept_more : (firsts now after : List ℤ) (i : ℕ) (b : Bool) → i < length now → after ≡ cond b now (set now i absent) → answers (i / n) (i % n) b → KeptTo firsts now i → KeptTo firsts after (i + 1)
  kept_more firsts now after i true below is said kept =
      subst (λ xs. KeptTo firsts xs (i + 1)) (sym is)
      (record {
        count = kept.count;
        each = λ k h within.
            ⊎_elim
            (λ (here : k ≡ i).
            subst (λ j. (b : Bool) × answers (j / n) (j % n) b × (get_or now j absent ≡ cond b (get_or firsts j absent) absent)) (sym here)
            (true, said, kept.others i (omega arith)))
            (λ (apart : k ≡ i → ⊥). kept.each k (omega (arith, h, apart)) within)
            (cases_eq k i);
        others = λ k h. kept.others k (omega (arith, h));
      })
  kept_more firsts now after i false below is said kept =
      subst (λ xs. KeptTo firsts xs (i + 1)) (sym is)
      (record {
        count = length-set now i absent ∙ kept.count;
        each = λ k h within.
            ⊎_elim
            (λ (here : k ≡ i).
            subst (λ j. (b : Bool) × answers (j / n) (j % n) b × (get_or (set now i absent) j absent ≡ cond b (get_or firsts j absent) absent)) (sym here)
            (false, said, get_or-set_same now i absent absent below))
            (λ (apart : k ≡ i → ⊥).
            let before = kept.each k (omega (arith, h, apart)) within in
            (before.0, before.1, get_or-set_other now i k absent absent apart ∙ before.2))
            (cases_eq k i);
        others = λ k h. get_or-set_other now i k absent absent (λ e. omega (arith, e, h)) ∙ kept.others k (omega (arith, h));
      })

  pub all_kept : (firsts now : List ℤ) (i : ℕ) → length firsts ≤ i → KeptTo firsts now i → RetainsFirsts answers n firsts now
  all_kept firsts now i whole kept = record { count = kept.count; each = λ k h. kept.each k (omega (arith, h, whole)) h }

-- ---- an instance
module _ (rows : List Row) (columns : List Column) (store : CellStore) (place : Place) where
  -- the store of an instance
  pub IsCellStore-stored : IsStored rows columns store place → IsCellStore (length rows) (length columns) store
  IsCellStore-stored s = record {
    whole = s.whole;
    cells = AreCellsOf-instance (stored_problem rows columns store place) s.instance;
    ascend = s.instance.cells_ascend;
  }

  module _ (after : CellStore) where
    -- another store of cells makes an instance
    pub IsStored-store : IsStored rows columns store place → IsCellStore (length rows) (length columns) after → IsStored rows columns after place
    IsStored-store s are = record {
      instance = IsInstance-cells (stored_problem rows columns store place) (cells_in (length columns) after) s.instance are.cells are.ascend;
      whole = are.whole;
    }

    -- and what contracts see of it
    pub retained_view : (answers : ℕ → ℕ → Bool → Type 0) (keeps : ℕ × ℕ → Bool) → IsStored rows columns store place → RetainsCells answers (cells_in (length columns) store) (cells_in (length columns) after) → AnswersAs (length rows) (length columns) answers keeps
        → stored_problem rows columns after place ≡ retained (stored_problem rows columns store place) keeps
    retained_view answers keeps s r agree =
        ap (λ cells. problem_of rows columns cells place)
        (kept_from_answers answers (length rows) (length columns) keeps (cells_in (length columns) store) (cells_in (length columns) after) (IsCellStore-stored s).cells agree r)
