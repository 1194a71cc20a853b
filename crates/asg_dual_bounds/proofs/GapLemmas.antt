-- From looks over rows and columns of a table to gaps of children.
use Rattle.asg_dual_bounds.proofs.Common.{◌≡◌, ℕ, ◌+◌, ◌<◌, ◌≤◌, cond, ◌≢◌, ◌⊎◌, List, [], ◌∷◌, length, set, ◌==◌, slice_index, Some, Contains, sym, refl, ap, ◌∙◌, subst, inl, inr, ⊎_elim, arith, get_or-set_other, get_or-set_same, eq-eqb, ne_eqb, cases_eq, get_or_default, Duals, AreAbove, Bars, IsGapBelow, IsRowGapIn, IsColumnGapIn, IsColumnGapAt, AreLeasts, IsGapIn, Part, IsAllowed, AreClipped, IsRowAboveBut, Table, number_in, IsTable, IsTableOf, IsChildGap, Problem, Objective}
use Rattle.asg_dual_bounds.proofs.BoundLemmas.{contains_head, contains_tail}
use Rattle.asg_dual_bounds.proofs.TableLemmas.{number_in-within}

-- what one of a list's places has is contained
contains_at : (xs : List ℕ) (c r : ℕ) → r < length xs → slice_index xs r ≡ c → Contains xs c
contains_at xs c r h e = (r, h, get_or_default xs r c 0 h ∙ e)

-- a gap below what a room has left is one below the rises, in columns that aren't barred
pub row_gap_in : (table : Table) (answer : List ℕ) (k : ℕ) (banned : List ℕ) (duals : Duals) (low : List ℕ) (gap : ℕ) → IsTable table → ((c : ℕ) → c < table.columns → (slice_index low c ≤ slice_index duals.rises c) ⊎ (((r : ℕ) × (r < k + 1) × (slice_index answer r ≡ c)) ⊎ Contains banned c)) → IsGapBelow table k (slice_index duals.falls k) low gap → IsRowGapIn table answer k banned duals gap
row_gap_in table answer k banned duals low gap is unbarred below c x e apart free =
    ⊎_elim
    (λ (none : gap ≡ 0). inl none)
    (λ (fits : slice_index duals.falls k + gap ≤ x + slice_index low c).
    ⊎_elim
    (λ (less : slice_index low c ≤ slice_index duals.rises c). inr (omega (arith, fits, less)))
    (λ barred.
    absurd
    (⊎_elim
    (λ (taken : (r : ℕ) × (r < k + 1) × (slice_index answer r ≡ c)). apart taken.0 taken.1 taken.2)
    (λ (in_banned : Contains banned c). free in_banned)
    barred))
    (unbarred c (number_in-within table k c x is e).1))
    (below c x e)

-- clipped rises, barred once, are the rises or barred
pub open_once : (answer : List ℕ) (count : ℕ) (rises low after : List ℕ) → AreClipped rises low → Bars answer count low after → (c : ℕ) → c < length rises → (slice_index after c ≤ slice_index rises c) ⊎ ((r : ℕ) × (r < count) × (slice_index answer r ≡ c))
open_once answer count rises low after clipped bars c h =
    ⊎_elim
    (λ (same : slice_index after c ≡ slice_index low c). let less = (clipped c h).0 in inl (omega (arith, same, less)))
    (λ (barred : (r : ℕ) × (r < count) × (slice_index answer r ≡ c)). inr barred)
    (bars c)

-- the same, barred twice
pub open_twice : (answer : List ℕ) (count : ℕ) (banned rises low middle after : List ℕ) → AreClipped rises low → Bars answer count low middle → Bars banned (length banned) middle after → (c : ℕ) → c < length rises → (slice_index after c ≤ slice_index rises c) ⊎ (((r : ℕ) × (r < count) × (slice_index answer r ≡ c)) ⊎ Contains banned c)
open_twice answer count banned rises low middle after clipped bars more c h =
    ⊎_elim
    (λ (same : slice_index after c ≡ slice_index middle c).
    ⊎_elim
    (λ (less : slice_index middle c ≤ slice_index rises c). inl (omega (arith, same, less)))
    (λ (barred : (r : ℕ) × (r < count) × (slice_index answer r ≡ c)). inr (inl barred))
    (open_once answer count rises low middle clipped bars c h))
    (λ (barred : (r : ℕ) × (r < length banned) × (slice_index banned r ≡ c)). inr (inr (contains_at banned c barred.0 barred.1 barred.2)))
    (more c)

-- one more column is barred
pub open_more : (answer : List ℕ) (k : ℕ) (rises low after : List ℕ) (m column : ℕ) → column ≡ slice_index answer k → ((c : ℕ) → c < m → (slice_index low c ≤ slice_index rises c) ⊎ ((r : ℕ) × (r < k) × (slice_index answer r ≡ c))) → ((c : ℕ) → (slice_index after c ≡ slice_index low c) ⊎ (column ≡ c)) → (c : ℕ) → c < m → (slice_index after c ≤ slice_index rises c) ⊎ ((r : ℕ) × (r < k + 1) × (slice_index answer r ≡ c))
open_more answer k rises low after m column is old each c h =
    ⊎_elim
    (λ (same : slice_index after c ≡ slice_index low c).
    ⊎_elim
    (λ (less : slice_index low c ≤ slice_index rises c). inl (omega (arith, same, less)))
    (λ (barred : (r : ℕ) × (r < k) × (slice_index answer r ≡ c)). inr (barred.0, omega (arith, barred.1), barred.2))
    (old c h))
    (λ (barred : column ≡ c). inr (k, omega arith, sym is ∙ barred))
    (each c)

pub wider : {A B C : Type 0} → A ⊎ B → A ⊎ (B ⊎ C)
wider h = ⊎_elim (λ a. inl a) (λ b. inr (inl b)) h

-- one more gap is written
pub gaps_more : (Q : ℕ → ℕ → Type 0) (row k v : ℕ) (gaps : List ℕ) → k < length gaps → ((j : ℕ) → j < k → row < j → Q j (slice_index gaps j)) → Q k v → (j : ℕ) → j < k + 1 → row < j → Q j (slice_index (set gaps k v) j)
gaps_more Q row k v gaps h old new j less more =
    ⊎_elim
    (λ (same : j ≡ k). subst (λ i. Q i (slice_index (set gaps k v) i)) (sym same) (subst (λ x. Q k x) (sym (get_or-set_same gaps k v 0 h)) new))
    (λ other. subst (λ x. Q j x) (sym (get_or-set_other gaps k j v 0 other)) (old j (omega (arith, less, other)) more))
    (cases_eq j k)

-- a row gap and a column gap are a gap of the table
pub gap_in : (table : Table) (answer : List ℕ) (k : ℕ) (banned : List ℕ) (duals : Duals) (low : List ℕ) (column_gap gap : ℕ) → IsTable table → ((c : ℕ) → c < table.columns → (slice_index low c ≤ slice_index duals.rises c) ⊎ (((r : ℕ) × (r < k + 1) × (slice_index answer r ≡ c)) ⊎ Contains banned c)) → IsColumnGapIn table k (slice_index answer k) duals.falls (slice_index duals.rises (slice_index answer k)) duals.floor column_gap → (row_gap : ℕ) × (gap ≡ row_gap + column_gap) × IsGapBelow table k (slice_index duals.falls k) low row_gap → IsGapIn table answer k banned duals gap
gap_in table answer k banned duals low column_gap gap is unbarred column found = record {
  row_gap = found.0;
  column_gap = column_gap;
  both = found.1;
  row = row_gap_in table answer k banned duals low found.0 is unbarred found.2;
  column = column;
}

-- the gap of the first row and those of later ones are the gaps of all
pub pick_gap : (table : Table) (answer banned : List ℕ) (duals : Duals) (row k v : ℕ) (gaps after : List ℕ) → row < length gaps → row ≤ k → k < table.rows → IsGapIn table answer row banned duals v → ((j : ℕ) → j < row + 1 → slice_index after j ≡ slice_index (set gaps row v) j) → ((j : ℕ) → j < table.rows → row < j → IsGapIn table answer j [] duals (slice_index after j)) → IsGapIn table answer k (cond (k == row) banned []) duals (slice_index after k)
pick_gap table answer banned duals row k v gaps after h at below found before later =
    ⊎_elim
    (λ (same : k ≡ row).
    let written : slice_index after k ≡ v = before k (omega (arith, same)) ∙ ap (λ j. slice_index (set gaps row v) j) same ∙ get_or-set_same gaps row v 0 h in
    subst (λ b. IsGapIn table answer k (cond b banned []) duals (slice_index after k)) (sym (eq-eqb k row same))
    (subst (λ x. IsGapIn table answer k banned duals x) (sym written) (subst (λ i. IsGapIn table answer i banned duals v) (sym same) found)))
    (λ (other : k ≡ row → ⊥).
    subst (λ b. IsGapIn table answer k (cond b banned []) duals (slice_index after k)) (sym (ne_eqb k row other)) (later k below (omega (arith, at, other))))
    (cases_eq k row)

-- a part allows each cell of a later row, and in its own row those that aren't banned
later_allowed : (part : Part) (k j c : ℕ) → part.row ≤ k → k < j → IsAllowed part j c
later_allowed part k j c at h = record {
  fixed = λ early. absurd (omega (arith, early, h, at));
  not_banned = λ same. absurd (omega (arith, same, h, at));
}

own_allowed : (part : Part) (k c : ℕ) → part.row ≤ k → ¬ Contains (cond (k == part.row) part.banned []) c → IsAllowed part k c
own_allowed part k c at unbarred = record {
  fixed = λ early. absurd (omega (arith, early, at));
  not_banned = λ same. subst (λ b. ¬ Contains (cond b part.banned []) c) (eq-eqb k part.row same) unbarred;
}

-- a gap of a table is a gap of the instance's child
pub child_gap : (objective : Objective) (X : Problem) (part : Part) (answer : List ℕ) (k : ℕ) (table : Table) (duals : Duals) (gap : ℕ) → IsTable table → IsTableOf objective X table → AreAbove objective X part duals → part.row ≤ k → slice_index answer k < table.columns → IsGapIn table answer k (cond (k == part.row) part.banned []) duals gap → IsChildGap objective X part answer k duals gap
child_gap objective X part answer k table duals gap is of above at column found = record {
  row_gap = found.row_gap;
  column_gap = found.column_gap;
  both = found.both;
  row = λ c x e allowed apart.
      let there : number_in table k c ≡ Some x = sym (of.numbers k c) ∙ e in
      let free = allowed.not_banned refl in
      let own : slice_index answer k ≢ c = λ same. free (subst (λ j. Contains (slice_index answer k ∷ cond (k == part.row) part.banned []) j) same (contains_head (slice_index answer k) (cond (k == part.row) part.banned []))) in
      let unbarred : ¬ Contains (cond (k == part.row) part.banned []) c = λ h. free (contains_tail (slice_index answer k) c (cond (k == part.row) part.banned []) h) in
      let others : (r : ℕ) → r < k + 1 → slice_index answer r ≢ c = λ r h. ⊎_elim (λ (same : r ≡ k). subst (λ i. slice_index answer i ≢ c) (sym same) own) (λ other. apart r (omega (arith, h, other))) (cases_eq r k) in
      ⊎_elim
      (λ (none : found.row_gap ≡ 0).
      let old : slice_index duals.falls k ≤ x + slice_index duals.rises c = above.cells k c x e (own_allowed part k c at unbarred) in
      omega (arith, none, old))
      (λ (fits : slice_index duals.falls k + found.row_gap ≤ x + slice_index duals.rises c). fits)
      (found.row c x there others unbarred);
  column = record {
    cells = λ j x h e.
        let there : number_in table j (slice_index answer k) ≡ Some x = sym (of.numbers j (slice_index answer k)) ∙ e in
        ⊎_elim
        (λ (none : found.column_gap ≡ 0).
        let old : slice_index duals.falls j ≤ x + slice_index duals.rises (slice_index answer k) = above.cells j (slice_index answer k) x e (later_allowed part k j (slice_index answer k) at h) in
        omega (arith, none, old))
        (λ (fits : slice_index duals.falls j + found.column_gap ≤ x + slice_index duals.rises (slice_index answer k)). fits)
        (found.column.cells j (number_in-within table j (slice_index answer k) x is there).0 h x there);
    floored =
        ⊎_elim
        (λ (none : found.column_gap ≡ 0).
        let old : duals.floor ≤ slice_index duals.rises (slice_index answer k) = above.floored (slice_index answer k) (omega (arith, column, of.columns)) in
        omega (arith, none, old))
        (λ (fits : duals.floor + found.column_gap ≤ slice_index duals.rises (slice_index answer k)). fits)
        found.column.floored;
  };
}

-- ---- from the last row up

-- what a lesser number keeps
lessened : (before after fall reach : ℕ) → after ≤ before → (before ≡ 0) ⊎ (fall + before ≤ reach) → (after ≡ 0) ⊎ (fall + after ≤ reach)
lessened before after fall reach less old =
    ⊎_elim
    (λ (none : before ≡ 0). inl (omega (arith, less, none)))
    (λ (fits : fall + before ≤ reach). inr (omega (arith, less, fits)))
    old

-- one more row lessens what columns have
pub leasts_more : (table : Table) (done k : ℕ) (falls low before after : List ℕ) → k + (done + 1) ≡ table.rows → AreLeasts table done falls low before → ((c : ℕ) → slice_index after c ≤ slice_index before c) → ((c x : ℕ) → number_in table k c ≡ Some x → (slice_index after c ≡ 0) ⊎ (slice_index falls k + slice_index after c ≤ x + slice_index low c)) → AreLeasts table (done + 1) falls low after
leasts_more table done k falls low before after is old less new j c x h at e =
    ⊎_elim
    (λ (same : j ≡ k). subst (λ i. (slice_index after c ≡ 0) ⊎ (slice_index falls i + slice_index after c ≤ x + slice_index low c)) (sym same) (new c x (subst (λ i. number_in table i c ≡ Some x) same e)))
    (λ (other : j ≡ k → ⊥). lessened (slice_index before c) (slice_index after c) (slice_index falls j) (x + slice_index low c) (less c) (old j c x h (omega (arith, at, is, other)) e))
    (cases_eq j k)

-- what a column has is a gap of its row, where it is one over the floor
pub column_gap_at : (table : Table) (answer : List ℕ) (done k : ℕ) (duals : Duals) (low leasts : List ℕ) (gap : ℕ) → k + (done + 1) ≡ table.rows → AreClipped duals.rises low → AreLeasts table done duals.falls low leasts → slice_index answer k < length duals.rises → gap ≤ slice_index leasts (slice_index answer k) → gap < 4294967296 → (gap ≡ 0) ⊎ (duals.floor + gap ≤ slice_index duals.rises (slice_index answer k)) → IsColumnGapAt table answer k duals gap
column_gap_at table answer done k duals low leasts gap is clipped old column least few floored = (
  few,
  record {
    cells = λ j h m x e.
        ⊎_elim
        (λ (none : slice_index leasts (slice_index answer k) ≡ 0). inl (omega (arith, least, none)))
        (λ (fits : slice_index duals.falls j + slice_index leasts (slice_index answer k) ≤ x + slice_index low (slice_index answer k)).
        let less = (clipped (slice_index answer k) column).0 in inr (omega (arith, fits, least, less)))
        (old j (slice_index answer k) x h (omega (arith, m, is)) e);
    floored = floored;
  },
)

-- one more gap is written, from the last one up
pub gaps_down : (Q : ℕ → ℕ → Type 0) (rows done k v : ℕ) (gaps : List ℕ) → k + (done + 1) ≡ rows → k < length gaps → ((j : ℕ) → j < rows → rows ≤ j + done → Q j (slice_index gaps j)) → Q k v → (j : ℕ) → j < rows → rows ≤ j + (done + 1) → Q j (slice_index (set gaps k v) j)
gaps_down Q rows done k v gaps is h old new j below at =
    ⊎_elim
    (λ (same : j ≡ k). subst (λ i. Q i (slice_index (set gaps k v) i)) (sym same) (subst (λ x. Q k x) (sym (get_or-set_same gaps k v 0 h)) new))
    (λ (other : j ≡ k → ⊥). subst (λ x. Q j x) (sym (get_or-set_other gaps k j v 0 other)) (old j below (omega (arith, at, is, other))))
    (cases_eq j k)

-- ---- the row that loses its column

-- clipped rises, barred in a column and in others, are the rises or barred
own_open : (own : ℕ) (banned rises low middle after : List ℕ) → AreClipped rises low → ((c : ℕ) → (slice_index middle c ≡ slice_index low c) ⊎ (own ≡ c)) → Bars banned (length banned) middle after → (c : ℕ) → c < length rises → (slice_index after c ≤ slice_index rises c) ⊎ ((own ≡ c) ⊎ Contains banned c)
own_open own banned rises low middle after clipped first more c h =
    ⊎_elim
    (λ (same : slice_index after c ≡ slice_index middle c).
    ⊎_elim
    (λ (as_low : slice_index middle c ≡ slice_index low c). let less = (clipped c h).0 in inl (omega (arith, same, as_low, less)))
    (λ (barred : own ≡ c). inr (inl barred))
    (first c))
    (λ (barred : (r : ℕ) × (r < length banned) × (slice_index banned r ≡ c)). inr (inr (contains_at banned c barred.0 barred.1 barred.2)))
    (more c)

-- a row's numbers are at least the fall with barred rises: so they are with the rises, but for
-- barred columns
pub own_above : (table : Table) (k own fall : ℕ) (banned rises low middle after : List ℕ) → IsTable table → length rises ≡ table.columns → AreClipped rises low → ((c : ℕ) → (slice_index middle c ≡ slice_index low c) ⊎ (own ≡ c)) → Bars banned (length banned) middle after → ((c x : ℕ) → number_in table k c ≡ Some x → fall ≤ x + slice_index after c) → IsRowAboveBut table k fall rises own banned
own_above table k own fall banned rises low middle after is wide clipped first more above c apart free x e =
    ⊎_elim
    (λ (less : slice_index after c ≤ slice_index rises c). let high = above c x e in omega (arith, high, less))
    (λ (barred : (own ≡ c) ⊎ Contains banned c). absurd (⊎_elim (λ (same : own ≡ c). apart (sym same)) (λ (in_banned : Contains banned c). free in_banned) barred))
    (own_open own banned rises low middle after clipped first more c (omega (arith, (number_in-within table k c x is e).1, wide)))
