-- The two lists of a matching and the set of its free columns, after a change to all.
use Rattle.asg_match.proofs.Common.{◌≡◌, ℕ, ◌<◌, ◌≢◌, ◌⊎◌, ◌↔◌, List, length, set, replicate, Some, None, Option, sym, refl, ap, ◌∙◌, subst, inl, inr, ⊎_elim, length-set, get_or-set_other, get_or-set_same, cases_eq, get_or-replicate, length-replicate, none-some, same_Some, HasColumn, IsColumnSet, column_at, Matches, IsMatching, IsFree, IsPaired, AreFree, Matches-below, Matches-empty, Matches-set_cases, Matches-set_other}

-- the list by rows is a matching
pub IsMatching-from_paired : {side : ℕ} {columns rows : List (Option ℕ)} → IsPaired side columns rows → IsMatching columns
IsMatching-from_paired {columns = columns} {rows = rows} p =
    record {
      below = λ r c e. subst (λ n. c < n) (p.rows_len ∙ sym p.columns_len) (Matches-below rows c r (p.forth r c e));
      apart = λ r s c e f. same_Some r s (sym (p.forth r c e) ∙ p.forth s c f);
    }

-- no row has a column
pub IsPaired-empty : (side : ℕ) → IsPaired side (replicate side None) (replicate side None)
IsPaired-empty side =
    record {
      columns_len = length-replicate side None;
      rows_len = length-replicate side None;
      forth = λ r c e. absurd (Matches-empty side r c e);
      back = λ r c e. absurd (Matches-empty side c r e);
    }

-- a free column for a row that has none
pub IsPaired-set : {side : ℕ} {columns rows : List (Option ℕ)} (r c : ℕ) → IsPaired side columns rows → r < length columns → c < length rows → column_at columns r ≡ None → column_at rows c ≡ None → IsPaired side (set columns r (Some c)) (set rows c (Some r))
IsPaired-set {columns = columns} {rows = rows} r c p row_within column_within row_free column_free =
    record {
      columns_len = length-set columns r (Some c) ∙ p.columns_len;
      rows_len = length-set rows c (Some r) ∙ p.rows_len;
      forth = λ s d f.
          ⊎_elim
          (λ q. subst (λ e. Matches (set rows c (Some r)) e s) (same_Some c d q.1) (subst (Matches (set rows c (Some r)) c) (sym q.0) (get_or-set_same rows c (Some r) None column_within)))
          (λ q. Matches-set_other rows c (Some r) d s (λ t. none-some s (sym column_free ∙ subst (λ e. Matches rows e s) t (p.forth s d q.1))) (p.forth s d q.1))
          (Matches-set_cases columns r (Some c) s d f);
      back = λ s d f.
          ⊎_elim
          (λ q. subst (λ e. Matches (set columns r (Some c)) e d) (same_Some r s q.1) (subst (Matches (set columns r (Some c)) r) (sym q.0) (get_or-set_same columns r (Some c) None row_within)))
          (λ q. Matches-set_other columns r (Some c) s d (λ t. none-some d (sym row_free ∙ subst (λ e. Matches columns e d) t (p.back s d q.1))) (p.back s d q.1))
          (Matches-set_cases rows c (Some r) d s f);
    }

-- a row and its column, cleared on both sides
pub IsPaired-clear : {side : ℕ} {columns rows : List (Option ℕ)} (r c : ℕ) → IsPaired side columns rows → Matches columns r c → IsPaired side (set columns r None) (set rows c None)
IsPaired-clear {columns = columns} {rows = rows} r c p e =
    record {
      columns_len = length-set columns r None ∙ p.columns_len;
      rows_len = length-set rows c None ∙ p.rows_len;
      forth = λ s d f.
          ⊎_elim
          (λ q. absurd (none-some d q.1))
          (λ q. Matches-set_other rows c None d s (λ t. q.0 (same_Some s r (sym (p.forth s d q.1) ∙ (ap (column_at rows) t ∙ p.forth r c e)))) (p.forth s d q.1))
          (Matches-set_cases columns r None s d f);
      back = λ s d f.
          ⊎_elim
          (λ q. absurd (none-some s q.1))
          (λ q. Matches-set_other columns r None s d (λ t. q.0 (same_Some d c (sym (p.back s d q.1) ∙ (ap (column_at columns) t ∙ e)))) (p.back s d q.1))
          (Matches-set_cases rows c None d s f);
    }

-- all columns are free where no row has one
pub AreFree-empty : (side : ℕ) (free : List ℕ) → IsColumnSet side free → ((c : ℕ) → c < side → HasColumn free c) → AreFree side (replicate side None) free
AreFree-empty side free is_set all =
    record {
      set = is_set;
      exact = λ c h. (λ _. get_or-replicate side c None None h, λ _. all c h);
    }

-- a free column that a row took
pub AreFree-taken : {side : ℕ} {rows : List (Option ℕ)} {free : List ℕ} (after : List ℕ) (r c : ℕ) → AreFree side rows free → c < length rows → IsColumnSet side after → ((d : ℕ) → HasColumn after d ↔ (HasColumn free d × (d ≢ c))) → AreFree side (set rows c (Some r)) after
AreFree-taken {rows = rows} after r c f within is_set others =
    record {
      set = is_set;
      exact = λ d h. (
        λ has. let both = (others d).0 has in get_or-set_other rows c d (Some r) None both.1 ∙ (f.exact d h).0 both.0,
        λ none.
            ⊎_elim
            (λ same. absurd (none-some r (sym none ∙ (ap (column_at (set rows c (Some r))) same ∙ get_or-set_same rows c (Some r) None within))))
            (λ other. (others d).1 ((f.exact d h).1 (sym (get_or-set_other rows c d (Some r) None other) ∙ none), other))
            (cases_eq d c),
      );
    }

-- a column that a row left
pub AreFree-left : {side : ℕ} {rows : List (Option ℕ)} {free : List ℕ} (after : List ℕ) (c : ℕ) → AreFree side rows free → c < length rows → IsColumnSet side after → ((d : ℕ) → HasColumn after d ↔ (HasColumn free d ⊎ (d ≡ c))) → AreFree side (set rows c None) after
AreFree-left {side = side} {rows = rows} {free = free} after c f within is_set others =
    record {
      set = is_set;
      exact = λ d h. (
        λ has.
            ⊎_elim
            (λ same. ap (column_at (set rows c None)) same ∙ get_or-set_same rows c None None within)
            (λ other.
            get_or-set_other rows c d None None other
            ∙ (f.exact d h).0 (⊎_elim (λ (had : HasColumn free d). had) (λ e. absurd (other e)) ((others d).0 has)))
            (cases_eq d c),
        λ none.
            ⊎_elim
            (λ same. (others d).1 (inr same))
            (λ other. (others d).1 (inl ((f.exact d h).1 (sym (get_or-set_other rows c d None None other) ∙ none))))
            (cases_eq d c),
      );
    }

None-from_never : (o : Option ℕ) → ((r : ℕ) → o ≡ Some r → ⊥) → o ≡ None
None-from_never None never = refl
None-from_never (Some r) never = absurd (never r refl)

-- no row has a column exactly where none is listed for it
pub IsFree-listed : {side : ℕ} {columns rows : List (Option ℕ)} → IsPaired side columns rows → (c : ℕ) → (column_at rows c ≡ None) ↔ IsFree columns c
IsFree-listed {columns = columns} {rows = rows} p c = (
  λ none r e. none-some r (sym none ∙ p.forth r c e),
  λ free. None-from_never (column_at rows c) (λ r e. free r (p.back r c e)),
)
