-- The cells of a table of which one was changed.
use Rattle.std.specs.Prelude.{◌≡◌, ◌≢◌, ℕ, ◌+◌, ◌*◌, ◌<◌, ◌≤◌, true, false, ◌&&◌, eqb, cond, Option, None, List, length, get_or, slice_set}
use Rattle.std.proofs.Common.{sym, ap, ◌∙◌, ⊎_elim, arith, set}
use Rattle.std.proofs.lemmas.Bool.{cases_Bool, cases_lt, lt-ltb, le-ltb, false≢true}
use Rattle.std.proofs.lemmas.Bool.Decides.{Decides-eqb}
use Rattle.std.proofs.lemmas.List.{get_or-set_same, get_or-set_other}
use Rattle.std.proofs.lemmas.Nat.{mul-add-lt}
use Rattle.asg_bit_rows.specs.laws.Places.{same_place, place_hit, place_missed}
use Rattle.asg_cell_tables.specs.CellTable.{entry_at}

entry_inside : {V : Type 0} (side : ℕ) (cells : List (Option V)) (s d : ℕ) → d < side → entry_at side cells s d ≡ get_or cells (s * side + d) None
entry_inside side cells s d h = ap (λ b. cond b (get_or cells (s * side + d) None) None) (lt-ltb d side h)

entry_past : {V : Type 0} (side : ℕ) (cells : List (Option V)) (s d : ℕ) → side ≤ d → entry_at side cells s d ≡ None
entry_past side cells s d h = ap (λ b. cond b (get_or cells (s * side + d) None) None) (le-ltb d side h)

-- the cells of a table after one of them was changed
pub entry_at-set : {V : Type 0} (side : ℕ) (cells : List (Option V)) (r c : ℕ) (x : Option V) (s d : ℕ) → length cells ≡ side * side → r < side → c < side → entry_at side (slice_set cells (r * side + c) x) s d ≡ cond (eqb s r && eqb d c) x (entry_at side cells s d)
entry_at-set side cells r c x s d size h k =
    ⊎_elim
    (λ (within : d < side).
    ⊎_elim
    (λ (same : eqb (s * side + d) (r * side + c) ≡ true).
    let e = (Decides-eqb (s * side + d) (r * side + c)).0 same in
    let is = same_place side s d r c within k e in
    let below = mul-add-lt r side c side h k in
    entry_inside side (set cells (r * side + c) x) s d within
    ∙ ap (λ n. get_or (set cells (r * side + c) x) n None) e
    ∙ get_or-set_same cells (r * side + c) x None (omega (arith, below, size))
    ∙ sym (place_hit s r d c x (entry_at side cells s d) is.0 is.1))
    (λ (other : eqb (s * side + d) (r * side + c) ≡ false).
    let apart : s * side + d ≢ r * side + c = λ e. false≢true (sym other ∙ (Decides-eqb (s * side + d) (r * side + c)).1 e) in
    entry_inside side (set cells (r * side + c) x) s d within
    ∙ get_or-set_other cells (r * side + c) (s * side + d) x None apart
    ∙ sym (entry_inside side cells s d within)
    ∙ sym (place_missed s r d c x (entry_at side cells s d) (λ row column. apart (ap (λ n. n * side + d) row ∙ ap (λ n. r * side + n) column))))
    (cases_Bool (eqb (s * side + d) (r * side + c))))
    (λ (past : side ≤ d).
    entry_past side (set cells (r * side + c) x) s d past
    ∙ sym (entry_past side cells s d past)
    ∙ sym (place_missed s r d c x (entry_at side cells s d) (λ row column. absurd (omega (arith, column, k, past)))))
    (cases_lt d side)
