-- Both parts of the costs of a row of a table, as they are cut from the table.
use Rattle.asg_model.proofs.Common.{◌≡◌, ℕ, ◌+◌, ◌-◌, ◌*◌, ◌<◌, ◌≤◌, min, cond, List, length, get_or, take, drop, ℤ, pos, Some, None, option_and_then, int_eq, sym, ap, ◌∙◌, ⊎_elim, arith, length-drop, length-take, length-take-le, get_or-drop, get_or-take, cases_lt, get_or_past, slice_get-get_or, absent, table_cost, AreTableParts}
use Rattle.asg_model.proofs.Tables.{cost_at-table, row_end}

-- the second parts of a row, cut from those of the table as far as they go
pub seconds_of_row : (n : ℕ) (seconds : List ℤ) (start from end c : ℕ) → from ≡ min start (length seconds) → end ≡ min (start + n) (length seconds) → c < n → get_or (take (end - from) (drop from seconds)) c (pos 0) ≡ get_or seconds (start + c) (pos 0)
seconds_of_row n seconds start from end c first last within =
    ⊎_elim
    (λ (inside : start + c < length seconds).
    get_or-take (end - from) (drop from seconds) c (pos 0) (omega (arith, first, last, inside)) ∙ get_or-drop from seconds c (pos 0) ∙ ap (λ k. get_or seconds (k + c) (pos 0)) (omega (arith, first, inside)))
    (λ (past : length seconds ≤ start + c).
    get_or_past (take (end - from) (drop from seconds)) c (pos 0) (omega (arith, length-take (end - from) (drop from seconds), length-drop from seconds, first, last, past))
    ∙ sym (get_or_past seconds (start + c) (pos 0) past))
    (cases_lt (start + c) (length seconds))

-- the first parts of a row, cut from those of the table, and second parts that agree with the
-- table's
pub AreTableParts-row : (rows n : ℕ) (firsts seconds : List ℤ) (r : ℕ) (row_seconds : List ℤ) → length firsts ≡ rows * n → r < rows → ((c : ℕ) → c < n → get_or row_seconds c (pos 0) ≡ get_or seconds (r * n + c) (pos 0)) → AreTableParts n firsts seconds r (take n (drop (r * n) firsts)) row_seconds
AreTableParts-row rows n firsts seconds r row_seconds whole there same =
    let start = r * n in
    let behind : start + n ≤ length firsts = omega (arith, whole, row_end r rows n there) in
    record {
      whole = length-take-le n (drop start firsts) (omega (arith, length-drop start firsts, behind));
      costs = λ c within.
          let k = start + c in
          let a = get_or firsts k absent in
          let at : get_or (take n (drop start firsts)) c absent ≡ a = get_or-take n (drop start firsts) c absent within ∙ get_or-drop start firsts c absent in
          cost_at-table n firsts seconds r c within
          ∙ ap (option_and_then (table_cost seconds k)) (slice_get-get_or firsts k absent (omega (arith, behind)))
          ∙ ap (λ b. cond (int_eq a absent) None (Some (record { a = a; b = b }))) (sym (same c within))
          ∙ ap (table_cost row_seconds c) (sym at);
    }
