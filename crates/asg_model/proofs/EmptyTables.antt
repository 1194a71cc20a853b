-- Tables without a cell.
use Rattle.asg_model.proofs.Common.{◌≡◌, ℕ, zero, suc, ◌+◌, ◌*◌, [], refl, inl, Some, None, ◌∙◌, ap, All-nil, cond-true, int_eq, Decides-int_eq, filter_map, cons_option, option_map, ◌/◌, ◌%◌, enumerate_from, get_or, pos, absent, table_cell, IsEntry, Option, Cost}
use Rattle.std.proofs.Common.{replicate}
use Rattle.std.proofs.lemmas.List.{length-replicate}
use Rattle.std.proofs.lemmas.List.Elements.{All-replicate}
use Rattle.asg_model.specs.CellLists.{IsTableOf}
use Rattle.asg_model.specs.Table.{table_cells}
use Rattle.asg_model.specs.ValueRange.{IsPartInRange}

none_from : (n start count : ℕ) → filter_map (table_cell n []) (enumerate_from start (replicate count absent)) ≡ []
none_from n start zero = refl
none_from n start (suc count) =
    ap (λ (o : Option Cost). cons_option (option_map (λ cost. ((start / n, start % n), cost)) o) (filter_map (table_cell n []) (enumerate_from (start + 1) (replicate count absent))))
    (cond-true (int_eq absent absent) None (Some (record { a = absent; b = get_or [] start (pos 0) })) ((Decides-int_eq absent absent).1 refl))
    ∙ none_from n (start + 1) count

-- a table all of whose first parts are absent has no cell
pub empty_table : (rows n : ℕ) → IsTableOf rows n [] (replicate (rows * n) absent) []
unfolding table_cells
empty_table rows n = record {
  table = record {
    whole = length-replicate (rows * n) absent;
    firsts_in_range = All-replicate IsEntry (rows * n) absent (inl refl);
    seconds_in_range = All-nil IsPartInRange;
  };
  cells_are = none_from n 0 (rows * n);
}
