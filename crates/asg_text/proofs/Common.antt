-- The names that proofs of this crate cite most, passed on from one place. Declares nothing.
pub use Rattle.asg_model.proofs.Kit.{All, All-append, All-cons, All-head, All-map, All-nil, All-tail, All-weaker, AllDigits, Bool, Decides-int_eq, Equal, Greater, IfSome, IsStrictlySortedBy, Less, List, None, Option, Some, [], and_from, and_parts, ap, append-nil, append_assoc, arith, cases_Bool, cases_lt, cases_order, cond, cond_both, cons_option, count_by-le-length, decimal, decimal_is_IsNumeral, digit_from_value, digits_value, div-add-mod', div-mul-add, div_below, drop, enumerate_from, eq-eqb, eqb, eqb-false, eqb-true, false, filter_map-append, flat_map, flat_map-append, get_or, get_or-append-add, get_or-map-range_with_len, get_or_append_left, int_eq, is_ascii_digit, join_with_byte, keys_of, le-leb, le-ltb, length, length-append, length-decimal-le, length-map, length-map-range_with_len, length-range_with_len, lines, list_all, map, map-append, map-id, map-map, map-range_with_len_more, mod-mul-add, mod_below, mul-add-lt, mul-le, mul-le-mul_right, mul_comm, nat_cmp, nat_cmp_is, ne_eqb, neg_ℤ, negsuc, none-some, not, option_and_then, option_map, ordering_then, pos, range_with_len, refl, signed_decimal, slice_get, slice_index_or, sorted_tail, subst, suc, sym, take, take_all, true, unsigned_abs, zero, ℕ, ℤ, ⊎_elim, ◌%◌, ◌&&◌, ◌*◌, ◌++◌, ◌+◌, ◌-◌, ◌/◌, ◌<◌, ◌==◌, ◌||◌, ◌↔◌, ◌∙◌, ◌∷◌, ◌≡◌, ◌≢◌, ◌≤◌}
pub use Rattle.asg_model.specs.Instances.{IsCostInRange, IsInstance, by_places}
pub use Rattle.asg_model.specs.Limits.{longest_file, most_columns, most_cost, most_rows}
pub use Rattle.asg_model.specs.Live.{cost_at}
pub use Rattle.asg_model.specs.Problem.{Problem, problem_of}
pub use Rattle.asg_model.specs.Table.{AreRowParts, absent, table_cost}
pub use Rattle.asg_model.specs.declared.parts.Cost.{Cost}
pub use Rattle.asg_text.specs.RectSteps.{next_text}
pub use Rattle.asg_text.specs.RectTexts.{IsPlain, cell_text, cost_text, costs_of_row, row_line, size_line, token_line}
pub use Rattle.asg_text.specs.ScriptFaults.{BadScriptLine, CostRange, ScriptFault, TooManyEdits, script_fault_of}
pub use Rattle.asg_text.specs.ScriptLines.{cost_line, cost_line_of, forbid_line_of, is_line_in_range, line_in_range, script_line_of}
pub use Rattle.asg_text.specs.Scripts.{RefusesScript, SpellsLines, TellsOfScript, faults_beyond, faults_of_line, line_faults, most_script_lines, numbered_from, numbered_line, reading_of_lines, script_faults, script_with}
pub use Rattle.asg_text.specs.declared.formats.Format.TheVariants.{Asn, Rect, Square}
pub use Rattle.asg_text.specs.declared.script_lines.Line.{Line}
pub use Rattle.asg_tokens.specs.Numbers.{integer_of, size_of}
pub use Rattle.asg_tokens.specs.Pieces.{fields, is_space, tokens}
pub use Rattle.asg_tokens.specs.Readings.{Spells, cells_of_rows, column_of, reading_with, row_of, table_of}
pub use Rattle.asg_tokens.specs.Tables.{cell_faults, cell_of, cost_faults, cost_in_range, cost_of, faults_of_cells, is_absent, is_in_range, reading_of_rect, reading_of_square, reading_of_table, size_faults, table_faults, token_faults}
pub use Rattle.asg_tokens.specs.laws.ShortLemmas.{digits_spell, minus_spells, no_colons, no_spaces, word_first}
pub use Rattle.asg_tokens.specs.laws.Spelled.{none_in_front, spelled}
pub use Rattle.std.specs.List.{filter_map}
