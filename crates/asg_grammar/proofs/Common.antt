-- The names that proofs of this crate cite most, passed on from one place. Declares nothing.
pub use Rattle.std.proofs.Common.{◌≡◌, ℕ, suc, ◌+◌, ◌-◌, ◌*◌, ◌/◌, ◌%◌, ◌^◌, ◌<◌, ◌≤◌, true, false, ltb, ◌≢◌, List, [], ◌∷◌, ◌++◌, length, get_or, take, drop, ℤ, pos, negsuc, SomeIff, IsErr, FitsSigned, Some, None, Ok, Err, Option, Result, sym, refl, ap, ◌∙◌, subst, inl, inr, append_assoc, arith, lit≤, Bor}
pub use Rattle.asg_grammar.specs.Lines.{IsCutAt, Lacks, line_ends, whole_lines}
pub use Rattle.asg_grammar.specs.NumberLists.{AreNumbers, IsNumberList}
pub use Rattle.asg_grammar.specs.Parts.{one_line}
pub use Rattle.asg_grammar.specs.Reading.{IsRead, ReadsLine}
pub use Rattle.asg_grammar.specs.Spellings.{IsPair, IsPlain, ListsFirst, Spells, behind, list_spelling, long_pair_spelling, long_spelling, number_spelling, pair_spelling, pair_text, signed_spelling, spaced}
pub use Rattle.asg_grammar.specs.laws.JoinLaws.{IsLegible-long_pair, IsLegible-signed_pair, after_cut, graded_cut, long_pair_cut, signed_pair_cut}
pub use Rattle.asg_grammar.specs.laws.LineCuts.{Lacks-none, cut_unique, length-whole_lines, no_line, whole_lines-line}
pub use Rattle.asg_grammar.specs.laws.LineLaws.{Halts-front, Halts-text, Reads-line}
pub use Rattle.asg_grammar.specs.laws.ListLaws.{IsWord, next_cut}
pub use Rattle.asg_grammar.specs.laws.SpellingLaws.{IsCutAt-spaced, IsLegible-list, IsLegible-long, IsLegible-pair, IsLegible-positive, IsLegible-signed, Lacks-decimal, decimal_same, not_minus, spaced_rest, wide}
pub use Rattle.std.proofs.lemmas.Bool.{cases_lt, eqb-false, eqb-true, false≢true, le-ltb, lt-ltb}
pub use Rattle.std.proofs.lemmas.Fmt.{decimal_by_steps_wide, decimal_digit, decimal_is_IsNumeral_wide, decimal_step_wide, length-decimal-le_wide}
pub use Rattle.std.proofs.lemmas.List.{append-nil, append_cancel_left, get_or_append_left, length-append, take_all, take_more}
pub use Rattle.std.proofs.lemmas.List.Elements.{All-append, All-cons, All-head, All-push}
pub use Rattle.std.specs.Fmt.{decimal, signed_decimal}
