-- The names that proofs of this crate cite most, passed on from one place. Declares nothing.
pub use Rattle.asg_model.proofs.Kit.{All, All-append, All-cons, All-get_or, All-head, All-nil, All-push, All-tail, All-take, Bool, Err, FitsSigned, IfOk, IsErrAnd, List, MatchResult, None, Ok, Option, Result, Some, SomeIff, [], ap, append-nil, append_assoc, append_cancel_left, arith, cases_lt, codes, cond, decimal, decimal_is_IsNumeral_wide, digits_value, drop, eq-eqb, eqb-false, eqb-true, err_from_is_err_and, false, false-eqb, false≢true, find, flat_map, flat_map-append, flat_map_single, get_or, get_or-append_right, get_or_push, inl, inr, ints, length, map, pos, refl, signed_decimal, subst, suc, sym, take, take-append-drop, take-take, take_all, take_at, to_z-of_z, true, w128, zero, ℕ, ℤ, ◌++◌, ◌+◌, ◌-◌, ◌<◌, ◌^◌, ◌∙◌, ◌∷◌, ◌≡◌, ◌≢◌, ◌≤◌}
pub use Rattle.asg_doc.specs.HasText.{HasClaimText, HasLevelText, HasMarkText, HasNodeText, HasPhaseText, HasProofText, HasText, HasWindowText, IsWrittenValue}
pub use Rattle.asg_doc.specs.Text.{answer_lines, answer_lines_behind, cell_line, claim_lines, ended, level_head_text, level_lines, lines_of, listed_lines, node_head_text, node_lines, perm_line, phase_lines, proof_lines, texts_of, tree_lines, value_text, window_line, window_text}
pub use Rattle.asg_doc.specs.Words.{HasWord, command_word, form_of, has_grades}
pub use Rattle.asg_doc.specs.declared.documents.Command.{Command}
pub use Rattle.asg_doc.specs.declared.documents.Document.{Document}
pub use Rattle.asg_doc_reader.specs.DocumentParts.{HasBounds, HasFront, HasProofHead, answer_count_part, answer_part, answers_part, asked_part, bound_spelling, branch_spelling, cell_part, claim_part, column_spelling, command_part, count_part, document_part, ended_part, enters_part, hall_part, leaves_part, level_head_part, level_head_spelling, level_part, mark_spelling, node_count_part, node_head_part, node_head_spelling, node_part, objective_part, perm_part, phase_part, proof_head_part, proof_head_spelling, proof_head_text, proof_part, proved_part, ranked_part, ranking_part, status_part, step_spelling, steps_part, tree_part, value_part, value_spelling, window_part, window_spelling}
pub use Rattle.asg_doc_reader.specs.RefusedLine.{AllHaveText, BeginsText, DocumentsHalt, DocumentsStop, IsLongestBegun, IsNoText, IsRefusal, IsRefusedLine}
pub use Rattle.asg_doc_reader.specs.WordSpellings.{asked_spelling, cap_spelling, command_spelling, objective_spelling, status_spelling, status_word}
pub use Rattle.asg_doc_reader.specs.declared.heads.ProofHead.{ProofHead}
pub use Rattle.asg_doc_reader.specs.declared.heads.Status.{Status}
pub use Rattle.asg_grammar.specs.Lines.{IsCutAt, Lacks, line_ends, whole_lines}
pub use Rattle.asg_grammar.specs.Parts.{IsReadable, Part, and_then, counted, no_lines, the_line}
pub use Rattle.asg_grammar.specs.Reading.{Halts, IsRead, Stops}
pub use Rattle.asg_grammar.specs.Spellings.{IsListOf, Spelling, Spells, SpellsOrFails, behind, joined, list_spelling, listed, number_spelling, pair_spelling, positive_spelling, signed_pair_spelling, signed_spelling}
pub use Rattle.asg_grammar.specs.declared.faults.Fault.{Fault}
pub use Rattle.asg_grammar.specs.declared.faults.Fault.TheVariants.{NoMemory, Refused}
pub use Rattle.asg_grammar.specs.laws.JoinLaws.{IsLegible-graded, IsLegible-joined, IsLegible-signed_pair, after_cut, joined_cut}
pub use Rattle.asg_grammar.specs.laws.LineCuts.{IsSplit-whole_lines, Lacks-none, cut_unique, ended-append, heads_same, length-whole_lines, line_ends-append, tails_same, whole_lines-ended, whole_lines-prefix}
pub use Rattle.asg_grammar.specs.laws.LineLaws.{Halts-front, Halts-text, IsReadable-line, IsReadable-this, Reads-line}
pub use Rattle.asg_grammar.specs.laws.ListLaws.{AreListed, AreListed-all, AreListed-more, IsLegible-listed, IsWord, next_cut}
pub use Rattle.asg_grammar.specs.laws.PartLaws.{Chain, Halts-counted, Halts-first, Halts-second, Halts-shape, Halts-stops, IsRead-both, IsRead-more, IsRead-shape, IsReadable-chain, IsReadable-counted, IsReadable-none, IsReadable-shape, ReadsOrFails-err, Shape, counted_plain}
pub use Rattle.asg_grammar.specs.laws.SpellingLaws.{IsCutAt-spaced, IsLegible, IsLegible-behind, IsLegible-decoded, IsLegible-list, IsLegible-number, IsLegible-pair, IsLegible-positive, IsLegible-signed, IsLegible-wide, Lacks-decimal, Lacks-literal, Lacks-signed, decimal_same, is_plain}
pub use Rattle.asg_model.specs.declared.objectives.Objective.{Objective}
pub use Rattle.asg_order.specs.declared.words.Word.{Word}
pub use Rattle.asg_proof.specs.Phases.{ArePhases, PhaseOf}
pub use Rattle.asg_proof.specs.declared.levels.Level.{Level}
pub use Rattle.asg_proof.specs.declared.windows.Window.{Window}
pub use Rattle.asg_rankings.specs.declared.nodes.Node.{Node}
pub use Rattle.std.proofs.lemmas.List.{length-append}
pub use Rattle.std.specs.Int.{w64}
