-- The names that proofs of this crate cite most, passed on from one place. Declares nothing.
pub use Rattle.asg_model.proofs.Kit.{All, Bool, FitsSigned, List, [], ap, append_assoc, arith, codes, common_steps, decimal, false, flat_map, flat_map_more, get_or, length, map, map-append, negsuc, on_err_weaker, on_ok_weaker, pos, refl, signed_decimal, subst, sym, take, take_all, take_more, to_z-of_z, w128, ℕ, ℤ, ◌++◌, ◌+◌, ◌<◌, ◌∙◌, ◌∷◌, ◌≡◌}
pub use Rattle.asg_doc.specs.HasText.{HasAnswerText, HasLevelText, HasNodeText, HasTreeText, HasWindowText, HaveAnswerText, IsWrittenValue}
pub use Rattle.asg_doc.specs.Text.{answer_lines, answer_lines_behind, cell_line, claim_lines, column_text, ended, head_lines, level_lines, listed_lines, mark_text, node_lines, phase_lines, proof_lines, spaced, spaced_columns, spaced_costs, spaced_steps, step_text, tree_lines, value_text, window_line}
pub use Rattle.asg_doc.specs.Words.{form_of, has_grades}
pub use Rattle.asg_doc.specs.declared.documents.Claim.TheVariants.{Best, Nothing, Ranked}
pub use Rattle.asg_model.specs.declared.objectives.Value.TheVariants.{Many, One}
pub use Rattle.asg_order.specs.declared.words.Word.{Word}
pub use Rattle.asg_doc.specs.Flow.{Wrote}
pub use Rattle.asg_doc.specs.laws.Flows.{Wrote-append, Wrote-as, Wrote-broken, Wrote-last, Wrote-lines, Wrote-nothing, Wrote-whole}
pub use Rattle.asg_proof.specs.declared.outcomes.Proof.TheVariants.{Below, Levels, Phases}
pub use Rattle.asg_rankings.specs.declared.nodes.Mark.TheVariants.{Answered, Empty, Open}
pub use Rattle.std.specs.Int.{w64}
