-- The names that proofs of this crate cite most, passed on from one place. Declares nothing.
pub use Rattle.asg_model.proofs.Kit.{Bool, Err, IfOk, IfOk-weaker, IsErrOf, List, None, Ok, Option, Result, Some, [], ap, ap₂, arith, codes, false, fold, if◌then◌else◌, inl, inr, map, nat_tests, refl, string_bytes, subst, sym, true, ◌∙◌, ◌∷◌, ◌≡◌, ◌⊎◌}
pub use Rattle.asg_words.proofs.RequestBounds.{is_request}
pub use Rattle.asg_words.specs.FoundRequests.{Answers, request_found}
pub use Rattle.asg_words.specs.declared.requests.WordsRefusal.TheVariants.{NoMemory, Usage}
pub use Rattle.asg_words.specs.CommandLine.{command_line, found_in}
pub use Rattle.clap.specs.Faults.{fault_of, is_simple_and_free}
pub use Rattle.clap.specs.Kinds.{IsAmong, Kinds}
pub use Rattle.clap.specs.Simple.{App, Shape, app_of, app_of_fields, is_simple, matches_of, new_app, on_top, with_rule}
pub use Rattle.clap.specs.Walk.{Row, Rule, Text, is_empty, rows_of}
