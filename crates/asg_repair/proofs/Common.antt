-- The names that proofs of this crate cite most, passed on from one place. Declares nothing.
pub use Rattle.asg_model.proofs.Kit.{All, Bool, IfOk, IfSome, IfSome_then, IsSome, List, None, Option, Some, [], and_parts, ap, arith, cases_eq, cases_lt, cond, count_by-le-length, eqb-true, false, false≢true, get_or, inl, inr, is_none, is_some, leb-true, length, length-replicate, length-take-le, lt-ltb, nat_eq, nat_le, nat_lt, nat_tests, not, not-false, option_and_then, option_map, option_map_or, refl, replicate, rules, slice_index, slice_index_or, subst, suc, sum_by-append, sym, take, take_all, true, unsigned_abs, with_items_is, zero, ℕ, ⊎_elim, ◌&&◌, ◌++◌, ◌+◌, ◌<◌, ◌||◌, ◌∙◌, ◌∷◌, ◌≡◌, ◌≢◌, ◌≤◌, ◌⊎◌}
pub use Rattle.asg_admit.specs.Reduced.{IsReduced}
pub use Rattle.asg_admit.specs.declared.reduced.Reduced.{Reduced}
pub use Rattle.asg_admit.specs.laws.KeptPhases.{after_phases-cell, kept_all, kept_once}
pub use Rattle.asg_algebra.specs.Ended.{EndsIn, last_of}
pub use Rattle.asg_algebra.specs.Solved.{ArePushed, HasSolved, IsPush, LeadTo, unmatched}
pub use Rattle.asg_values.specs.laws.EditedShapes.{edited_rows, edited_side}
pub use Rattle.asg_values.specs.laws.LiveCosts.{PassesNegative-edited, edited_costs, given_passes}
pub use Rattle.asg_growth.specs.Growing.{IsAbsorbed}
pub use Rattle.asg_kept_phases.specs.Chains.{IsChain}
pub use Rattle.asg_kept_phases.specs.Edited.{NamesPlaces, Touches}
pub use Rattle.asg_kept_phases.specs.Leads.{LeadsTo}
pub use Rattle.asg_kept_phases.specs.Led.{IsLed, MaySolve}
pub use Rattle.asg_kept_phases.specs.Mended.{IsLedBut}
pub use Rattle.asg_kept_phases.specs.NamedPlaces.{HasColumnsOf, IsNamed, label_at, places_of}
pub use Rattle.asg_kept_phases.specs.PhaseChains.{IsCutTo, IsPhaseChain, IsPrepared, IsWayTo, phases_in}
pub use Rattle.asg_kept_phases.specs.declared.named_places.NamedPlaces.{NamedPlaces}
pub use Rattle.asg_kept_phases.specs.declared.phase_chains.PhaseChain.{PhaseChain}
pub use Rattle.asg_match.specs.HallSets.{GivesHallSets}
pub use Rattle.asg_match.specs.Matching.{AllAllowed, IsMatched, IsMatching, IsPerfect, Matches, column_at}
pub use Rattle.asg_model.specs.Edits.{edited, given_cost, is_cost_in_range, refusal_of}
pub use Rattle.asg_model.specs.HallSet.{IsHall}
pub use Rattle.asg_model.specs.Instances.{IsInstance}
pub use Rattle.asg_model.specs.Limits.{most_cost}
pub use Rattle.asg_model.specs.Live.{live_at}
pub use Rattle.asg_model.specs.Problem.{Problem}
pub use Rattle.asg_model.specs.Shapes.{square_side}
pub use Rattle.asg_model.specs.ValidChoice.{IsValid}
pub use Rattle.asg_model.specs.declared.bands.Band.TheVariants.{Whole}
pub use Rattle.asg_model.specs.declared.edits.Edit.{Edit}
pub use Rattle.asg_model.specs.declared.objectives.Objective.{Objective}
pub use Rattle.asg_model.specs.declared.parts.Cost.{Cost}
pub use Rattle.asg_order.specs.Bridge.{choice_fold, costs_fold}
pub use Rattle.asg_order.specs.Entering.{MayEnter}
pub use Rattle.asg_order.specs.Monoid.{IsOrderedMonoid, IsValue, Monoid, fold_of}
pub use Rattle.asg_pool.specs.Forest.{Branch, Forest, IsForest, IsGrown, IsLeaf, IsLive, parent_of, phases_to, trail_at}
pub use Rattle.asg_proof.specs.KeptPhases.{AreKept}
pub use Rattle.asg_proof.specs.PhaseProofs.{EntersValues, IsRaised, ProvesIndex}
pub use Rattle.asg_proof.specs.Phases.{AreAdmittedPhases, PhaseOf, after_phases, index_of}
pub use Rattle.asg_proof.specs.Steps.{AreRaised, HasSide, HasValues, assignment_fold}
pub use Rattle.asg_proof.specs.laws.PhaseLists.{AreAdmittedPhases-append, after_phases-append, index_is_value, index_of-append, is_some-phases}
pub use Rattle.asg_proof.specs.laws.Squares.{HasSide-square_cell, HasValues-square_cell}
pub use Rattle.asg_repair.specs.ClearedRows.{IsClearedOf}
pub use Rattle.asg_repair.specs.Opening.{IsOpened}
pub use Rattle.asg_repair.specs.Sessions.{AreAbsorbed, AreAbsorbedAfter, AreTogether, IsAnswerRoom, IsBestBy, IsGiven, IsSession, parts_of, IsSized, SessionOf, ids_in, sure_columns}
pub use Rattle.asg_repair.specs.declared.answers.AnswerRoom.{AnswerRoom}
pub use Rattle.asg_repair.specs.declared.answers.Given.TheVariants.{Open}
pub use Rattle.asg_repair.specs.declared.opening.Opened.{Opened}
pub use Rattle.asg_repair.specs.declared.works.Work.{Work}
pub use Rattle.asg_roots.specs.laws.InstanceRoots.{enters_values, instance_side}
pub use Rattle.asg_square.specs.Cells.{IsAssignment, IsPresent, assignment_values, choice_of, square_cell}
pub use Rattle.asg_square.specs.Grid.{Grid, IsPerm, IsSquareOf, IsValidWithin, IsWithinSquareOf, cell_at, grid_choice}
