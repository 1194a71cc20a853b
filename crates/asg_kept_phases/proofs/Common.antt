-- The names that proofs of this crate cite most, passed on from one place. Declares nothing.
pub use Rattle.asg_model.proofs.Kit.{All, All-cons, All-push, All-take, Bool, IfSome, IsSome, List, None, Option, Some, [], ap, arith, cases_eq, cases_lt, cond, cond-true, false, false≢true, get_or, get_or-map, get_or_default, get_or_from_slice_get, inl, inr, length, length-map, length-take-le, lt-ltb, map, map-append, nat_lt, none-some, not, not-false, option_map, option_map_or, position-Some, refl, reverse, reverse-append, same_Some, slice_get, slice_get-get_or, slice_get-map, slice_index, slice_set, subst, suc, sym, take, take_all, take_more, true, vec_capacity, vec_len, zero, ℕ, ⊎_elim, ◌&&◌, ◌*◌, ◌++◌, ◌+◌, ◌-◌, ◌<◌, ◌==◌, ◌↔◌, ◌∙◌, ◌∷◌, ◌≡◌, ◌≤◌, ◌⊎◌}
pub use Rattle.asg_admit.specs.KeptCells.{AllowsPhases, AllowsSoMany, SomeRefuses, cell_after_phases, cell_settled}
pub use Rattle.asg_admit.specs.PhaseValues.{AreOfValues}
pub use Rattle.asg_admit.specs.Reduced.{IsPhaseTo, IsReduced}
pub use Rattle.asg_admit.specs.Settled.{AllowsSteps, RefusesStep, settled}
pub use Rattle.asg_admit.specs.declared.reduced.Reduced.{Reduced}
pub use Rattle.asg_admit.specs.laws.KeptLabels.{HasLabelsOf-kept, chained_labels, same_labels}
pub use Rattle.asg_admit.specs.laws.KeptPhases.{after_phases-cell, all_taken, fewer_admitted, kept_so_many, phases_allowed}
pub use Rattle.asg_admit.specs.laws.PhaseValues.{admitted_values, words_over}
pub use Rattle.asg_values.specs.laws.EditedShapes.{edited_side}
pub use Rattle.asg_kept_phases.specs.EditedCells.{closed_cell, dropped_cell}
pub use Rattle.asg_kept_phases.specs.Leads.{LeadsTo}
pub use Rattle.asg_kept_phases.specs.LeftPhases.{AllowsOrStaysAt, AreLeft, IsLeftAt}
pub use Rattle.asg_kept_phases.specs.Mended.{AllowTrails, IsLedBut, MendsCells}
pub use Rattle.asg_kept_phases.specs.NamedPlaces.{IsAtRow, IsNamed, label_at, places_of}
pub use Rattle.asg_kept_phases.specs.PhaseChains.{IsWayTo, phases_in}
pub use Rattle.asg_kept_phases.specs.PhasesAlong.{phases_along}
pub use Rattle.asg_kept_phases.specs.laws.KeptLabels.{HasColumnsOf-kept}
pub use Rattle.asg_kept_phases.specs.laws.NamedCells.{label_of_column, named_touched, touched_named, untouched_same}
pub use Rattle.asg_kept_phases.specs.laws.PassedEdits.{NamesPlaces-passed}
pub use Rattle.asg_model.specs.Edits.{closed, dropped, edited, named_row, place_of, refusal_of, with_cell_of, with_column_closed, with_row_dropped}
pub use Rattle.asg_model.specs.Instances.{IsInstance}
pub use Rattle.asg_model.specs.Problem.{Problem, problem_of}
pub use Rattle.asg_model.specs.Shapes.{square_side}
pub use Rattle.asg_model.specs.declared.edits.Edit.{Edit}
pub use Rattle.asg_model.specs.declared.objectives.Objective.{Objective}
pub use Rattle.asg_model.specs.declared.parts.Cost.{Cost}
pub use Rattle.asg_order.specs.Monoid.{IsOrderedMonoid, IsValue, Monoid, fold_of}
pub use Rattle.asg_pool.specs.Forest.{Forest, IsForest, IsLive, last_phase, parent_of, phases_of, phases_to}
pub use Rattle.asg_pool.specs.laws.Trails.{HasParent-live, parent_shorter, phases_over}
pub use Rattle.asg_proof.specs.PhaseProofs.{EntersValues}
pub use Rattle.asg_proof.specs.Phases.{AreAdmittedPhases, ArePhases, IsAdmittedPhase, IsPhase, PhaseOf, after_phase, after_phases, index_of, worded}
pub use Rattle.asg_proof.specs.Steps.{HasValues}
pub use Rattle.asg_proof.specs.laws.PhaseLists.{AreAdmittedPhases-back, AreAdmittedPhases-front, HasSide-phases, HasValues-phases, after_phases-push, index_is_value, index_of-push, steps_value}
pub use Rattle.asg_proof.specs.laws.PhaseSteps.{take-step}
pub use Rattle.asg_proof.specs.laws.Squares.{HasSide-cell_at, HasSide-square_cell, HasValues-square_cell}
pub use Rattle.asg_square.specs.Cells.{square_cell}
pub use Rattle.asg_square.specs.Grid.{Grid, IsGrid, cell_at}
pub use Rattle.asg_square.specs.Labels.{column_label, row_label}
