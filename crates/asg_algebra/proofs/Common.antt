-- The names that proofs of this crate cite most, passed on from one place. Declares nothing.
pub use Rattle.asg_model.proofs.Kit.{All, All-append, All-cons, All-head, All-nil, All-tail, All-weaker, AllPairs, Bool, Contains, IfOk-weaker, IfSome, IsSome, IsTrue, List, None, Option, Some, [], ap, append-nil, append_assoc, arith, cases_eq, cases_lt, common_steps, cond, count_by-le-length, drop, drop-cons, eqb-false, eqb-true, false, false≢true, get_or, get_or-map, get_or-replicate, get_or-set_at, get_or-set_other, get_or_default, get_or_past, is_none, is_some, le-leb, le-ltb, leb-true, length, length-map, length-replicate, length-set, length-take, lt-leb, lt-ltb, ltb-true, map_over_more, min, nil_from_length, none-some, range_with_len, refl, replicate, same_Some, set, slice_index, subst, suc, sum_by-append, sym, take, take-append-drop, take_all, take_more, true, unwrap_or, vec_capacity, vec_len, zero, ℕ, ⊎_elim, ◌%◌, ◌*◌, ◌++◌, ◌+◌, ◌/◌, ◌<◌, ◌∙◌, ◌∷◌, ◌≡◌, ◌≢◌, ◌≤◌}
pub use Rattle.asg_admit.specs.Reduced.{IsPhaseTo, IsReduced}
pub use Rattle.asg_admit.specs.declared.reduced.Reduced.{Reduced}
pub use Rattle.asg_algebra.specs.Benches.{IsBench}
pub use Rattle.asg_algebra.specs.Ended.{EndsIn, last_of}
pub use Rattle.asg_algebra.specs.Served.{IsServed, made_of}
pub use Rattle.asg_algebra.specs.Solved.{ArePushed, HasSolved, IsPush, KeepsRows, LeadTo, unmatched}
pub use Rattle.asg_algebra.specs.Stages.{stage_of}
pub use Rattle.asg_growth.specs.Growing.{IsAbsorbed, IsGrowing}
pub use Rattle.asg_growth.specs.Growths.{HasNoLead, IsPlanted, IsReady, IsRoomy, IsSearch, Searches, leads_in, never, phase_in}
pub use Rattle.asg_growth.specs.Leads.{lead_at, place_at}
pub use Rattle.asg_growth.specs.Rest.{IsRest, IsRestOf, cut}
pub use Rattle.asg_growth.specs.Underway.{IsUnderway}
pub use Rattle.asg_growth.specs.declared.growth.Growth.{Growth}
pub use Rattle.asg_growth.specs.laws.GrowthLaws.{few_rows, open_unseen, place_read, search_cell, search_place}
pub use Rattle.asg_match.specs.Flipped.{Flips}
pub use Rattle.asg_match.specs.Matching.{AllAllowed, IsMatched, IsMatching, IsPerfect, Matches, column_at}
pub use Rattle.asg_match.specs.Searched.{parents_in}
pub use Rattle.asg_model.specs.laws.Listing.{All-filter_map, length-le_from_below}
pub use Rattle.asg_order.specs.Differences.{HasDifferences}
pub use Rattle.asg_order.specs.Monoid.{IsLe, IsOrderedMonoid, IsValue, Monoid, fold_of}
pub use Rattle.asg_order.specs.laws.Products.{fold-cons, fold_is_value, neutral_right}
pub use Rattle.asg_pool.specs.Forest.{Forest, IsLive, grown_on, phases_to, trail_at}
pub use Rattle.asg_proof.specs.Phases.{AreAdmittedPhases, IsAdmittedPhase, PhaseOf, after_phase, after_phases, entered_at, index_of, phase_of, square_after, staying_at}
pub use Rattle.asg_proof.specs.laws.PhaseLists.{AreAdmittedPhases-append, AreAdmittedPhases-back, after_phases-append, index_is_value, index_of-append, steps_value}
pub use Rattle.asg_square.specs.Cells.{IsAssignment, IsPresent, assignment_values}
pub use Rattle.asg_square.specs.Grid.{Grid, IsSquareBy, IsSquareOf, cell_at}
