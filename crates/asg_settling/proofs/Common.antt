-- The names that proofs of this crate cite most, passed on from one place. Declares nothing.
pub use Rattle.asg_model.proofs.Kit.{All, List, Some, ap, arith, below_more, cases_eq, cases_lt, cases_order, cond, false≢true, get_or, get_or-set_other, get_or-set_same, get_or-take, get_or_default, inl, inr, le-leb, le-ltb, leb, length, length-set, lt-leb, lt-ltb, ltb, min, option_map, refl, set, slice_index, subst, suc, sym, true≢false, zero, ℕ, ⊎_elim, ◌+◌, ◌-◌, ◌<◌, ◌∙◌, ◌≡◌, ◌≢◌, ◌≤◌}
pub use Rattle.asg_admit.specs.Reduced.{KeepsLabels, phase_of}
pub use Rattle.asg_admit.specs.Settled.{between, settled, settled_at, step_of}
pub use Rattle.asg_admit.specs.Settling.{IsWritten, SettlesEntered, SettlesEnteredRow, SettlesPhase, SettlesRow}
pub use Rattle.asg_admit.specs.laws.KeptLabels.{chained_labels, same_labels}
pub use Rattle.asg_admit.specs.laws.SettleLemmas.{all_rows, cut_marks, equal_marks, late_marks, map_alike, phase_by, unchanged, waiting_marks}
pub use Rattle.asg_order.specs.Monoid.{IsOrderedMonoid, IsValue, Monoid}
pub use Rattle.asg_settling.specs.JoinedSteps.{IsJoined, PlacesFrom}
pub use Rattle.asg_settling.specs.LeftColumns.{IsPassed}
pub use Rattle.asg_square.specs.Grid.{Grid, cell_at}
