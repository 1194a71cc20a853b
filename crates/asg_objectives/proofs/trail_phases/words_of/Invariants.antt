use Rattle.asg_objectives.proofs.Common.{◌≡◌, length, into_iter_items, into_iter_len}
use Rattle.asg_objectives.proofs.WordedPhases.{IsWorded}
use Rattle.asg_objectives.proofs.trail_phases.words_of.Given as goal

abbrev pub invariant-loop-phase : goal.invariant-loop-phase
invariant-loop-phase g l =
    IsWorded (g.M.Ordered.monoid_of l.m) (g.M.Written.word_of l.m) l.fn.phases.items l.words.items (into_iter_items l.phase-iterator)
    × (into_iter_len l.phase-iterator ≡ length (into_iter_items l.phase-iterator))
