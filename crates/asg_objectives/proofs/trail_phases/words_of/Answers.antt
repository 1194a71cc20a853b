use Rattle.asg_objectives.proofs.Common.{length, refl, ap, arith, into_iter_items, worded}
use Rattle.asg_objectives.proofs.WordedPhases.{IsWorded-next}
use Rattle.asg_objectives.proofs.trail_phases.words_of.Goals as goal

pub loop-phase-preserved : goal.loop-phase-preserved
loop-phase-preserved g c =
    let m = c.args.m.now in
    let word_of = g.M.Written.word_of m in
    let steps = c.in-Some.ensures.steps in (
      IsWorded-next (g.M.Ordered.monoid_of m) word_of c.args.phases.items c.loop-phase.words.items c.push_words.new.words.items
          (into_iter_items c.loop-phase.phase-iterator) (into_iter_items c.next.new.self) c.in-Some.phase (worded word_of c.in-Some.phase)
          c.loop-phase.invariant.0 steps.0 c.in_ok-push_words.ensures.words refl c.in_ok-push_words.ensures.phase,
      omega (arith, steps.1, ap length steps.0, c.loop-phase.invariant.1),
    )
