use Rattle.asg_kept_phases.proofs.Common.{◌≡◌, map, take, phases_along, ArePhases, worded}
use Rattle.asg_kept_phases.proofs.written_chains.written_trails.Given as goal

abbrev pub invariant-loop-i : goal.invariant-loop-i
invariant-loop-i g l =
    (l.words.items ≡ map (worded (g.M.Written.word_of l.m)) (phases_along l.region (take l.i l.trails)))
    × ArePhases l.words.items
