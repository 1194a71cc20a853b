use Rattle.asg_model.proofs.RetainedStores.{KeptTo}
use Rattle.asg_model.proofs.retaining.retain_firsts.Given as goal

-- the first parts so far
abbrev pub invariant-loop-k : goal.invariant-loop-k
invariant-loop-k g l = KeptTo (goal.F-post g l.keep) l.columns l.fn.firsts.items l.firsts.items l.k
