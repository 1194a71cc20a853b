use Rattle.asg_rank.proofs.Common.{sym, subst, IsReady, PassesNegative, rules_of, answer_room}
use Rattle.asg_rank.proofs.ranker.Ranker.open.Goals as goal

pub invariant_of-result : goal.invariant_of-result
invariant_of-result g c =
    let kind = c.args.kind in
    let m = g.K.Kind.monoid kind in
    let R = rules_of (g.K.M.Ordered.monoid_of m) (g.K.M.DMonoid.difference m) (g.K.Kind.entered kind) in
    let is = c.in_ok-made.ensures in
    record {
      ready = subst (λ X. IsReady R X (answer_room X c.args.count) c.in_ok-made.made.1) (sym is.copy) is.ready;
      passes = subst (PassesNegative (g.K.Kind.objective kind)) (sym is.copy) c.requires.passes;
      reaches = c.requires.reach;
      some = c.requires.some;
    }
