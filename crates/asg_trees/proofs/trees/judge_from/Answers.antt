use Rattle.asg_trees.proofs.Common.{subst, lies_within, AreGroups, answer_keys}
use Rattle.asg_replays.specs.laws.LiveCosts.{live_values}
use Rattle.asg_trees.proofs.trees.judge_from.Goals as goal

pub last_product-requires-clause-near : goal.last_product-requires-clause-near
last_product-requires-clause-near g c = lies_within (g.K.Kind.reach c.args.kind.now) c.args.inst.now c.requires.reach c.rows.ensures.instance

pub judge_ready-requires-clause-ready : goal.judge_ready-requires-clause-ready
judge_ready-requires-clause-ready g c =
    let kind = c.args.kind.now in
    let X = c.args.inst.now in
    record {
      instance = c.rows.ensures.instance;
      all_placed = c.requires.place;
      few = c.requires.side;
      enters = live_values (g.K.M.Ordered.monoid_of (g.K.Kind.monoid kind)) (g.K.Kind.entered kind) (g.K.Kind.objective kind) (g.K.Kind.reach kind) X (g.met.K.Kind.enters_value kind)
          (lies_within (g.K.Kind.reach kind) X c.requires.reach c.rows.ensures.instance) c.requires.passes;
      valid = c.requires.valid;
      members = c.in_ok-members.ensures;
      given = subst (λ n. AreGroups (answer_keys c.args.nodes.now) n c.in_ok-given.given) c.len.ensures.count c.in_ok-given.ensures;
      last = c.in_ok-last.ensures;
    }

pub returns : goal.returns
returns g c = c.judge_ready.ensures
