use Rattle.asg_networks.proofs.Common.{IfOk-weaker}
use Rattle.asg_networks.proofs.LayoutLemmas.{no_costs}
use Rattle.asg_networks.proofs.layouts.Layout.absent_firsts.Goals as goal

pub returns : goal.returns
returns c = IfOk-weaker c.vec.result _ _ (λ firsts is. no_costs c.args.self.now.sources.now c.args.self.now.targets.now firsts.items (is (λ y same. same))) c.vec.ensures.items_if_clones_equal
