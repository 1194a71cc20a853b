use Rattle.asg_networks.proofs.Common.{◌≡◌, true, [], ◌∷◌, ◌++◌, sym, refl, ap, ◌∙◌, subst, to_z-of_z, w64, to_z, of_z, rules, goes_right, IsNetworkOf, PutsArc, arc_of_link, Arc, Arrow, Link}
use Rattle.asg_networks.proofs.NetworkLemmas.{arc_kept, arc_sound}
use Rattle.asg_networks.proofs.network.Network.take_arc.Goals as goal
use Rattle.asg_networks.proofs.network.Network.take_arc.Goals.{In_ok-put}

-- the arc that is kept
module _ (c : In_ok-put) where
  abbrev link : Link
  link = record { source = c.in-Some-arc.arc.source; target = c.in-Some-arc.arc.target; cost = c.in-Some-cost.cost; line = c.args.number }

  same_cost : to_z w64 (of_z w64 c.in-Some-cost.cost) ≡ c.in-Some-cost.cost
  same_cost = to_z-of_z w64 c.in-Some-cost.cost (search rules)

  put : PutsArc link c.args.self.now c.put.new.self
  put = subst (λ cost. PutsArc (record { source = c.in-Some-arc.arc.source; target = c.in-Some-arc.arc.target; cost = cost; line = c.args.number }) c.args.self.now c.put.new.self) same_cost c.in_ok-put.ensures.put

  arc_is : c.in-Some-arc.arc ≡ arc_of_link link
  arc_is = ap {B = Arc} (λ cost. record { source = c.in-Some-arc.arc.source; target = c.in-Some-arc.arc.target; cost = cost }) c.in-Some-cost.is

  right : goes_right c.args.self.now.sources.items c.in-Some.sizes c.in-Some-arc.arc ≡ true
  right = sym c.may_have.ensures ∙ c.if-not-may_have.false

pub returns-clause-taken : goal.returns-clause-taken
returns-clause-taken c = λ before is number_is.
    let here = (goal.at.returns-clause-taken c).In_ok-put in
    subst (λ arc. IsNetworkOf (before ++ Arrow arc ∷ []) c.put.new.self) (sym c.in-Some-arc.is)
    (arc_kept before c.args.self.now c.put.new.self c.args.number is number_is c.in-Some.sizes c.in-Some-arc.arc (link here) c.in-Some.is (right here) (arc_is here) refl (put here))

pub returns-clause-sound : goal.returns-clause-sound
returns-clause-sound c =
    let here = (goal.at.returns-clause-sound c).In_ok-put in
    arc_sound c.args.self.now c.put.new.self c.in-Some.sizes (link here) c.requires.sound c.in-Some.is (right here) (search rules) (put here)
