use Rattle.asg_pool.proofs.Common.{IsSome, All, sym, subst, arith, length-set, Table, link_at}
use Rattle.asg_pool.proofs.LinkLemmas.{vacant_fewer, AreVacant-freed}
use Rattle.asg_pool.proofs.links.Links.remove.Goals as goal

pub push_reserved-requires : goal.push_reserved-requires
push_reserved-requires c =
    let s = c.self.inside in
    let there = subst (λ (L : Table). IsSome (link_at L.slots c.args.k)) (sym c.self.view_is) c.requires in
    omega (arith, vacant_fewer s.slots.items s.vacant.items c.args.k there c.self.invariant.free, c.self.invariant.used, c.self.invariant.vacant_fit)

pub invariant_of-self : goal.invariant_of-self
invariant_of-self c =
    let s = c.self.inside in
    let there = subst (λ (L : Table). IsSome (link_at L.slots c.args.k)) (sym c.self.view_is) c.requires in
    record {
      most = c.self.invariant.most;
      used = omega (arith, c.self.invariant.used, length-set s.slots.items c.args.k Rattle.std.specs.Prelude.None);
      slots_fit = c.self.invariant.slots_fit;
      vacant_fit = omega (arith, c.self.invariant.vacant_fit, c.push_reserved.ensures.capacity);
      free = rw c.push_reserved.ensures.items (AreVacant-freed s.slots.items s.vacant.items c.args.k there c.self.invariant.free);
    }
