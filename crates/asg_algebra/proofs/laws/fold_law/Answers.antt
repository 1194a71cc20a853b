use Rattle.asg_algebra.proofs.Common.{◌≡◌, ℕ, ◌<◌, get_or, is_some, ap, ◌∙◌, subst, IsAbsorbed, after_phases, index_of, IsAssignment}
use Rattle.asg_algebra.proofs.FoldLaws.{columns_apart, fold_absorbed}
use Rattle.asg_algebra.proofs.laws.fold_law.Goals as goal

pub returns : goal.returns
returns g c side phases square after matching p inside values admitted same perfect whole has =
    let m = c.args.m.now in
    let M = g.M.Ordered.monoid_of m in
    let laws = g.met.M.Ordered.laws m in
    let d = g.M.DMonoid.difference m in
    let law = c.phases_law.ensures in
    let z = index_of M phases in
    let last = after_phases M d phases square in
    let equal : after ≡ last = λ i r k. same r k i in
    let absorbed : (r : ℕ) → r < side → IsAbsorbed M z last r (get_or p r 0) = λ r h. subst (λ q. IsAbsorbed M z q r (get_or p r 0)) equal (perfect.cells r (get_or p r 0) (has r h)) in
    let there : IsAssignment last side p = record {
      over = whole;
      apart = columns_apart matching side p perfect.columns whole has;
      present = λ r h. let at = absorbed r h in ap is_some at.there;
    } in
    let first = (law.assignments side phases square p).1 there in
    (first, law.takes side phases square p inside values admitted first ∙ fold_absorbed M laws side last z p (law.index side phases square admitted) (law.side side phases square inside) (law.values side phases square values admitted) absorbed)
