use Rattle.asg_algebra.proofs.Common.{◌≡◌, sym, ◌∙◌, subst, Monoid, IsValue, IsLe, IsOrderedMonoid}
use Rattle.asg_order.specs.laws.Orders.{le_product}
use Rattle.asg_algebra.proofs.absorbed_cells.absorbs.Goals as goal

-- a product that is at most its first factor is that factor
product_is : {V : Type 0} (M : Monoid V) → IsOrderedMonoid M → (index value product : V) → IsValue M index → IsValue M value → product ≡ M.product index value → IsLe M product index → M.product index value ≡ index
product_is M laws index value product vi vv is le =
    laws.antisymmetric (M.product index value) index (laws.product_is_value index value vi vv) vi
    (subst (λ p. IsLe M p index) is le) (le_product M laws index value vi vv)

pub returns : goal.returns
returns g c = λ is.
    let m = c.args.m.now in
    product_is (g.M.Ordered.monoid_of m) (g.met.M.Ordered.laws m) c.args.index c.args.value c.op.result
    c.requires.index c.requires.value c.op.ensures.product (sym c.le.ensures ∙ is)
