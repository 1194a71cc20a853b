use Rattle.asg_growth.proofs.Common.{get_or, sym, subst, HasKey, values_of, HasKey-given, HasKey-set}
use Rattle.asg_growth.proofs.scanning.offer.Goals as goal

pub nearer-requires-clause-column : goal.nearer-requires-clause-column
nearer-requires-clause-column g c =
    let M = g.M.Ordered.monoid_of c.args.m.now in
    let laws = g.met.M.Ordered.laws c.args.m.now in
    let value = get_or (values_of M (g.S.RowSquare.as_reduced c.args.square.now).now c.args.row) c.args.column M.unit in
    let taken = c.offer_key.ensures.taken c.if-not-offer_key.false in
    subst (λ keys. HasKey M keys c.args.column) (sym taken.keys)
    (HasKey-given M c.args.keys.now c.args.column (M.product c.args.sum value) c.requires.keys (laws.product_is_value c.args.sum value c.requires.sum c.requires.value))

pub nearer-requires-clause-former : goal.nearer-requires-clause-former
nearer-requires-clause-former g c k e =
    let M = g.M.Ordered.monoid_of c.args.m.now in
    let laws = g.met.M.Ordered.laws c.args.m.now in
    let value = get_or (values_of M (g.S.RowSquare.as_reduced c.args.square.now).now c.args.row) c.args.column M.unit in
    let taken = c.offer_key.ensures.taken c.if-not-offer_key.false in
    subst (λ keys. HasKey M keys k) (sym taken.keys)
    (HasKey-set M c.args.keys.now c.args.column (M.product c.args.sum value) c.requires.keys (laws.product_is_value c.args.sum value c.requires.sum c.requires.value) k (c.requires.nearest k e))
