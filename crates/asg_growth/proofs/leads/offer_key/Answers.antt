use Rattle.asg_growth.proofs.Common.{get_or, set, sym, refl, ap, ◌∙◌, subst, true≢false, false≢true, IsValue, IsLe}
use Rattle.asg_growth.proofs.ScanLemmas.{values_at}
use Rattle.asg_growth.proofs.leads.offer_key.Goals as goal

pub op-key-requires-clause-left : goal.op-key-requires-clause-left
op-key-requires-clause-left g c = c.requires.sum

pub op-key-requires-clause-right : goal.op-key-requires-clause-right
op-key-requires-clause-right g c =
    let M = g.M.Ordered.monoid_of c.args.m.now in
    let value_is = sym (values_at M (g.S.RowSquare.as_reduced c.args.square.now).now c.args.row c.args.column c.value.result c.requires.column c.value.ensures) in
    subst (IsValue M) (sym value_is) c.requires.value

pub is_lower-requires-clause-column : goal.is_lower-requires-clause-column
is_lower-requires-clause-column g c = c.requires.keys

pub is_lower-requires-clause-key : goal.is_lower-requires-clause-key
is_lower-requires-clause-key g c = c.op-key.ensures.is_value

pub is_lower-requires-clause-old : goal.is_lower-requires-clause-old
is_lower-requires-clause-old g c = c.requires.old

pub returns-then-not-is_lower-clause-taken : goal.returns-then-not-is_lower-clause-taken
returns-then-not-is_lower-clause-taken g c = λ h. absurd (false≢true h)

pub returns-then-not-is_lower-clause-kept : goal.returns-then-not-is_lower-clause-kept
returns-then-not-is_lower-clause-kept g c = λ _.
    let M = g.M.Ordered.monoid_of c.args.m.now in
    let value_is = sym (values_at M (g.S.RowSquare.as_reduced c.args.square.now).now c.args.row c.args.column c.value.result c.requires.column c.value.ensures) in
    let key_is = c.op-key.ensures.product ∙ ap (M.product c.args.sum) value_is in
    let old = get_or c.args.keys.now c.args.column M.unit in
    let no = c.if-not-is_lower.true in
    record { keys = refl; places = refl; has = c.is_lower.ensures.has no; low = subst (IsLe M old) key_is (c.is_lower.ensures.no no) }

pub returns-clause-taken : goal.returns-clause-taken
returns-clause-taken g c = λ _.
    let M = g.M.Ordered.monoid_of c.args.m.now in
    let value_is = sym (values_at M (g.S.RowSquare.as_reduced c.args.square.now).now c.args.row c.args.column c.value.result c.requires.column c.value.ensures) in
    let key_is = c.op-key.ensures.product ∙ ap (M.product c.args.sum) value_is in
    let old = get_or c.args.keys.now c.args.column M.unit in
    record {
      keys = ap (set c.args.keys.now c.args.column) key_is;
      places = refl;
      low = λ h. subst (λ x. IsLe M x old) key_is (c.is_lower.ensures.yes c.if-not-is_lower.false h);
    }

pub returns-clause-kept : goal.returns-clause-kept
returns-clause-kept g c = λ h. absurd (true≢false h)
