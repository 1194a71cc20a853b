use Rattle.asg_match.proofs.Common.{subst, arith, w64, get_or_read, trailing_zeros, bit_below, HasBit-trailing_zeros, HasBit, HasColumn-at}
use Rattle.asg_match.proofs.search.next_column.Goals as goal

pub returns-clause-there : goal.returns-clause-there
returns-clause-there g c =
    let has = HasBit-trailing_zeros c.among-columns.result (omega arith) c.among-columns.type_inv in
    ((c.among-columns.ensures _).0 has).1

pub returns-clause-unseen : goal.returns-clause-unseen
returns-clause-unseen g c =
    let words = c.args.tree.now.unseen.items in
    let has = HasBit-trailing_zeros c.among-columns.result (omega arith) c.among-columns.type_inv in
    let read = get_or_read words c.args.number _ (omega (arith, c.args.tree.now.unseen.ok.0)) c.index.ensures 0 in
    let b = trailing_zeros w64 c.among-columns.result in
    HasColumn-at words c.args.number b (bit_below c.among-columns.result b c.among-columns.type_inv has)
    (subst (λ n. HasBit n b) read ((c.among-columns.ensures b).0 has).0)
