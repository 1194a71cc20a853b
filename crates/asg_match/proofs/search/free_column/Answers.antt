use Rattle.asg_match.proofs.Common.{arith, w64, trailing_zeros, bit_below, HasBit-trailing_zeros}
use Rattle.asg_match.proofs.search.free_column.Goals as goal

pub among-columns-requires-clause-columns_below : goal.among-columns-requires-clause-columns_below
among-columns-requires-clause-columns_below g c = λ k has. omega (arith, c.free_columns.ensures.below k has, c.requires.side)

pub returns-then-columns-ne0 : goal.returns-then-columns-ne0
returns-then-columns-ne0 g c =
    let word = c.among-columns.result in
    let k = trailing_zeros w64 word in
    let has = HasBit-trailing_zeros word (omega arith) c.among-columns.type_inv in
    let both = (c.among-columns.ensures k).0 has in
    record {
      cell = both.1;
      free = (c.free_columns.ensures.free k (bit_below word k c.among-columns.type_inv has) (c.free_columns.ensures.below k both.0)).0 both.0;
    }
