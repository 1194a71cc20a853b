use Rattle.asg_cell_tables.proofs.Common.{◌≡◌, Bool, true, false, not, get_or, is_some, None, sym, ap, arith}
use Rattle.asg_cell_tables.proofs.PieceLemmas.{bits_more}
use Rattle.asg_cell_tables.proofs.piece_words.unlabelled_bits.Goals as goal

turned : (a b : Bool) → b ≡ not a → a ≡ not b
turned true b e = sym (ap not e)
turned false b e = sym (ap not e)

pub loop-k-preserved : goal.loop-k-preserved
loop-k-preserved c =
    bits_more c.loop-k.word c.loop-k.k (λ k. not (is_some (get_or c.args.columns.now k None))) c.is_none.result c.from.result (omega (arith, c.loop-k-test.true, c.requires)) (turned c.is_none.result _ c.is_none.ensures) c.from.ensures c.loop-k.invariant
