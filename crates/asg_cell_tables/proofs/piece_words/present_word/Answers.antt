use Rattle.asg_cell_tables.proofs.Common.{get_or, pos, ap, ◌∙◌, arith, SFits, rules, get_or_default, is_there, absent, w64}
use Rattle.asg_cell_tables.proofs.FirstWords.{absent_number}
use Rattle.asg_cell_tables.proofs.PieceLemmas.{bits_more}
use Rattle.asg_cell_tables.proofs.piece_words.present_word.Goals as goal

pub loop-k-preserved : goal.loop-k-preserved
loop-k-preserved c =
    let a = get_or c.args.firsts.now c.loop-k.k (pos 0) in
    let fits : SFits w64 a = search rules in
    bits_more c.loop-k.word c.loop-k.k (λ k. is_there (get_or c.args.firsts.now k absent)) _ c.from.result (omega (arith, c.loop-k-test.true, c.requires))
    (absent_number a fits ∙ ap is_there (get_or_default c.args.firsts.now c.loop-k.k (pos 0) absent (omega (arith, c.loop-k-test.true))))
    c.from.ensures c.loop-k.invariant
