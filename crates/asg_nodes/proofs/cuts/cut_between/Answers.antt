use Rattle.asg_nodes.proofs.Common.{◌+◌, ◌/◌, ◌≤◌, ◌&&◌, arith, word_count, cuts_word, cuts_between}
use Rattle.asg_nodes.proofs.CutLemmas.{loses_none, loses_both, loses_same}
use Rattle.asg_nodes.proofs.CutWords.{cut_upto, cut_no_words, cut_next_word, cut_all_words}
use Rattle.asg_nodes.proofs.cuts.cut_between.Goals as goal

pub words-init : goal.words-init
words-init g c =
    let from = c.args.from in
    let to = c.args.to in
    loses_none c.args.square.now (cut_upto c.args.row (from / 64) from to) (cut_no_words c.args.row from to)

pub words-preserved : goal.words-preserved
words-preserved g c =
    let Q = c.args.square.now in
    let new = c.cut_word.new.square in
    let row = c.args.row in
    let from = c.args.from in
    let to = c.args.to in
    let number = c.words.number in
    loses_same Q new (λ r k. cut_upto row number from to r k && cuts_word row number from to r k) (cut_upto row (number + 1) from to) c.side.ensures.grid
    (λ r k _ _. cut_next_word row from to r k number)
    (loses_both Q c.words.square new (cut_upto row number from to) (cuts_word row number from to) c.words.invariant c.cut_word.ensures)

pub returns : goal.returns
returns g c =
    let row = c.args.row in
    let from = c.args.from in
    let to = c.args.to in
    let number = c.words.number in
    let past : word_count to ≤ number = omega (arith, c.words-test.false, c.div_ceil-number-end.ensures) in
    loses_same c.args.square.now c.words.square (cut_upto row number from to) (cuts_between row from to) c.side.ensures.grid
    (λ r k _ _. cut_all_words row from to r k number past)
    c.words.invariant
