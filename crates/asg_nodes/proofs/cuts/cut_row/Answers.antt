use Rattle.asg_nodes.proofs.Common.{true, false, ◌&&◌, sym, subst, cuts_between, cuts_row, LosesCells}
use Rattle.asg_nodes.proofs.CutLemmas.{loses_both, loses_same}
use Rattle.asg_nodes.proofs.CutWords.{alone_row, lost_row}
use Rattle.asg_nodes.proofs.cuts.cut_row.Goals as goal

pub returns-then-alone : goal.returns-then-alone
returns-then-alone g c =
    let X = c.args.inst.now in
    let Q = c.args.square.now in
    let row = c.args.row in
    let chosen = c.args.chosen in
    let run = c.copies_of-run.result in
    let end = c.end_of_copies-end.result in
    let new = c.cut_between-then-alone.new.square in
    subst (λ b. LosesCells (cuts_row Q row chosen b) Q new) (sym c.if-alone.true)
    (loses_same Q new (λ r k. cuts_between row 0 run.from r k && cuts_between row run.to end r k) (cuts_row Q row chosen true) c.side.ensures.grid
    (λ r k _ hk. alone_row X Q c.requires.labels chosen run c.copies_of-run.ensures.run row r k hk end c.end_of_copies-end.ensures.end)
    (loses_both Q c.cut_between.new.square new (cuts_between row 0 run.from) (cuts_between row run.to end) c.cut_between.ensures c.cut_between-then-alone.ensures))

pub returns-else-alone : goal.returns-else-alone
returns-else-alone g c =
    let X = c.args.inst.now in
    let Q = c.args.square.now in
    let row = c.args.row in
    let chosen = c.args.chosen in
    let run = c.copies_of-run.result in
    let new = c.cut_between-else-alone.new.square in
    subst (λ b. LosesCells (cuts_row Q row chosen b) Q new) (sym c.if-alone.false)
    (loses_same Q new (cuts_between row run.from run.to) (cuts_row Q row chosen false) c.side.ensures.grid
    (λ r k _ hk. lost_row X Q c.requires.labels chosen run c.copies_of-run.ensures.run row r k hk)
    c.cut_between-else-alone.ensures)
