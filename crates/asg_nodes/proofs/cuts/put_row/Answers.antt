use Rattle.asg_nodes.proofs.Common.{ℕ, true, false, not, ◌||◌, nat_le, sym, ap, ◌∙◌, subst, is_from_to, keeps_copies, PutsRow, column_label}
use Rattle.asg_nodes.proofs.CopyLemmas.{alone_keeps, others_keep, puts_same}
use Rattle.asg_nodes.proofs.cuts.put_row.Goals as goal

pub returns-then-alone : goal.returns-then-alone
returns-then-alone g c =
    let X = c.args.inst.now in
    let run = c.copies_of-run.result in
    let after = c.put_alone.new.bits in
    let keep = λ (k : ℕ). is_from_to run.from run.to k || nat_le c.end_of_copies-end.result k in
    subst (λ b. PutsRow c.args.bits.now after c.args.row (λ k. keeps_copies c.args.chosen b (column_label X k))) (sym c.if-alone.true)
    (puts_same c.args.bits.now after c.args.row keep (λ k. keeps_copies c.args.chosen true (column_label X k))
    (λ k. ap (λ n. is_from_to run.from run.to k || nat_le n k) c.end_of_copies-end.ensures.end ∙ alone_keeps X c.args.chosen run c.copies_of-run.ensures.run k)
    c.put_alone.ensures)

pub returns-else-alone : goal.returns-else-alone
returns-else-alone g c =
    let X = c.args.inst.now in
    let run = c.copies_of-run.result in
    let after = c.put_others.new.bits in
    subst (λ b. PutsRow c.args.bits.now after c.args.row (λ k. keeps_copies c.args.chosen b (column_label X k))) (sym c.if-alone.false)
    (puts_same c.args.bits.now after c.args.row (λ k. not (is_from_to run.from run.to k)) (λ k. keeps_copies c.args.chosen false (column_label X k))
    (others_keep X c.args.chosen run c.copies_of-run.ensures.run)
    c.put_others.ensures)
