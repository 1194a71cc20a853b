use Rattle.asg_bit_rows.proofs.Common.{false, subst, PutsColumns}
use Rattle.asg_bit_rows.proofs.RunLemmas.{puts_only}
use Rattle.asg_bit_rows.proofs.bit_rows.BitRows.put_only.Goals as goal

pub returns : goal.returns
returns c =
    let B = c.args.self.now in
    puts_only B c.put_columns.new.self c.put_columns-2.new.self c.args.r c.args.from c.args.to c.columns-columns.ensures.table
    (subst (λ n. PutsColumns B c.put_columns.new.self c.args.r 0 n false) c.columns-columns.ensures.columns c.put_columns.ensures)
    c.put_columns-2.ensures
