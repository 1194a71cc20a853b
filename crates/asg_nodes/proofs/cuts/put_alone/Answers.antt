use Rattle.asg_nodes.proofs.CopyLemmas.{puts_alone}
use Rattle.asg_nodes.proofs.cuts.put_alone.Goals as goal

pub returns : goal.returns
returns c =
    puts_alone c.args.bits.now c.put_only.new.self c.put_columns.new.self c.args.row c.args.run c.columns-columns.result c.columns-columns.ensures.columns
    c.args.end c.put_only.ensures c.put_columns.ensures
