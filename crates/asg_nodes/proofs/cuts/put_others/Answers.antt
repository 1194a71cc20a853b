use Rattle.asg_nodes.proofs.CopyLemmas.{puts_others}
use Rattle.asg_nodes.proofs.cuts.put_others.Goals as goal

pub returns : goal.returns
returns c =
    puts_others c.args.bits.now c.put_columns.new.self c.put_columns-2.new.self c.args.row c.args.run c.columns-columns.result c.columns-columns.ensures.columns
    c.put_columns.ensures c.put_columns-2.ensures
