use Rattle.asg_text.proofs.InstanceLaw.{spells_instance}
use Rattle.asg_text.proofs.laws.instance_law.Goals as goal

pub returns : goal.returns
returns c = spells_instance c.whole_table_law.ensures c.asn_law.ensures
