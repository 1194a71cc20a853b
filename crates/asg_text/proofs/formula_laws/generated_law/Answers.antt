use Rattle.asg_text.proofs.FormulaTables.{generated_is_instance}
use Rattle.asg_text.proofs.formula_laws.generated_law.Goals as goal

pub returns : goal.returns
returns c = generated_is_instance c.whole_table_law.ensures
