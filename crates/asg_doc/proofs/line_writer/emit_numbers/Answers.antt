use Rattle.asg_doc.proofs.Common.{List, ℤ, FitsSigned, All, subst, IsWrittenValue, Many, w64}
use Rattle.asg_doc.specs.declared.documents.ValueForm.{ValueForm}
use Rattle.asg_doc.specs.declared.documents.ValueForm.TheVariants as forms
use Rattle.asg_doc.proofs.line_writer.emit_numbers.Goals as goal

-- the costs of a value that is written fit 64 bits
costs_fit : (form : ValueForm) (costs : List ℤ) → IsWrittenValue form (Many costs) → All (FitsSigned w64) costs
costs_fit forms.One costs has = absurd has
costs_fit forms.Two costs has = absurd has
costs_fit forms.Many costs has = has.each

pub emit_many-requires : goal.emit_many-requires
emit_many-requires g c = costs_fit c.requires.0 _ (subst (IsWrittenValue c.requires.0) c.in-Many.is c.requires.1)
