use Rattle.asg_doc_reader.proofs.Common.{SomeIff, FitsSigned, subst, to_z-of_z, w128, w64}
use Rattle.asg_doc_reader.proofs.WindowParts.{bound_gives}
use Rattle.asg_doc_reader.proofs.window_reader.bound_of.Goals as goal

pub returns : goal.returns
returns c =
    let number = c.in_ok-signed_number.field-0 in
    let fits = c.in_ok-signed_number.ensures.0 in
    bound_gives c.args.word.now number c.short_of.result fits c.in_ok-signed_number.ensures.1
    (subst (λ n. SomeIff c.short_of.result (FitsSigned w64 n) n) (to_z-of_z w128 number fits) c.short_of.ensures)
