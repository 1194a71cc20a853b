use Rattle.asg_doc.proofs.Common.{[], ◌∷◌, sym, append_assoc, value_text, Wrote-append, Wrote-as}
use Rattle.asg_doc.proofs.line_writer.emit_value.Goals as goal

pub emit_numbers-requires : goal.emit_numbers-requires
emit_numbers-requires g c = c.requires

pub returns : goal.returns
returns g c =
    Wrote-as (sym (append_assoc c.args.word.now (value_text c.args.value.now) (10 ∷ [])))
    (Wrote-append c.emit.ensures (Wrote-append c.emit_numbers.ensures c.emit-2.ensures))
