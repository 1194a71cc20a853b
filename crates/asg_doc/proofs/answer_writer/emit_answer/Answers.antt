use Rattle.asg_doc.proofs.Common.{[], ◌∷◌, ◌++◌, map, codes, decimal, ap, ended, cell_line, form_of, Wrote-append, Wrote-as}
use Rattle.asg_doc.proofs.answer_writer.emit_answer.Goals as goal

pub emit_value-requires : goal.emit_value-requires
emit_value-requires g c = (form_of c.requires.0, c.requires.1.value)

pub returns : goal.returns
returns g c = Wrote-append c.emit_value.ensures (Wrote-append
    (Wrote-as (ap (λ n. (codes "cells " ++ decimal n) ++ 10 ∷ []) c.len.ensures.count) c.emit_number_line.ensures)
    (Wrote-as (ap (λ cells. ended (map cell_line cells)) c.as_slice.ensures.items) c.emit_cells.ensures))
