use Rattle.std.proofs.Common.{◌∷◌, [], sym, append_assoc}
use Rattle.asg_doc.specs.laws.Flows.{Wrote-append, Wrote-as}
use Rattle.asg_doc.proofs.number_writer.emit_words.Goals as goal

pub returns : goal.returns
returns g c =
    Wrote-as (sym (append_assoc c.args.front.now c.args.back.now (10 ∷ [])))
    (Wrote-append c.emit.ensures (Wrote-append c.emit-2.ensures c.emit-3.ensures))
