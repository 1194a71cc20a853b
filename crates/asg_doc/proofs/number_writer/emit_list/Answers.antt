use Rattle.std.proofs.Common.{◌∷◌, [], sym, append_assoc}
use Rattle.asg_grammar.specs.Spellings.{spaced}
use Rattle.asg_doc.specs.laws.Flows.{Wrote-append, Wrote-as}
use Rattle.asg_doc.proofs.number_writer.emit_list.Goals as goal

pub returns : goal.returns
returns g c =
    Wrote-as (sym (append_assoc c.args.word.now (spaced c.args.numbers.now) (10 ∷ [])))
    (Wrote-append c.emit.ensures (Wrote-append c.emit_spaced.ensures c.emit-2.ensures))
