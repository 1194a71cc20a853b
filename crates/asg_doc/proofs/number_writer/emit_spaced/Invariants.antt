use Rattle.std.proofs.Common.{take}
use Rattle.asg_doc.specs.Flow.{Wrote}
use Rattle.asg_grammar.specs.Spellings.{spaced}
use Rattle.asg_doc.proofs.number_writer.emit_spaced.Given as goal

abbrev pub invariant-numbers : goal.invariant-numbers
invariant-numbers g l =
    Wrote g.K.Sink.written g.K.Sink.faults l.fn.out l.out l.fn.page l.page
    (spaced (take l.number-index l.numbers))
