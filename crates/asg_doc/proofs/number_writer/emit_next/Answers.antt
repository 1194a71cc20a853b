use Rattle.std.proofs.Common.{◌∷◌, ◌<◌, ap, sym, arith}
use Rattle.std.proofs.lemmas.Fmt.{decimal_digit}
use Rattle.itoa.proofs.Decimal.{decimal_two}
use Rattle.asg_doc.specs.laws.Flows.{Wrote-append, Wrote-pushed}
use Rattle.asg_doc.proofs.number_writer.emit_next.Goals as goal

pub returns-then-not-has_room : goal.returns-then-not-has_room
returns-then-not-has_room g c = Wrote-append c.emit.ensures c.emit_number.ensures

pub returns-then-number-lt10 : goal.returns-then-number-lt10
returns-then-number-lt10 g c =
    Wrote-pushed c.push_digit.ensures (ap (λ digits. 32 ∷ digits) (sym (decimal_digit c.args.number (omega arith))))

pub returns-else-number-lt10 : goal.returns-else-number-lt10
returns-else-number-lt10 g c =
    let below : c.args.number < 100 = omega arith in
    Wrote-pushed c.push_pair.ensures (ap (λ digits. 32 ∷ digits) (sym (decimal_two c.args.number (omega arith) below)))
