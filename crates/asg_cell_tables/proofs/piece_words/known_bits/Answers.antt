use Rattle.asg_cell_tables.proofs.Common.{length, get_or, is_some, None, sym, ap, subst, AreKnownAs}
use Rattle.asg_cell_tables.proofs.PieceLemmas.{bits_same}
use Rattle.asg_cell_tables.proofs.piece_words.known_bits.Goals as goal

pub returns-in-Plain : goal.returns-in-Plain
returns-in-Plain c =
    let columns = c.args.columns.now in
    let known = subst (λ l. AreKnownAs l c.args.first columns) c.in-Plain.is c.requires.known in
    bits_same (length columns) c.equal_bits.result _ (λ k. is_some (get_or columns k None)) c.equal_bits.ensures (λ k h. sym (ap is_some (known k h)))

pub returns-in-Twice : goal.returns-in-Twice
returns-in-Twice c =
    let columns = c.args.columns.now in
    let known = subst (λ l. AreKnownAs l c.args.first columns) c.in-Twice.is c.requires.known in
    bits_same (length columns) c.equal_bits-in-Twice.result _ (λ k. is_some (get_or columns k None)) c.equal_bits-in-Twice.ensures (λ k h. sym (ap is_some (known k h)))

pub returns-in-Extra : goal.returns-in-Extra
returns-in-Extra c =
    let columns = c.args.columns.now in
    let known = subst (λ l. AreKnownAs l c.args.first columns) c.in-Extra.is c.requires.known in
    bits_same (length columns) c.equal_bits-in-Extra.result _ (λ k. is_some (get_or columns k None)) c.equal_bits-in-Extra.ensures (λ k h. sym (ap is_some (known k h)))
