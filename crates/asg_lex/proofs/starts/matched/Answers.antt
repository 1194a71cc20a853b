use Rattle.asg_lex.proofs.Common.{sym, refl, subst, cost_of, IsMarked, AllowsCells, Under}
use Rattle.asg_lex.proofs.StartLemmas.{marks_band, lies_in_band}
use Rattle.asg_lex.proofs.starts.matched.Goals as goal

pub unreachable-requires : goal.unreachable-requires
unreachable-requires c =
    let X = c.args.inst.now in
    let instance = c.rows-rows.ensures.instance in
    let limit = c.args.limit in
    let band = Under (cost_of limit) in
    let marks = c.args.marks.now.bits in
    let f = c.requires.choice.choice in
    let allowed = subst (λ n. AllowsCells (IsMarked marks n) X band) (sym c.requires.side)
    (marks_band limit c.requires.some X instance c.args.square.now c.requires.square marks c.requires.cells) in
    c.hall_law.ensures X band _ f (c.hall_of-count.ensures.hall X band refl refl refl allowed) c.requires.choice.valid (lies_in_band limit c.requires.some X instance f c.requires.choice.under)
