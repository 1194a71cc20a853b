use Rattle.asg_grade_lists.proofs.Common.{◌≡◌, ◌∷◌, length, ap, ◌∙◌, subst, arith, AreTotals, CountsRight, phase_of}
use Rattle.asg_grade_lists.proofs.AmountLemmas.{amounts_count, takes_in}
use Rattle.asg_grade_lists.proofs.amounts.put_before.Goals as goal

pub put_before-requires : goal.put_before-requires
put_before-requires c =
    let amounts = c.read_amounts.new.amounts.items in
    let count = amounts_count c.args.grade c.args.phase.now.steps amounts (c.in_ok-are_read.ensures c.if-not-are_read.false) in
    let same = ap length c.as_slice.ensures.value in
    omega (arith, count, same, c.is_sized.ensures.few c.if-not-is_sized.false)

pub returns-clause-put : goal.returns-clause-put
returns-clause-put c = λ yes side room rows.
    let g = c.args.grade in
    let words = c.args.phase.now in
    let amounts = c.read_amounts.new.amounts.items in
    let given : phase_of c.as_slice.result.now c.enters.result.now c.leaves.result.now ≡ phase_of amounts words.enters words.leaves =
    ap (λ xs. phase_of xs c.enters.result.now c.leaves.result.now) c.as_slice.ensures.value
    ∙ ap (λ xs. phase_of amounts xs c.leaves.result.now) c.enters.ensures.enters
    ∙ ap (λ xs. phase_of amounts words.enters xs) c.leaves.ensures.leaves in
    takes_in g side words amounts c.args.totals.now c.put_before.new.self
    (c.is_sized.ensures.some c.if-not-is_sized.false)
    (omega (arith, room, c.is_sized.ensures.few c.if-not-is_sized.false))
    (c.in_ok-are_read.ensures c.if-not-are_read.false)
    (subst (λ n. CountsRight n (phase_of amounts words.enters words.leaves)) rows (subst (CountsRight (length c.args.totals.now.rows)) given (c.put_before.ensures.taken.0 yes).right))
    (λ others come. subst (λ p. AreTotals (p ∷ others) c.put_before.new.self) given (c.put_before.ensures.totals yes others come))
