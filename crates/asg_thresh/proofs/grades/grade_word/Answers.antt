use Rattle.asg_thresh.proofs.Common.{◌≡◌, ◌+◌, ◌-◌, ◌*◌, ◌<◌, min, cond, get_or, is_some, None, sym, ap, ◌∙◌, arith, lt-ltb}
use Rattle.asg_thresh.proofs.GradeLemmas.{grades_full}
use Rattle.asg_thresh.proofs.grades.grade_word.Goals as goal

pub returns-then-is_full : goal.returns-then-is_full
returns-then-is_full c =
    let Q = c.args.square.now in
    let start = c.args.row * Q.side in
    let first = 64 * c.args.number in
    grades_full Q (start + first) (start + min (first + 64) Q.side)
    (λ k from below.
    let bit = k - (start + first) in
    let within : first + bit < Q.side = omega (arith, from, below) in
    let place : start + (first + bit) ≡ k = omega (arith, from) in
    ap (λ i. is_some (get_or Q.cells i None)) (sym place)
    ∙ sym (ap (λ b. is_some (cond b (get_or Q.cells (start + (first + bit)) None) None)) (lt-ltb (first + bit) Q.side within))
    ∙ c.is_full.ensures c.if-is_full.true bit (omega (arith, from, below)))
