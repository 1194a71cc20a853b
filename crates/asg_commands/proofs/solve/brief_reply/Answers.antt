use Rattle.asg_commands.proofs.Common.{true, IfSome, sym, refl, subst, bytes_of, SolverTakes, TellsBest, Solved}
use Rattle.asg_commands.proofs.solve.brief_reply.Goals as goal

pub returns-in-Some : goal.returns-in-Some
returns-in-Some c =
    let objective = c.args.job.now.objective in
    let X = c.args.inst.now in
    let told = subst (λ found. IfSome found (λ text. TellsBest true objective X (bytes_of text))) c.in-Some.is c.in_ok-text.ensures.text in
    let takes = subst (λ found. IfSome found (λ _. SolverTakes objective X)) c.in-Some.is c.in_ok-text.ensures.takes in
    Solved takes (subst (λ b. TellsBest b objective X (bytes_of c.in-Some.text)) (sym c.requires.brief) told) refl
