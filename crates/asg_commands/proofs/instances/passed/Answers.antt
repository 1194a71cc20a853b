use Rattle.asg_commands.proofs.Common.{◌≡◌, ℕ, List, [], ◌∷◌, IfOk, IfErr, IsNone, Option, sym, refl, ap, ◌∙◌, subst, StopsInstance, Holds, Refuses, passed, passed_by, sided}
use Rattle.asg_commands.proofs.InstanceLemmas.{stops_file}
use Rattle.asg_commands.proofs.instances.passed.Goals as goal

pub returns-in-Some-clause-stop : goal.returns-in-Some-clause-stop
returns-in-Some-clause-stop c =
    let job = c.args.job.now in
    let X = c.args.inst in
    let numbers : List ℕ = 14 ∷ c.from.result ∷ c.from-in-Some.result ∷ [] in
    let found = c.refused_cost_law.ensures.first job.objective X (c.in-Some.row, c.in-Some.column) c.in-Some.ensures.found in
    let file : passed job.objective X ≡ Refuses numbers = ap (λ found. passed_by found X) found ∙ (λ i. Refuses (14 ∷ sym c.from.ensures i ∷ sym c.from-in-Some.ensures i ∷ [])) in
    subst (StopsInstance (passed job.objective X)) (sym c.stopped.ensures) (stops_file (passed job.objective X) numbers c.refusal.result file c.refusal.ensures)

pub returns-in-None-clause-held : goal.returns-in-None-clause-held
returns-in-None-clause-held c =
    let job = c.args.job.now in
    let X = c.args.inst in
    let file : passed job.objective X ≡ sided X = ap (λ found. passed_by found X) ((c.refused_cost_law.ensures.none job.objective X).1 (c.negative.ensures.none.0 (subst (λ (found : Option (ℕ × ℕ)). IsNone found) (sym c.in-None.is) refl))) in
    subst (λ found. IfOk c.sided.result (λ held. found ≡ Holds held)) (sym file) c.sided.ensures.held

pub returns-in-None-clause-stop : goal.returns-in-None-clause-stop
returns-in-None-clause-stop c =
    let job = c.args.job.now in
    let X = c.args.inst in
    let file : passed job.objective X ≡ sided X = ap (λ found. passed_by found X) ((c.refused_cost_law.ensures.none job.objective X).1 (c.negative.ensures.none.0 (subst (λ (found : Option (ℕ × ℕ)). IsNone found) (sym c.in-None.is) refl))) in
    subst (λ found. IfErr c.sided.result (StopsInstance found)) (sym file) c.sided.ensures.stop
