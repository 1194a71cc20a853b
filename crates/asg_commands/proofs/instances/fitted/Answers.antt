use Rattle.asg_commands.proofs.Common.{◌≡◌, [], ◌∷◌, IfOk, IfErr, sym, ap, ◌∙◌, subst, StopsInstance, Holds, Refuses, fitted, passed}
use Rattle.asg_commands.proofs.InstanceLemmas.{fitted_file, stops_file, unfitted_file}
use Rattle.asg_commands.proofs.instances.fitted.Goals as goal

pub returns-in-Ok-clause-held : goal.returns-in-Ok-clause-held
returns-in-Ok-clause-held c =
    let job = c.args.job.now in
    let file : fitted job.objective job.place job.each c.args.spelled ≡ passed job.objective c.shape.new.self = fitted_file job.objective job.place job.each c.args.spelled c.in-Ok.ensures.in_range ∙ ap (passed job.objective) (sym c.in-Ok.ensures.shaped) in
    subst (λ found. IfOk c.passed.result (λ held. found ≡ Holds held)) (sym file) c.passed.ensures.held

pub returns-in-Ok-clause-stop : goal.returns-in-Ok-clause-stop
returns-in-Ok-clause-stop c =
    let job = c.args.job.now in
    let file : fitted job.objective job.place job.each c.args.spelled ≡ passed job.objective c.shape.new.self = fitted_file job.objective job.place job.each c.args.spelled c.in-Ok.ensures.in_range ∙ ap (passed job.objective) (sym c.in-Ok.ensures.shaped) in
    subst (λ found. IfErr c.passed.result (StopsInstance found)) (sym file) c.passed.ensures.stop

pub returns-in-Err-clause-stop : goal.returns-in-Err-clause-stop
returns-in-Err-clause-stop c =
    let job = c.args.job.now in
    let X = c.args.spelled in
    let file : fitted job.objective job.place job.each X ≡ Refuses (13 ∷ c.rows_asked.result ∷ []) =
    unfitted_file job.objective job.place job.each X c.in-Err.ensures.out_of_range ∙ ap (λ rows. Refuses (13 ∷ rows ∷ [])) (sym c.rows_asked.ensures) in
    subst (StopsInstance (fitted job.objective job.place job.each X)) (sym c.stopped.ensures) (stops_file (fitted job.objective job.place job.each X) (13 ∷ c.rows_asked.result ∷ []) c.refusal.result file c.refusal.ensures)
