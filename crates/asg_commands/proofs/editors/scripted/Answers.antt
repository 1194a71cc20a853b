use Rattle.asg_commands.proofs.Common.{◌≡◌, sym, subst, IfErr-weaker, StopsScript, script_in}
use Rattle.asg_commands.specs.declared.stops.Stop.{Stop}
use Rattle.asg_text.specs.TriedScripts.{ScriptFile}
use Rattle.asg_commands.specs.declared.stops.Stop.TheVariants.{NoMemory}
use Rattle.asg_commands.proofs.EditStarts.{edits_algebraic}
use Rattle.asg_commands.proofs.editors.scripted.Goals as goal

pub opened-requires-clause-algebraic : goal.opened-requires-clause-algebraic
opened-requires-clause-algebraic c = edits_algebraic c.args.job.now c.requires.edits c.requires.within

wanting : (file : ScriptFile) (stop : Stop) → stop ≡ NoMemory → StopsScript file stop
wanting file stop is = subst (StopsScript file) (sym is) tt

pub returns-in-Ok-clause-stop : goal.returns-in-Ok-clause-stop
returns-in-Ok-clause-stop c =
    let file = script_in c.args.job.now.objective c.args.inst c.args.script.now in
    IfErr-weaker c.opened.result (λ stop. stop ≡ NoMemory) (StopsScript file) (wanting file) c.opened.ensures.stop
