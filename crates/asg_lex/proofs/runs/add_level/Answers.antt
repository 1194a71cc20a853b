use Rattle.asg_lex.proofs.Common.{length, FitsSigned, sym, ap, subst, arith, to_z-of_z, All-push, AreLevelParts, IsLevelPart, ArePhases}
use Rattle.std.specs.Int.{w64}
use Rattle.asg_lex.proofs.runs.add_level.Goals as goal

pub from_vec-requires : goal.from_vec-requires
from_vec-requires c = subst ArePhases (sym (ap (λ v. v.items) c.replace-phases.ensures.value)) c.requires.phases

pub returns-clause-parts : goal.returns-clause-parts
returns-clause-parts c =
    let held = subst ArePhases (sym (ap (λ v. v.items) c.replace-phases.ensures.value)) c.requires.phases in
    let few = c.requires.few in
    let same = ap (λ v. length v.items) c.replace-phases.ensures.value in
    subst AreLevelParts (sym c.in_ok-push.ensures.items)
    (All-push IsLevelPart c.args.levels.now.items _ c.requires.parts
    (record {
      cost_fits = subst (FitsSigned w64) (sym (to_z-of_z w64 c.cost.result c.cost.ensures.fits)) c.cost.ensures.fits;
      count_fits = omega (arith, few, same, c.len-count.ensures, c.replace-phases.result.ok.0);
      phases_are = subst ArePhases (sym c.in_ok-phases.ensures) held;
    }))
