use Rattle.asg_check.specs.KnownPhases.{AreKnown}
use Rattle.asg_commands.proofs.JudgeLemmas.{IsJudging}
use Rattle.asg_commands.proofs.judge.verdict.Given as goal

-- the documents so far certify, and phases are known
abbrev pub invariant-lines : goal.invariant-lines
invariant-lines l = record {
  judging : IsJudging l.job.objective l.form l.fn.inst l.lines l.documents l.place l.count l.now;
  known : AreKnown l.job.objective l.now l.known;
}
