use Rattle.asg_commands.proofs.Common.{◌+◌, ap, IfOk-weaker}
use Rattle.asg_verdicts.specs.laws.ByObjective.{none_admitted}
use Rattle.asg_commands.proofs.JudgeLemmas.{IsJudging-first, IsJudging-more, judged_all, judged_denied, line_tried, line_within}
use Rattle.asg_commands.proofs.judge.verdict.Goals as goal

pub lines-init : goal.lines-init
lines-init c = record {
  judging = IsJudging-first c.args.job.now.objective c.args.form c.args.inst c.args.lines.now c.args.documents.now c.requires.counted c.requires.tried c.requires.side c.requires.passes c.requires.asked;
  known = none_admitted c.args.job.now.objective c.args.inst;
}

pub judge_line-requires-clause-tried : goal.judge_line-requires-clause-tried
judge_line-requires-clause-tried c =
    let l = c.lines in
    line_tried c.args.job.now.objective c.args.form c.args.inst c.args.lines.now c.args.documents.now l.place l.count l.now _ c.lines-test.true l.invariant.judging

pub judge_line-requires-clause-within : goal.judge_line-requires-clause-within
judge_line-requires-clause-within c =
    let l = c.lines in
    line_within c.args.job.now.objective c.args.form c.args.inst c.args.lines.now c.args.documents.now l.place l.count l.now _ c.lines-test.true l.invariant.judging

pub judge_line-requires-clause-side : goal.judge_line-requires-clause-side
judge_line-requires-clause-side c = c.lines.invariant.judging.side

pub judge_line-requires-clause-passes : goal.judge_line-requires-clause-passes
judge_line-requires-clause-passes c = c.lines.invariant.judging.passes

pub judge_line-requires-clause-asked : goal.judge_line-requires-clause-asked
judge_line-requires-clause-asked c = c.lines.invariant.judging.asked

pub judge_line-requires-clause-known : goal.judge_line-requires-clause-known
judge_line-requires-clause-known c = c.lines.invariant.known

pub returns-in-Some : goal.returns-in-Some
returns-in-Some c =
    let lines = c.args.lines.now in
    let l = c.lines in
    judged_denied c.args.job.now.objective c.args.form c.args.inst lines c.args.documents.now l.place l.count l.now _ c.lines-test.true l.invariant.judging c.judge_line.new.inst _ c.in-Some.denied
    c.in_ok-denied.ensures.judged c.in-Some.is

pub lines-preserved : goal.lines-preserved
lines-preserved c =
    let lines = c.args.lines.now in
    let l = c.lines in
    let did = c.in_ok-denied.ensures in
    record {
      judging =
          IsJudging-more c.args.job.now.objective c.args.form c.args.inst lines c.args.documents.now l.place l.count l.now _ c.lines-test.true l.invariant.judging c.judge_line.new.inst (l.count + c.solves-count.result) _
          (ap (λ n. l.count + n) c.solves-count.ensures) did.after did.side did.passes did.judged c.in-None.is;
      known = did.known c.in-None.is;
    }

pub returns : goal.returns
returns c =
    IfOk-weaker c.acceptance.result _ _
    (λ reply says. judged_all c.args.job.now.objective c.args.form c.args.inst c.args.lines.now c.args.documents.now c.lines.place c.lines.count c.lines.now reply c.lines-test.false c.lines.invariant.judging says)
    c.acceptance.ensures
