use Rattle.asg_brief.proofs.Common.{◌≡◌, IfOk-weaker, IsRankedLine, ranked_text}
use Rattle.asg_brief.proofs.LineTexts.{IsRankedLine-ends}
use Rattle.asg_brief.proofs.rankings.given_line.Goals as goal

pub returns : goal.returns
returns g c =
    let objective = c.args.objective in
    let X = c.args.inst.now in
    let count = c.args.count in
    let choices = c.args.ranker.now.given in
    let first = c.in_ok-first.first in
    let last = c.in_ok-last.last in
    IfOk-weaker c.ends_line.result (λ line. line ≡ ranked_text objective c.args.given count first last) (IsRankedLine objective X count)
    (λ line is.
    IsRankedLine-ends objective X count c.args.given choices c.choice.result.now c.choice-2.result.now first last line (c.ranked_ends_law.ensures objective X count choices c.requires.ranking) c.requires.many c.choice.ensures c.choice-2.ensures
    c.in_ok-first.ensures.exact c.in_ok-last.ensures.exact is)
    c.ends_line.ensures
