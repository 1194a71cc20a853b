use Rattle.asg_brief.proofs.Common.{◌≡◌, sym, ap, ◌∙◌, IfOk-weaker, IsRankedLine, ranked_text, answer_at}
use Rattle.asg_brief.proofs.LineTexts.{IsRankedLine-ends}
use Rattle.asg_brief.proofs.sum_rankings.line_of.Goals as goal

pub returns : goal.returns
returns c =
    let objective = c.args.objective in
    let X = c.args.inst.now in
    let count = c.args.count in
    let ends = c.requires in
    let first = c.in_ok-first.first in
    let last = c.in_ok-last.last in
    IfOk-weaker c.ends_line.result (λ line. line ≡ ranked_text objective count count first last) (IsRankedLine objective X count)
    (λ line is.
    IsRankedLine-ends objective X count count ends.choices c.args.ends.now.first c.args.ends.now.last first last line (c.ranked_ends_law.ensures objective X count ends.choices ends.ranking) ends.many ends.first_one (ends.last_one ∙ sym (ap (answer_at ends.choices) ends.many))
    c.in_ok-first.ensures.exact c.in_ok-last.ensures.exact is)
    c.ends_line.ensures
