use Rattle.asg_promises.proofs.Common.{ap, ◌∙◌, inl, inr, asked_of}
use Rattle.asg_promises.proofs.DueLaws.{Known, due_once, is_brief}
use Rattle.asg_promises.proofs.laws.due_law.Goals as goal

pub returns-clause-status : goal.returns-clause-status
returns-clause-status c = λ words told status other text more tells first second.
    let lines = c.brief_line_law.ensures in
    let known : Known = record { reads = c.unique_reading.ensures.lists; refuses = c.refused_line.ensures.one; denies = c.one_reason.ensures.one; line = lines.instance; lines = lines.instances; ranked = lines.ranked } in
    (due_once known (asked_of words) told status other text more tells first second).0

pub returns-clause-text : goal.returns-clause-text
returns-clause-text c = λ words told status text more tells one first second.
    let lines = c.brief_line_law.ensures in
    let known : Known = record { reads = c.unique_reading.ensures.lists; refuses = c.refused_line.ensures.one; denies = c.one_reason.ensures.one; line = lines.instance; lines = lines.instances; ranked = lines.ranked } in
    (due_once known (asked_of words) told status status text more tells first second).1 (inl one)

pub returns-clause-brief : goal.returns-clause-brief
returns-clause-brief c = λ words told status other text more job tells is brief first second.
    let lines = c.brief_line_law.ensures in
    let known : Known = record { reads = c.unique_reading.ensures.lists; refuses = c.refused_line.ensures.one; denies = c.one_reason.ensures.one; line = lines.instance; lines = lines.instances; ranked = lines.ranked } in
    (due_once known (asked_of words) told status other text more tells first second).1 (inr (ap is_brief is ∙ brief))
