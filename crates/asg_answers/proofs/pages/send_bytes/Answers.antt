use Rattle.asg_answers.proofs.Common.{on_err_weaker, on_ok_weaker}
use Rattle.asg_answers.proofs.WrittenPages.{put_whole, put_prefix, fault_rose}
use Rattle.asg_answers.proofs.pages.send_bytes.Goals as goal

pub returns-clause-whole : goal.returns-clause-whole
returns-clause-whole g c =
    on_ok_weaker c.finish.result (λ standing. put_whole c.requires c.in_ok-line.ensures.wrote c.finish.ensures.emptied standing) c.finish.ensures.standing

pub returns-clause-prefix : goal.returns-clause-prefix
returns-clause-prefix g c =
    on_err_weaker c.finish.result (λ broken. put_prefix c.requires c.in_ok-line.ensures.wrote c.finish.ensures.emptied broken) c.finish.ensures.broken

pub returns-clause-cause : goal.returns-clause-cause
returns-clause-cause g c =
    on_err_weaker c.finish.result (λ broken. fault_rose c.requires c.in_ok-line.ensures.wrote c.finish.ensures.emptied broken) c.finish.ensures.broken
