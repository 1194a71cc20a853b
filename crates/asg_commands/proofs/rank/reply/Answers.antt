use Rattle.asg_commands.proofs.Common.{◌<◌, [], ◌∷◌, refl, ap, subst, refused_instance_text, Instance, DueToRank, TooMuch, IsRefusal, most_work}
use Rattle.asg_commands.proofs.ReplyLemmas.{replied}
use Rattle.asg_commands.proofs.rank.reply.Goals as goal

pub returns-in-Err-RankTooLarge : goal.returns-in-Err-RankTooLarge
returns-in-Err-RankTooLarge c =
    let job = c.args.job.now in
    let X = c.args.inst.now in
    let count = c.args.count in
    let work = c.in-Err-RankTooLarge.work in
    let refuses = subst (IsRefusal X count) c.in-Err-RankTooLarge.field-0-is c.in-Err-RankTooLarge.ensures.refusal in
    replied (DueToRank job count X) Instance (refused_instance_text (18 ∷ work ∷ [])) c.refusal.result
    (TooMuch (subst (λ w. most_work < w) refuses.0 refuses.1) refl (ap (λ w. refused_instance_text (18 ∷ w ∷ [])) refuses.0))
    c.refusal.ensures
