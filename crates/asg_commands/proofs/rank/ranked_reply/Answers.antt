use Rattle.asg_commands.proofs.Common.{sym, refl, subst, TellsRanking, Done, text_of, DueToRank, Ranked}
use Rattle.asg_commands.proofs.ReplyLemmas.{replied}
use Rattle.asg_commands.proofs.rank.ranked_reply.Goals as goal

pub returns : goal.returns
returns c =
    let job = c.args.job.now in
    let X = c.args.inst.now in
    let document = c.in_ok-document.document in
    let told = subst (λ brief. TellsRanking brief job.objective X c.args.count (text_of document)) (sym c.requires.whole) (document, c.in_ok-document.ensures, refl) in
    replied (DueToRank job c.args.count X) Done (text_of document) c.sheet.result (Ranked c.requires.few told refl) c.sheet.ensures
