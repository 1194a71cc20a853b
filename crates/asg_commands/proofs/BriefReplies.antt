-- What is due where a line was made of a ranking.
use Rattle.asg_commands.proofs.Common.{◌≡◌, ℕ, ◌≤◌, true, List, sym, refl, subst, Answers, IsReply, TellsNone, TellsRanking, Reply, Status, Done, Nothing, IsNoneLine, IsRankedLine, Problem, DueToRank, Ranked, Unrankable, ranking_work, most_work, Job}
use Rattle.asg_check.specs.declared.document_forms.Form.TheVariants.{Rank}

-- a reply with a status and a text that are due
reply_due : (Owed : Status → List ℕ → Type 0) (reply : Reply) (status : Status) (text : List ℕ) → Owed status text → IsReply reply status text → Answers Owed reply
reply_due Owed reply status text owed is = subst (Owed reply.status) is.1 (subst (λ s. Owed s text) is.0 owed)

pub ranked_line_due : (job : Job) (count : ℕ) (X : Problem) (reply : Reply) (line : List ℕ) → job.brief ≡ true → ranking_work X count ≤ most_work → IsRankedLine job.objective X count line → IsReply reply Done line → Answers (DueToRank job count X) reply
ranked_line_due job count X reply line brief few told is =
    reply_due (DueToRank job count X) reply Done line (Ranked few (subst (λ b. TellsRanking b job.objective X count line) (sym brief) told) refl) is

pub none_line_due : (job : Job) (count : ℕ) (X : Problem) (reply : Reply) (line : List ℕ) → job.brief ≡ true → ranking_work X count ≤ most_work → IsNoneLine job.objective X line → IsReply reply Nothing line → Answers (DueToRank job count X) reply
none_line_due job count X reply line brief few told is =
    reply_due (DueToRank job count X) reply Nothing line (Unrankable few (subst (λ b. TellsNone b job.objective X (Rank count) line) (sym brief) told) refl) is
