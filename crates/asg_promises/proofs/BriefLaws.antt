-- What each due status says of a brief request.
use Rattle.asg_promises.proofs.Common.{◌≡◌, ℕ, true, List, subst, TellsBest, TellsNone, TellsRanking, TellsScript, IsBestLine, IsNoneLine, IsRankedLine, Form, IsBriefScript, IsToldOf, IsToldOfScript, Job}

-- what is told in brief is told by a line
pub best_line : (job : Job) (bytes text : List ℕ) → job.brief ≡ true → IsToldOf job bytes text (TellsBest job.brief job.objective) → IsToldOf job bytes text (IsBestLine job.objective)
best_line job bytes text brief did = record {
  problem = did.problem;
  held = did.held;
  instance = did.instance;
  tells = subst (λ b. TellsBest b job.objective did.problem text) brief did.tells;
}

pub none_line : (job : Job) (form : Form) (bytes text : List ℕ) → job.brief ≡ true → IsToldOf job bytes text (λ X. TellsNone job.brief job.objective X form) → IsToldOf job bytes text (IsNoneLine job.objective)
none_line job form bytes text brief did = record {
  problem = did.problem;
  held = did.held;
  instance = did.instance;
  tells = subst (λ b. TellsNone b job.objective did.problem form text) brief did.tells;
}

pub ranked_line : (job : Job) (count : ℕ) (bytes text : List ℕ) → job.brief ≡ true → IsToldOf job bytes text (λ X. TellsRanking job.brief job.objective X count) → IsToldOf job bytes text (λ X. IsRankedLine job.objective X count)
ranked_line job count bytes text brief did = record {
  problem = did.problem;
  held = did.held;
  instance = did.instance;
  tells = subst (λ b. TellsRanking b job.objective did.problem count text) brief did.tells;
}

pub script_lines : (job : Job) (bytes says text : List ℕ) → job.brief ≡ true → IsToldOfScript job bytes says text → IsBriefScript job bytes says text
script_lines job bytes says text brief did = record {
  problem = did.problem;
  lines = did.lines;
  held = did.held;
  followed = did.followed;
  told = subst (λ b. TellsScript b job.objective did.problem did.lines text) brief did.tells;
}
