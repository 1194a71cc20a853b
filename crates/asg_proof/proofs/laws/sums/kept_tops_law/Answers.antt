use Rattle.asg_proof.proofs.KeptTops.{kept_by_top}
use Rattle.asg_proof.proofs.laws.sums.kept_tops_law.Goals as goal

pub returns : goal.returns
returns c low high side phases square n le room kept =
    kept_by_top low high le side (λ list q all. c.tops_law.ensures.admitted low high side list q le all) phases square n room kept
