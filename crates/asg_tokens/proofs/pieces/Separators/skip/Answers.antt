use Rattle.asg_tokens.proofs.Common.{drop, ap, ◌∙◌, arith, prefix_len-le-length, pieces, separates, pieces_skipped}
use Rattle.asg_tokens.proofs.pieces.Separators.skip.Goals as goal

pub split_at-requires : goal.split_at-requires
split_at-requires c =
    omega (arith, c.count_in_front.ensures, prefix_len-le-length (separates c.args.self) c.args.text.now)

pub returns-clause-same : goal.returns-clause-same
returns-clause-same c =
    ap (pieces (separates c.args.self)) (c.split_at.ensures.back ∙ ap (λ n. drop n c.args.text.now) c.count_in_front.ensures)
    ∙ pieces_skipped (separates c.args.self) c.args.text.now
