use Rattle.asg_tokens.proofs.Common.{not, take, drop, sym, ap, ◌∙◌, arith, false-eqb, prefix_len-le-length, eqb-true, separates, IsCut, cut_first, cut_none}
use Rattle.asg_tokens.proofs.pieces.first_piece.Goals as goal
use Rattle.asg_tokens.proofs.pieces.first_piece.Goals.{After-is_empty}

pub split_at-requires : goal.split_at-requires
split_at-requires c =
    omega (arith, c.len_before.ensures, prefix_len-le-length (λ byte. not (separates c.args.separators byte)) c.skip-from_piece.result.now)

-- the split cuts the text
text_cut : (c : After-is_empty) → IsCut (separates c.args.separators) c.args.text.now c.split_at.result.0.now c.split_at.result.1.now
text_cut c = record {
  from_word = c.skip-from_piece.result.now;
  skipped = c.skip-from_piece.ensures.from;
  front = c.split_at.ensures.front ∙ ap (λ n. take n c.skip-from_piece.result.now) c.len_before.ensures;
  back = c.split_at.ensures.back ∙ ap (λ n. drop n c.skip-from_piece.result.now) c.len_before.ensures;
}

pub returns-then-is_empty-clause-none : goal.returns-then-is_empty-clause-none
returns-then-is_empty-clause-none c = cut_none (text_cut (goal.at.returns-then-is_empty-clause-none c).After-is_empty) (eqb-true _ 0 (sym c.if-is_empty.ensures))

pub returns-else-is_empty-clause-first : goal.returns-else-is_empty-clause-first
returns-else-is_empty-clause-first c =
    cut_first (text_cut (goal.at.returns-else-is_empty-clause-first c).After-is_empty) (omega (arith, false-eqb _ 0 c.if-is_empty.ensures))
