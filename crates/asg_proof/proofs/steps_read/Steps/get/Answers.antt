use Rattle.asg_proof.proofs.Common.{◌≡◌, ◌/◌, ◌<◌, length, slice_index_or, sym, ap, ◌∙◌, subst, arith}
use Rattle.asg_proof.proofs.ShortWordLemmas.{words_count, word_at}
use Rattle.asg_proof.proofs.steps_read.Steps.get.Goals as goal

pub short_at-requires : goal.short_at-requires
short_at-requires c =
    let count : length c.self.inside.numbers.now / 2 ≡ length c.args.self.now =
    words_count c.self.inside.numbers.now c.self.inside.long.now ∙ ap length c.self.view_is in
    omega (arith, c.requires, count)

pub returns : goal.returns
returns c = λ d.
    c.told.ensures
    ∙ word_at c.self.inside.numbers.now c.self.inside.long.now c.args.place c.short_at.result d (subst (λ ws. c.args.place < length ws) (sym c.self.view_is) c.requires) c.short_at.ensures
    ∙ ap (λ ws. slice_index_or ws c.args.place d) c.self.view_is
