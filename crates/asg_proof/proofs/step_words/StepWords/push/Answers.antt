use Rattle.asg_proof.proofs.Common.{[], ◌∷◌, ◌++◌, ◌∙◌, short_words}
use Rattle.asg_proof.proofs.ShortWordLemmas.{numbers_more, words_more}
use Rattle.asg_proof.proofs.step_words.StepWords.push.Goals as goal

pub invariant_of-self-2 : goal.invariant_of-self-2
invariant_of-self-2 c =
    let numbers = c.self.inside.numbers.items in
    numbers_more numbers c.append.new.numbers.items c.entry.new.long.items c.in_ok-short.short c.self.invariant.even
    (c.entry.ensures.told (short_words numbers) c.self.invariant.told) c.in_ok-short.ensures.place c.in_ok-append.ensures.list

pub returns : goal.returns
returns c =
    let numbers = c.self.inside.numbers.items in
    let before = c.entry.ensures.same (short_words numbers) c.self.invariant.told ∙ c.self.view_is in
    words_more numbers c.append.new.numbers.items c.entry.new.long.items c.in_ok-short.short c.self.invariant.even c.in_ok-append.ensures.list
    ∙ (λ i. before i ++ (c.in_ok-short.ensures.word i) ∷ [])
