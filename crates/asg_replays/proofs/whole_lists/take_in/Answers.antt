use Rattle.asg_replays.proofs.Common.{◌≡◌, ◌∷◌, map, sym, ap, ◌∙◌, plain_word, phase_of, worded, phase-words}
use Rattle.asg_replays.proofs.whole_lists.take_in.Goals as goal

pub returns-clause-taken : goal.returns-clause-taken
returns-clause-taken g c = λ yes rest are.
    let read = c.as_slice.result.now in
    let steps = g.N.SumNumber.numbers read in
    let enters = c.enters.result.now in
    let leaves = c.leaves.result.now in
    let spelled = c.in_ok-read_steps.ensures.words c.if-not-branch.false in
    let written : worded plain_word (phase_of steps enters leaves) ≡ c.args.phase.now =
    phase-words plain_word steps enters leaves c.args.phase.now
    (sym (c.requires.spelled read) ∙ ap (map (g.M.Written.word_of c.args.m.now)) c.as_slice.ensures.value ∙ spelled ∙ c.steps.ensures)
    c.enters.ensures.enters c.leaves.ensures.leaves in
    record {
      phases = phase_of steps enters leaves ∷ are.phases;
      written = ap (λ w. w ∷ map (worded plain_word) are.phases) written ∙ ap (λ ws. c.args.phase.now ∷ ws) are.written;
      come = c.put_before.ensures.totals yes are.phases are.come;
    }
