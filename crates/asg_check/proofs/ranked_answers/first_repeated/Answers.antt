use Rattle.asg_check.proofs.Common.{◌≡◌, length, sym, ap, ◌∙◌, arith, IsRepeatedAt, none_at_all, none_more}
use Rattle.asg_check.proofs.RankedTold.{fresh_at, none_seen, repeated_at, repeated_within, seen_at, seen_more, unseen_at}
use Rattle.asg_check.proofs.ranked_answers.first_repeated.Goals as goal

pub returns-then-not-branch : goal.returns-then-not-branch
returns-then-not-branch c =
    let answers = c.args.answers.now in
    let added = c.in_ok-insert.ensures.added in
    let of : c.as_slice.result.now ≡ c.index-answers-place.result.cells = c.as_slice.ensures.items ∙ ap (λ answer. answer.cells) (sym c.index-answers-place.is) in (
      c.loop-place-test.true,
      repeated_at answers c.loop-place.place c.index-answers-place.result c.loop-place-test.true c.index-answers-place.is
          (seen_at answers c.loop-place.place c.loop-place.seen c.as_slice.result c.index-answers-place.result of c.loop-place.invariant.1 (sym added ∙ c.if-not-branch.true)),
      c.loop-place.invariant.0,
    )

pub loop-place-preserved : goal.loop-place-preserved
loop-place-preserved c =
    let answers = c.args.answers.now in
    let added = c.in_ok-insert.ensures.added in
    let of : c.as_slice.result.now ≡ c.index-answers-place.result.cells = c.as_slice.ensures.items ∙ ap (λ answer. answer.cells) (sym c.index-answers-place.is) in (
      none_more (IsRepeatedAt answers) c.loop-place.place c.loop-place.invariant.0
          (fresh_at answers c.loop-place.place c.index-answers-place.result c.loop-place-test.true c.index-answers-place.is
          (unseen_at answers c.loop-place.place c.loop-place.seen c.as_slice.result c.index-answers-place.result of c.loop-place.invariant.1 (sym added ∙ c.if-not-branch.false))),
      seen_more answers c.loop-place.place c.index-answers-place.result c.loop-place-test.true c.index-answers-place.is c.loop-place.seen c.insert.new.self c.as_slice.result of c.loop-place.invariant.1 c.in_ok-insert.ensures.updates,
    )

pub loop-place-init : goal.loop-place-init
loop-place-init c = (λ m less. absurd (omega (arith, less)), none_seen c.args.answers.now c.new-seen.result c.new-seen.ensures.empty)

pub returns : goal.returns
returns c =
    let answers = c.args.answers.now in
    none_at_all (IsRepeatedAt answers) (length answers) (repeated_within answers) (λ m less. c.loop-place.invariant.0 m (omega (arith, less, c.loop-place-test.false)))
