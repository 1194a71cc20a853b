use Rattle.asg_replays.proofs.Common.{◌<◌, map, length, All, sym, ap, ◌∙◌, subst, arith, All-push, IsValue, Word, none_at-between, values-between}
use Rattle.asg_replays.proofs.replays.read_between.Goals as goal

abbrev none : Word
none = record { grade = 0; amount = 0 }

pub returns-in_default-clause-none : goal.returns-in_default-clause-none
returns-in_default-clause-none g c =
    let m = c.args.m.now in
    let is = ap (g.M.Written.value_of m) (sym (c.get.ensures none)) ∙ sym c.from_word.ensures ∙ c.in_default.is in
    λ off others vs same.
    none_at-between (g.M.Ordered.monoid_of m) (g.M.Written.word_of m) (g.M.Written.value_of m) (g.met.M.Written.word_laws m) c.args.words.now c.args.from c.args.to c.loop-place.place
    none c.loop-place.invariant.order c.loop-place-test.true c.requires.within is others vs same

pub loop-place-preserved : goal.loop-place-preserved
loop-place-preserved g c =
    let m = c.args.m.now in
    let M = g.M.Ordered.monoid_of m in
    let spelled = g.met.M.Written.word_laws m in
    let is = ap (g.M.Written.value_of m) (sym (c.get.ensures none)) ∙ sym c.from_word.ensures ∙ c.in-Some.is in
    let items = c.in_ok-push.ensures.items in
    let within : c.loop-place.place < length c.args.words.now = omega (arith, c.loop-place-test.true, c.requires.within) in
    record {
      order = omega (arith, c.loop-place.invariant.order);
      words = ap (λ xs. map (g.M.Written.word_of m) xs) items
          ∙ values-between M (g.M.Written.word_of m) (g.M.Written.value_of m) spelled c.args.words.now c.args.from c.loop-place.place none c.loop-place.values.items c.in-Some.value
          c.loop-place.invariant.order within c.loop-place.invariant.words is;
      values = subst (All (IsValue M)) (sym items) (All-push (IsValue M) c.loop-place.values.items c.in-Some.value c.loop-place.invariant.values (spelled.found _ _ is).0);
    }
