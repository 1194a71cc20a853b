use Rattle.asg_match.proofs.Common.{◌+◌, [], ◌++◌, length, take, is_some, sym, ap, ◌∙◌, arith, cons_option, hall_ids, one}
use Rattle.asg_match.proofs.HallSteps.{few_ids, hall_ids_more, length_more}
use Rattle.asg_match.proofs.hall_set.write_ids.Goals as goal

pub write_id-count-requires-clause-within : goal.write_id-count-requires-clause-within
write_id-count-requires-clause-within g c =
    let few = few_ids c.args.inst.now c.args.rows.now c.loop-i.i c.requires.apart in
    omega (arith, few, c.loop-i.invariant.1, c.loop-i.invariant.2, c.requires.room, c.rows-rows.ensures.instance.well_formed.few_rows)

pub write_id-count-requires-clause-few : goal.write_id-count-requires-clause-few
write_id-count-requires-clause-few g c =
    let few = few_ids c.args.inst.now c.args.rows.now c.loop-i.i c.requires.apart in
    omega (arith, few, c.loop-i.invariant.1, c.rows-rows.ensures.instance.well_formed.few_rows)

pub loop-i-preserved : goal.loop-i-preserved
loop-i-preserved g c =
    let X = c.args.inst.now in
    let rows = c.args.rows.now in
    let i = c.loop-i.i in
    let more = hall_ids_more X rows i 0 c.loop-i-test.true in
    let longer = length_more X rows i 0 c.loop-i-test.true in
    let id = c.id_of-id.ensures in (
      c.write_id-count.ensures.list
          ∙ ap (λ xs. xs ++ cons_option c.id_of-id.result []) c.loop-i.invariant.0
          ∙ ap (λ o. hall_ids X (take i rows) ++ cons_option o []) id
          ∙ sym more,
      c.write_id-count.ensures.count
          ∙ ap (λ n. n + one (is_some c.id_of-id.result)) c.loop-i.invariant.1
          ∙ ap (λ o. length (hall_ids X (take i rows)) + one (is_some o)) id
          ∙ sym longer,
      c.write_id-count.auto.out ∙ c.loop-i.invariant.2,
    )

pub returns-clause-few : goal.returns-clause-few
returns-clause-few g c =
    let few = few_ids c.args.inst.now c.args.rows.now c.loop-i.i c.requires.apart in
    omega (arith, few, c.loop-i.invariant.1)
