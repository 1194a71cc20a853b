use Rattle.asg_verdicts.proofs.LevelCommon.{◌≡◌, ◌+◌, length, filter_map, ap, ◌∙◌, subst, arith, to_z-of_z, w64, to_z, of_z, range_with_len, chosen_cost, costs_at}
use Rattle.asg_verdicts.proofs.LevelSums.{byte_few, byte_is, count_more}
use Rattle.asg_verdicts.proofs.level_choices.count_of.Goals as goal

pub loop-row-preserved : goal.loop-row-preserved
loop-row-preserved c =
    let X = c.args.inst.now in
    let f = c.args.chosen.now in
    let inv = c.loop-row.invariant in
    record {
      some = ap (λ n. c.loop-row.count + n) (c.from-count.ensures ∙ byte_is c.has_cost.result) ∙ count_more X f _ c.loop-row.row c.loop-row.count c.get.result c.has_cost.result inv.some c.get.ensures c.has_cost.ensures;
      few = let byte = byte_few c.has_cost.result in omega (arith, inv.few, c.from-count.ensures, byte);
    }

pub returns : goal.returns
returns c =
    let X = c.args.inst.now in
    let f = c.args.chosen.now in
    let all : c.loop-row.row ≡ length f = omega (arith, c.loop-row-test.false, c.loop-row.auto.row-end, c.len-row-end.ensures) in
    subst (λ z. c.loop-row.count ≡ length (costs_at z (filter_map (chosen_cost X f) (range_with_len 0 (length f))))) (to_z-of_z w64 c.args.cost c.ranges.cost)
    (subst (λ n. c.loop-row.count ≡ length (costs_at (to_z w64 (of_z w64 c.args.cost)) (filter_map (chosen_cost X f) (range_with_len 0 n)))) all c.loop-row.invariant.some)
