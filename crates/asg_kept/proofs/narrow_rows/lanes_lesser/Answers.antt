use Rattle.asg_kept.proofs.Common.{◌^◌, ◌<◌, sym, subst, AreLesserBits}
use Rattle.asg_kept.proofs.LesserLemmas.{word_is, lanes_bits, lanes_few}
use Rattle.asg_kept.proofs.narrow_rows.lanes_lesser.Goals as goal

pub returns-clause-bits : goal.returns-clause-bits
returns-clause-bits c =
    let a = c.args in
    let r = c.requires in
    subst (AreLesserBits a.base a.values.now a.columns.now a.keys.now a.first 16) (sym (word_is a.base a.values.now a.columns.now a.keys.now a.first r.values r.columns r.keys))
    (lanes_bits a.base a.values.now a.columns.now a.keys.now a.first r.values r.columns r.keys)

pub returns-clause-few : goal.returns-clause-few
returns-clause-few c =
    let a = c.args in
    let r = c.requires in
    subst (λ n. n < 2 ^ 16) (sym (word_is a.base a.values.now a.columns.now a.keys.now a.first r.values r.columns r.keys))
    (lanes_few a.base a.values.now a.columns.now a.keys.now a.first r.values r.columns r.keys)
