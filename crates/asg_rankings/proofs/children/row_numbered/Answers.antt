use Rattle.asg_rankings.proofs.Common.{◌≡◌, Bool, true, false, List, length, sym, refl, ap, ◌∙◌, arith, from_bool, placed_by, placed, active_count, is_active, count_below, one}
use Rattle.asg_model.specs.declared.parts.Row.{Row}
use Rattle.asg_model.specs.laws.Rows.{counted_total}
use Rattle.asg_rankings.proofs.ChildRows.{numbered_from_count}
use Rattle.asg_model.specs.declared.parts.Place.TheVariants.{All as PlaceAll}
use Rattle.asg_rankings.proofs.children.row_numbered.Goals as goal

number_of : (b : Bool) → from_bool b ≡ one b
number_of true = refl
number_of false = refl

pub returns-then-count-number : goal.returns-then-count-number
returns-then-count-number c =
    let l = c.loop-row in
    let more = c.from-count.ensures ∙ number_of c.is_active.result ∙ ap one c.is_active.ensures in
    numbered_from_count c.args.inst.now c.args.number l.row _ (omega (arith, l.invariant.0, l.invariant.1)) (omega (arith, more, l.invariant.0)) c.if-count-number.true

-- there are as many active rows
pub returns : goal.returns
returns c =
    let X = c.args.inst.now in
    let l = c.loop-row in
    let total : count_below (is_active X) (length X.rows) ≡ placed X = counted_total X PlaceAll ∙ ap (λ place. placed_by place (active_count X)) (sym c.requires.place) in
    let rows : length c.rows.result.now ≡ length X.rows = ap (λ (list : List Row). length list) c.rows.ensures.rows in
    let there : l.row ≡ length X.rows = omega (arith, rows, l.auto.row-end, c.loop-row-test.false) in
    let at = ap (count_below (is_active X)) there in
    absurd (omega (arith, total, at, c.requires.upto, l.invariant.0, l.invariant.1))
