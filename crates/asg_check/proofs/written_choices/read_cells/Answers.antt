use Rattle.asg_check.proofs.Common.{◌+◌, ◌<◌, ◌≤◌, false, length, take, drop, sym, ap, ◌∙◌, append-nil, arith, length-set, drop_of_length-le, take_all, common_steps, read_cells}
use Rattle.asg_check.proofs.Reading.{joined, read-step}
use Rattle.asg_check.proofs.written_choices.read_cells.Goals as goal

pub loop-place-preserved : goal.loop-place-preserved
loop-place-preserved c =
    let X = c.args.inst.now in
    let place = c.loop-place.place in
    let choice = c.loop-place.choice in
    let chosen = c.next_column-chosen in
    let here : place < length X.rows = grind (arith, common_steps) in
    record {
      over = ap length c.set.ensures ∙ length-set choice place chosen.result.0 ∙ c.loop-place.invariant.over;
      read = ap (λ f. joined (take (place + 1) f) (read_cells X (drop (place + 1) X.rows) chosen.result.1.now)) c.set.ensures
          ∙ read-step X X.rows (record { id = 0; active = false }) choice place chosen.result.0 c.loop-place.left.now chosen.result.1.now here (omega (arith, here, c.loop-place.invariant.over))
          (rw c.rows-rows.ensures.rows at chosen.ensures.column) chosen.ensures.rest
          ∙ c.loop-place.invariant.read;
    }

pub returns : goal.returns
returns c =
    let X = c.args.inst.now in
    let choice = c.loop-place.choice in
    let left = c.loop-place.left.now in
    let end : length choice ≤ c.loop-place.place = grind (arith, common_steps) in
    sym (ap (λ t. joined t (read_cells X (drop c.loop-place.place X.rows) left)) (take_all c.loop-place.place choice end)
    ∙ ap (λ rows. joined choice (read_cells X rows left)) (drop_of_length-le X.rows (omega (arith, end, c.loop-place.invariant.over)))
    ∙ ap (λ f. (f, left)) (append-nil choice))
    ∙ c.loop-place.invariant.read
