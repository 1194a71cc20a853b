use Rattle.asg_pool.proofs.Common.{◌+◌, ◌-◌, cond, List, ◌++◌, length, take, vec_len, ap, ◌∙◌, arith, take_all, length-replicate}
use Rattle.std.proofs.Math.ListN.{replicate}
use Rattle.std.proofs.lemmas.List.{append_assoc, length-append}
use Rattle.asg_pool.proofs.strips.append.Goals as goal

pub returns : goal.returns
returns g c =
    let v = c.args.values.now in
    let w = c.extend_from_slice.new.self in
    let row = c.args.row.now in
    let e = c.extend_from_slice.ensures in
    let r = c.resize.ensures in
    let places = c.len.result + c.args.width in
    let fill : List g.row.T.Denot = replicate (places - vec_len w) c.index-row-0.result in
    let room = c.requires.room in
    let wide = c.requires.width in
    let len = c.len.ensures in
    let extends = e.succeeds (omega (arith, room, wide)) in
    let resizes = r.succeeds (omega (arith, room, len, e.capacity)) in
    let longer = e.len ∙ ap (λ b. cond b (vec_len v + length row) (vec_len v)) extends in
    let extended = e.items ∙ ap (λ b. cond b (v.items ++ row) v.items) extends in
    let resized = r.items ∙ ap (λ b. cond b (take places w.items ++ fill) w.items) resizes in
    let whole = take_all places w.items (let n = w.ok.0 in omega (arith, n, longer, len, wide)) in
    let filled = length-replicate (places - vec_len w) c.index-row-0.result in
    record {
      items = (
        fill,
        resized ∙ ap (λ xs. xs ++ fill) (whole ∙ extended) ∙ append_assoc v.items row fill,
        omega (arith, filled, longer, len, wide),
      );
      capacity = omega (arith, e.capacity, r.capacity);
    }
