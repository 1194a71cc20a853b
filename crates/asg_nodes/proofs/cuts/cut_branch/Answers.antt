use Rattle.asg_nodes.proofs.Common.{◌≡◌, ◌+◌, ◌<◌, true, cond, ◌&&◌, None, sym, ap, ◌∙◌, subst, arith, get_or_from_slice_get, HasLabelsOf-kept, is_active, count_below, cuts_numbered, LosesCells, count_more, keeps_cell}
use Rattle.asg_nodes.proofs.CutBranches.{cut_rows, idle_next, active_next, cut_end}
use Rattle.asg_nodes.proofs.CutLemmas.{loses_both, loses_same}
use Rattle.asg_nodes.proofs.cuts.cut_branch.Goals as goal
use Rattle.asg_nodes.proofs.cuts.cut_branch.Goals.{then-is_active, else-is_active}

pub cut_numbered-requires-clause-labels : goal.cut_numbered-requires-clause-labels
cut_numbered-requires-clause-labels g c =
    HasLabelsOf-kept c.args.inst.now c.args.square.now c.rows.square c.rows.invariant.cut.labels c.requires.labels

pub rows-preserved : goal.rows-preserved
rows-preserved g c =
    let X = c.args.inst.now in
    let f = c.args.choice.now in
    let branch = c.args.branch in
    let row = c.rows.row in
    let Q = c.args.square.now in
    let now = c.rows.square in
    let i = c.rows.invariant in
    let more = count_more (is_active X) row in
    elim c.if-is_active.branch [
      | then-is_active w ↦
          let active : is_active X row ≡ true = sym c.is_active.ensures ∙ w.if-is_active.true in
          let number : c.rows.number + 1 ≡ count_below (is_active X) row + 1 = ap (λ n. n + 1) i.number in
          let one = subst (λ n. LosesCells (cuts_numbered now row w.get.result n branch) now w.cut_numbered.new.square) number w.cut_numbered.ensures in
          let is = get_or_from_slice_get f row w.get.result None w.get.ensures in
          record {
            number = w.number-is ∙ number ∙ sym (more ∙ ap (λ b. count_below (is_active X) row + cond b 1 0) active);
            few = let is_number = w.number-is in let few = i.few in omega (arith, is_number, few);
            cut =
                subst (LosesCells (cut_rows X f branch (row + 1)) Q) (sym w.square-is)
                (loses_same Q w.cut_numbered.new.square (λ r k. cut_rows X f branch row r k && cuts_numbered now row w.get.result (count_below (is_active X) row + 1) branch r k) (cut_rows X f branch (row + 1)) c.side.ensures.grid
                (λ r k hr hk. active_next X c.requires.place f branch row active now (HasLabelsOf-kept X Q now i.cut.labels c.requires.labels) w.get.result is r k (subst (λ n. k < n) c.requires.labels.side hk))
                (loses_both Q now w.cut_numbered.new.square (cut_rows X f branch row) (cuts_numbered now row w.get.result (count_below (is_active X) row + 1) branch) i.cut one));
          }
      | else-is_active w ↦
          let idle = sym c.is_active.ensures ∙ w.if-is_active.false in
          let none : count_below (is_active X) row + 0 ≡ count_below (is_active X) row = omega arith in
          record {
            number = w.number-is ∙ i.number ∙ sym (more ∙ ap (λ b. count_below (is_active X) row + cond b 1 0) idle ∙ none);
            few = let is_number = w.number-is in let few = i.few in omega (arith, is_number, few);
            cut =
                subst (LosesCells (cut_rows X f branch (row + 1)) Q) (sym w.square-is)
                (loses_same Q now (cut_rows X f branch row) (cut_rows X f branch (row + 1)) c.side.ensures.grid
                (λ r k hr hk. idle_next X c.requires.place f branch row idle r k)
                i.cut);
          }
    ]

pub returns : goal.returns
returns g c =
    let past = c.rows-test.false in
    let over = c.requires.over in
    let len = c.len-row-end.ensures in
    loses_same c.args.square.now c.rows.square (cut_rows c.args.inst.now c.args.choice.now c.args.branch c.rows.row) (keeps_cell c.args.inst.now c.args.choice.now c.args.branch) c.side.ensures.grid
    (λ r k hr hk. cut_end c.args.inst.now c.requires.place c.args.choice.now c.args.branch c.rows.row (omega (arith, past, over, len)) r k)
    c.rows.invariant.cut
