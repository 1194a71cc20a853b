-- Where no cost lies between the ends, no column is met.
use Rattle.asg_values.proofs.Common.{◌≡◌, Bool, true, false, ◌&&◌, ◌||◌, get_or, slice_get, refl, sym, ◌∙◌, to_z-of_z, w64, option_map_or}
use Rattle.asg_values.specs.Marks.{lies_between}
use Rattle.asg_values.proofs.reach.reach_piece.Goals as goal

none_met : (mark usable lies : Bool) → lies ≡ false → mark ≡ (mark || (usable && lies))
none_met true usable lies e = refl
none_met false true lies e = sym e
none_met false false lies e = refl

pub returns-else-has_between : goal.returns-else-has_between
returns-else-has_between c =
    let costs = c.args.costs.now in
    let same_low = to_z-of_z w64 c.args.low c.ranges.low in
    let same_high = to_z-of_z w64 c.args.high c.ranges.high in
    record {
      inside = λ k from before.
          none_met (get_or c.args.reached.now k false) (option_map_or (λ column. column.usable) (slice_get c.args.columns.now k) false) (lies_between costs c.args.low c.args.high k)
          ((λ i. lies_between costs (sym same_low i) (sym same_high i) k) ∙ c.has_between.ensures c.if-has_between.false k from before);
      before = λ k less. refl;
      past = λ k from. refl;
    }
