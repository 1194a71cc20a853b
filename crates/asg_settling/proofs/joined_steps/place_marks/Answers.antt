use Rattle.asg_settling.proofs.Common.{◌≡◌, ℕ, ◌<◌, ◌≤◌, length, set, slice_index, sym, ◌∙◌, subst, ⊎_elim, arith, length-set, get_or-set_other, get_or-set_same, cases_lt}
use Rattle.asg_settling.proofs.joined_steps.place_marks.Goals as goal

pub loop-i-preserved : goal.loop-i-preserved
loop-i-preserved c =
    let l = c.loop-i in
    let inv = l.invariant in
    let v = c.later_place.result in
    let e = c.later_place.ensures in
    let now = set l.places l.i v in
    let within : l.i < length l.places = omega (arith, c.loop-i-test.true, inv.count, c.requires) in
    let stands : (i : ℕ) → i < l.i → slice_index now i ≡ slice_index l.places i = λ i h. get_or-set_other l.places l.i i v 0 (λ at. omega (arith, at, h)) in
    let set_here : slice_index now l.i ≡ v = get_or-set_same l.places l.i v 0 within in
    record {
      count = length-set l.places l.i v ∙ inv.count;
      here = λ i h late.
          ⊎_elim
          (λ (early : i < l.i). stands i early ∙ inv.here i early late)
          (λ (last : l.i ≤ i).
          let at : l.i ≡ i = omega (arith, last, h) in
          subst (λ j. slice_index now j ≡ c.args.place) at (set_here ∙ e.here (subst (λ j. c.args.from ≤ slice_index c.args.marks.now j) (sym at) late)))
          (cases_lt i l.i);
      others = λ i h early_mark.
          ⊎_elim
          (λ (early : i < l.i). stands i early ∙ inv.others i early early_mark)
          (λ (last : l.i ≤ i).
          let at : l.i ≡ i = omega (arith, last, h) in
          subst (λ j. slice_index now j ≡ slice_index c.args.places.now j) at
          (set_here ∙ e.others (subst (λ j. slice_index c.args.marks.now j < c.args.from) (sym at) early_mark) ∙ inv.rest l.i (omega arith)))
          (cases_lt i l.i);
      rest = λ i h. get_or-set_other l.places l.i i v 0 (λ at. omega (arith, at, h)) ∙ inv.rest i (omega (arith, h));
    }

pub returns : goal.returns
returns c =
    let l = c.loop-i in
    record {
      count = l.invariant.count;
      here = λ i h late. l.invariant.here i (omega (arith, h, c.loop-i-test.false)) late;
      others = λ i h early. l.invariant.others i (omega (arith, h, c.loop-i-test.false)) early;
    }
