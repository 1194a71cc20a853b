use Rattle.asg_rank.proofs.Common.{◌≡◌, ◌*◌, true, length, sym, refl, ap, ◌∙◌, subst, arith, IsDesk, placed, AreBitsFor, HallSets, SlotList}
use Rattle.asg_rank.proofs.opening.blank_search.Goals as goal

pub returns-clause-blank : goal.returns-clause-blank
returns-clause-blank g c X room has =
    let desk = c.desk_with.ensures in
    record {
      none_given = refl;
      no_slot = ap (λ (s : SlotList _). s.used) has.slots_are;
      room_is = ap (λ (s : SlotList _). s.room) has.slots_are;
      no_node = has.no_node;
      no_hall = ap (λ (h : HallSets). h.sets) has.halls_are;
      entries_fit = has.entries_fit;
      halls_fit = ap (λ (h : HallSets). h.most) has.halls_are;
      halls_width = ap (λ (h : HallSets). h.width) has.halls_are;
      choices_fit = has.choices_fit;
      choices_over = has.choices_over;
      work = desk.work ∙ has.desk.copy;
      no_square = desk.node;
      bits = subst (AreBitsFor c.args.root.reduced.now.side (λ _ _. true)) (sym desk.bits) has.desk.bits;
    }

pub returns-clause-memory : goal.returns-clause-memory
returns-clause-memory g c X room has side region =
    let slots = c.args.memory.answers.1 in
    let room_is : slots.room ≡ room = ap (λ (s : SlotList _). s.room) has.slots_are in
    let used : length slots.used ≡ 0 = ap (λ (s : SlotList _). length s.used) has.slots_are in
    let times : slots.room * placed X ≡ room * placed X = ap (λ n. n * placed X) room_is in
    let width : c.args.memory.tree.1.width ≡ length X.rows = ap (λ (h : HallSets). h.width) has.halls_are in
    let small = has.small in
    record {
      given_fit = omega arith;
      used_fit = omega (arith, used);
      small = omega (arith, times, small);
      choices_fit = has.choices_fit ∙ sym room_is;
      choices_over = has.choices_over;
      slots_side = ap (λ (s : SlotList _). s.side) has.slots_are;
      region_side = region;
      base_side = side;
      halls_width = omega (arith, width);
      desk = subst (λ n. IsDesk n c.desk_with.result) side
          (c.desk_with.ensures.desk c.args.root.reduced.now has.desk c.requires);
    }
