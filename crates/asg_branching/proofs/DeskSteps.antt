-- What stays of a desk and of the memory of a search while a child is made.
use Rattle.asg_branching.proofs.Common.{◌≡◌, ℕ, ◌+◌, ◌*◌, ◌^◌, ◌<◌, ◌≤◌, length, vec_len, sym, ap, ◌∙◌, subst, arith, IsDesk, HasMemory, Desk, Search, placed, Problem, square_side, SlotList, Tree}

-- the square and the bits of a desk stay, and its node, and it is one for the side
pub record DeskStays {V : Type 0} (side : ℕ) (before after : Desk V) : Type 0 where
  pub work : after.work ≡ before.work
  pub node : after.node ≡ before.node
  pub bits : after.bits ≡ before.bits
  pub is : IsDesk side after

module _ {V : Type 0} (side : ℕ) (before after : Desk V) where
  -- after a tree grew
  pub desk_grown : IsDesk side before → after ≡ record before { trial = after.trial; bench = after.bench } → length after.trial ≡ length before.trial → after.bench.side ≡ before.bench.side → DeskStays side before after
  desk_grown is same trial bench =
      let room : vec_len after.room ≡ vec_len before.room = ap (λ (d : Desk V). vec_len d.room) same in
      let ids : vec_len after.ids ≡ vec_len before.ids = ap (λ (d : Desk V). vec_len d.ids) same in
      let steps = is.steps in
      let many = is.ids in
      record {
        work = ap (λ (d : Desk V). d.work) same;
        node = ap (λ (d : Desk V). d.node) same;
        bits = ap (λ (d : Desk V). d.bits) same;
        is = record {
          work = ap (λ (d : Desk V). d.work.now.side) same ∙ is.work;
          bit_rows = ap (λ (d : Desk V). d.bits.rows) same ∙ is.bit_rows;
          bit_columns = ap (λ (d : Desk V). d.bits.columns) same ∙ is.bit_columns;
          bench = bench ∙ is.bench;
          trial = trial ∙ is.trial;
          steps = omega (arith, room, steps);
          columns = ap (λ (d : Desk V). vec_len d.columns) same ∙ is.columns;
          ids = omega (arith, ids, many);
        };
      }

  -- and after a Hall set was written
  pub desk_closed : (first : Desk V) → DeskStays side first before → after ≡ record before { ids = after.ids } → vec_len after.ids ≡ vec_len before.ids → DeskStays side first after
  desk_closed first stays same ids =
      let is = stays.is in
      let room : vec_len after.room ≡ vec_len before.room = ap (λ (d : Desk V). vec_len d.room) same in
      let steps = is.steps in
      let many = is.ids in
      record {
        work = ap (λ (d : Desk V). d.work) same ∙ stays.work;
        node = ap (λ (d : Desk V). d.node) same ∙ stays.node;
        bits = ap (λ (d : Desk V). d.bits) same ∙ stays.bits;
        is = record {
          work = ap (λ (d : Desk V). d.work.now.side) same ∙ is.work;
          bit_rows = ap (λ (d : Desk V). d.bits.rows) same ∙ is.bit_rows;
          bit_columns = ap (λ (d : Desk V). d.bits.columns) same ∙ is.bit_columns;
          bench = ap (λ (d : Desk V). d.bench.side) same ∙ is.bench;
          trial = ap (λ (d : Desk V). length d.trial) same ∙ is.trial;
          steps = omega (arith, room, steps);
          columns = ap (λ (d : Desk V). vec_len d.columns) same ∙ is.columns;
          ids = omega (arith, ids, many);
        };
      }

-- the memory of a search with another tree, other slots and another desk
pub memory_with : {V : Type 0} (X : Problem) (S : Search V) → HasMemory X S → (tree : Tree V) (slots : SlotList V) (desk : Desk V) → slots.room ≡ S.slots.room → slots.side ≡ S.slots.side → length slots.used ≤ slots.room → tree.region.side ≡ S.tree.region.side → tree.halls.width ≡ S.tree.halls.width → IsDesk (square_side X) desk → HasMemory X (record S { tree = tree; slots = slots; desk = desk })
memory_with X S memory tree slots desk room side used region width is =
    let given = memory.given_fit in
    let small = memory.small in
    let halls = memory.halls_width in
    record {
      given_fit = omega (arith, given, room);
      used_fit = used;
      small = subst (λ n. n * placed X + 1 < 2 ^ 32) (sym room) small;
      choices_fit = memory.choices_fit ∙ sym room;
      choices_over = memory.choices_over;
      slots_side = side ∙ memory.slots_side;
      region_side = region ∙ memory.region_side;
      base_side = memory.base_side;
      halls_width = omega (arith, halls, width);
      desk = is;
    }
