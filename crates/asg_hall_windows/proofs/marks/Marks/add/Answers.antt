use Rattle.asg_hall_windows.proofs.Common.{◌≡◌, ◌+◌, ◌*◌, get_or, set, refl, sym, subst, length-set, get_or_read, bit_or, HasBit}
use Rattle.asg_hall_windows.proofs.MarkLemmas.{bits_kept, bits_added}
use Rattle.asg_hall_windows.proofs.marks.Marks.add.Goals as goal

pub returns-clause-kept : goal.returns-clause-kept
returns-clause-kept c =
    let words = c.args.self.now.words.items in
    let place = c.args.line * c.args.self.now.width + c.args.number in
    let read : c.index.result.now ≡ get_or words place 0 = get_or_read words place c.index.result.now c.requires c.index.ensures 0 in
    record {
      width = refl;
      count = length-set words place (bit_or c.index.result.now c.args.bits);
      bits = λ p k has. subst (λ n. HasBit (get_or (set words place (bit_or n c.args.bits)) p 0) k) (sym read) (bits_kept words place c.args.bits p k c.requires has);
    }

pub returns-clause-added : goal.returns-clause-added
returns-clause-added c k has =
    let words = c.args.self.now.words.items in
    let place = c.args.line * c.args.self.now.width + c.args.number in
    let read : c.index.result.now ≡ get_or words place 0 = get_or_read words place c.index.result.now c.requires c.index.ensures 0 in
    subst (λ n. HasBit (get_or (set words place (bit_or n c.args.bits)) place 0) k) (sym read) (bits_added words place c.args.bits k c.requires has)
