use Rattle.asg_nodes.proofs.Common.{◌≡◌, ◌<◌, ◌≤◌, length, sym, ap, ◌∙◌, subst, entry_at}
use Rattle.asg_nodes.proofs.RebuiltCalls.{above_from, above_upto, answer_from, answer_upto, next_is, labels_are, left_reduced, own_is_admitted, own_is_settled}
use Rattle.asg_nodes.proofs.rebuilding.step_down.Goals as goal

pub entry-before-requires-clause-from : goal.entry-before-requires-clause-from
entry-before-requires-clause-from g c =
    let M = g.M.Ordered.monoid_of c.args.m.now in
    let s = c.requires.tree in
    let T = c.args.tree.now in
    let e = c.entry-here.result in
    let here : e ≡ entry_at M.unit T.entries.items c.args.node = c.entry-here.ensures M.unit ∙ ap (λ es. entry_at M.unit es c.args.node) c.deref.ensures.value in
    above_from M (g.M.DMonoid.difference c.args.m.now) s.enter c.args.inst.now c.args.choices.now s.winner s.upto T s.part s.tree c.args.node c.requires.from c.requires.upto e here

pub entry-before-requires-clause-upto : goal.entry-before-requires-clause-upto
entry-before-requires-clause-upto g c =
    let M = g.M.Ordered.monoid_of c.args.m.now in
    let s = c.requires.tree in
    let T = c.args.tree.now in
    let e = c.entry-here.result in
    let here : e ≡ entry_at M.unit T.entries.items c.args.node = c.entry-here.ensures M.unit ∙ ap (λ es. entry_at M.unit es c.args.node) c.deref.ensures.value in
    subst (λ es. e.parent ≤ length es) (sym c.deref-2.ensures.value)
    (above_upto M (g.M.DMonoid.difference c.args.m.now) s.enter c.args.inst.now c.args.choices.now s.winner s.upto T s.part s.tree c.args.node c.requires.from c.requires.upto e here)

pub cut_by-requires : goal.cut_by-requires
cut_by-requires g c =
    let M = g.M.Ordered.monoid_of c.args.m.now in
    let D = g.M.DMonoid.difference c.args.m.now in
    let s = c.requires.tree in
    let X = c.args.inst.now in
    let given = c.args.choices.now in
    let T = c.args.tree.now in
    let n = c.args.node in
    let e = c.entry-here.result in
    let here : e ≡ entry_at M.unit T.entries.items n = c.entry-here.ensures M.unit ∙ ap (λ es. entry_at M.unit es n) c.deref.ensures.value in
    let a = c.entry-before.result in
    let before : a ≡ entry_at M.unit T.entries.items e.parent = c.entry-before.ensures M.unit ∙ ap (λ es. entry_at M.unit es e.parent) c.deref-2.ensures.value in
    record {
      labels = labels_are M D s.enter X given s.winner s.upto T s.part s.tree n c.requires.from c.requires.upto c.args.work.now s.standing;
      place = c.requires.place;
      over = s.over;
      from = answer_from M D s.enter X given s.winner s.upto T s.part s.tree n c.requires.from c.requires.upto e here a before;
      upto = answer_upto M D s.enter X given s.winner s.upto T s.part s.tree n c.requires.from c.requires.upto e here a before;
    }

pub settle_own-requires : goal.settle_own-requires
settle_own-requires g c =
    let M = g.M.Ordered.monoid_of c.args.m.now in
    let D = g.M.DMonoid.difference c.args.m.now in
    let s = c.requires.tree in
    let X = c.args.inst.now in
    let given = c.args.choices.now in
    let T = c.args.tree.now in
    let n = c.args.node in
    let e = c.entry-here.result in
    let here : e ≡ entry_at M.unit T.entries.items n = c.entry-here.ensures M.unit ∙ ap (λ es. entry_at M.unit es n) c.deref.ensures.value in
    let a = c.entry-before.result in
    let before : a ≡ entry_at M.unit T.entries.items e.parent = c.entry-before.ensures M.unit ∙ ap (λ es. entry_at M.unit es e.parent) c.deref-2.ensures.value in
    let side = c.cut_by.ensures.labels.side in
    record {
      next = next_is M D s.enter X given s.winner s.upto T s.part s.tree n c.requires.from c.requires.upto e here a before;
      reduced = (left_reduced M D s.enter X given s.winner s.upto T s.part s.tree n c.requires.from c.requires.upto e here a before c.args.work.now s.standing c.cut_by.new.square c.cut_by.ensures).values;
      side = c.requires.side ∙ sym side;
      room = subst (λ k. k < length c.args.room.now) (sym side) c.requires.room;
      admitted = own_is_admitted M D s.enter X given s.winner s.upto T s.part s.tree n c.requires.from c.requires.upto e here a before c.args.work.now s.standing c.cut_by.new.square c.cut_by.ensures
          (g.met.M.Ordered.laws c.args.m.now) c.spare.ensures.forest;
    }

pub returns-clause-reduced : goal.returns-clause-reduced
returns-clause-reduced g c enter winner upto part tree standing =
    let M = g.M.Ordered.monoid_of c.args.m.now in
    let T = c.args.tree.now in
    let n = c.args.node in
    let e = c.entry-here.result in
    let here : e ≡ entry_at M.unit T.entries.items n = c.entry-here.ensures M.unit ∙ ap (λ es. entry_at M.unit es n) c.deref.ensures.value in
    let a = c.entry-before.result in
    let before : a ≡ entry_at M.unit T.entries.items e.parent = c.entry-before.ensures M.unit ∙ ap (λ es. entry_at M.unit es e.parent) c.deref-2.ensures.value in
    own_is_settled M (g.M.DMonoid.difference c.args.m.now) enter c.args.inst.now c.args.choices.now winner upto T part tree n c.requires.from c.requires.upto e here a before c.args.work.now standing c.cut_by.new.square c.cut_by.ensures
    (g.met.M.Ordered.laws c.args.m.now) c.spare.ensures.forest c.settle_own.new.work c.settle_own.ensures.settled
