use Rattle.asg_rank.proofs.Common.{take, sym, ap, ◌∙◌, subst, arith, IsReady, rules_of, IsPlantable, most_work}
use Rattle.asg_rank.proofs.RootSteps.{rankable_by, plantable}
use Rattle.asg_rank.proofs.Sizes.{room_work}
use Rattle.asg_rank.proofs.opening.open_search.Goals as goal

pub record_count-records-requires-clause-work : goal.record_count-records-requires-clause-work
record_count-records-requires-clause-work g c =
    room_work c.args.inst.now c.answer_room-room.result c.args.count most_work c.answer_room-room.ensures c.requires.work

pub begun_search-requires-clause-work : goal.begun_search-requires-clause-work
begun_search-requires-clause-work g c =
    room_work c.args.inst.now c.answer_room-room.result c.args.count most_work c.answer_room-room.ensures c.requires.work

pub plant-requires : goal.plant-requires
plant-requires g c =
    let kind = c.args.kind.now in
    let k = g.K.Kind.monoid kind in
    let X = c.args.inst.now in
    let enter = g.K.Kind.entered kind in
    let R = rules_of (g.K.M.Ordered.monoid_of k) (g.K.M.DMonoid.difference k) enter in
    let begun = c.in_ok-begun.begun in
    let is = c.in_ok-begun.ensures in
    let rankable = rankable_by R (g.K.Kind.objective kind) (g.K.Kind.reach kind) X c.requires.place c.requires.side c.requires.reach c.rows-rows.ensures.instance c.requires.passes (g.met.K.Kind.enters_value kind) in
    let room = c.answer_room-room.result in
    let room_is = c.answer_room-room.ensures in
    let asked = c.requires.some in
    record {
      planted = (
        enter,
        room,
        subst (λ z. IsPlantable (rules_of (g.K.M.Ordered.monoid_of z) (g.K.M.DMonoid.difference z) enter) X room begun.0 begun.1 begun.2) (sym c.monoid-m.ensures)
            (plantable R (g.met.K.M.Ordered.laws k) X rankable (c.square_law.ensures.presence X) room c.record_count-records.result (omega (arith, room_is, asked)) c.record_count-records.ensures begun.0 begun.1 begun.2 is.root is.blank is.memory),
      );
    }

pub returns-clause-ready : goal.returns-clause-ready
returns-clause-ready g c =
    let kind = c.args.kind.now in
    let k = g.K.Kind.monoid kind in
    let X = c.args.inst.now in
    let enter = g.K.Kind.entered kind in
    let R = rules_of (g.K.M.Ordered.monoid_of k) (g.K.M.DMonoid.difference k) enter in
    let begun = c.in_ok-begun.begun in
    let is = c.in_ok-begun.ensures in
    let rankable = rankable_by R (g.K.Kind.objective kind) (g.K.Kind.reach kind) X c.requires.place c.requires.side c.requires.reach c.rows-rows.ensures.instance c.requires.passes (g.met.K.Kind.enters_value kind) in
    let room = c.answer_room-room.result in
    let room_is = c.answer_room-room.ensures in
    let asked = c.requires.some in
    subst (λ n. IsReady R X n c.plant.new.search) room_is
    (subst (λ z. IsReady (rules_of (g.K.M.Ordered.monoid_of z) (g.K.M.DMonoid.difference z) enter) X room c.plant.new.search) c.monoid-m.ensures
    (c.plant.ensures.ready enter room
    (subst (λ z. IsPlantable (rules_of (g.K.M.Ordered.monoid_of z) (g.K.M.DMonoid.difference z) enter) X room begun.0 begun.1 begun.2) (sym c.monoid-m.ensures)
    (plantable R (g.met.K.M.Ordered.laws k) X rankable (c.square_law.ensures.presence X) room c.record_count-records.result (omega (arith, room_is, asked)) c.record_count-records.ensures begun.0 begun.1 begun.2 is.root is.blank is.memory))))

pub returns-clause-none : goal.returns-clause-none
returns-clause-none g c = ap (λ n. take n c.plant.new.search.choices.items) (c.plant.ensures.given ∙ c.in_ok-begun.ensures.blank.none_given)
