use Rattle.asg_repair.proofs.Common.{length, take, sym, ap, ◌∙◌, subst, with_items_is, GivesHallSets, IsPresent, cell_at}
use Rattle.asg_repair.proofs.answers.give_hall.Goals as goal

pub returns-clause-hall : goal.returns-clause-hall
returns-clause-hall g c =
    let ids = c.args.room.now.ids in
    let size = c.write_hall-room.ensures.room ∙ ap length c.deref_mut.ensures.value ∙ sym ids.ok.0 in
    subst (λ items. GivesHallSets c.args.inst.now (IsPresent (cell_at c.args.work.now.reduced.now)) (take c.write_hall-room.result items))
    (sym (with_items_is ids c.write_hall-room.new.ids size))
    c.write_hall-room.ensures.hall
