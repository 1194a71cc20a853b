use Rattle.asg_app.proofs.Common.{refl, subst, bytes_of, IsAnswer}
use Rattle.asg_app.proofs.replies.put.Goals as goal

pub returns-in-Ok : goal.returns-in-Ok
returns-in-Ok g c = record {
  answered = λ a. (bytes_of c.args.reply.text, (refl, refl), c.in-Ok.ensures.whole);
  write_fault = λ e. absurd (subst IsAnswer e c.requires);
  write_fault_cause = λ e. absurd (subst IsAnswer e c.requires);
  no_memory = λ e. absurd (subst IsAnswer e c.requires);
  no_read_fault = λ e. subst IsAnswer e c.requires;
}
