use Rattle.asg_app.proofs.Common.{true, Some, subst, inl, bytes_of, StopsJob, DueForJob, DueForPart, Work}
use Rattle.asg_app.proofs.EditEnds.{Ends-nothing, Ends-owed}
use Rattle.asg_app.proofs.edits.put_stop.Goals as goal

pub put-requires : goal.put-requires
put-requires g c =
    let job = c.requires.0 in
    let contents = c.requires.1 in
    c.answer_law.ensures.answers (Some (Work job)) contents c.in-Ok.reply.status (bytes_of c.in-Ok.reply.text) (subst (StopsJob job contents) c.in-Ok.ensures c.requires.2)

pub returns-in-Ok : goal.returns-in-Ok
returns-in-Ok g c = λ job contents stops.
    Ends-owed g.K.Sink.written g.K.Sink.faults c.args.out.now c.put.new.out true (DueForJob job contents) (DueForPart (Some (Work job)) contents) c.in-Ok.reply c.put.result
    (λ due text owed. inl owed) (subst (StopsJob job contents) c.in-Ok.ensures stops) c.put.ensures

pub returns-in-Err : goal.returns-in-Err
returns-in-Err g c = λ job contents stops. Ends-nothing g.K.Sink.written g.K.Sink.faults c.args.out.now true (DueForJob job contents) (DueForPart (Some (Work job)) contents)
