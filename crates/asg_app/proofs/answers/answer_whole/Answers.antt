use Rattle.asg_app.proofs.Common.{false, bytes_of, DueForAsked}
use Rattle.asg_app.proofs.EditEnds.{Ends-nothing, Ends-owed}
use Rattle.asg_app.proofs.answers.answer_whole.Goals as goal

pub put-requires : goal.put-requires
put-requires g c = c.answer_law.ensures.answers c.args.asked.now.request c.args.asked.now.sources c.in-Ok.reply.status (bytes_of c.in-Ok.reply.text) c.in-Ok.ensures

pub returns-in-Ok : goal.returns-in-Ok
returns-in-Ok g c =
    let owed = DueForAsked c.args.asked.now.request c.args.asked.now.sources in
    Ends-owed g.K.Sink.written g.K.Sink.faults c.args.out.now c.put.new.out false owed owed c.in-Ok.reply c.put.result (λ due text is. is) c.in-Ok.ensures c.put.ensures

pub returns-in-Err : goal.returns-in-Err
returns-in-Err g c =
    let owed = DueForAsked c.args.asked.now.request c.args.asked.now.sources in
    Ends-nothing g.K.Sink.written g.K.Sink.faults c.args.out.now false owed owed
