use Rattle.asg_app.proofs.Common.{◌≡◌, None, sym, subst, WritesAll, WritesFront, content_at, held_passes, first_refused}
use Rattle.asg_app.proofs.EditEnds.{Ends-done, Ends-fault, Ends-wanting, word_of}
use Rattle.asg_commands.proofs.EditStarts.{edits_algebraic}
use Rattle.asg_app.proofs.edits.put_edits.Goals as goal

pub put_lines-requires : goal.put_lines-requires
put_lines-requires g c =
    let job = c.args.job.now in
    let contents = c.requires.started.0 in
    let started = c.requires.started.1 in
    let X = c.args.work.now.editor.instance in
    record {
      word = word_of job c.requires.within;
      algebraic = edits_algebraic job c.requires.edits c.requires.within;
      side = c.instance_law.ensures.side (content_at contents 0) job X started.held;
      passes = c.instance_law.ensures.passes (content_at contents 0) job X started.held;
      objective = started.objective;
      tried = subst (λ lines. first_refused job.objective X lines ≡ None) (sym c.deref.ensures.value) (held_passes job.objective X (content_at contents 1) c.args.work.now.lines.items started.lines);
    }

pub returns-in-Ok : goal.returns-in-Ok
returns-in-Ok g c = λ contents started.
    let job = c.args.job.now in
    let before = g.K.Sink.written c.args.out.now in
    let after = g.K.Sink.written c.put_lines.new.out in
    Ends-done job contents c.args.work.now c.requires.edits started g.K.Sink.written g.K.Sink.faults c.args.out.now c.put_lines.new.out
    (subst (λ lines. WritesAll job.brief job.objective c.args.work.now.editor.instance lines before after) c.deref.ensures.value c.in-Ok.ensures.written)

pub returns-in-Err-WriteFault : goal.returns-in-Err-WriteFault
returns-in-Err-WriteFault g c = λ contents started.
    let job = c.args.job.now in
    let before = g.K.Sink.written c.args.out.now in
    let after = g.K.Sink.written c.put_lines.new.out in
    Ends-fault job contents c.args.work.now c.requires.edits started g.K.Sink.written g.K.Sink.faults c.args.out.now c.put_lines.new.out
    (subst (λ lines. WritesFront job.brief job.objective c.args.work.now.editor.instance lines before after) c.deref.ensures.value c.in-Err-WriteFault.ensures.halted)
    (c.in-Err-WriteFault.ensures.cause c.in-Err-WriteFault.field-0-is)

pub returns-in-Err-NoMemory : goal.returns-in-Err-NoMemory
returns-in-Err-NoMemory g c = λ contents started.
    let job = c.args.job.now in
    let before = g.K.Sink.written c.args.out.now in
    let after = g.K.Sink.written c.put_lines.new.out in
    Ends-wanting job contents c.args.work.now c.requires.edits started g.K.Sink.written g.K.Sink.faults c.args.out.now c.put_lines.new.out
    (subst (λ lines. WritesFront job.brief job.objective c.args.work.now.editor.instance lines before after) c.deref.ensures.value c.in-Err-NoMemory.ensures.halted)
