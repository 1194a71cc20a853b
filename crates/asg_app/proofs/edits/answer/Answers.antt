use Rattle.asg_app.proofs.edits.answer.Goals as goal

pub put_edits-status-requires-clause-started : goal.put_edits-status-requires-clause-started
put_edits-status-requires-clause-started g c = (c.args.sources.now, c.in-Ok.ensures.started)

pub put_stop-requires : goal.put_stop-requires
put_stop-requires g c = (c.args.job.now, c.args.sources.now, c.in-Err.ensures.stop)

pub returns-in-Ok : goal.returns-in-Ok
returns-in-Ok g c = c.put_edits-status.ensures c.args.sources.now c.in-Ok.ensures.started

pub returns-in-Err : goal.returns-in-Err
returns-in-Err g c = c.put_stop.ensures c.args.job.now c.args.sources.now c.in-Err.ensures.stop
