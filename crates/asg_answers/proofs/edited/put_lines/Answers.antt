use Rattle.asg_answers.proofs.Common.{◌≡◌, ◌+◌, drop, None, sym, ◌∙◌, subst, arith, Puts-nil, first_refused}
use Rattle.asg_text.specs.SpelledLines.{line_at_passes}
use Rattle.asg_answers.proofs.EditLines.{AreFollowed-more, AreFollowed-none, WritesAll-followed, WritesFront-halted}
use Rattle.asg_doc.specs.laws.Flows.{Rose-later}
use Rattle.asg_answers.proofs.edited.put_lines.Goals as goal

pub lines-init : goal.lines-init
lines-init g c = record {
  followed = AreFollowed-none c.args.brief c.args.objective c.args.lines.now c.args.editor.now (g.K.Sink.written c.args.out.now) (Puts-nil (g.K.Sink.written c.args.out.now));
  tried = c.requires.tried;
  objective = c.requires.objective;
  side = c.requires.side;
  passes = c.requires.passes;
  never_fell = omega arith;
}

pub put_line-requires-clause-tried : goal.put_line-requires-clause-tried
put_line-requires-clause-tried g c =
    let l = c.lines in
    (line_at_passes c.args.objective l.editor.instance c.args.lines.now l.place _ c.lines-test.true l.invariant.tried).0

pub lines-preserved : goal.lines-preserved
lines-preserved g c =
    let lines = c.args.lines.now in
    let l = c.lines in
    let new = c.put_line.new.editor in
    let so_far = l.invariant.followed in
    let passing = line_at_passes c.args.objective l.editor.instance lines l.place _ c.lines-test.true l.invariant.tried in
    record {
      followed = AreFollowed-more c.args.brief c.args.objective c.args.editor.now.instance lines l.place _ l.editor new (g.K.Sink.written c.args.out.now) (g.K.Sink.written l.out) (g.K.Sink.written c.put_line.new.out) c.lines-test.true so_far
          (c.in-Ok.ensures.written so_far.standing so_far.stands) c.in-Ok.ensures.instance;
      tried = subst (λ Z. first_refused c.args.objective Z (drop (l.place + 1) lines) ≡ None) (sym c.in-Ok.ensures.instance) passing.1;
      objective = c.put_line.ensures.objective ∙ l.invariant.objective;
      side = c.in-Ok.ensures.side;
      passes = c.in-Ok.ensures.passes;
      never_fell = omega (arith, l.invariant.never_fell, c.put_line.ensures.never_falls);
    }

pub returns-in-Err-clause-halted : goal.returns-in-Err-clause-halted
returns-in-Err-clause-halted g c =
    let l = c.lines in
    let so_far = l.invariant.followed in
    WritesFront-halted c.args.brief c.args.objective c.args.editor.now.instance c.args.lines.now l.place _ l.editor (g.K.Sink.written c.args.out.now) (g.K.Sink.written l.out) (g.K.Sink.written c.put_line.new.out) c.in-Err.halt c.lines-test.true so_far
    (c.in-Err.ensures.halted so_far.standing so_far.stands)

pub returns-in-Err-clause-cause : goal.returns-in-Err-clause-cause
returns-in-Err-clause-cause g c = λ is. Rose-later (g.K.Sink.faults c.args.out.now) (g.K.Sink.faults c.lines.out) (g.K.Sink.faults c.put_line.new.out) c.lines.invariant.never_fell (c.in-Err.ensures.cause is)

pub returns-clause-written : goal.returns-clause-written
returns-clause-written g c =
    WritesAll-followed c.args.brief c.args.objective c.args.editor.now.instance c.args.lines.now c.lines.place c.lines.editor (g.K.Sink.written c.args.out.now) (g.K.Sink.written c.lines.out) c.lines-test.false c.lines.invariant.followed
