use Rattle.asg_answers.proofs.Common.{◌≡◌, ◌≤◌, drop, None, most_side, PassesNegative, square_side, first_refused}
use Rattle.asg_answers.proofs.EditLines.{AreFollowed}
use Rattle.asg_answers.proofs.edited.put_lines.Given as goal

-- the lines so far were followed, and no edit of those from here on is refused
abbrev pub invariant-lines : goal.invariant-lines
invariant-lines g l = record {
  followed : AreFollowed l.brief l.objective l.fn.editor.instance l.lines l.place l.editor (g.K.Sink.written l.fn.out) (g.K.Sink.written l.out);
  tried : first_refused l.objective l.editor.instance (drop l.place l.lines) ≡ None;
  objective : l.editor.objective ≡ l.objective;
  side : square_side l.editor.instance ≤ most_side;
  passes : PassesNegative l.objective l.editor.instance;
  never_fell : g.K.Sink.faults l.fn.out ≤ g.K.Sink.faults l.out;
}
