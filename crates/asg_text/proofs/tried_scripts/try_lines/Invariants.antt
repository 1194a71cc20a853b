use Rattle.std.proofs.Common.{◌≡◌, drop}
use Rattle.asg_text.specs.TriedScripts.{first_refused}
use Rattle.asg_text.proofs.tried_scripts.try_lines.Given as goal

-- the refusal of the lines from here on is that of all
abbrev pub invariant-lines : goal.invariant-lines
invariant-lines l = first_refused l.objective l.now (drop l.place l.lines) ≡ first_refused l.objective l.fn.inst l.lines
