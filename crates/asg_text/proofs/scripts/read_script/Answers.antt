use Rattle.asg_text.proofs.Common.{◌∷◌, map, length, ap, subst, arith, lines, TellsOfScript, numbered_from, reading_of_lines, fields}
use Rattle.asg_text.specs.Scripts.{reading_of_script}
use Rattle.asg_tokens.specs.laws.LineCuts.{length-lines}
use Rattle.asg_tokens.specs.laws.Refusing.{handed_on}
use Rattle.asg_text.proofs.ScriptLemmas.{AreTaken, none_taken, line_taken, line_refused, all_taken}
use Rattle.asg_text.proofs.scripts.read_script.Goals as goal
use Rattle.asg_text.proofs.scripts.read_script.Goals.{In-Some}

pub overflow_add-number : goal.overflow_add-number
overflow_add-number c =
    omega (arith, c.loop-first.invariant.within, length-lines c.args.bytes.now, c.requires)

pub loop-first-init : goal.loop-first-init
loop-first-init c = record {
  within = omega arith;
  few = omega (arith, ap length c.new-script.ensures.items);
  taken = none_taken (map fields (lines c.args.bytes.now)) c.new-script.result.items c.new-script.ensures.items;
}

module _ (c : In-Some) where
  -- the lines before the next one are read
  so_far : AreTaken (numbered_from 1 (map fields (lines c.args.bytes.now))) c.loop-first.number (fields c.in-Some.first.bytes.now ∷ map fields (lines c.in-Some.first.rest.now)) c.loop-first.script.items
  so_far =
      subst (λ left. AreTaken (numbered_from 1 (map fields (lines c.args.bytes.now))) c.loop-first.number left c.loop-first.script.items) (ap (map fields) c.in-Some.ensures.first)
      c.loop-first.invariant.taken

pub loop-first-preserved : goal.loop-first-preserved
loop-first-preserved c =
    let before = (goal.at.loop-first-preserved c).In-Some in
    record {
      within = omega (arith, c.loop-first.invariant.within, ap length c.in-Some.ensures.first);
      few = c.in_ok-put_line.ensures.few;
      taken = line_taken (numbered_from 1 (map fields (lines c.args.bytes.now))) c.loop-first.number (fields c.in-Some.first.bytes.now) (map fields (lines c.in-Some.first.rest.now)) c.loop-first.script.items c.put_line.new.script.items (so_far before) c.in_ok-put_line.ensures.right c.in_ok-put_line.ensures.put;
    }

pub returns-in_err-put_line-clause-refused : goal.returns-in_err-put_line-clause-refused
unfolding reading_of_script
returns-in_err-put_line-clause-refused c =
    let before = (goal.at.returns-in_err-put_line-clause-refused c).In-Some in
    let all = numbered_from 1 (map fields (lines c.args.bytes.now)) in
    let told = c.in_err-put_line.field-0.0 in
    handed_on c.from_residual.result told (TellsOfScript (reading_of_lines all)) c.from_residual.ensures.1
    (line_refused all c.loop-first.number (fields c.in-Some.first.bytes.now) (map fields (lines c.in-Some.first.rest.now)) c.loop-first.script.items told (so_far before) c.loop-first.invariant.few c.in_err-put_line.ensures.refused)

pub returns-clause-lines : goal.returns-clause-lines
unfolding reading_of_script
returns-clause-lines c =
    let all = numbered_from 1 (map fields (lines c.args.bytes.now)) in
    all_taken all c.loop-first.number c.loop-first.script.items
    (subst (λ left. AreTaken all c.loop-first.number (map fields left) c.loop-first.script.items) c.in_default.ensures.none c.loop-first.invariant.taken)
    c.loop-first.invariant.few
