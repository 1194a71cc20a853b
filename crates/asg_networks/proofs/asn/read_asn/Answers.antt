use Rattle.asg_networks.proofs.Common.{◌≡◌, ◌+◌, [], map, length, take, IfOk, sym, ap, ◌∙◌, subst, arith, length-take, length-map, lines, IfErr, line_faults, reading_of_asn, line_of, IsNetworkOf, reading_of_network, Spells, TellsOf, IsEarliest, length-lines}
use Rattle.asg_networks.proofs.AsnReading.{IsNextLine, next_line, refuses, whole_reading}
use Rattle.asg_tokens.specs.laws.Refusing.{handed_on}
use Rattle.asg_networks.proofs.asn.read_asn.Goals as goal
use Rattle.asg_networks.proofs.asn.read_asn.Goals.{In-Some, In_default}

pub overflow_add-number : goal.overflow_add-number
overflow_add-number c =
    omega (arith, c.loop-first.invariant.within, length-map (lines c.args.text.now) line_of, length-lines c.args.text.now)

module _ (c : In-Some) where
  -- the line that is read
  next : IsNextLine (map line_of (lines c.args.text.now)) c.loop-first.number c.in-Some.first.line (map line_of (lines c.in-Some.first.rest.now))
  next =
      next_line (map line_of (lines c.args.text.now)) c.loop-first.number c.in-Some.first.line (map line_of (lines c.in-Some.first.rest.now)) c.loop-first.invariant.within
      (sym c.in-Some.ensures.says ∙ c.loop-first.invariant.left)

  number_is : c.loop-first.number + 1 ≡ length (take c.loop-first.number (map line_of (lines c.args.text.now))) + 1
  number_is = let there = next.there in omega (arith, length-take c.loop-first.number (map line_of (lines c.args.text.now)))

pub returns-in_err-take-clause-refused : goal.returns-in_err-take-clause-refused
returns-in_err-take-clause-refused c =
    let before = (goal.at.returns-in_err-take-clause-refused c).In-Some in
    let inv = c.loop-first.invariant in
    let all = map line_of (lines c.args.text.now) in
    let told = c.in_err-take.field-0.0 in
    let following = next before in
    handed_on c.from_residual-in_err-take.result told (TellsOf (reading_of_asn all)) c.from_residual-in_err-take.ensures.1
    (refuses all (c.loop-first.number + 1) told
    (subst (λ lines. IsEarliest (line_faults [] lines) told) (sym following.so_far)
    (c.in_err-take.ensures.refused (take c.loop-first.number all) inv.kept (number_is before))) _ _)

pub loop-first-smaller : goal.loop-first-smaller
loop-first-smaller c =
    omega (arith, ap length c.in-Some.ensures.says, length-map (lines c.loop-first.rest.now) line_of, length-map (lines c.in-Some.first.rest.now) line_of)

pub loop-first-preserved : goal.loop-first-preserved
loop-first-preserved c =
    let before = (goal.at.loop-first-preserved c).In-Some in
    let following = next before in
    let inv = c.loop-first.invariant in
    record {
      within = let there = following.there in omega arith;
      left = following.left_are;
      kept = subst (λ lines. IsNetworkOf lines c.take.new.self) (sym following.so_far) (c.in_ok-take.ensures.taken (take c.loop-first.number (map line_of (lines c.args.text.now))) inv.kept (number_is before));
      sound = c.in_ok-take.ensures.sound;
    }

-- the reading of all lines
reading : (c : In_default) → reading_of_asn (map line_of (lines c.args.text.now)) ≡ reading_of_network c.loop-first.network
reading c =
    let inv = c.loop-first.invariant in
    whole_reading (map line_of (lines c.args.text.now)) c.loop-first.number c.loop-first.network inv.within (sym (ap (map line_of) c.in_default.ensures.none) ∙ inv.left) inv.kept

pub returns-clause-instance : goal.returns-clause-instance
returns-clause-instance c =
    subst (λ reading. IfOk c.instance.result (λ inst. reading ≡ Spells inst)) (sym (reading (goal.at.returns-clause-instance c).In_default)) c.instance.ensures.instance

pub returns-clause-refused : goal.returns-clause-refused
returns-clause-refused c =
    subst (λ reading. IfErr c.instance.result (TellsOf reading)) (sym (reading (goal.at.returns-clause-refused c).In_default)) c.instance.ensures.refused
