use Rattle.asg_proof.proofs.Common.{◌≡◌, ◌/◌, ◌^◌, ◌<◌, ◌++◌, length, All, ◌∙◌, arith, All-append, get_or_default_zero}
use Rattle.asg_proof.proofs.PhaseNumbers.{phase_numbers, marked_phase}
use Rattle.asg_proof.proofs.written_phases.WrittenPhase.of.Goals as goal

pub invariant_of-result : goal.invariant_of-result
invariant_of-result c =
    let front = c.into_lists-numbers.result.0.items in
    let enters = c.args.enters.items in
    let leaves = c.args.leaves.items in
    let count : c.in_ok-steps.steps ≡ length front / 2 = omega (arith, c.in_ok-steps.ensures, c.len.ensures) in
    let rows : c.in_ok-rows.rows ≡ length enters = omega (arith, c.in_ok-rows.ensures, c.len-2.ensures) in
    let below : All (λ t. t < 2 ^ 32) (enters ++ leaves) =
    All-append (λ t. t < 2 ^ 32) enters leaves (λ k d within. rw (get_or_default_zero enters k d within) (omega arith)) (λ k d within. rw (get_or_default_zero leaves k d within) (omega arith)) in
    let all : c.in_ok-numbers.numbers.items ≡ front ++ (enters ++ leaves) =
    c.in_ok-numbers.ensures ∙ (λ i. front ++ (c.as_slice.ensures.value i ++ c.as_slice-2.ensures.value i)) in
    phase_numbers front enters leaves c.in_ok-numbers.numbers.items c.into_lists-numbers.result.1.items c.in_ok-steps.steps c.in_ok-rows.rows
    c.into_lists-numbers.ensures.lists count rows below all

pub returns-clause-phase : goal.returns-clause-phase
returns-clause-phase c =
    let front = c.into_lists-numbers.result.0.items in
    let enters = c.args.enters.items in
    let leaves = c.args.leaves.items in
    let count : c.in_ok-steps.steps ≡ length front / 2 = omega (arith, c.in_ok-steps.ensures, c.len.ensures) in
    let rows : c.in_ok-rows.rows ≡ length enters = omega (arith, c.in_ok-rows.ensures, c.len-2.ensures) in
    let below : All (λ t. t < 2 ^ 32) (enters ++ leaves) =
    All-append (λ t. t < 2 ^ 32) enters leaves (λ k d within. rw (get_or_default_zero enters k d within) (omega arith)) (λ k d within. rw (get_or_default_zero leaves k d within) (omega arith)) in
    let all : c.in_ok-numbers.numbers.items ≡ front ++ (enters ++ leaves) =
    c.in_ok-numbers.ensures ∙ (λ i. front ++ (c.as_slice.ensures.value i ++ c.as_slice-2.ensures.value i)) in
    marked_phase front enters leaves c.in_ok-numbers.numbers.items c.into_lists-numbers.result.1.items c.in_ok-steps.steps c.in_ok-rows.rows
    c.into_lists-numbers.ensures.lists count rows below all
