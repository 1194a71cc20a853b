use Rattle.asg_trees.proofs.Common.{◌≡◌, ◌-◌, ◌≤◌, ◌↔◌, All-get_or, IfSome, IsTrue, List, None, Option, Some, [], ap, arith, false≢true, get_or_from_slice_get, is_some, length, refl, subst, sym, ℕ, PhaseOf, Word, AreAdmittedWithin, ChoosesKept, HaveIndexAfter, MarkHolds, Answered, answer_at, node_at, square_side}
use Rattle.asg_admit.specs.laws.AdmissionLemmas.{never, not_both}
use Rattle.asg_rankings.specs.Nodes.{answer_number}
use Rattle.asg_rankings.specs.declared.nodes.Mark.{Mark}
use Rattle.asg_trees.specs.Groups.{AreGroups, answer_keys}
use Rattle.asg_trees.specs.Marks.{HasOwnAnswer}
use Rattle.asg_trees.proofs.marks.answered_holds.Goals as goal

-- there is an index where the phases are admitted
told_admitted : {V : Type 0} {Have : V → Type 0} {Are : Type 0} (found : Option V) → ((x : V) → Have x → Are) → IfSome found Have → (found ≡ None → Are → ⊥) → IsTrue (is_some found) ↔ Are
told_admitted None are some none = (λ h. absurd (false≢true h), λ a. absurd (none refl a))
told_admitted (Some x) are some none = (λ _. are x some, λ _. refl)

pub has_own_answer-requires-clause-members : goal.has_own_answer-requires-clause-members
has_own_answer-requires-clause-members g c = c.requires.members

pub has_own_answer-requires-clause-given : goal.has_own_answer-requires-clause-given
has_own_answer-requires-clause-given g c =
    subst (λ n. AreGroups (answer_keys c.args.tree.now.nodes.now) n c.args.tree.now.given.now) (sym c.len-answers.ensures.count) c.requires.given

pub has_own_answer-requires-clause-from : goal.has_own_answer-requires-clause-from
has_own_answer-requires-clause-from g c = c.requires.from

pub has_own_answer-requires-clause-upto : goal.has_own_answer-requires-clause-upto
has_own_answer-requires-clause-upto g c = c.requires.upto

pub has_own_answer-requires-clause-answer : goal.has_own_answer-requires-clause-answer
has_own_answer-requires-clause-answer g c = ap answer_number c.requires.mark

pub returns-then-not-has_own_answer : goal.returns-then-not-has_own_answer
returns-then-not-has_own_answer g c =
    let nodes = c.args.tree.now.nodes.now in
    never (λ holds. not_both c.has_own_answer.result
    (c.has_own_answer.ensures.1
    (subst (λ k. HasOwnAnswer k c.placed-branches.result nodes c.args.n c.args.answer) (sym c.len-answers.ensures.count)
    (subst (λ k. HasOwnAnswer (length c.args.tree.now.answers.now) k nodes c.args.n c.args.answer) (sym c.placed-branches.ensures) holds.0)))
    c.if-not-has_own_answer.true)

pub choice-requires : goal.choice-requires
choice-requires g c =
    let own = c.has_own_answer.ensures.0 c.if-not-has_own_answer.false in
    omega (arith, own.from, own.upto, c.len-answers.ensures.count)

pub chooses_kept-requires-clause-size : goal.chooses_kept-requires-clause-size
chooses_kept-requires-clause-size g c = c.requires.size

pub chooses_kept-requires-clause-rows : goal.chooses_kept-requires-clause-rows
chooses_kept-requires-clause-rows g c =
    let own = c.has_own_answer.ensures.0 c.if-not-has_own_answer.false in
    let answers = c.args.tree.now.answers.now in
    let same : answer_at answers c.args.answer ≡ c.in_ok-choice.choice = get_or_from_slice_get answers (c.args.answer - 1) c.in_ok-choice.choice [] c.in_ok-choice.ensures in
    let few = All-get_or (λ (f : List (Option ℕ)). length f ≤ square_side c.args.tree.now.inst.now) answers (c.args.answer - 1) [] (omega (arith, own.from, own.upto, c.len-answers.ensures.count)) c.requires.rows in
    omega (arith, few, ap length same, c.requires.side)

pub returns-then-not-chooses_kept : goal.returns-then-not-chooses_kept
returns-then-not-chooses_kept g c =
    let answers = c.args.tree.now.answers.now in
    let same : answer_at answers c.args.answer ≡ c.in_ok-choice.choice = get_or_from_slice_get answers (c.args.answer - 1) c.in_ok-choice.choice [] c.in_ok-choice.ensures in
    never (λ holds. not_both c.chooses_kept.result
    (c.chooses_kept.ensures.1 (subst (ChoosesKept c.args.square.now c.args.kept.now.words) same holds.1))
    c.if-not-chooses_kept.true)

pub told_index-requires-clause-values : goal.told_index-requires-clause-values
told_index-requires-clause-values g c = c.requires.values

pub told_index-requires-clause-size : goal.told_index-requires-clause-size
told_index-requires-clause-size g c = c.requires.size

pub told_index-requires-clause-before : goal.told_index-requires-clause-before
told_index-requires-clause-before g c = c.requires.before

pub told_index-requires-clause-known : goal.told_index-requires-clause-known
told_index-requires-clause-known g c =
    let m = c.args.m.now in
    subst (λ (own : List (PhaseOf Word)). IfSome c.args.known (HaveIndexAfter (g.M.Ordered.monoid_of m) (g.M.DMonoid.difference m) (g.M.Written.word_of m) c.args.square.now c.args.kept.now c.args.before own))
    (sym c.own_of.ensures) c.requires.known

pub returns : goal.returns
returns g c =
    let m = c.args.m.now in
    let M = g.M.Ordered.monoid_of m in
    let nodes = c.args.tree.now.nodes.now in
    let answers = c.args.tree.now.answers.now in
    let Q = c.args.square.now in
    let kept = c.args.kept.now in
    let Within = λ (own : List (PhaseOf Word)). AreAdmittedWithin M (g.M.DMonoid.difference m) (g.M.Written.word_of m) Q kept own in
    let same : answer_at answers c.args.answer ≡ c.in_ok-choice.choice = get_or_from_slice_get answers (c.args.answer - 1) c.in_ok-choice.choice [] c.in_ok-choice.ensures in
    let own : HasOwnAnswer (length answers) c.placed-branches.result nodes c.args.n c.args.answer = subst (λ k. HasOwnAnswer k c.placed-branches.result nodes c.args.n c.args.answer) c.len-answers.ensures.count (c.has_own_answer.ensures.0 c.if-not-has_own_answer.false) in
    let told : IsTrue (is_some c.in_ok-found.found) ↔ Within c.own_of.result.now = told_admitted c.in_ok-found.found (λ x have. have.admitted) c.in_ok-found.ensures.some c.in_ok-found.ensures.none in
    let within : IsTrue c.is_some.result ↔ Within (node_at nodes c.args.n).own = subst (λ b. IsTrue b ↔ Within (node_at nodes c.args.n).own) (sym c.is_some.ensures) (subst (λ own. IsTrue (is_some c.in_ok-found.found) ↔ Within own) c.own_of.ensures told) in (
      λ h. (
        subst (λ k. HasOwnAnswer (length answers) k nodes c.args.n c.args.answer) c.placed-branches.ensures own,
        subst (ChoosesKept Q kept.words) (sym same) (c.chooses_kept.ensures.0 c.if-not-chooses_kept.false),
        within.0 h,
      ),
      λ holds. within.1 holds.2,
    )
