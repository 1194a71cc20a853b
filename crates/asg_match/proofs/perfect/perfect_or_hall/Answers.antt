use Rattle.asg_match.proofs.Common.{length, None, sym, ap, ◌∙◌, subst, OnFalse_at, OnTrue_at, length-replicate, IsDeficient, Matches, IsPerfect, IsDeficient-refutes, Matches-empty}
use Rattle.asg_match.proofs.perfect.perfect_or_hall.Goals as goal

pub complete-requires-clause-cells : goal.complete-requires-clause-cells
complete-requires-clause-cells g c = λ r k matches. absurd (Matches-empty c.args.side r k (subst (λ m. Matches m r k) c.in_ok-matching.ensures.empty matches))

pub returns-then-complete-clause-answer : goal.returns-then-complete-clause-answer
returns-then-complete-clause-answer g c =
    let side = ap length c.in_ok-matching.ensures.empty ∙ length-replicate c.args.side None in
    subst (λ n. IsPerfect (g.A.Allowed.allows c.args.allowed.now) n c.complete.new.matching) side (OnTrue_at c.if-complete.true c.complete.ensures.perfect)

pub returns-then-complete-clause-perfect : goal.returns-then-complete-clause-perfect
returns-then-complete-clause-perfect g c =
    let side = ap length c.in_ok-matching.ensures.empty ∙ length-replicate c.args.side None in
    let perfect = subst (λ n. IsPerfect (g.A.Allowed.allows c.args.allowed.now) n c.complete.new.matching) side (OnTrue_at c.if-complete.true c.complete.ensures.perfect) in
    (λ _. (c.complete.new.matching, perfect), λ _. tt)

pub returns-then-complete-clause-short : goal.returns-then-complete-clause-short
returns-then-complete-clause-short g c =
    let side = ap length c.in_ok-matching.ensures.empty ∙ length-replicate c.args.side None in
    let perfect = subst (λ n. IsPerfect (g.A.Allowed.allows c.args.allowed.now) n c.complete.new.matching) side (OnTrue_at c.if-complete.true c.complete.ensures.perfect) in
    (λ none. absurd none, λ none. none c.complete.new.matching perfect)

pub returns-clause-answer : goal.returns-clause-answer
returns-clause-answer g c =
    let allows = g.A.Allowed.allows c.args.allowed.now in
    let side = ap length c.in_ok-matching.ensures.empty ∙ length-replicate c.args.side None in
    let deficient = subst (λ n. IsDeficient allows n c.complete.new.tree.rows) side (OnFalse_at c.if-complete.false c.complete.ensures.deficient) in
    subst (IsDeficient allows c.args.side) (sym (c.of.ensures ∙ c.into_rows.ensures)) deficient

pub returns-clause-perfect : goal.returns-clause-perfect
returns-clause-perfect g c =
    let allows = g.A.Allowed.allows c.args.allowed.now in
    let rows = c.complete.new.tree.rows in
    let side = ap length c.in_ok-matching.ensures.empty ∙ length-replicate c.args.side None in
    let deficient = subst (λ n. IsDeficient allows n rows) side (OnFalse_at c.if-complete.false c.complete.ensures.deficient) in
    (λ none. absurd none, λ found. IsDeficient-refutes allows c.args.side rows found.0 deficient found.1)

pub returns-clause-short : goal.returns-clause-short
returns-clause-short g c =
    let allows = g.A.Allowed.allows c.args.allowed.now in
    let rows = c.complete.new.tree.rows in
    let side = ap length c.in_ok-matching.ensures.empty ∙ length-replicate c.args.side None in
    let deficient = subst (λ n. IsDeficient allows n rows) side (OnFalse_at c.if-complete.false c.complete.ensures.deficient) in
    (λ _ m. IsDeficient-refutes allows c.args.side rows m deficient, λ _. tt)
