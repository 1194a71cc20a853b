use Rattle.asg_cell_tables.proofs.Common.{◌≡◌, ◌≢◌, get_or, pos, sym, subst, ⊎_elim, arith, SFits, rules, cases_eq, w64}
use Rattle.asg_cell_tables.proofs.piece_words.all_fit.Goals as goal

pub loop-k-preserved : goal.loop-k-preserved
loop-k-preserved c k h =
    let numbers = c.args.numbers.now in
    let place = c.loop-k.k in
    let fits : SFits w64 (get_or numbers place (pos 0)) = search rules in
    ⊎_elim
    (λ (here : k ≡ place). subst (λ n. SFits w64 (get_or numbers n (pos 0))) (sym here) fits)
    (λ (apart : k ≢ place). c.loop-k.invariant k (omega (arith, h, apart)))
    (cases_eq k place)
