use Rattle.asg_growth.proofs.Common.{◌≡◌, ◌%◌, [], length, get_or, Some, sym, refl, subst, inl, inr, ⊎_elim, arith, without_bit, HasBit-zero, HasBit-and, leads_of, lead_at, IsWithin, lead_none, lead_there, Picks-same, Picks-nearest, Picks-itself, Picks-key, bit_in, next_bit, next_column, next_word, next_in, next_among, next_under, next_smaller, next_cases, next_gone, next_kept, HasBit}
use Rattle.asg_growth.proofs.nearest.nearest_in_word.Goals as goal

pub columns-init : goal.columns-init
columns-init g c =
    let n = c.args.number in
    let unseen = c.args.unseen.now in
    let keyed = c.args.keyed.now in
    let U = get_or unseen n 0 in
    let K = get_or keyed n 0 in
    record {
      unseen = λ i h. ((HasBit-and U K i).0 h).0;
      keyed = λ i h. ((HasBit-and U K i).0 h).1;
      picks = λ k w.
          lead_none (g.M.Ordered.monoid_of c.args.m.now) (leads_of c.args.keys.now keyed []) k
          (λ has. w.1 ((HasBit-and U K (k % 64)).1 (bit_in unseen n k w.0.0 w.0.1, bit_in keyed n k w.0.0 has)));
    }

pub overflow_mul-number : goal.overflow_mul-number
overflow_mul-number g c =
    omega (arith, next_under c.args.number c.columns.rest c.columns-test.true c.columns.auto.rest-fits c.args.unseen.now (length c.args.keys.now) c.columns.invariant.unseen c.requires.within, c.requires.small)

pub overflow_add-number : goal.overflow_add-number
overflow_add-number g c =
    omega (arith, next_under c.args.number c.columns.rest c.columns-test.true c.columns.auto.rest-fits c.args.unseen.now (length c.args.keys.now) c.columns.invariant.unseen c.requires.within, c.requires.small)

pub nearer-nearest-requires-clause-column : goal.nearer-nearest-requires-clause-column
nearer-nearest-requires-clause-column g c =
    let M = g.M.Ordered.monoid_of c.args.m.now in
    let leads = leads_of c.args.keys.now c.args.keyed.now [] in
    let column = next_column c.args.number c.columns.rest c.columns-test.true c.columns.auto.rest-fits in
    let here = next_in c.args.number c.columns.rest c.columns-test.true c.columns.auto.rest-fits c.args.unseen.now c.columns.invariant.unseen in
    let has = next_in c.args.number c.columns.rest c.columns-test.true c.columns.auto.rest-fits c.args.keyed.now c.columns.invariant.keyed in
    record {
      within = c.requires.within column here;
      value = c.requires.leads column (get_or c.args.keys.now column M.unit) here (lead_there M leads column has);
    }

pub nearer-nearest-requires-clause-former : goal.nearer-nearest-requires-clause-former
nearer-nearest-requires-clause-former g c =
    let M = g.M.Ordered.monoid_of c.args.m.now in
    let rest = c.columns.rest in
    Picks-key M (leads_of c.args.keys.now c.args.keyed.now []) (λ k. IsWithin c.args.number c.args.unseen.now k × (HasBit rest (k % 64) → ⊥)) c.columns.nearest c.columns.invariant.picks
    (λ k w. c.requires.within k w.0.1)
    (λ k key w e. c.requires.leads k key w.0.1 e)

pub nearer-nearest-requires-clause-matching : goal.nearer-nearest-requires-clause-matching
nearer-nearest-requires-clause-matching g c =
    omega (arith, next_under c.args.number c.columns.rest c.columns-test.true c.columns.auto.rest-fits c.args.unseen.now (length c.args.keys.now) c.columns.invariant.unseen c.requires.within, c.requires.matching)

pub columns-smaller : goal.columns-smaller
columns-smaller g c = next_smaller c.args.number c.columns.rest c.columns-test.true c.columns.auto.rest-fits

pub columns-preserved : goal.columns-preserved
columns-preserved g c =
    let M = g.M.Ordered.monoid_of c.args.m.now in
    let laws = g.met.M.Ordered.laws c.args.m.now in
    let n = c.args.number in
    let rest = c.columns.rest in
    let some = c.columns-test.true in
    let fits = c.columns.auto.rest-fits in
    let unseen = c.args.unseen.now in
    let keyed = c.args.keyed.now in
    let leads = leads_of c.args.keys.now keyed [] in
    let column = next_column n rest some fits in
    let later = without_bit rest (next_bit n rest some fits) in
    let here = next_in n rest some fits unseen c.columns.invariant.unseen in
    let has = lead_there M leads column (next_in n rest some fits keyed c.columns.invariant.keyed) in
    let key = get_or c.args.keys.now column M.unit in
    record {
      unseen = next_among n rest some fits unseen c.columns.invariant.unseen;
      keyed = next_among n rest some fits keyed c.columns.invariant.keyed;
      picks = Picks-nearest M laws leads (λ k. IsWithin n unseen k × (HasBit rest (k % 64) → ⊥)) (λ k. k ≡ column) (λ k. IsWithin n unseen k × (HasBit later (k % 64) → ⊥)) c.columns.nearest (Some column) c.nearer-nearest.result
          (λ k w. (w.0, next_kept n rest some fits k w.1))
          (λ k e. (subst (IsWithin n unseen) (sym e) (next_word n rest some fits, here), next_gone n rest some fits k e))
          (λ k w. ⊎_elim (λ gone. inl (w.0, gone)) inr (next_cases n rest some fits k w.0.0 w.1))
          (λ k x w e. c.requires.leads k x w.0.1 e)
          c.nearer-nearest.ensures c.columns.invariant.picks
          (Picks-itself M laws (lead_at M leads) column key has (c.requires.leads column key here has));
    }

pub returns : goal.returns
returns g c =
    let M = g.M.Ordered.monoid_of c.args.m.now in
    let n = c.args.number in
    let unseen = c.args.unseen.now in
    let rest = c.columns.rest in
    let lead = lead_at M (leads_of c.args.keys.now c.args.keyed.now []) in
    let zero : rest ≡ 0 = omega (arith, c.columns-test.false) in
    Picks-same M lead lead (λ k. IsWithin n unseen k × (HasBit rest (k % 64) → ⊥)) (IsWithin n unseen) c.columns.nearest
    (λ k w. w.0)
    (λ k w. (w, λ has. HasBit-zero (k % 64) (subst (λ x. HasBit x (k % 64)) zero has)))
    (λ k w. refl)
    c.columns.invariant.picks
