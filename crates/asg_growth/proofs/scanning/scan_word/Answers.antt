use Rattle.asg_growth.proofs.Common.{◌≡◌, ◌%◌, ◌<◌, length, get_or, set, sym, subst, inl, inr, ⊎_elim, arith, set-get_or, with_bit, without_bit, HasBit-zero, HasBit-without, leads_of, lead_at, Relaxes, Picks, IsWithin, AreValued, IsBoth, values_of, lead_there, Relaxes-soon, Relaxes-iff, Relaxes-join, IsApproached, Picks-approached, Picks-key, Picks-same, next_bit, next_below, next_has, next_column, next_word, next_in, next_among, next_under, next_smaller, next_cases, next_gone, next_kept, next_there, next_more, HasBit, cell_at}
use Rattle.asg_growth.proofs.OfferLemmas.{column_here, next_read, Relaxes-answered, IsApproached-answered}
use Rattle.asg_growth.proofs.ScanLemmas.{AreValued-approached, column_below, value_there}
use Rattle.asg_growth.proofs.scanning.scan_word.Goals as goal

pub columns-init : goal.columns-init
columns-init g c =
    let M = g.M.Ordered.monoid_of c.args.m.now in
    let Q = (g.S.RowSquare.as_reduced c.args.square.now).now in
    let row = cell_at Q c.args.row in
    let values = values_of M Q c.args.row in
    let n = c.args.number in
    let unseen = c.args.unseen.now in
    let keys = c.args.keys.now in
    let keyed = c.args.keyed.now in
    let places = c.args.places.now in
    let did = c.candidates-rest.ensures in
    let same = sym (set-get_or keyed n 0) in
    record {
      unseen = did.unseen;
      present = did.present;
      relaxed =
          subst (λ words. Relaxes M values c.args.sum c.args.place (λ k. IsBoth n row unseen k × (HasBit c.candidates-rest.result (k % 64) → ⊥)) (leads_of keys keyed places) (leads_of keys words places)) same
          (Relaxes-soon M values c.args.sum c.args.place (leads_of keys keyed places) (λ k. IsBoth n row unseen k × (HasBit c.candidates-rest.result (k % 64) → ⊥))
          (λ k w. did.others k w.0 w.1));
      valued = subst (λ words. AreValued M (leads_of keys words places) unseen) same c.requires.leads;
      picks = subst (λ words. Picks M (lead_at M (leads_of keys words places)) (IsWithin n unseen) c.args.nearest) same c.requires.nearest;
    }

pub overflow_mul-number : goal.overflow_mul-number
overflow_mul-number g c =
    omega (arith, next_under c.args.number c.columns.rest c.columns-test.true c.columns.auto.rest-fits c.args.unseen.now (g.S.RowSquare.as_reduced c.args.square.now).now.side c.columns.invariant.unseen (column_below (g.S.RowSquare.as_reduced c.args.square.now).now.side c.args.unseen.now c.requires.unseen), c.requires.small)

pub overflow_add-number : goal.overflow_add-number
overflow_add-number g c =
    omega (arith, next_under c.args.number c.columns.rest c.columns-test.true c.columns.auto.rest-fits c.args.unseen.now (g.S.RowSquare.as_reduced c.args.square.now).now.side c.columns.invariant.unseen (column_below (g.S.RowSquare.as_reduced c.args.square.now).now.side c.args.unseen.now c.requires.unseen), c.requires.small)

pub offer-nearest-requires-clause-present : goal.offer-nearest-requires-clause-present
offer-nearest-requires-clause-present g c =
    let n = c.args.number in
    let rest = c.columns.rest in
    let some = c.columns-test.true in
    let fits = c.columns.auto.rest-fits in
    c.columns.invariant.present (next_bit n rest some fits) (next_below n rest some fits) (next_has n rest some fits)

pub offer-nearest-requires-clause-value : goal.offer-nearest-requires-clause-value
offer-nearest-requires-clause-value g c =
    let n = c.args.number in
    let rest = c.columns.rest in
    let some = c.columns-test.true in
    let fits = c.columns.auto.rest-fits in
    let Q = (g.S.RowSquare.as_reduced c.args.square.now).now in
    value_there (g.M.Ordered.monoid_of c.args.m.now) Q c.args.row c.requires.reduced.cells c.requires.row (next_column n rest some fits)
    (next_under n rest some fits c.args.unseen.now Q.side c.columns.invariant.unseen (column_below Q.side c.args.unseen.now c.requires.unseen))
    (c.columns.invariant.present (next_bit n rest some fits) (next_below n rest some fits) (next_has n rest some fits))

pub offer-nearest-requires-clause-old : goal.offer-nearest-requires-clause-old
offer-nearest-requires-clause-old g c is =
    let M = g.M.Ordered.monoid_of c.args.m.now in
    let n = c.args.number in
    let rest = c.columns.rest in
    let some = c.columns-test.true in
    let fits = c.columns.auto.rest-fits in
    let keyed = c.args.keyed.now in
    let word = c.columns.word in
    let column = next_column n rest some fits in
    let bit = (next_read n rest some fits word).1 is in
    let has = (column_here keyed n word column (omega (arith, c.requires.words, c.requires.keyed)) (next_word n rest some fits)).0 bit in
    c.columns.invariant.valued column (get_or c.columns.keys column M.unit) (next_in n rest some fits c.args.unseen.now c.columns.invariant.unseen)
    (lead_there M (leads_of c.columns.keys (set keyed n word) c.columns.places) column has)

pub offer-nearest-requires-clause-column : goal.offer-nearest-requires-clause-column
offer-nearest-requires-clause-column g c =
    next_under c.args.number c.columns.rest c.columns-test.true c.columns.auto.rest-fits c.args.unseen.now (g.S.RowSquare.as_reduced c.args.square.now).now.side c.columns.invariant.unseen (column_below (g.S.RowSquare.as_reduced c.args.square.now).now.side c.args.unseen.now c.requires.unseen)

pub offer-nearest-requires-clause-matching : goal.offer-nearest-requires-clause-matching
offer-nearest-requires-clause-matching g c =
    omega (arith, next_under c.args.number c.columns.rest c.columns-test.true c.columns.auto.rest-fits c.args.unseen.now (g.S.RowSquare.as_reduced c.args.square.now).now.side c.columns.invariant.unseen (column_below (g.S.RowSquare.as_reduced c.args.square.now).now.side c.args.unseen.now c.requires.unseen), c.requires.matching)

pub offer-nearest-requires-clause-keys : goal.offer-nearest-requires-clause-keys
offer-nearest-requires-clause-keys g c =
    omega (arith, next_under c.args.number c.columns.rest c.columns-test.true c.columns.auto.rest-fits c.args.unseen.now (g.S.RowSquare.as_reduced c.args.square.now).now.side c.columns.invariant.unseen (column_below (g.S.RowSquare.as_reduced c.args.square.now).now.side c.args.unseen.now c.requires.unseen), c.columns.invariant.relaxed.keys_side, c.requires.keys)

pub offer-nearest-requires-clause-places : goal.offer-nearest-requires-clause-places
offer-nearest-requires-clause-places g c =
    omega (arith, next_under c.args.number c.columns.rest c.columns-test.true c.columns.auto.rest-fits c.args.unseen.now (g.S.RowSquare.as_reduced c.args.square.now).now.side c.columns.invariant.unseen (column_below (g.S.RowSquare.as_reduced c.args.square.now).now.side c.args.unseen.now c.requires.unseen), c.columns.invariant.relaxed.places_side, c.requires.places)

pub offer-nearest-requires-clause-nearest : goal.offer-nearest-requires-clause-nearest
offer-nearest-requires-clause-nearest g c =
    let unseen = c.args.unseen.now in
    Picks-key (g.M.Ordered.monoid_of c.args.m.now) (leads_of c.columns.keys (set c.args.keyed.now c.args.number c.columns.word) c.columns.places) (IsWithin c.args.number unseen) c.columns.nearest c.columns.invariant.picks
    (λ k w. omega (arith, column_below (g.S.RowSquare.as_reduced c.args.square.now).now.side unseen c.requires.unseen k w.1, c.columns.invariant.relaxed.keys_side, c.requires.keys))
    (λ k key w e. c.columns.invariant.valued k key w.1 e)

pub columns-smaller : goal.columns-smaller
columns-smaller g c = next_smaller c.args.number c.columns.rest c.columns-test.true c.columns.auto.rest-fits

pub columns-preserved : goal.columns-preserved
columns-preserved g c =
    let M = g.M.Ordered.monoid_of c.args.m.now in
    let laws = g.met.M.Ordered.laws c.args.m.now in
    let Q = (g.S.RowSquare.as_reduced c.args.square.now).now in
    let row = cell_at Q c.args.row in
    let values = values_of M Q c.args.row in
    let n = c.args.number in
    let rest = c.columns.rest in
    let some = c.columns-test.true in
    let fits = c.columns.auto.rest-fits in
    let unseen = c.args.unseen.now in
    let keyed = c.args.keyed.now in
    let word = c.columns.word in
    let invariant = c.columns.invariant in
    let column = next_column n rest some fits in
    let later = without_bit rest (next_bit n rest some fits) in
    let more = with_bit word (next_bit n rest some fits) in
    let here = next_in n rest some fits unseen invariant.unseen in
    let first = leads_of c.args.keys.now keyed c.args.places.now in
    let second = leads_of c.columns.keys (set keyed n word) c.columns.places in
    let new = c.offer-nearest.new in
    let third = leads_of new.keys (set keyed n more) new.places in
    let there = invariant.present (next_bit n rest some fits) (next_below n rest some fits) (next_has n rest some fits) in
    let both : IsBoth n row unseen column = (next_word n rest some fits, there, here) in
    let within : n < length keyed = omega (arith, c.requires.words, c.requires.keyed) in
    let below = next_under n rest some fits unseen Q.side invariant.unseen (column_below Q.side unseen c.requires.unseen) in
    let told = next_read n rest some fits word in
    let value = laws.product_is_value c.args.sum (get_or values column M.unit) c.requires.sum (value_there M Q c.args.row c.requires.reduced.cells c.requires.row column below there) in
    let relaxes : Relaxes M values c.args.sum c.args.place (λ k. k ≡ column) second third =
    Relaxes-answered M values c.args.sum c.args.place keyed n word more column within both.0 (λ i _. next_more n rest some fits word i) c.columns.keys new.keys c.columns.places new.places _ c.columns.nearest c.offer-nearest.result told
    (omega (arith, below, invariant.relaxed.keys_side, c.requires.keys))
    (omega (arith, below, invariant.relaxed.places_side, c.requires.places))
    c.offer-nearest.ensures in
    let approached : IsApproached M second third column c.columns.nearest c.offer-nearest.result =
    IsApproached-answered M values c.args.sum c.args.place keyed n word more column within both.0 (λ i _. next_more n rest some fits word i) c.columns.keys new.keys c.columns.places new.places _ c.columns.nearest c.offer-nearest.result told
    (omega (arith, below, invariant.relaxed.keys_side, c.requires.keys))
    value c.offer-nearest.ensures in
    record {
      unseen = next_among n rest some fits unseen invariant.unseen;
      present = λ i few has. invariant.present i few (HasBit-without rest (next_bit n rest some fits) i (next_below n rest some fits) has).0;
      relaxed = Relaxes-join M values c.args.sum c.args.place first second third (λ k. IsBoth n row unseen k × (HasBit rest (k % 64) → ⊥)) (λ k. k ≡ column) (λ k. IsBoth n row unseen k × (HasBit later (k % 64) → ⊥))
          (λ k w e. w.1 (next_there n rest some fits k e))
          (λ k r. ⊎_elim (λ gone. inl (r.0, gone)) inr (next_cases n rest some fits k r.0.0 r.1))
          (λ k w. (w.0, next_kept n rest some fits k w.1))
          (λ k e. (subst (IsBoth n row unseen) (sym e) both, next_gone n rest some fits k e))
          invariant.relaxed relaxes;
      valued = AreValued-approached M values c.args.sum c.args.place column second third c.columns.nearest c.offer-nearest.result unseen relaxes approached invariant.valued;
      picks = Picks-approached M laws second third (IsWithin n unseen) column c.columns.nearest c.offer-nearest.result (both.0, here)
          (λ k other. let keeps = relaxes.others k other in keeps.lead)
          (λ k key w e. invariant.valued k key w.1 e)
          approached invariant.picks;
    }

pub returns-clause-relaxes : goal.returns-clause-relaxes
returns-clause-relaxes g c =
    let M = g.M.Ordered.monoid_of c.args.m.now in
    let Q = (g.S.RowSquare.as_reduced c.args.square.now).now in
    let row = cell_at Q c.args.row in
    let n = c.args.number in
    let unseen = c.args.unseen.now in
    let rest = c.columns.rest in
    let zero : rest ≡ 0 = omega (arith, c.columns-test.false) in
    Relaxes-iff M (values_of M Q c.args.row) c.args.sum c.args.place (leads_of c.args.keys.now c.args.keyed.now c.args.places.now) (leads_of c.columns.keys (set c.args.keyed.now c.args.number c.columns.word) c.columns.places) (λ k. IsBoth n row unseen k × (HasBit rest (k % 64) → ⊥)) (IsBoth n row unseen)
    (λ k w. w.0)
    (λ k q. (q, λ has. HasBit-zero (k % 64) (subst (λ w. HasBit w (k % 64)) zero has)))
    c.columns.invariant.relaxed
