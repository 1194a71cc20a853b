use Rattle.asg_growth.proofs.Common.{◌+◌, ◌/◌, ◌<◌, length, IsSome, refl, inl, inr, ⊎_elim, arith, cases_lt, leads_of, lead_at, IsWithin, values_of, Relaxes-none, Relaxes-iff, IsBelow, Picks-same, Picks-key, Picks-nearest, AreNearest-set, column_word, HasColumn, cell_at}
use Rattle.asg_growth.proofs.ScanLemmas.{Relaxes-more, column_below, values_are}
use Rattle.asg_growth.proofs.scanning.offer_row.Goals as goal

pub loop-number-init : goal.loop-number-init
loop-number-init g c =
    let M = g.M.Ordered.monoid_of c.args.m.now in
    let row = cell_at (g.S.RowSquare.as_reduced c.args.square.now).now c.args.row in
    let unseen = c.args.unseen.now in
    record {
      relaxed = Relaxes-none M (values_of M (g.S.RowSquare.as_reduced c.args.square.now).now c.args.row) c.args.sum c.args.place (leads_of c.args.keys.now c.args.keyed.now c.args.places.now) (λ k. (k / 64 < 0) × IsSome (row k) × HasColumn unseen k)
          (λ k w. absurd (omega (arith, w.0)));
      valued = c.requires.leads;
      nearest = c.requires.nearest;
      picks = λ k w. let h = w.before in absurd (omega arith);
    }

pub loop-number-preserved : goal.loop-number-preserved
loop-number-preserved g c =
    let M = g.M.Ordered.monoid_of c.args.m.now in
    let laws = g.met.M.Ordered.laws c.args.m.now in
    let l = c.loop-number in
    let n = l.number in
    let unseen = c.args.unseen.now in
    let new = c.scan_word-found.new in
    let did = c.scan_word-found.ensures in
    let found = c.scan_word-found.result in
    let second = leads_of l.keys l.keyed l.places in
    let third = leads_of new.keys new.keyed new.places in
    let within : n < length unseen = omega (arith, c.loop-number-test.true) in
    record {
      relaxed = Relaxes-more M (values_of M (g.S.RowSquare.as_reduced c.args.square.now).now c.args.row) c.args.sum c.args.place (leads_of c.args.keys.now c.args.keyed.now c.args.places.now) second third (cell_at (g.S.RowSquare.as_reduced c.args.square.now).now c.args.row) unseen n l.invariant.relaxed did.relaxes;
      valued = did.leads;
      nearest = AreNearest-set M second third unseen unseen l.nearest n found within refl
          (λ k _. (λ h. h, λ h. h))
          (λ k _ other. let keeps = did.relaxes.others k (λ w. other w.0) in keeps.lead)
          did.picks l.invariant.nearest;
      picks = Picks-nearest M laws third (IsBelow n unseen) (IsWithin n unseen) (IsBelow (n + 1) unseen) l.best found c.nearest_of-best.result
          (λ k w. record { before = let h = w.before in omega arith; there = w.there })
          (λ k w. record { before = omega (arith, w.0); there = w.1 })
          (λ k w. ⊎_elim (λ before. inl (record { before = before; there = w.there })) (λ last. inr (let h = w.before in omega arith, w.there)) (cases_lt (k / 64) n))
          (λ k key w e. did.leads k key w.there e)
          c.nearest_of-best.ensures
          (Picks-same M (lead_at M second) (lead_at M third) (IsBelow n unseen) (IsBelow n unseen) l.best (λ k w. w) (λ k w. w)
          (λ k w. let keeps = did.relaxes.others k (λ q. let h = w.before in absurd (omega (arith, q.0))) in keeps.lead)
          l.invariant.picks)
          did.picks;
    }

pub nearest_of-best-requires-clause-found : goal.nearest_of-best-requires-clause-found
nearest_of-best-requires-clause-found g c =
    let new = c.scan_word-found.new in
    let did = c.scan_word-found.ensures in
    Picks-key (g.M.Ordered.monoid_of c.args.m.now) (leads_of new.keys new.keyed new.places) (IsWithin c.loop-number.number c.args.unseen.now) c.scan_word-found.result did.picks
    (λ k w. omega (arith, column_below (g.S.RowSquare.as_reduced c.args.square.now).now.side c.args.unseen.now c.requires.unseen k w.1, did.relaxes.keys_side, c.loop-number.invariant.relaxed.keys_side, c.requires.keys))
    (λ k key w e. did.leads k key w.1 e)

pub nearest_of-best-requires-clause-former : goal.nearest_of-best-requires-clause-former
nearest_of-best-requires-clause-former g c =
    let M = g.M.Ordered.monoid_of c.args.m.now in
    let l = c.loop-number in
    let n = l.number in
    let unseen = c.args.unseen.now in
    let new = c.scan_word-found.new in
    let did = c.scan_word-found.ensures in
    let second = leads_of l.keys l.keyed l.places in
    let third = leads_of new.keys new.keyed new.places in
    Picks-key M third (IsBelow n unseen) l.best
    (Picks-same M (lead_at M second) (lead_at M third) (IsBelow n unseen) (IsBelow n unseen) l.best (λ k w. w) (λ k w. w)
    (λ k w. let keeps = did.relaxes.others k (λ q. let h = w.before in absurd (omega (arith, q.0))) in keeps.lead)
    l.invariant.picks)
    (λ k w. omega (arith, column_below (g.S.RowSquare.as_reduced c.args.square.now).now.side c.args.unseen.now c.requires.unseen k w.there, did.relaxes.keys_side, l.invariant.relaxed.keys_side, c.requires.keys))
    (λ k key w e. did.leads k key w.there e)

pub nearest_of-best-requires-clause-matching : goal.nearest_of-best-requires-clause-matching
nearest_of-best-requires-clause-matching g c =
    omega (arith, c.scan_word-found.ensures.relaxes.keys_side, c.loop-number.invariant.relaxed.keys_side, c.requires.keys, c.requires.matching)

pub returns-clause-offers : goal.returns-clause-offers
returns-clause-offers g c =
    let M = g.M.Ordered.monoid_of c.args.m.now in
    let Q = (g.S.RowSquare.as_reduced c.args.square.now).now in
    let row = cell_at Q c.args.row in
    let unseen = c.args.unseen.now in
    let l = c.loop-number in
    record {
      values = values_of M Q c.args.row;
      are_values = values_are M Q c.args.row c.side.ensures.grid;
      relaxes = Relaxes-iff M (values_of M Q c.args.row) c.args.sum c.args.place (leads_of c.args.keys.now c.args.keyed.now c.args.places.now) (leads_of l.keys l.keyed l.places) (λ k. (k / 64 < l.number) × IsSome (row k) × HasColumn unseen k) (λ k. IsSome (row k) × HasColumn unseen k)
          (λ k w. (w.1, w.2))
          (λ k q. (column_word unseen k l.number q.1 (omega (arith, c.loop-number-test.false)), q.0, q.1))
          l.invariant.relaxed;
    }

pub returns-clause-picks : goal.returns-clause-picks
returns-clause-picks g c =
    let M = g.M.Ordered.monoid_of c.args.m.now in
    let l = c.loop-number in
    let unseen = c.args.unseen.now in
    let lead = lead_at M (leads_of l.keys l.keyed l.places) in
    Picks-same M lead lead (IsBelow l.number unseen) (HasColumn unseen) l.best
    (λ k w. w.there)
    (λ k q. record { before = column_word unseen k l.number q (omega (arith, c.loop-number-test.false)); there = q })
    (λ k w. refl)
    l.invariant.picks
