use Rattle.asg_growth.proofs.Common.{◌≡◌, ◌/◌, [], Some, refl, subst, rules, leads_of, lead_at, Picks, IsWithin, HasColumn}
use Rattle.asg_growth.proofs.growth.renew.Goals as goal

pub nearest_in_word-found-requires-clause-leads : goal.nearest_in_word-found-requires-clause-leads
nearest_in_word-found-requires-clause-leads g c = λ k key here e.
    let M = g.M.Ordered.monoid_of c.args.m.now in
    let keys = c.deref.ensures.value in
    let keyed = c.deref-2.ensures.value in
    let unseen = c.deref-3.ensures.value in
    c.requires.valued k key (subst (λ xs. HasColumn xs k) unseen here)
    (subst (λ A. A) (λ i. lead_at M (leads_of (keys i) (keyed i) []) k ≡ Some key) e)

pub returns : goal.returns
returns g c =
    let M = g.M.Ordered.monoid_of c.args.m.now in
    let keys = c.deref.ensures.value in
    let keyed = c.deref-2.ensures.value in
    let unseen = c.deref-3.ensures.value in
    let found = c.nearest_in_word-found in
    record {
      kept = refl;
      found = found.result;
      nearest = search rules;
      picks = subst (λ A. A) (λ i. Picks M (lead_at M (leads_of (keys i) (keyed i) [])) (IsWithin (c.args.column / 64) (unseen i)) found.result) found.ensures;
    }
