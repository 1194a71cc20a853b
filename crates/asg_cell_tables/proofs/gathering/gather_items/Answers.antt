use Rattle.asg_cell_tables.proofs.Common.{◌≡◌, ℕ, ◌+◌, ◌/◌, ◌<◌, List, length, get_or, ℤ, Some, None, Option, sym, refl, ap, ◌∙◌, subst, arith, to_z-of_z, get_or_past, AreKnownAs, gathered_item, w64}
use Rattle.asg_cell_tables.proofs.gathering.gather_items.Goals as goal

-- nothing stands in an empty list
none_stands : (items : List ℤ) (other : ℤ) (o : Option ℕ) → length items ≡ 0 → other ≡ gathered_item items other o
none_stands items other None empty = refl
none_stands items other (Some d) empty = sym (get_or_past items d other (omega (arith, empty)))

pub returns-then-items-eq0-clause-items : goal.returns-then-items-eq0-clause-items
returns-then-items-eq0-clause-items c = λ k h.
    c.requires.clear k ∙ none_stands c.args.items.now c.args.other (get_or c.args.columns.now k None) c.if-items-eq0.true

pub returns-then-are_pairs-clause-items : goal.returns-then-are_pairs-clause-items
returns-then-are_pairs-clause-items c = λ k h.
    let items = c.args.items.now in
    let from = c.args.first / 2 in
    let twice = c.are_pairs.ensures.twice c.if-are_pairs.true in
    let known = subst (λ l. AreKnownAs l c.args.first c.args.columns.now) twice c.requires.known in
    let same = to_z-of_z w64 c.args.other c.ranges.other in
    let is = subst (λ (o : ℤ). (k : ℕ) → k < 64 → get_or c.write_pairs.new.room k o ≡ get_or items (from + k / 2) o) same c.write_pairs.ensures.items in
    is k (omega (arith, h, c.requires.few)) ∙ ap (gathered_item items c.args.other) (sym (known k h))

pub returns-clause-items : goal.returns-clause-items
returns-clause-items c =
    let items = c.args.items.now in
    let columns = c.args.columns.now in
    let same = to_z-of_z w64 c.args.other c.ranges.other in
    subst (λ (o : ℤ). (k : ℕ) → k < length columns → get_or c.gather.new.room k o ≡ gathered_item items o (get_or columns k None)) same c.gather.ensures.items
