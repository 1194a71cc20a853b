use Rattle.asg_nodes.proofs.Common.{◌≡◌, sym, ap, ◌∙◌, subst, ⊎_elim, entry_at, NamesHall, Entry}
use Rattle.asg_nodes.proofs.trees.root_hall.Goals as goal

pub get-requires : goal.get-requires
get-requires g c =
    let u = c.entry.result.index in
    let same : (entry_at u c.args.tree.now.entries.items 1).state ≡ c.entry.result.state = ap (λ (e : Entry _). e.state) (ap (λ xs. entry_at u xs 1) (sym c.deref.ensures.value) ∙ sym (c.entry.ensures u)) in
    subst (NamesHall c.args.tree.now.halls) (same ∙ c.in-Empty.is) (c.requires.empty u)

pub unreachable-requires : goal.unreachable-requires
unreachable-requires g c =
    let u = c.entry.result.index in
    let same : (entry_at u c.args.tree.now.entries.items 1).state ≡ c.entry.result.state = ap (λ (e : Entry _). e.state) (ap (λ xs. entry_at u xs 1) (sym c.deref.ensures.value) ∙ sym (c.entry.ensures u)) in
    let there = c.requires.empty u in
    ⊎_elim (λ a. subst (NamesHall c.args.tree.now.halls) (same ∙ a.1) there) (λ o. subst (NamesHall c.args.tree.now.halls) (same ∙ o) there) c.in-Answered.is
