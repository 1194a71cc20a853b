use Rattle.std.specs.Prelude.{Result, Ok, Err}
use Rattle.asg_networks.proofs.Common.{◌≡◌, IfOk, IsLayout, ◌≤◌, length, All, sym, ap, ◌∙◌, subst, arith, targets, AreNodeIds, HasCell, IsRightLink}
use Rattle.asg_networks.proofs.LayoutLemmas.{right_cells}
use Rattle.asg_networks.proofs.NetworkTables.{sources_are_ids, targets_are_ids, length-targets}
use Rattle.asg_networks.proofs.network.Network.layout.Goals as goal
use Rattle.asg_networks.proofs.network.Network.layout.Goals.{After-as_slice}

module _ (c : After-as_slice) where
  nodes : All (λ id. (1 ≤ id) × (id ≤ c.args.nodes)) c.args.self.now.sources.items
  nodes = subst (λ n. All (λ id. (1 ≤ id) × (id ≤ n)) c.args.self.now.sources.items) (sym c.requires.nodes) c.requires.sound.nodes

pub new-requires-clause-sources : goal.new-requires-clause-sources
new-requires-clause-sources c =
    subst (AreNodeIds c.args.nodes) (sym c.as_slice.ensures.value)
    (sources_are_ids c.args.self.now.sources.items c.args.nodes c.requires.sound.differ (nodes c))

pub new-requires-clause-targets : goal.new-requires-clause-targets
new-requires-clause-targets c =
    subst (AreNodeIds c.args.nodes) (sym c.requires.others)
    (targets_are_ids c.args.self.now.sources.items c.args.nodes c.requires.sound.differ (nodes c))

pub new-requires-clause-few_columns : goal.new-requires-clause-few_columns
new-requires-clause-few_columns c =
    omega (arith, length-targets c.args.self.now.sources.items c.args.nodes c.requires.sound.differ (nodes c), ap length c.requires.others, c.requires.few_columns)

-- three facts of a value give a fourth
by_three : {A E : Type 0} (P Q R S : A → Type 0) → ((x : A) → P x → Q x → R x → S x) → (result : Result A E) → IfOk result P → IfOk result Q → IfOk result R → IfOk result S
by_three P Q R S all (Ok x) p q r = all x p q r
by_three P Q R S all (Err e) p q r = tt

pub returns-clause-cells : goal.returns-clause-cells
returns-clause-cells c =
    let network = c.args.self.now in
    let ids = network.sources.items in
    let links = network.links.items in
    by_three IsLayout (λ layout. layout.sources.now ≡ c.as_slice.result.now) (λ layout. layout.targets.now ≡ c.args.others.now) (λ layout. All (HasCell layout) links)
    (λ layout is sources_are targets_are.
    let rows_are = sources_are ∙ c.as_slice.ensures.value in
    right_cells layout c.args.nodes links is
    (targets_are ∙ c.requires.others ∙ ap (λ ids. targets ids c.args.nodes) (sym rows_are))
    (subst (λ ids. All (IsRightLink ids c.args.nodes) links) (sym rows_are)
    (subst (λ n. All (IsRightLink ids n) links) (sym c.requires.nodes) c.requires.sound.links)))
    c.new.result c.new.ensures.layout c.new.ensures.sources c.new.ensures.targets
