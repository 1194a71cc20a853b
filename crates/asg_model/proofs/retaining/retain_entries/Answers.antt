use Rattle.asg_model.proofs.Common.{rules}
use Rattle.asg_model.proofs.RetainedStores.{callable_on_each, RetainsCells-pairs}
use Rattle.asg_model.proofs.retaining.retain_entries.Goals as goal

pub retain-requires : goal.retain-requires
retain-requires g c = callable_on_each _ _ _ (λ k. goal.F-pre g c.args.keep.now k.0 k.1) _ (λ k v b w h t. search rules) (λ k v may. search rules) c.requires

pub returns-clause-cells : goal.returns-clause-cells
returns-clause-cells g c = RetainsCells-pairs _ _ _ (λ k v b w h t. search rules) _ _ c.retain.ensures.filtered
