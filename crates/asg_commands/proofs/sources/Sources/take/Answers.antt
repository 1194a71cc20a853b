use Rattle.asg_commands.proofs.Common.{[], ℕ, ◌∙◌, List, Vec, Global, map, ap}
use Rattle.std.proofs.Common.{get_or}
use Rattle.std.proofs.lemmas.List.{get_or-set_other, map-set}
use Rattle.asg_commands.proofs.sources.Sources.take.Goals as goal

pub returns-then-place-len-clause-others : goal.returns-then-place-len-clause-others
returns-then-place-len-clause-others c = λ k other.
    let files = c.self.inside.files.items in
    let bytes : Vec ℕ Global → List ℕ = λ file. file.items in
    ap (λ (xs : List (List ℕ)). get_or xs k []) (map-set bytes files c.args.place c.replace.new.dest)
    ∙ get_or-set_other (map bytes files) c.args.place k c.replace.new.dest.items [] other
    ∙ ap (λ (xs : List (List ℕ)). get_or xs k []) c.self.view_is
