use Rattle.asg_networks.proofs.Common.{◌≡◌, [], ◌∷◌, ◌++◌, slice_get, Some, sym, ◌∙◌, subst, faults_of_line, IsNetworkOf, Node, BadNode}
use Rattle.asg_networks.proofs.NetworkLemmas.{node_refused, node_kept, node_sound}
use Rattle.asg_networks.proofs.network.Network.take_node.Goals as goal

pub returns-then-has-clause-refused : goal.returns-then-has-clause-refused
returns-then-has-clause-refused c = λ before is.
    subst (λ id. slice_get (faults_of_line before c.args.number (Node id)) 0 ≡ Some (BadNode c.args.number)) (sym c.in-Some-id.is)
    (node_refused before c.args.self.now c.args.number is c.in-Some.sizes c.in-Some-id.id c.requires.sound c.in-Some.is (sym c.has.ensures ∙ c.if-has.true))

pub returns-clause-taken : goal.returns-clause-taken
returns-clause-taken c = λ before is number_is.
    subst (λ id. IsNetworkOf (before ++ Node id ∷ []) c.put_source.new.self) (sym c.in-Some-id.is)
    (node_kept before c.args.self.now c.put_source.new.self c.args.number is number_is c.in-Some.sizes c.in-Some-id.id c.requires.sound c.in-Some.is (sym c.is_node.ensures ∙ c.if-not-is_node.false) (sym c.has.ensures ∙ c.if-has.false) c.in_ok-put_source.ensures.put)

pub returns-clause-sound : goal.returns-clause-sound
returns-clause-sound c =
    node_sound c.args.self.now c.put_source.new.self c.in-Some.sizes c.in-Some-id.id c.requires.sound c.in-Some.is (sym c.is_node.ensures ∙ c.if-not-is_node.false) (sym c.has.ensures ∙ c.if-has.false) c.in_ok-put_source.ensures.put
