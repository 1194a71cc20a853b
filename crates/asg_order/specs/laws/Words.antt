-- What the laws of words rest on.
use Rattle.std.proofs.Common.{◌≡◌, ◌≢◌, Option, Some, None, refl, sym, ap, ◌∙◌}
use Rattle.asg_order.specs.declared.words.Word.{Word}
use Rattle.asg_order.specs.Monoid.{Monoid, IsValue}
use Rattle.asg_order.specs.Words.{HasWords}

missing_from : {V : Type 0} (M : Monoid V) (word_of : V → Word) (value_of : Word → Option V) → ((w : Word) (x : V) → value_of w ≡ Some x → IsValue M x × (word_of x ≡ w)) → (w : Word) → ((x : V) → IsValue M x → word_of x ≢ w) → (o : Option V) → value_of w ≡ o → o ≡ None
missing_from M word_of value_of found w none None e = refl
missing_from M word_of value_of found w none (Some x) e = absurd (none x (found w x e).0 (found w x e).1)

-- the laws of words follow from the first two
pub HasWords-from : {V : Type 0} (M : Monoid V) (word_of : V → Word) (value_of : Word → Option V) → ((x : V) → IsValue M x → value_of (word_of x) ≡ Some x) → ((w : Word) (x : V) → value_of w ≡ Some x → IsValue M x × (word_of x ≡ w)) → HasWords M word_of value_of
HasWords-from M word_of value_of read_back found = record {
  read_back = read_back;
  found = found;
  missing = λ w. (
    λ none x vx e. let back : Some x ≡ None = sym (read_back x vx) ∙ ap value_of e ∙ none in cc,
    λ none. missing_from M word_of value_of found w none (value_of w) refl,
  );
}
