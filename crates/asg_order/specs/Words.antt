use Rattle.std.specs.Prelude.{◌≡◌, ◌≢◌, ◌↔◌, Option, Some, None}
use Rattle.asg_order.specs.declared.words.Word.{Word}
use Rattle.asg_order.specs.Monoid.{Monoid, IsValue}

-- the laws of words for values: the word of a value gives the value back, a word gives only a value
-- that has it, and it gives none exactly where no value has it
pub record HasWords {V : Type 0} (M : Monoid V) (word_of : V → Word)
    (value_of : Word → Option V) : Type 0 where
  pub read_back : (x : V) → IsValue M x → value_of (word_of x) ≡ Some x
  pub found : (w : Word) (x : V) → value_of w ≡ Some x → IsValue M x × (word_of x ≡ w)
  pub missing : (w : Word) → (value_of w ≡ None) ↔ ((x : V) → IsValue M x → word_of x ≢ w)
