-- What an option holds, from a test of it.
use Rattle.std.proofs.Common.{◌≡◌, Bool, true, false, cond, IsSome, IfSome, Some, None, Option, refl}
use Rattle.std.specs.Option.{option_map_or}
use Rattle.std.proofs.lemmas.Bool.{false≢true}
use Rattle.std.proofs.lemmas.Option.{none-some}

pub some_there : {A : Type 0} (o : Option A) → IsSome o → (x : A) × (o ≡ Some x)
some_there None h = absurd (false≢true h)
some_there (Some x) h = (x, refl)

pub none_there : {A : Type 0} (o : Option A) → (IsSome o → ⊥) → o ≡ None
none_there None h = refl
none_there (Some x) h = absurd (h refl)

-- what is shown of a value that is there
pub if_some : {A : Type 0} (P : A → Type 0) (o : Option A) → ((x : A) → o ≡ Some x → P x) → IfSome o P
if_some P None show = tt
if_some P (Some x) show = show x refl

-- a test of what an option has passes at something
pub option_passes : {A : Type 0} (p : A → Bool) (o : Option A) → option_map_or p o false ≡ true → (x : A) × (o ≡ Some x) × (p x ≡ true)
option_passes p None e = absurd (false≢true e)
option_passes p (Some x) e = (x, refl, e)

-- what is there only where a test passes, and only where it fails
pub there_where : {A : Type 0} (b : Bool) (o : Option A) (x : A) → cond b o None ≡ Some x → (b ≡ true) × (o ≡ Some x)
there_where true o x e = (refl, e)
there_where false o x e = absurd (none-some x e)

pub there_unless : {A : Type 0} (b : Bool) (o : Option A) (x : A) → cond b None o ≡ Some x → (b ≡ false) × (o ≡ Some x)
there_unless true o x e = absurd (none-some x e)
there_unless false o x e = (refl, e)
