-- A refusal that is handed on.
use Rattle.std.proofs.Common.{◌≡◌, Result, Ok, Err, sym, subst}
use Rattle.std.specs.Prelude.{IfErr, IsErrAnd}

-- what holds of a refusal holds of the error that hands it on
pub handed_on : {T E : Type 0} (r : Result T E) (refusal : E) (P : E → Type 0) → IsErrAnd r (λ told. told ≡ refusal) → P refusal → IfErr r P
handed_on (Ok x) refusal P is h = elim is [ ]
handed_on (Err told) refusal P is h = subst P (sym is) h
