-- Replies, and how they end a run.
use Rattle.asg_commands.proofs.Common.{◌≡◌, ℕ, List, [], ◌∷◌, ◌++◌, ℤ, IfOk, codes, decimal, Result, sym, ap, ◌∙◌, subst, IfOk-weaker, signed_decimal, IsReply, bytes_of, no_text, Reply, Status}

-- a reply of a status and a text that are owed
pub replied : {E : Type 0} (Owed : Status → List ℕ → Type 0) (status : Status) (text : List ℕ) (result : Result Reply E)
    → Owed status text → IfOk result (λ reply. IsReply reply status text) → IfOk result (λ reply. Owed reply.status (bytes_of reply.text))
replied Owed status text result owed says =
    IfOk-weaker result (λ reply. IsReply reply status text) (λ reply. Owed reply.status (bytes_of reply.text))
    (λ reply is. subst (Owed reply.status) is.1 (subst (λ s. Owed s text) is.0 owed))
    says

-- what is owed in other words
pub owed_as : {E : Type 0} (Owed Due : Status → List ℕ → Type 0) (result : Result Reply E) → ((status : Status) (text : List ℕ) → Owed status text → Due status text)
    → IfOk result (λ reply. Owed reply.status (bytes_of reply.text)) → IfOk result (λ reply. Due reply.status (bytes_of reply.text))
owed_as Owed Due result due says =
    IfOk-weaker result (λ reply. Owed reply.status (bytes_of reply.text)) (λ reply. Due reply.status (bytes_of reply.text)) (λ reply. due reply.status (bytes_of reply.text)) says

-- the text of a denial
pub no_said : (document : ℕ) (bytes : List ℕ) (reason : ℕ) (place again : ℤ) → bytes ≡ codes "no " ++ (decimal document ++ 32 ∷ (decimal reason ++ 32 ∷ (signed_decimal again ++ 10 ∷ []))) → again ≡ place → no_text document reason place ≡ bytes
no_said document bytes reason place again told same =
    ap (λ z. codes "no " ++ (decimal document ++ 32 ∷ (decimal reason ++ 32 ∷ (signed_decimal z ++ 10 ∷ [])))) (sym same) ∙ sym told
