-- What holds of an answer, by facts on it.
use Rattle.asg_answers.proofs.Common.{IfErr, OnOk, Ok, Err, Result}

module _ {T E : Type 0} where
  pub on_ok_always : (result : Result T E) (A : Type 0) → A → OnOk result A
  on_ok_always (Ok x) A a = a
  on_ok_always (Err e) A a = tt

  pub if_err_both : (result : Result T E) (A B C : E → Type 0) → ((e : E) → A e → B e → C e) → IfErr result A → IfErr result B → IfErr result C
  if_err_both (Ok x) A B C both a b = tt
  if_err_both (Err e) A B C both a b = both e a b
