-- What the clauses `exact`, `fits` and `wide` of a check say together, and how a check is made of the calls in it: an exit of such a function is
-- answered whole (`pub returns-in-None : goal.returns-in-None`), by one term of the type `Checks`, and the `ensures` of a last call is of it too.
use Rattle.std.specs.Prelude.{Bool, true, false, IsTrue, ◌≡◌, ◌↔◌, List, [], Some, None, Ok, Err, IsErrAnd, IfOk, OnOk, IfErr}
use Rattle.std.specs.declared.result.Result.{Result}
use Rattle.std.proofs.Common.{refl, sym, ap, ◌∙◌, subst, true≢false}
use Rattle.ae_num.specs.declared.numbers.Wide.{Wide}
use Rattle.ae_num.specs.declared.numbers.NumFail.{NumFail}
use Rattle.ae_num.specs.declared.numbers.NumFail.TheVariants.{Wide as WideFail, Memory}
use Rattle.ae_num.specs.Forms.{Step, first_wide, IfWide}

-- the answer is exactly whether `P` holds, and then `Fits` holds; or else `Leaves` holds of the operands of a width.
-- It is the record of the clauses of a check, so that one term of this type answers all clauses of an exit.
abbrev pub Checks : Type 0 → Type 0 → (Wide → Type 0) → Result Bool NumFail → Type 0
Checks P Fits Leaves r = record { exact : IfOk r (λ b. IsTrue b ↔ P); fits : OnOk r Fits; wide : IfErr r (λ fail. IfWide fail Leaves) }

-- the same of stated products and sums
abbrev pub StepChecks : Type 0 → List Step → Result Bool NumFail → Type 0
StepChecks P steps r = Checks P (first_wide steps ≡ None) (λ w. first_wide steps ≡ Some w) r

-- what holds of a width holds of it elsewhere
pub wide_too : (e : NumFail) (P Q : Wide → Type 0) → ((w : Wide) → P w → Q w) → IfWide e P → IfWide e Q
wide_too (WideFail w) P Q f p = f w p
wide_too (Memory m) P Q f p = tt

-- ---- answers
module _ (P F : Type 0) (W : Wide → Type 0) where
  pub checks_no : ¬ P → F → Checks P F W (Ok false)
  checks_no n f = record { exact = (λ t. absurd (true≢false (sym t)), λ p. absurd (n p)); fits = f; wide = tt }

  pub checks_yes : P → F → Checks P F W (Ok true)
  checks_yes p f = record { exact = (λ t. p, λ q. refl); fits = f; wide = tt }

  -- an answer that is known to be exact
  pub checks_ok : (b : Bool) → (IsTrue b → P) → (P → IsTrue b) → F → Checks P F W (Ok b)
  checks_ok b g h f = record { exact = (g, h); fits = f; wide = tt }

  -- an error that a call hands on
  pub checks_err : (r : Result Bool NumFail) (e : NumFail) (V : Wide → Type 0) → IsErrAnd r (λ x. x ≡ e) → ((w : Wide) → V w → W w) → IfWide e V → Checks P F W r
  checks_err (Ok b) e V is f p = absurd is
  checks_err (Err x) e V is f p = record { exact = tt; fits = tt; wide = wide_too x V W f (subst (λ z. IfWide z V) (sym is) p) }

-- the answer of a last call
pub checks_like : (P F : Type 0) (W : Wide → Type 0) (Q G : Type 0) (V : Wide → Type 0) (r : Result Bool NumFail) → (P → Q) → (Q → P) → (F → G) → ((w : Wide) → W w → V w) → Checks P F W r → Checks Q G V r
checks_like P F W Q G V (Ok b) f g h k c = record { exact = (λ t. f (c.exact.0 t), λ q. c.exact.1 (g q)); fits = h c.fits; wide = tt }
checks_like P F W Q G V (Err e) f g h k c = record { exact = tt; fits = tt; wide = wide_too e W V k c.wide }

-- ---- the same of stated products and sums
pub states_no : (P : Type 0) (steps : List Step) → ¬ P → steps ≡ [] → StepChecks P steps (Ok false)
states_no P steps n e = checks_no P (first_wide steps ≡ None) (λ w. first_wide steps ≡ Some w) n (ap first_wide e)

pub states_like : (P : Type 0) (s : List Step) (Q : Type 0) (t : List Step) (r : Result Bool NumFail) → (P → Q) → (Q → P) → t ≡ s → StepChecks P s r → StepChecks Q t r
states_like P s Q t r f g e c =
    checks_like P (first_wide s ≡ None) (λ w. first_wide s ≡ Some w) Q (first_wide t ≡ None) (λ w. first_wide t ≡ Some w) r f g (λ h. ap first_wide e ∙ h) (λ w h. ap first_wide e ∙ h) c
