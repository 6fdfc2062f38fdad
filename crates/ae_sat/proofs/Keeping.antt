-- What stays settled.
use Rattle.std.proofs.Common.{◌≡◌, ℕ, List, [], ◌++◌, length, take, sym, ap, ◌∙◌, subst, arith, Option, Some, None, Result, OnOk, OnErr, length-append, append-nil}
use Rattle.std.proofs.lemmas.List.{take-append-le}
use Rattle.ae_rules.specs.Clauses.{Clause}
use Rattle.ae_core.specs.declared.formulas.Lit.{Lit}
use Rattle.ae_explain.specs.declared.trail.Assigned.{Assigned}
use Rattle.ae_propagation.specs.Settled.{Holds, IsQuiet}
use Rattle.ae_propagation.specs.Watched.{AreQuietBy}
use Rattle.ae_explain.proofs.Results.{either_way}
use Rattle.ae_propagation.proofs.Trails.{at_old}
use Rattle.ae_propagation.proofs.Watching.{quiet_ahead}
use Rattle.ae_sat.specs.Inner.Kept.{IsKept}

pub holds_more : (t more : List Assigned) (m : Lit) → Holds t m → Holds (t ++ more) m
holds_more t more m h = (h.0, omega (arith, h.1, length-append t more), ap (λ (a : Assigned). a.lit) (at_old t more h.0 h.1) ∙ h.2)

-- a literal more takes nothing away
kept_more : (o : Option ℕ) (t more : List Assigned) (u : List Clause) → IsKept o t u → IsKept o (t ++ more) u
kept_more None t more u k = tt
kept_more (Some n) t more u k = (
  omega (arith, k.0, length-append t more),
  subst (λ (w : List Assigned). AreQuietBy w (t ++ more) u) (sym (take-append-le n t more k.0))
      (λ i l. record { not_false = (k.1 i l).not_false; unit = λ m c f. holds_more t more m ((k.1 i l).unit m c f) }),
)

pub kept_either : {A E : Type 0} (r : Result A E) (o : Option ℕ) (t new more : List Assigned) (u v : List Clause) → OnOk r (new ≡ t ++ more) → OnErr r (new ≡ t) → v ≡ u → IsKept o t u → IsKept o new v
kept_either r o t new more u v ok err same k =
    subst (IsKept o new) (sym same) (either_way (λ (w : List Assigned). IsKept o w u) r t (t ++ more) new ok err k (kept_more o t more u k))

-- a quiet trail
pub kept_quiet : (t : List Assigned) (u : List Clause) (n : ℕ) → n ≡ length t → IsQuiet t u → IsKept (Some n) t u
kept_quiet t u n e q = (
  omega (arith, e),
  subst (λ (k : ℕ). AreQuietBy (take k t) t u) (sym e) (subst (λ (w : List Assigned). AreQuietBy (take (length t) w) w u) (append-nil t) (quiet_ahead t [] u q)),
)
