-- What a state knows to be complete, after each of its calls.
use Rattle.std.specs.Prelude.{ℕ, [], ◌∷◌, ◌++◌, ◌≡◌, Option, Some, None, Result, Ok, OnOk, OnErr, IfSome}
use Rattle.std.proofs.Common.{sym, subst}
use Rattle.ae_store.specs.Growing.{IsFront}
use Rattle.ae_theory.specs.Tagged.{Tagged}
use Rattle.ae_theory.specs.declared.theory.Fail.{Fail}
use Rattle.ae_theory.specs.declared.theory.Outcome.{Outcome}
use Rattle.ae_theory.specs.declared.theory.Outcome.TheVariants.{Complete}
use Rattle.ae_state.specs.declared.holding.Holding.{Holding}
use Rattle.ae_state.specs.Names.{assumed_in, system_now}
use Rattle.ae_state.specs.Right.{IsRight}
use Rattle.ae_state.specs.Complete.{IsComplete}
use Rattle.ae_saturation.specs.Lasting.{IsCompleteFor}
use Rattle.ae_saturation.proofs.FirstLiterals.{for_all, for_same, for_assumed}
use Rattle.ae_combine.specs.Known.{IsKnown}

-- where a literal is assumed, or refused
pub known_assumed : {T E : Type 0} (o p : Holding) → IsRight o → IsFront o.shapes p.shapes → p ≡ record o { shapes = p.shapes; assumed = p.assumed; said = p.said; next = p.next }
    → (r : Result T E) (x : Tagged) → OnOk r (assumed_in p ≡ assumed_in o ++ x ∷ []) → OnErr r (assumed_in p ≡ assumed_in o) → (known : Option ℕ) → IsKnown known o → IsKnown known p
known_assumed o p holds front others r x ok err None k = tt
known_assumed o p holds front others r x ok err (Some count) k = for_assumed count o p holds front others r x ok err k

-- where what was held comes back
pub known_again : (o p : Holding) → p.signature ≡ o.signature → system_now p ≡ system_now o → assumed_in p ≡ assumed_in o → (known : Option ℕ) → IsKnown known o → IsKnown known p
known_again o p signature system same None k = tt
known_again o p signature system same (Some count) k = for_same count o p signature system same k

-- where nothing was left to do
pub known_complete : (o : Holding) → IsRight o → (r : Result Outcome Fail) → (r ≡ Ok Complete → IsComplete o) → (known : Option ℕ) → IfSome known (λ count. (r ≡ Ok Complete) × (count ≡ o.next)) → IsKnown known o
known_complete o holds r complete None k = tt
known_complete o holds r complete (Some count) k = subst (λ (n : ℕ). IsCompleteFor n o) (sym k.1) (for_all o holds (complete k.0))
