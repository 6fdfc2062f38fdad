-- What a result that may be nothing holds.
use Rattle.std.specs.Prelude.{◌≡◌, Option, Some, None, Result, Ok, IfOk, MatchOption}
use Rattle.std.proofs.Common.{subst}

pub of_none : {X E : Type 0} (r : Result (Option X) E) (P : Type 0) (Q : X → Type 0) → IfOk r (λ o. MatchOption o P Q) → r ≡ Ok None → P
of_none r P Q h e = subst (λ x. IfOk x (λ o. MatchOption o P Q)) e h

pub of_some : {X E : Type 0} (r : Result (Option X) E) (P : Type 0) (Q : X → Type 0) (x : X) → IfOk r (λ o. MatchOption o P Q) → r ≡ Ok (Some x) → Q x
of_some r P Q x h e = subst (λ y. IfOk y (λ o. MatchOption o P Q)) e h
