-- Rules of numbers and of written type variables, as functions follow them.
use Rattle.std.proofs.Common.{◌≡◌, ℕ, suc, List, [], ◌∷◌, ◌++◌, length, Some, None, refl, sym, ap}
use Rattle.std.specs.Str.{bytes_eq}
use Rattle.ae_core.specs.declared.terms.Sort.{Rigid}
use Rattle.ae_elab.specs.Scope.{first_place}
use Rattle.ae_elab.specs.Rules.{Passed, give, fresh, occurrence, written_variable, count_written}
use Rattle.ae_elab.specs.Steps.{IsTaken}
use Rattle.ae_elab.proofs.WalkLaws.{none_met, give_walked}
use Rattle.ae_elab.proofs.EachLaws.{walked_as}

pub fresh_taken : (n : ℕ) (written : List (List ℕ)) → IsTaken fresh (record { next = n; written = written }) (record { next = suc n; written = written }) n
fresh_taken n written m = record { met = none_met m; value = refl; passed = refl }

pub count_taken : (p : Passed) → IsTaken count_written p p (length p.written)
count_taken p m = record { met = none_met m; value = refl; passed = refl }

pub known_taken : (name : List ℕ) (p : Passed) (n : ℕ) → first_place (bytes_eq name) p.written ≡ Some n → IsTaken (written_variable name) p p (Rigid n)
known_taken name p n e m = walked_as (give (Rigid n)) (written_variable name) m m p p (Rigid n) (ap (λ o. occurrence o name p) (sym e)) (give_walked (Rigid n) m p)

pub new_taken : (name : List ℕ) (p : Passed) → first_place (bytes_eq name) p.written ≡ None
    → IsTaken (written_variable name) p (record { next = p.next; written = p.written ++ name ∷ [] }) (Rigid (length p.written))
new_taken name p e m =
    walked_as (occurrence None name) (written_variable name) m m p (record { next = p.next; written = p.written ++ name ∷ [] }) (Rigid (length p.written))
    (ap (λ o. occurrence o name p) (sym e)) (record { met = none_met m; value = refl; passed = refl })
