-- Names of constructors of enumerations.
use Rattle.std.specs.Prelude.{ℕ, List, [], ◌≡◌, ◌≢◌, slice_get, Some}
use Rattle.ae_core.specs.declared.problems.Signature.{Signature}
use Rattle.ae_core.specs.declared.terms.Head.{Head}
use Rattle.ae_core.specs.declared.terms.Term.{Term, Apply}
use Rattle.ae_rules.specs.Derivations.{IsConstructor}

-- the name is that of the constructor h
pub record NamesConstructor (sig : Signature) (ts : List Term) (name : ℕ) (h : Head) : Type 0 where
  pub term : slice_get ts name ≡ Some (Apply h [] [])
  pub constructor : IsConstructor sig h

-- the names are those of two different constructors
pub record AreDifferentConstructors (sig : Signature) (ts : List Term) (left right : ℕ) : Type 0 where
  pub first : Head
  pub second : Head
  pub left_names : NamesConstructor sig ts left first
  pub right_names : NamesConstructor sig ts right second
  pub differ : first ≢ second
