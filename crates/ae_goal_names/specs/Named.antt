-- What it is to name terms in a store.
use Rattle.std.specs.Prelude.{List, ◌≡◌, ◌⊎◌, length, Some}
use Rattle.std.specs.List.{Contains, flat_map}
use Rattle.ae_core.specs.Sorts.{sort_of}
use Rattle.ae_core.specs.declared.terms.Sort.{Sort}
use Rattle.ae_core.specs.declared.terms.Term.{Term, Apply}
use Rattle.ae_core.specs.declared.terms.Head.{Head}
use Rattle.ae_core.specs.declared.problems.Signature.{Signature}
use Rattle.ae_rules.specs.Clauses.{Clause}
use Rattle.ae_journal.specs.States.{outside}
use Rattle.ae_journal.specs.Systems.{record_fields, field_terms}
use Rattle.ae_store.specs.Stores.{Stored}
use Rattle.ae_store.specs.Terms.{Keeps}
use Rattle.ae_theory.specs.Names.{terms_in}

-- a term stands in some terms: it is one of them, an argument of one that stands in them, or a field of one of record sort
pub data StandsIn (sig : Signature) (ts : List Term) : Term → Type 0 where
  itself : {t : Term} → Contains ts t → StandsIn sig ts t
  argument : {t : Term} (h : Head) (ss : List Sort) (us : List Term) → StandsIn sig ts (Apply h ss us) → Contains us t → StandsIn sig ts t
  field : {t : Term} (s : Sort) (ss : List Sort) (u : Term) → StandsIn sig ts u → sort_of sig u ≡ Some s → record_fields sig s ≡ Some ss → Contains (field_terms s u (length ss)) t → StandsIn sig ts t

-- the terms have names, the names that were there are kept, and what is new stands in the terms
pub record HasNamed (old new : Stored) (ts : List Term) : Type 0 where
  pub signature : new.signature ≡ old.signature
  pub keeps : Keeps (terms_in old) (terms_in new)
  pub named : (t : Term) → Contains ts t → Contains (terms_in new) t
  pub only : (t : Term) → Contains (terms_in new) t → Contains (terms_in old) t ⊎ StandsIn old.signature ts t

-- the terms and predicate applications of clauses that stand outside quantified parts
abbrev pub clause_terms : Clause → List Term
clause_terms c = flat_map (λ l. outside l.formula) c

abbrev pub all_terms : List Clause → List Term
all_terms cs = flat_map clause_terms cs
