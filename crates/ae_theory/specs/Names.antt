-- The terms of formulas, and which of them have names in a store.
use Rattle.std.specs.Prelude.{ℕ, ◌<◌, Bool, true, false, List, ◌++◌, ◌≡◌, length, slice_get, slice_index_or, Some}
use Rattle.std.specs.List.{Contains}
use Rattle.ae_core.specs.Sorts.{sort_of}
use Rattle.ae_core.specs.declared.terms.Term.{Term}
use Rattle.ae_core.specs.declared.formulas.Formula.{Formula, Formula-F, out-Formula}
use Rattle.ae_core.specs.declared.formulas.Formula.TheOpen as layer_of
use Rattle.ae_core.specs.declared.formulas.Quant.{Quant}
use Rattle.ae_journal.specs.Standing.{Setting, IsEntered}
use Rattle.ae_journal.specs.States.{outside}
use Rattle.ae_journal.specs.declared.lines.Line.{Line}
use Rattle.ae_store.specs.Stores.{Stored}
use Rattle.ae_store.specs.Shapes.{shapes}
use Rattle.ae_store.specs.Terms.{terms, Keeps}

abbrev pub is_atom_of : Formula-F Formula Quant → Bool
is_atom_of (layer_of.Eq s t) = true
is_atom_of (layer_of.Lt s t) = true
is_atom_of (layer_of.Le s t) = true
is_atom_of (layer_of.Pred p ss ts) = true
is_atom_of _ = false

-- an equation, an inequality, or a predicate's application
unfoldable pub is_atom : Formula → Bool
is_atom f = is_atom_of (out-Formula f)

-- the terms of a store, each at its name
abbrev pub terms_in : Stored → List Term
terms_in s = terms (shapes s.nodes)

-- the terms and predicate applications of a formula outside quantified parts have names
abbrev pub AreNamed : Stored → Formula → Type 0
AreNamed s f = (t : Term) → Contains (outside f) t → Contains (terms_in s) t

-- a store of the same signature, in which each term has the name that it had
pub record Extends (a b : Stored) : Type 0 where
  pub signature : b.signature ≡ a.signature
  pub keeps : Keeps (terms_in a) (terms_in b)

-- the terms of two names are of one sort, or neither is a well-sorted term, as a predicate's application
abbrev pub HaveOneSort : Stored → ℕ → ℕ → Type 0
HaveOneSort s m n = (a b : Term) → slice_get (terms_in s) m ≡ Some a → slice_get (terms_in s) n ≡ Some b → sort_of s.signature a ≡ sort_of s.signature b

abbrev pub IsOrdered : List ℕ → Type 0
IsOrdered ns = (i j : ℕ) → i < j → j < length ns → slice_index_or ns i 0 < slice_index_or ns j 0

-- a journal's problem has the store's signature, its names are numbered as in the store, and the store's terms are names of the journal
pub record IsNamedBy (x : Setting) (s : Stored) (js : List Line) : Type 0 where
  pub signature : x.problem.signature ≡ s.signature
  pub more : List Term
  pub names : x.names ≡ terms_in s ++ more
  pub entered : (t : Term) → Contains (terms_in s) t → IsEntered x js t
