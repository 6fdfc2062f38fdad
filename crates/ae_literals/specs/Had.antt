-- What a state has besides, where its literals are met: names for the terms of the literals, and whole values of integers.
use Rattle.std.specs.Prelude.{ℕ, Bool, List, ◌∷◌, ◌≡◌, map, slice_get, Some, unsigned_abs}
use Rattle.std.specs.List.{Contains}
use Rattle.ae_core.specs.Sorts.{sort_of}
use Rattle.ae_core.specs.declared.terms.Sort.{Sort, Int}
use Rattle.ae_core.specs.declared.terms.Term.{Term}
use Rattle.ae_core.specs.declared.formulas.Formula.{Eq, Pred}
use Rattle.ae_core.specs.declared.formulas.Lit.{Lit}
use Rattle.ae_num.specs.Forms.{IsCommonDivisor}
use Rattle.ae_num.specs.declared.forms.Lin.{Lin}
use Rattle.ae_num.specs.declared.forms.Value.{Number}
use Rattle.ae_journal.specs.Systems.{IsName}
use Rattle.ae_store.specs.Stores.{Stored}
use Rattle.ae_settled.specs.Held.{Held, system_of}
use Rattle.ae_settled.specs.Met.{HasSides, AreNamesOf}
use Rattle.ae_literals.specs.Said.{IsAtom}

-- its store
abbrev pub stored_of : Held → Stored
stored_of x = record { signature = x.signature; nodes = x.nodes }

-- the sides of equations, atoms and their arguments have names
pub record HaveNames (x : Held) (ls : List Lit) : Type 0 where
  pub sides : (b : Bool) (s t : Term) → Contains ls (record { positive = b; formula = Eq s t }) → HasSides x.signature (system_of x) s t
  pub atoms : (b : Bool) (q : ℕ) (ss : List Sort) (ts : List Term) → Contains ls (record { positive = b; formula = Pred q ss ts })
      → (n : ℕ) × IsAtom (stored_of x) b (record { positive = b; formula = Pred q ss ts }) n
  pub arguments : (b : Bool) (q : ℕ) (ss : List Sort) (ts : List Term) → Contains ls (record { positive = b; formula = Pred q ss ts }) → (ns : List ℕ) × AreNamesOf x.signature (system_of x) ns ts

-- the denominator and the factors of a number that an integer has as its value have no common divisor but 1
pub record AreWhole (x : Held) : Type 0 where
  pub each : (n : ℕ) (t : Term) (f : Lin) → IsName (system_of x) n t → sort_of x.signature t ≡ Some Int → slice_get x.values n ≡ Some (Number f)
      → IsCommonDivisor (unsigned_abs f.den ∷ map (λ p. unsigned_abs p.factor) f.parts) 1
