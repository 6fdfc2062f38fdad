-- Literals in a settled state: what a sweep finds where none is contradicted or left out, and what then holds of their terms.
use Rattle.std.specs.Prelude.{ℕ, ℤ, ◌*ℤ◌, pos, Bool, List, [], ◌∷◌, ◌≡◌, map, slice_get, Some, unsigned_abs}
use Rattle.std.specs.List.{AllByRecursion, Contains}
use Rattle.ae_core.specs.Sorts.{sort_of}
use Rattle.ae_core.specs.declared.terms.Sort.{Sort, Int}
use Rattle.ae_core.specs.declared.terms.Term.{Term, Apply}
use Rattle.ae_core.specs.declared.terms.Head.{Head}
use Rattle.ae_core.specs.declared.formulas.Formula.{Eq, Pred}
use Rattle.ae_core.specs.declared.formulas.Lit.{Lit}
use Rattle.ae_core.specs.declared.problems.Signature.{Signature}
use Rattle.ae_rules.specs.Clauses.{is_true, is_false}
use Rattle.ae_rules.specs.Derivations.{IsConstructor}
use Rattle.ae_num.specs.Forms.{IsCommonDivisor}
use Rattle.ae_num.specs.declared.forms.Part.{Part}
use Rattle.ae_num.specs.declared.forms.Lin.{Lin}
use Rattle.ae_num.specs.declared.forms.Value.{Number}
use Rattle.ae_journal.specs.Values.{Val}
use Rattle.ae_journal.specs.Systems.{IsName, ValueOf}
use Rattle.ae_journal.specs.States.{AllSame}
use Rattle.ae_journal.specs.declared.systems.System.{System}
use Rattle.ae_settled.specs.Held.{Held, system_of}

-- the terms have these names, one by one, and are well sorted
abbrev pub AreNamesOf : Signature → System → List ℕ → List Term → Type 0
AreNamesOf sig y [] [] = Unit {0}
AreNamesOf sig y (n ∷ ns) (t ∷ ts) = IsName y n t × ((s : Sort) × (sort_of sig t ≡ Some s)) × AreNamesOf sig y ns ts
AreNamesOf sig y _ _ = ⊥

-- the sides of an equation have names, and one sort
pub record HasSides (sig : Signature) (y : System) (s t : Term) : Type 0 where
  pub sort : Sort
  pub left_sorted : sort_of sig s ≡ Some sort
  pub right_sorted : sort_of sig t ≡ Some sort
  pub left : ℕ
  pub right : ℕ
  pub left_is : IsName y left s
  pub right_is : IsName y right t

-- no literal is contradicted or left out: by representatives, and by the numbers of values
pub record AreMet (x : Held) (ls : List Lit) : Type 0 where
  pub sides : (b : Bool) (s t : Term) → Contains ls (record { positive = b; formula = Eq s t }) → HasSides x.signature (system_of x) s t
  pub equal : (s t : Term) (m n : ℕ) → Contains ls (is_true (Eq s t)) → IsName (system_of x) m s → IsName (system_of x) n t → x.rep m ≡ x.rep n
  pub unequal : (s t : Term) (m n : ℕ) → Contains ls (is_false (Eq s t)) → IsName (system_of x) m s → IsName (system_of x) n t → x.rep m ≡ x.rep n → ⊥
  pub constructors : (m n : ℕ) (h i : Head) → IsConstructor x.signature h → IsConstructor x.signature i → IsName (system_of x) m (Apply h [] []) → IsName (system_of x) n (Apply i [] [])
      → x.rep m ≡ x.rep n → h ≡ i
  pub arguments : (b : Bool) (q : ℕ) (ss : List Sort) (ts : List Term) → Contains ls (record { positive = b; formula = Pred q ss ts }) → (ns : List ℕ) × AreNamesOf x.signature (system_of x) ns ts
  pub predicates : (q : ℕ) (ss : List Sort) (ts us : List Term) (ms ns : List ℕ) → Contains ls (is_true (Pred q ss ts)) → Contains ls (is_false (Pred q ss us))
      → AreNamesOf x.signature (system_of x) ms ts → AreNamesOf x.signature (system_of x) ns us → map x.rep ms ≡ map x.rep ns → ⊥
  pub whole : (n : ℕ) (t : Term) (f : Lin) → IsName (system_of x) n t → sort_of x.signature t ≡ Some Int → slice_get x.values n ≡ Some (Number f)
      → IsCommonDivisor (unsigned_abs f.den ∷ map (λ p. unsigned_abs p.factor) f.parts) 1

-- the literals hold of the values of their terms
pub record Satisfies (sig : Signature) (y : System) (ls : List Lit) : Type 0 where
  pub equal : (s t : Term) → Contains ls (is_true (Eq s t)) → (v : Val) × ValueOf y s v × ValueOf y t v
  pub unequal : (s t : Term) (v : Val) → Contains ls (is_false (Eq s t)) → ValueOf y s v → ValueOf y t v → ⊥
  pub constructors : (h i : Head) (v : Val) → IsConstructor sig h → IsConstructor sig i → ValueOf y (Apply h [] []) v → ValueOf y (Apply i [] []) v → h ≡ i
  pub predicates : (q : ℕ) (ss : List Sort) (ts us : List Term) → Contains ls (is_true (Pred q ss ts)) → Contains ls (is_false (Pred q ss us)) → ¬ AllSame sig y ts us
  pub whole : (n d : ℕ) (t : Term) (f : Lin) → IsName y n t → sort_of sig t ≡ Some Int → slice_get y.values n ≡ Some (Number f)
      → ((z : ℤ) × (f.den ≡ z *ℤ pos d)) → AllByRecursion (λ (q : Part). (z : ℤ) × (q.factor ≡ z *ℤ pos d)) f.parts → d ≡ 1
