-- The names that stand at each number, as sets.
use Rattle.std.specs.Prelude.{ℕ, List, [], ◌∷◌, ◌≡◌, Option, Some, None, if◌then◌else◌, ◌==◌}
use Rattle.ae_pmap.specs.Pairs.{found, Rises}
use Rattle.ae_pmap.specs.Forest.{Forest, StandsFor}
use Rattle.ae_free.specs.declared.classes.Class.{Class}

abbrev pub first_key : {A : Type 0} → List (ℕ × A) → Option ℕ
first_key [] = None
first_key (p ∷ ps) = Some p.0

abbrev pub rest : {A : Type 0} → List A → List A
rest [] = []
rest (p ∷ ps) = ps

abbrev pub unless : Option ℕ → Option ℕ → ℕ → Option ℕ
unless None second name = None
unless (Some least) second name = if least == name then second else Some least

-- the least of the two least members that is not the name
abbrev pub least_other : Class → ℕ → Option ℕ
least_other c name = unless c.least c.second name

abbrev pub set_of : Option Class → ℕ → ℕ
set_of None none = none
set_of (Some c) none = c.members

-- the class stands for the set of these keys, and has the two least
pub record IsClassOf (f : Forest (Unit {0})) (ps : List (ℕ × Unit {0})) (c : Class) : Type 0 where
  pub stands : StandsFor f c.members ps
  pub rises : Rises ps
  pub least : c.least ≡ first_key ps
  pub second : c.second ≡ first_key (rest ps)

-- the class has exactly the names that stand at the number
pub record IsClass (f : Forest (Unit {0})) (numbers : ℕ → Option ℕ) (number : ℕ) (c : Class) : Type 0 where
  pub set : List (ℕ × Unit {0})
  pub of : IsClassOf f set c
  pub has : (n : ℕ) → numbers n ≡ Some number → found set n ≡ Some tt
  pub only : (n : ℕ) → found set n ≡ Some tt → numbers n ≡ Some number

-- each class is the class of its number, and each number at which a name stands has one
pub record AreClasses (f : Forest (Unit {0})) (classes : ℕ → Option Class) (numbers : ℕ → Option ℕ) : Type 0 where
  pub each : (k : ℕ) (c : Class) → classes k ≡ Some c → IsClass f numbers k c
  pub has : (n k : ℕ) → numbers n ≡ Some k → (c : Class) × (classes k ≡ Some c)
