-- What isn't met of what the assumed literals say, by representatives.
use Rattle.std.specs.Prelude.{ℕ, ◌<◌, true, List, ◌≡◌, length, slice_get, Some, IsTrue}
use Rattle.ae_base.specs.Options.{known}
use Rattle.ae_base.specs.Relations.{Pairwise}
use Rattle.ae_core.specs.Sorts.{sort_of}
use Rattle.ae_pmap.specs.Forest.{present}
use Rattle.ae_pmap.specs.Pairs.{found}
use Rattle.ae_store.specs.Stores.{Stored}
use Rattle.ae_store.specs.Terms.{named}
use Rattle.ae_sweeps.specs.Given.{rep_in}
use Rattle.ae_theory.specs.Names.{terms_in}
use Rattle.ae_value_table.specs.Alike.{alike}
use Rattle.ae_literals.specs.declared.said.Said.{Said}
use Rattle.ae_literals.specs.declared.unmet.Unmet.{Unmet}
use Rattle.ae_literals.specs.Unmet.{IsUnmet, AreAllMet}
use Rattle.ae_state.specs.declared.holding.Holding.{Holding}
use Rattle.ae_turns.specs.Representing.{AreRepresentatives}

-- the list has what the literals of the first places say, each at its place
pub record AreFirstSaid (o : Holding) (count : ℕ) (said : List Said) : Type 0 where
  pub many : length said ≡ count
  pub each : (place : ℕ) (y : Said) → place < count → found (present o.said) place ≡ Some y → slice_get said place ≡ Some y

-- so of all assumed literals
abbrev pub AreSaidBy : Holding → List Said → Type 0
AreSaidBy o said = AreFirstSaid o o.next said

-- this isn't met
pub record IsFound (s : Stored) (o : Holding) (u : Unmet) : Type 0 where
  pub reps : List ℕ
  pub representatives : AreRepresentatives o reps
  pub said : List Said
  pub are : AreSaidBy o said
  pub is : IsUnmet s.signature s.nodes (rep_in reps) said u

-- all is met
pub record IsNoneFound (s : Stored) (o : Holding) (reps : List ℕ) : Type 0 where
  pub said : List Said
  pub are : AreSaidBy o said
  pub all : AreAllMet s.signature s.nodes (rep_in reps) said

-- two well-sorted names have one value
pub record HaveOneValue (s : Stored) (o : Holding) (m n : ℕ) : Type 0 where
  pub left_sorted : known (sort_of s.signature (named (terms_in s) m)) ≡ true
  pub right_sorted : known (sort_of s.signature (named (terms_in s) n)) ≡ true
  pub alike_are : IsTrue (alike o.values m n)

-- so have the names of two lists, one by one
abbrev pub HaveOneValueEach : Stored → Holding → List ℕ → List ℕ → Type 0
HaveOneValueEach s o ms ns = Pairwise (HaveOneValue s o) ms ns
