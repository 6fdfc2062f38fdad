-- What is proved of the generator.
use Rattle.std.specs.Prelude.{ℕ, ◌↔◌, Bool, true, List, [], ◌∷◌, ◌≡◌, ◌⊎◌, map, reverse, slice_get, Option, Some, None}
use Rattle.ae_rules.specs.Matches.{Equals, is_arithmetic}
use Rattle.ae_core.specs.declared.terms.Sort.{Sort}
use Rattle.ae_core.specs.declared.terms.Term.{Term, Bound, Apply}
use Rattle.ae_core.specs.declared.terms.Head.{Head}
use Rattle.ae_matching.specs.Views.{Node}
use Rattle.ae_matching.specs.Views.{Store}
use Rattle.ae_matching.specs.declared.bindings.Bindings.{Bindings}
use Rattle.ae_matching.specs.SortMatching.{match_sort, AreSortsOf}
use Rattle.ae_core.specs.Putting.{put_sort}
use Rattle.ae_matching.specs.declared.sorts.SortBinding.{SortBinding}
use Rattle.ae_matching.specs.Generating.{generate}
use Rattle.ae_matching.specs.Testing.{named, test, Fits, is_known_name}

-- y is among xs
abbrev pub In : {A : Type 0} → List A → A → Type 0
In [] y = ⊥
In (x ∷ xs) y = (x ≡ y) ⊎ In xs y

-- the name's node applies h with these sorts to names of these terms
pub record HasNode (store : Store) (n : ℕ) (h : Head) (ss : List Sort) (us : List Term) : Type 0 where
  pub node : Node
  pub at : slice_get store.nodes n ≡ Some node
  pub head : node.head ≡ Some h
  pub sorts : node.sorts ≡ ss
  pub args : map (slice_get store.terms) node.args ≡ map Some us

-- one of these fits the sorts and names
pub record Offers (store : Store) (alike : ℕ → ℕ → Bool) (below : ℕ) (sorts : List Sort) (values : List ℕ) (envs : List Bindings) : Type 0 where
  pub env : Bindings
  pub offered : In envs env
  pub fits : Fits store alike below sorts values env

-- each name is the term of its node
pub record IsSoundStore (store : Store) : Type 0 where
  -- a known application's node has its head, its sorts and the names of its arguments
  pub nodes : (n : ℕ) (h : Head) (ss : List Sort) (us : List Term) → slice_get store.terms n ≡ Some (Apply h ss us) → HasNode store n h ss us
  -- and a node with a head is the term of this application
  pub terms : (n : ℕ) (x : Node) (h : Head) → slice_get store.nodes n ≡ Some x → x.head ≡ Some h → slice_get store.terms n ≡ Some (Apply h x.sorts (map (named store.terms) x.args))
  pub arithmetic : (n : ℕ) (x : Node) (t : Term) → slice_get store.nodes n ≡ Some x → slice_get store.terms n ≡ Some t → x.arithmetic ≡ is_arithmetic t
  pub args : (n : ℕ) (x : Node) → slice_get store.nodes n ≡ Some x → map (slice_get store.terms) x.args ≡ map Some (map (named store.terms) x.args)
  pub lengths : (n : ℕ) → slice_get store.terms n ≡ None → slice_get store.nodes n ≡ None
  pub closed : (n i : ℕ) → slice_get store.terms n ≡ Some (Bound i) → ⊥
  pub one_name : (m n : ℕ) (t : Term) → slice_get store.terms m ≡ Some t → slice_get store.terms n ≡ Some t → m ≡ n

-- each of the names has a term
pub record AreWithin (store : Store) (values : List ℕ) : Type 0 where
  pub each : (i v : ℕ) → slice_get (reverse values) i ≡ Some v → slice_get store.terms v ≡ Some (named store.terms v)

pub record IsEquivalence (alike : ℕ → ℕ → Bool) : Type 0 where
  pub reflexive : (n : ℕ) → alike n n ≡ true
  pub symmetric : (m n : ℕ) → alike m n ≡ true → alike n m ≡ true
  pub transitive : (l m n : ℕ) → alike l m ≡ true → alike m n ≡ true → alike l n ≡ true

-- whatever sorts and names make a term of a pattern equal a name, bindings that they fit are found
abbrev pub GeneratorIsComplete : Type 0
GeneratorIsComplete =
    (store : Store) (alike : ℕ → ℕ → Bool) (below : ℕ) (sorts : List Sort) (values : List ℕ) (is_own : Term → Bool) → IsSoundStore store → IsEquivalence alike
    → AreWithin store values → (p : Term) (n : ℕ) (env : Bindings)
    → test store alike below sorts values is_own p n ≡ true → Fits store alike below sorts values env → Offers store alike below sorts values (generate store alike below is_own p n env)

-- ---- what the test says of the terms of names
-- the term of a name of generation below the bound
pub record IsKnownTerm (store : Store) (below : ℕ) (t : Term) : Type 0 where
  pub name : ℕ
  pub at : slice_get store.terms name ≡ Some t
  pub young : is_known_name store below name ≡ true

-- the terms of two names that are the same
pub record AreSame (store : Store) (alike : ℕ → ℕ → Bool) (t u : Term) : Type 0 where
  pub left : ℕ
  pub right : ℕ
  pub left_at : slice_get store.terms left ≡ Some t
  pub right_at : slice_get store.terms right ≡ Some u
  pub alike_ones : alike left right ≡ true

abbrev pub TestIsExact : Type 0
TestIsExact =
    (store : Store) (alike : ℕ → ℕ → Bool) (below : ℕ) (sorts : List Sort) (values : List ℕ) → IsSoundStore store → AreWithin store values → (p : Term) (n : ℕ) (u : Term)
    → slice_get store.terms n ≡ Some u
    → test store alike below sorts values is_arithmetic p n ≡ true ↔ Equals store.signature (IsKnownTerm store below) (AreSame store alike) sorts (map (named store.terms) values) p u

-- the sorts that make a pattern's sort a given one are found
pub record FindsSorts (sorts : List Sort) (o : Option (List SortBinding)) : Type 0 where
  pub bindings : List SortBinding
  pub here : o ≡ Some bindings
  pub right : AreSortsOf sorts bindings

abbrev pub SortsAreFound : Type 0
SortsAreFound = (sorts : List Sort) (p : Sort) (bs : List SortBinding) → AreSortsOf sorts bs → FindsSorts sorts (match_sort p (put_sort sorts p) bs)
