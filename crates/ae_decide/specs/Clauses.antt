-- The nine clauses of a completed system (ae_journal, Systems), each by itself.
use Rattle.std.specs.Prelude.{ℕ, ℤ, Bool, List, [], ◌∷◌, ◌≡◌, ◌≢◌, ◌⊎◌, ◌↔◌, length, slice_get, Some}
use Rattle.std.specs.List.{AllByRecursion}
use Rattle.ae_math.specs.Fractions.{ratio}
use Rattle.ae_core.specs.Sorts.{sort_of}
use Rattle.ae_core.specs.declared.terms.Sort.{Sort}
use Rattle.ae_core.specs.declared.terms.Term.{Term, Num, Apply}
use Rattle.ae_core.specs.declared.terms.Head.{Head}
use Rattle.ae_core.specs.declared.terms.Head.TheVariants as head
use Rattle.ae_core.specs.declared.problems.Signature.{Signature}
use Rattle.ae_multiset.specs.Multisets.{IsPart}
use Rattle.ae_multiset.specs.Rewriting.{ReducesTo, OverlapsJoin}
use Rattle.ae_num.specs.declared.forms.Value.{Value}
use Rattle.ae_journal.specs.Values.{Val, leaf, fields, constant_val, vals}
use Rattle.ae_journal.specs.Systems.{IsName, IsNamed, IsNormalValue, IsOver, IsPredicateName, IsRule, IsRuleFit, IsJoin, IsCompleted, Has, StandsFor, ValueOf, ValuesOf, value_at, record_fields, field_terms, linear, beside}
use Rattle.ae_journal.specs.declared.systems.RuleEntry.{RuleEntry}
use Rattle.ae_journal.specs.declared.systems.System.{System}

-- the clauses, in their order
pub data Part : Type 0 where
  terms : Part
  leaves : Part
  computing : Part
  records : Part
  congruence : Part
  rules : Part
  reduction : Part
  overlaps : Part
  joins : Part

module _ (sig : Signature) (y : System) where
  -- closed terms, all different, with subterms and fields
  pub record HasTerms : Type 0 where
    pub values : length y.values ≡ length y.names
    pub sorted : (n : ℕ) (t : Term) → IsName y n t → ((s : Sort) × (sort_of sig t ≡ Some s)) ⊎ IsPredicateName sig t
    pub apart : (m n : ℕ) (t : Term) → IsName y m t → IsName y n t → m ≡ n
    pub subterms : (n : ℕ) (h : Head) (ss : List Sort) (us : List Term) → IsName y n (Apply h ss us) → AllByRecursion (IsNamed y) us
    pub field_names : (n : ℕ) (t : Term) (s : Sort) (ss : List Sort) → IsName y n t → sort_of sig t ≡ Some s → record_fields sig s ≡ Some ss
        → AllByRecursion (IsNamed y) (field_terms s t (length ss))

  -- values in the normal form, over leaves
  pub record HasLeaves : Type 0 where
    pub normal : (n : ℕ) (v : Value) → slice_get y.values n ≡ Some v → IsNormalValue v
    pub over : (s : Sort) (v : Val) (n : ℕ) → Has sig y s v n → IsOver sig y s v
    pub predicate_value : (n : ℕ) (t : Term) → IsName y n t → IsPredicateName sig t → value_at y n ≡ Some (leaf n)

  -- numerals and linear operations have the values that are computed
  pub record IsComputed : Type 0 where
    pub numeral : (n : ℕ) (a b : ℤ) (real : Bool) → IsName y n (Num a b real) → value_at y n ≡ Some (constant_val (ratio a b))
    pub computed : (n : ℕ) (h : Head) (ss : List Sort) (us : List Term) (vs : List Val) (v : Val) → IsName y n (Apply h ss us)
        → ValuesOf y us vs → linear h (beside us vs) ≡ Some v → value_at y n ≡ Some v

  -- a record has the values of its fields, a field of a written record that of its argument
  pub record HasRecords : Type 0 where
    pub record_value : (n : ℕ) (t : Term) (s : Sort) (ss : List Sort) → IsName y n t → sort_of sig t ≡ Some s
        → record_fields sig s ≡ Some ss
        → (vs : List Val) × (value_at y n ≡ Some (fields (vals vs))) × ValuesOf y (field_terms s t (length ss)) vs
    pub written : (n : ℕ) (k place : ℕ) (ss : List Sort) (us : List Term) (u : Term) (v : Val)
        → IsName y n (Apply (head.Field k place) ss (Apply (head.Build k) ss us ∷ []))
        → slice_get us place ≡ Some u → ValueOf y u v → value_at y n ≡ Some v

  -- arguments of equal values give equal values
  abbrev pub IsCongruent : Type 0
  IsCongruent =
      (m n : ℕ) (h : Head) (ss : List Sort) (us ws : List Term) (vs : List Val) (s : Sort) → IsName y m (Apply h ss us)
      → IsName y n (Apply h ss ws) → sort_of sig (Apply h ss us) ≡ Some s → ValuesOf y us vs → ValuesOf y ws vs
      → value_at y m ≡ value_at y n

  -- the sides of rules are multisets of representatives, the left one of two or more and the larger
  abbrev pub RulesFit : Type 0
  RulesFit = (k : ℕ) (e : RuleEntry) → slice_get y.rules k ≡ Some e → IsRuleFit sig y e

  -- no rule reduces a side of another, or a right side
  pub record AreReduced : Type 0 where
    pub left_reduced : (j k : ℕ) (d e : RuleEntry) → j ≢ k → slice_get y.rules j ≡ Some d → slice_get y.rules k ≡ Some e
        → d.symbol ≡ e.symbol → ¬ IsPart d.left e.left
    pub right_reduced : (j k : ℕ) (d e : RuleEntry) → slice_get y.rules j ≡ Some d → slice_get y.rules k ≡ Some e
        → d.symbol ≡ e.symbol → ¬ IsPart d.left e.right

  -- both results of Deduce reduce to one multiset
  abbrev pub AllOverlapsJoin : Type 0
  AllOverlapsJoin = (h : Head) (ss : List Sort) → OverlapsJoin (IsRule y h ss)

  -- the arguments of a name of an AC symbol reduce to its representative
  abbrev pub AllNamesJoin : Type 0
  AllNamesJoin =
      (n : ℕ) (h : Head) (ss : List Sort) (a b : Term) (p q r : ℕ) → IsName y n (Apply h ss (a ∷ b ∷ [])) → IsJoin sig h a b
      → StandsFor sig y a p → StandsFor sig y b q → StandsFor sig y (Apply h ss (a ∷ b ∷ [])) r
      → ReducesTo (IsRule y h ss) (p ∷ q ∷ []) (r ∷ [])

  abbrev pub Clause : Part → Type 0
  Clause terms = HasTerms
  Clause leaves = HasLeaves
  Clause computing = IsComputed
  Clause records = HasRecords
  Clause congruence = IsCongruent
  Clause rules = RulesFit
  Clause reduction = AreReduced
  Clause overlaps = AllOverlapsJoin
  Clause joins = AllNamesJoin

  -- this clause doesn't hold, and each other one does
  abbrev pub FailsAlone : Part → Type 0
  FailsAlone part = (¬ Clause part) × ((other : Part) → other ≢ part → Clause other)

-- a system is completed exactly where each of the nine clauses holds
abbrev pub NineClauses : Type 0
NineClauses = (sig : Signature) (y : System) → IsCompleted sig y ↔ ((part : Part) → Clause sig y part)
