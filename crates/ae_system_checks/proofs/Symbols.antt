-- Systems whose names apply symbols and have the sort t, and whose values are leaves: what holds of each of them.
use Rattle.std.specs.Prelude.{ℕ, ℤ, Bool, ◌≡◌, cond, List, [], ◌∷◌, length, slice_get, Some, None}
use Rattle.std.specs.List.{AllByRecursion}
use Rattle.std.proofs.Common.{inl}
use Rattle.std.proofs.lemmas.Option.{same_Some}
use mathlib.Core.Path.{sym, ap, subst, ◌∙◌}
use Rattle.ae_base.proofs.Options.{never_some, bind_some}
use Rattle.ae_core.specs.Sorts.{sort_of}
use Rattle.ae_core.specs.declared.problems.Signature.{Signature}
use Rattle.ae_core.specs.declared.terms.Head.{Head}
use Rattle.ae_core.specs.declared.terms.Head.TheVariants as head
use Rattle.ae_core.specs.declared.terms.Sort.{Sort}
use Rattle.ae_core.specs.declared.terms.Term.{Term, Num, Apply, out-Term}
use Rattle.ae_core.specs.declared.terms.Term.TheOpen as layer
use Rattle.ae_core.specs.declared.terms.Term.TheVariants.{outs-Apply, outs-Num}
use Rattle.ae_num.specs.declared.forms.Value.{Value, Leaf}
use Rattle.ae_journal.specs.Values.{Val, leaf, once, meaning}
use Rattle.ae_journal.specs.Systems.{Has, IsLeaf, IsName, IsNamed, IsNormalValue, IsOver, beside, linear, own, record_fields, value_at}
use Rattle.ae_journal.specs.declared.systems.System.{System}
use Rattle.ae_evaluation.proofs.ExampleSystem.{leaf_at, normal_leaf}
use Rattle.ae_decide.specs.Clauses.{HasTerms, HasLeaves, IsComputed, HasRecords}
use Rattle.ae_system_checks.specs.Examples.{T}
use Rattle.ae_system_checks.proofs.Facts.{not_numeric, no_record, sorted_is_no_predicate, same_head}

-- a term of sort t that applies a symbol
pub record IsSymbolTerm (sig : Signature) (t : Term) : Type 0 where
  pub number : ℕ
  pub args : List Term
  pub is : t ≡ Apply (head.Symbol number) [] args
  pub sort : sort_of sig t ≡ Some T

pub record IsOfLeaves (sig : Signature) (y : System) : Type 0 where
  pub lengths : length y.values ≡ length y.names
  pub symbol : (n : ℕ) (t : Term) → IsName y n t → IsSymbolTerm sig t
  pub leaf : (n : ℕ) (v : Value) → slice_get y.values n ≡ Some v → (m : ℕ) × (v ≡ Leaf m)

pub own_leaf : (k : ℕ) → own T k ≡ leaf k
own_leaf k = ap (λ c. cond c (once k) (leaf k)) not_numeric

pub leaf_tells : (m n : ℕ) → leaf m ≡ leaf n → m ≡ n
leaf_tells m n e = cc

module _ (sig : Signature) (plain : record_fields sig T ≡ None) (y : System) (o : IsOfLeaves sig y) where
  pub terms_of : ((m n : ℕ) (t : Term) → IsName y m t → IsName y n t → m ≡ n)
      → ((n : ℕ) (h : Head) (ss : List Sort) (us : List Term) → IsName y n (Apply h ss us) → AllByRecursion (IsNamed y) us)
      → HasTerms sig y
  terms_of apart subterms = record {
    values = o.lengths;
    sorted = λ n t i. inl (T, (o.symbol n t i).sort);
    apart = apart;
    subterms = subterms;
    field_names = λ n t s ss i e g. absurd (no_record sig t T s ss plain (o.symbol n t i).sort e g);
  }

  -- a value is the leaf that is written
  pub value_is : (n : ℕ) (v : Val) → value_at y n ≡ Some v → (m : ℕ) × (leaf m ≡ v)
  value_is n v e =
      let b = bind_some (slice_get y.values n) (λ w. Some (meaning w)) v e in
      let l = o.leaf n b.0 b.1 in
      (l.0, sym (leaf_at l.0) ∙ ap meaning (sym l.1) ∙ same_Some (meaning b.0) v b.2)

  pub leaves_of : ((n m : ℕ) → value_at y n ≡ Some (leaf m) → IsLeaf sig y T m) → HasLeaves sig y
  leaves_of is_leaf = record {
    normal = λ n v e. let l = o.leaf n v e in subst IsNormalValue (sym l.1) (normal_leaf l.0);
    over = over;
    predicate_value = λ n t i p. absurd (sorted_is_no_predicate sig t T (o.symbol n t i).sort p);
  }
    where
      over : (s : Sort) (v : Val) (n : ℕ) → Has sig y s v n → IsOver sig y s v
      over s v n h =
          let l = value_is n v h.value in
          let sorts = same_Some T s (sym (o.symbol n h.term h.is).sort ∙ h.sort) in
          subst (λ w. IsOver sig y s w) l.1
          (subst (λ q. IsOver sig y q (leaf l.0)) sorts
          (not_numeric, plain, is_leaf n l.0 (h.value ∙ ap (λ w. Some w) (sym l.1))))

  head_is : (n : ℕ) (h : Head) (ss : List Sort) (us : List Term) → IsName y n (Apply h ss us) → (k : ℕ) × (head.Symbol k ≡ h)
  head_is n h ss us i =
      let s = o.symbol n (Apply h ss us) i in (s.number, same_head (head.Symbol s.number) h [] ss s.args us (sym s.is))

  pub computed_of : IsComputed sig y
  computed_of = record {
    numeral = λ n p q real i. absurd (not_numeral p q real (o.symbol n (Num p q real) i));
    computed = λ n h ss us vs v i g e. let k = head_is n h ss us i in absurd (never_some v (ap (λ j. linear j (beside us vs)) k.1 ∙ e));
  }
    where
      not_numeral : (p q : ℤ) (real : Bool) → IsSymbolTerm sig (Num p q real) → ⊥
      not_numeral p q real s =
          let z : layer.Num p q real ≡ layer.Apply (head.Symbol s.number) [] s.args =
          sym (outs-Num p q real) ∙ ap out-Term s.is ∙ outs-Apply (head.Symbol s.number) [] s.args in
          cc

  pub records_of : HasRecords sig y
  records_of = record {
    record_value = λ n t s ss i e g. absurd (no_record sig t T s ss plain (o.symbol n t i).sort e g);
    written = λ n k place ss us w v i e g. let j = head_is n (head.Field k place) ss (Apply (head.Build k) ss us ∷ []) i in absurd (no_field j.0 k place j.1);
  }
    where
      no_field : (n k i : ℕ) → head.Symbol n ≡ head.Field k i → ⊥
      no_field n k i e = cc
