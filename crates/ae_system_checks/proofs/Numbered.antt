-- Systems of leaves in which the name at each place applies the free symbol of that number: what each clause asks of them.
use Rattle.std.specs.Prelude.{ℕ, ◌≡◌, List, [], ◌∷◌, slice_get, Some, None}
use Rattle.std.specs.List.{AllByRecursion}
use Rattle.std.proofs.lemmas.Option.{same_Some}
use mathlib.Core.Path.{sym, ap, subst, ◌∙◌}
use Rattle.ae_core.specs.declared.problems.Nature.TheVariants.{Free, Ac, Choice}
use Rattle.ae_core.specs.declared.problems.Signature.{Signature}
use Rattle.ae_core.specs.declared.problems.SymbolEntry.{SymbolEntry}
use Rattle.ae_core.specs.declared.terms.Head.{Head}
use Rattle.ae_core.specs.declared.terms.Head.TheVariants as head
use Rattle.ae_core.specs.declared.terms.Sort.{Sort}
use Rattle.ae_core.specs.declared.terms.Term.{Term, Apply, out-Term}
use Rattle.ae_rules.specs.Derivations.{IsConstructor}
use Rattle.ae_rules.specs.Lines.{IsAc}
use Rattle.ae_journal.specs.Values.{Val, leaf}
use Rattle.ae_journal.specs.Systems.{IsCompleted, IsJoin, IsLeaf, IsName, IsNamed, ValueOf, record_fields, value_at}
use Rattle.ae_journal.specs.declared.systems.RuleEntry.{RuleEntry}
use Rattle.ae_journal.specs.declared.systems.System.{System}
use Rattle.ae_decide.specs.Clauses.{Part, Clause, IsCongruent, AllNamesJoin}
use Rattle.ae_decide.specs.Clauses.Part.{terms, leaves, computing, records, congruence, rules, reduction, overlaps, joins}
use Rattle.ae_system_checks.specs.Examples.{T}
use Rattle.ae_decide.proofs.NineClauses.{completed_of}
use Rattle.ae_system_checks.proofs.Facts.{same_head, head_of, head_is}
use Rattle.ae_system_checks.proofs.Rules.{none_fit, none_reduced, none_overlap}
use Rattle.ae_system_checks.proofs.Symbols.{IsOfLeaves, terms_of, leaves_of, computed_of, records_of, own_leaf, leaf_tells}

-- the number of the symbol that a term applies
abbrev pub number_of : Head → ℕ
number_of (head.Symbol n) = n
number_of _ = 99

abbrev pub number : Term → ℕ
number t = number_of (head_of (out-Term t))

pub number_is : (h : Head) (ss : List Sort) (us : List Term) → number (Apply h ss us) ≡ number_of h
number_is h ss us = ap number_of (head_is h ss us)

module _ (sig : Signature) (plain : record_fields sig T ≡ None) (y : System) (o : IsOfLeaves sig y) (numbers : (n : ℕ) (t : Term) → IsName y n t → number t ≡ n)
    (free : (n : ℕ) (t : Term) → IsName y n t → (e : SymbolEntry) → slice_get sig.symbols n ≡ Some e → e.nature ≡ Free) where
  pub one_place : (m n : ℕ) (t : Term) → IsName y m t → IsName y n t → m ≡ n
  one_place m n t i j = sym (numbers m t i) ∙ numbers n t j

  -- the value of a name
  pub value_of : (k m : ℕ) (t : Term) (v : Val) → IsName y k t → value_at y k ≡ Some (leaf m) → ValueOf y t v → leaf m ≡ v
  value_of k m t v i e w = same_Some (leaf m) v (sym e ∙ ap (value_at y) (one_place k w.0 t i w.1) ∙ w.2)

  pub make_leaf : (k : ℕ) (t : Term) → IsName y k t → value_at y k ≡ Some (leaf k) → IsLeaf sig y T k
  make_leaf k t i v = record { term = t; is = i; sort = (o.symbol k t i).sort; value = v ∙ ap (λ (w : Val). Some w) (sym (own_leaf k)) }

  pub at_leaf : (n k m : ℕ) → value_at y n ≡ Some (leaf k) → IsLeaf sig y T k → value_at y n ≡ Some (leaf m) → IsLeaf sig y T m
  at_leaf n k m v l e = subst (IsLeaf sig y T) (leaf_tells k m (same_Some (leaf k) (leaf m) (sym v ∙ e))) l

  congruent : IsCongruent sig y
  congruent m n h ss us ws vs s i j e p q = ap (value_at y) (sym (told m us i) ∙ told n ws j)
    where
      told : (k : ℕ) (ts : List Term) → IsName y k (Apply h ss ts) → number_of h ≡ k
      told k ts i = sym (number_is h ss ts) ∙ numbers k (Apply h ss ts) i

  -- the head of a name is the symbol of its place
  pub symbol_at : (n : ℕ) (h : Head) (ss : List Sort) (us : List Term) → IsName y n (Apply h ss us) → head.Symbol n ≡ h
  symbol_at n h ss us i =
      let s = o.symbol n (Apply h ss us) i in
      let e : head.Symbol s.number ≡ h = same_head (head.Symbol s.number) h [] ss s.args us (sym s.is) in
      ap (λ (k : ℕ). head.Symbol k) (sym (numbers n (Apply h ss us) i) ∙ number_is h ss us ∙ sym (ap number_of e)) ∙ e

  no_join : AllNamesJoin sig y
  no_join n h ss s t p q r i j = absurd (not_ac (subst (λ g. IsJoin sig g s t) (sym (symbol_at n h ss (s ∷ t ∷ []) i)) j))
    where
      not_ac : IsAc sig (head.Symbol n) → ⊥
      not_ac (e, d, g) = let z : Free ≡ Ac = sym (free n (Apply h ss (s ∷ t ∷ [])) i e d) ∙ g in cc

  pub no_constructor : (n : ℕ) (h : Head) (ss : List Sort) (us : List Term) → IsName y n (Apply h ss us) → IsConstructor sig h → ⊥
  no_constructor n h ss us i c = not_choice (subst (IsConstructor sig) (sym (symbol_at n h ss us i)) c)
    where
      not_choice : IsConstructor sig (head.Symbol n) → ⊥
      not_choice (e, of, place, d, g) = let z : Free ≡ Choice of place = sym (free n (Apply h ss us) i e d) ∙ g in cc

  pub completed : ((n : ℕ) (h : Head) (ss : List Sort) (us : List Term) → IsName y n (Apply h ss us) → AllByRecursion (IsNamed y) us)
      → ((n m : ℕ) → value_at y n ≡ Some (leaf m) → IsLeaf sig y T m) → ((k : ℕ) (e : RuleEntry) → slice_get y.rules k ≡ Some e → ⊥) → IsCompleted sig y
  completed subterms is_leaf none = completed_of sig y each
    where
      each : (part : Part) → Clause sig y part
      each terms = terms_of sig plain y o one_place subterms
      each leaves = leaves_of sig plain y o is_leaf
      each computing = computed_of sig plain y o
      each records = records_of sig plain y o
      each congruence = congruent
      each rules = none_fit sig y none
      each reduction = none_reduced sig y none
      each overlaps = none_overlap sig y none
      each joins = no_join
