-- In a lawful signature the line of an enumeration states the clause of its constructors.
use Rattle.std.specs.Prelude.{ℕ, Bool, true, false, ◌&&◌, nat_eq, List, [], ◌∷◌, ◌≡◌, map, length, slice_get, Option, Some, None}
use Rattle.std.specs.List.{AllByRecursion, list_all}
use Rattle.std.proofs.Common.{refl, sym, ap, ◌∙◌, subst}
use Rattle.std.proofs.lemmas.Bool.{and_parts, eqb-true}
use Rattle.std.proofs.lemmas.Option.{same_Some}
use Rattle.ae_base.specs.Options.{or_else, ◌>>=◌, only, when, known}
use Rattle.ae_base.proofs.AllOf.{all_of_map, all_from_places}
use Rattle.ae_base.proofs.Decided.{decided_of}
use Rattle.ae_base.proofs.Options.{bind_some, never_some}
use Rattle.ae_core.specs.Decided.{Sorts_discrete}
use Rattle.ae_core.specs.Putting.{put_sort}
use Rattle.ae_core.specs.Sorts.{type_fits, sort_of, term_ok, same_sorts, is_closed_sort, symbol_sort, head_sort, formula_ok}
use Rattle.ae_core.specs.Signatures.{IsChoice, IsEnumeration, IsEnumerated, IsLawful, IsLawfulType, IsLawfulNature}
use Rattle.ae_core.proofs.ClosedSorts.{applied_from, sort_closed}
use Rattle.ae_core.proofs.PuttingLaws.{put_named}
use Rattle.ae_core.proofs.SortFacts.{same_known_of}
use Rattle.ae_core.proofs.SortLaws.{ok_named, formula_in_eq}
use Rattle.ae_core.specs.declared.problems.Signature.{Signature}
use Rattle.ae_core.specs.declared.problems.SymbolEntry.{SymbolEntry}
use Rattle.ae_core.specs.declared.problems.TypeEntry.{TypeEntry}
use Rattle.ae_core.specs.declared.problems.Kind.{Kind}
use Rattle.ae_core.specs.declared.problems.Kind.TheVariants.{Abstract, Choices, Fields}
use Rattle.ae_core.specs.declared.problems.Problem.{Problem}
use Rattle.ae_core.specs.declared.proofs.ClauseLine.TheVariants.{Exh}
use Rattle.ae_core.specs.declared.terms.Sort.{Sort, Sort-F, Named, Bool as BoolSort, Unit as UnitSort, out-Sort, roll-Sort, roll-out-Sort}
use Rattle.ae_core.specs.declared.terms.Sort.TheOpen as layer
use Rattle.ae_core.specs.declared.terms.Sort.TheVariants.{rolls-Named, rolls-Bool, rolls-Unit}
use Rattle.ae_core.specs.declared.terms.Head.{Head}
use Rattle.ae_core.specs.declared.terms.Head.TheVariants as head
use Rattle.ae_core.specs.declared.terms.Term.{Term, Apply}
use Rattle.ae_core.specs.declared.formulas.Formula.{Eq}
use Rattle.ae_rules.specs.Clauses.{Clause, is_true}
use Rattle.ae_rules.specs.Derivations.{clause_ok, clause_stands, conclusion}
use Rattle.ae_rules.specs.Instances.{choices_of, exhaustion}
use Rattle.std.proofs.lemmas.List.{nil_from_length}

module _ (sig : Signature) (law : IsLawful sig) where
  abbrev HasSort : Sort → Head → Type 0
  HasSort s h = sort_of sig (Apply h [] []) ≡ Some s

  constant_sorted : (h : Head) (s : Sort) → head_sort sig h [] [] ≡ Some s → HasSort s h
  constant_sorted h s e = applied_from sig h [] [] s (record { closed = refl; args = []; are = refl; is = e })

  own_sorted : (r : Sort) → when (same_sorts [] [] && same_sorts [] []) r ≡ Some r
  own_sorted r = ap (λ b. when (b && b) r) (decided_of (Sorts_discrete [] []) refl)

  choice_sorted : (symbol n place : ℕ) → IsChoice sig symbol n place → HasSort (Named n []) (head.Symbol symbol)
  choice_sorted symbol n place is =
      let e = is.0 in
      let lawful : IsLawfulNature sig e = (law.symbols symbol e is.1).2 in
      let parts : (e.vars ≡ 0) × (e.args ≡ []) × (e.result ≡ Some (Named n [])) × IsEnumerated sig n = rw is.2 at lawful in
      let by_entry : symbol_sort [] [] e ≡ (only (same_sorts [] []) (Some (Named n [])) >>= λ s. Some (put_sort [] s)) =
      λ i. only (nat_eq 0 (parts.0 i) && same_sorts [] (map (put_sort []) (parts.1 i))) (parts.2 i) >>= λ s. Some (put_sort [] s) in
      let by_test : (only (same_sorts [] []) (Some (Named n [])) >>= λ s. Some (put_sort [] s)) ≡ Some (put_sort [] (Named n [])) =
      ap (λ b. only b (Some (Named n [])) >>= λ s. Some (put_sort [] s)) (decided_of (Sorts_discrete [] []) refl) in
      constant_sorted (head.Symbol symbol) (Named n []) (ap (λ (o : Option SymbolEntry). o >>= symbol_sort [] []) is.1 ∙ by_entry ∙ by_test ∙ ap Some (put_named [] n []))

  -- ---- the constructors of a sort have that sort
  named_sorted : (n : ℕ) (ss : List Sort) (s : Sort) → Named n ss ≡ s → is_closed_sort sig s ≡ true → (x : TypeEntry) → slice_get sig.types n ≡ Some x → (k : Kind) → x.kind ≡ k
      → (hs : List Head) → elim x.kind [ Choices cs ↦ Some (map head.Symbol cs) | Abstract ↦ None | Fields fs ↦ None ] ≡ Some hs → AllByRecursion (HasSort s) hs
  named_sorted n ss s is closed x at (Choices cs) kind hs e =
      let lawful : IsLawfulType sig n x = law.types n x at in
      let en : IsEnumeration sig n x.arity cs = rw kind at lawful in
      let list : ◌≡◌ {A = Option (List Head)} (Some (map head.Symbol cs)) (Some hs) = rw kind at e in
      let fits : type_fits sig n (length ss) ≡ true =
      (and_parts (type_fits sig n (length ss)) (list_all (is_closed_sort sig) ss) (sym (ok_named sig (λ i. false) (λ i. true) n ss) ∙ ap (is_closed_sort sig) is ∙ closed)).0 in
      let as_many : nat_eq x.arity (length ss) ≡ true = sym (ap (λ (o : Option TypeEntry). or_else (o >>= λ (e : TypeEntry). Some (nat_eq e.arity (length ss))) false) at) ∙ fits in
      let none : ss ≡ [] = nil_from_length ss (sym (eqb-true x.arity (length ss) as_many) ∙ en.no_parameters) in
      let same : Named n [] ≡ s = ap (Named n) (sym none) ∙ is in
      let each : AllByRecursion (λ c. HasSort s (head.Symbol c)) cs =
      all_from_places (λ c. HasSort s (head.Symbol c)) cs (λ k c q. choice_sorted c n k ((en.each c k).0 q) ∙ ap Some same) in
      subst (AllByRecursion (HasSort s)) (same_Some (map head.Symbol cs) hs list) (all_of_map (HasSort s) head.Symbol cs each)
  named_sorted n ss s is closed x at Abstract kind hs e = let f : ◌≡◌ {A = Option (List Head)} None (Some hs) = rw kind at e in never_some hs f
  named_sorted n ss s is closed x at (Fields fs) kind hs e = let f : ◌≡◌ {A = Option (List Head)} None (Some hs) = rw kind at e in never_some hs f

  heads_sorted : (l : Sort-F Sort) (s : Sort) → out-Sort s ≡ l → is_closed_sort sig s ≡ true → (hs : List Head) → choices_of sig l ≡ Some hs → AllByRecursion (HasSort s) hs
  heads_sorted (layer.Named n ss) s o closed hs e =
      let x = bind_some (slice_get sig.types n) (λ (e : TypeEntry). elim e.kind [ Choices cs ↦ Some (map head.Symbol cs) | Abstract ↦ None | Fields fs ↦ None ]) hs e in
      named_sorted n ss s (sym (rolls-Named n ss) ∙ ap roll-Sort (sym o) ∙ roll-out-Sort s) closed x.0 x.1 x.0.kind refl hs x.2
  heads_sorted layer.Bool s o closed hs e =
      let is : BoolSort ≡ s = sym rolls-Bool ∙ ap roll-Sort (sym o) ∙ roll-out-Sort s in
      subst (AllByRecursion (HasSort s)) (same_Some (head.True ∷ head.False ∷ []) hs e)
      (constant_sorted head.True BoolSort (own_sorted BoolSort) ∙ ap Some is, (constant_sorted head.False BoolSort (own_sorted BoolSort) ∙ ap Some is, tt))
  heads_sorted layer.Unit s o closed hs e =
      let is : UnitSort ≡ s = sym rolls-Unit ∙ ap roll-Sort (sym o) ∙ roll-out-Sort s in
      subst (AllByRecursion (HasSort s)) (same_Some (head.Void ∷ []) hs e) (constant_sorted head.Void UnitSort (own_sorted UnitSort) ∙ ap Some is, tt)
  heads_sorted (layer.Var i) s o closed hs e = never_some hs e
  heads_sorted (layer.Rigid i) s o closed hs e = never_some hs e
  heads_sorted layer.Int s o closed hs e = never_some hs e
  heads_sorted layer.Real s o closed hs e = never_some hs e

  -- ---- so the clause is well sorted
  literal_ok : (t : Term) (s : Sort) (h : Head) → sort_of sig t ≡ Some s → HasSort s h → formula_ok sig (Eq t (Apply h [] [])) ≡ true
  literal_ok t s h p q = formula_in_eq sig (is_closed_sort sig) [] t (Apply h [] []) ∙ same_known_of (sort_of sig t) (sort_of sig (Apply h [] [])) (ap known p) (p ∙ sym q)

  clause_sorted : (t : Term) (s : Sort) → sort_of sig t ≡ Some s → (hs : List Head) → AllByRecursion (HasSort s) hs → clause_ok sig (map (λ h. is_true (Eq t (Apply h [] []))) hs) ≡ true
  clause_sorted t s p [] a = refl
  clause_sorted t s p (h ∷ hs) a = λ i. literal_ok t s h p a.0 i && clause_sorted t s p hs a.1 i

  by_clause : (t : Term) (o : Option Clause) → exhaustion sig t ≡ o → only (term_ok sig t && clause_stands sig o) o ≡ o
  by_clause t None e = none_only (term_ok sig t && false)
    where
      none_only : (b : Bool) → only {A = Clause} b None ≡ None
      none_only true = refl
      none_only false = refl
  by_clause t (Some c) e =
      let x = bind_some (sort_of sig t) (λ s. choices_of sig (out-Sort s) >>= λ cs. Some (map (λ h. is_true (Eq t (Apply h [] []))) cs)) c e in
      let y = bind_some (choices_of sig (out-Sort x.0)) (λ cs. Some (map (λ h. is_true (Eq t (Apply h [] []))) cs)) c x.2 in
      let sorted : clause_ok sig c ≡ true =
      ap (clause_ok sig) (sym (same_Some (map (λ h. is_true (Eq t (Apply h [] []))) y.0) c y.2)) ∙ clause_sorted t x.0 x.1 y.0 (heads_sorted (out-Sort x.0) x.0 refl (sort_closed sig law t x.0 x.1) y.0 y.1) in
      λ i. only (ap known x.1 i && sorted i) (Some c)

pub line_states : (sig : Signature) → IsLawful sig → (t : Term) (p : Problem) (g : ℕ) → p.signature ≡ sig → conclusion p g (Exh t) ≡ exhaustion sig t
line_states sig law t p g same =
    ap (λ z. only (term_ok z t && clause_stands z (exhaustion z t)) (exhaustion z t)) same ∙ by_clause sig law t (exhaustion sig t) refl
