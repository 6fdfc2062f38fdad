-- Constructors have the sort of the terms that they are chosen for, and nothing stands in them.
use Rattle.std.specs.Prelude.{List, [], ◌≡◌, ◌⊎◌, true, map, Option, Some, None}
use Rattle.std.specs.List.{AllByRecursion, Contains}
use Rattle.std.proofs.Common.{refl, sym, ap, ◌∙◌, subst, inl, inr}
use Rattle.std.proofs.lemmas.Option.{same_Some}
use Rattle.ae_base.specs.Options.{◌>>=◌}
use Rattle.ae_base.proofs.Options.{never_some, bind_some}
use Rattle.ae_core.specs.Signatures.{IsLawful}
use Rattle.ae_core.specs.Sorts.{sort_of, is_closed_sort, formula_ok}
use Rattle.ae_core.specs.declared.formulas.Formula.{Eq}
use Rattle.ae_core.specs.declared.formulas.Lit.{Lit}
use Rattle.ae_core.specs.declared.problems.Problem.{Problem}
use Rattle.ae_core.specs.declared.problems.Signature.{Signature}
use Rattle.ae_core.specs.declared.proofs.ClauseLine.TheVariants.{Exh}
use Rattle.ae_core.specs.declared.terms.Sort.{Sort, out-Sort}
use Rattle.ae_core.specs.declared.terms.Term.{Term, Term-F, Apply, out-Term}
use Rattle.ae_core.specs.declared.terms.Term.TheOpen as layer
use Rattle.ae_core.specs.declared.terms.Term.TheVariants.{outs-Apply}
use Rattle.ae_core.specs.declared.terms.Head.{Head}
use Rattle.ae_core.specs.declared.terms.Head.TheVariants as head
use Rattle.ae_core.specs.declared.problems.TypeEntry.{TypeEntry}
use Rattle.ae_core.specs.declared.problems.Kind.{Kind}
use Rattle.ae_core.specs.declared.problems.Kind.TheVariants.{Abstract, Choices, Fields}
use Rattle.ae_core.proofs.SortFacts.{same_known_is}
use Rattle.ae_core.proofs.SortLaws.{formula_in_eq}
use Rattle.ae_data.proofs.ExhaustionLaws.{line_states}
use Rattle.ae_rules.specs.Clauses.{Clause}
use Rattle.ae_rules.specs.Derivations.{clause_ok}
use Rattle.ae_rules.specs.Instances.{choices_of, exhaustion}
use Rattle.ae_rules.proofs.SortedLines.{stated_sorted}
use Rattle.ae_journal.specs.Systems.{record_fields}
use Rattle.ae_store.specs.Names.{enterable}
use Rattle.ae_store.specs.Stores.{Stored}
use Rattle.ae_theory.specs.Names.{terms_in}
use Rattle.ae_settled.proofs.Sorts.{is_record}
use Rattle.ae_sat.proofs.Deriving.{sorted_one}
use Rattle.ae_open_states.specs.Choices.{IsChoiceOf}
use Rattle.ae_open_states.proofs.Choices.{choice, of_head, made_of, exhaustion_is}
use Rattle.ae_open_states.proofs.Trails.{all_of_each}
use Rattle.ae_goal_names.specs.Named.{StandsIn, itself, argument, field, HasNamed}
use Rattle.ae_goal_names.proofs.Known.{eq_known}
use Rattle.ae_first_names.proofs.Lists.{not_in_none}
use Rattle.ae_choice_clauses.specs.Inner.Added.{choices_at, constant, NamesChoices}

no_arguments : (h i : Head) (ss : List Sort) (us : List Term) → Apply h ss us ≡ constant i → us ≡ []
no_arguments h i ss us e = let z : ◌≡◌ {A = Term-F Term} (layer.Apply h ss us) (layer.Apply i [] []) = sym (outs-Apply h ss us) ∙ ap out-Term e ∙ outs-Apply i [] [] in cc

-- an enumeration is no record
no_record : {P : Type 0} (sig : Signature) (s : Sort) (hs : List Head) (ss : List Sort) → choices_of sig (out-Sort s) ≡ Some hs → record_fields sig s ≡ Some ss → P
no_record sig s hs ss e r =
    let d = is_record sig s ss r in
    never_some hs
    (sym
    (ap (choices_of sig) d.out
    ∙ ap (λ (o : Option TypeEntry). o >>= λ e. elim e.kind as (λ _. Option (List Head)) [ Choices cs ↦ Some (map head.Symbol cs) | Abstract ↦ None | Fields fs ↦ None ]) d.at
    ∙ ap (λ (k : Kind). elim k as (λ _. Option (List Head)) [ Choices cs ↦ Some (map head.Symbol cs) | Abstract ↦ None | Fields fs ↦ None ]) d.kind)
    ∙ e)

-- a term has constructors where it has one
pub choices_there : (sig : Signature) (u t : Term) (k : IsChoiceOf sig u t) → choices_at sig u ≡ Some k.heads
choices_there sig u t k = ap (λ (o : Option Sort). o >>= λ s. choices_of sig (out-Sort s)) k.sorted ∙ k.choices

-- the clause of a term is one literal for each of its constructors
pub clause_made : (sig : Signature) (u : Term) (c : Clause) → exhaustion sig u ≡ Some c → (hs : List Head) × (choices_at sig u ≡ Some hs) × (map (choice u) hs ≡ c)
clause_made sig u c e =
    let s = bind_some (sort_of sig u) (λ s. choices_of sig (out-Sort s) >>= λ hs. Some (map (choice u) hs)) c e in
    let h = bind_some (choices_of sig (out-Sort s.0)) (λ hs. Some (map (choice u) hs)) c s.2 in
    (h.0, ap (λ (o : Option Sort). o >>= λ s. choices_of sig (out-Sort s)) s.1 ∙ h.1, same_Some (map (choice u) h.0) c h.2)

-- a term without constructors has no clause
pub no_clause : (sig : Signature) (u : Term) → choices_at sig u ≡ None → exhaustion sig u ≡ None
no_clause sig u e = by (exhaustion sig u) refl
  where
    by : (o : Option Clause) → exhaustion sig u ≡ o → o ≡ None
    by None q = refl
    by (Some c) q = let h = clause_made sig u c q in never_some h.0 (sym e ∙ h.1)

-- each of them is one
pub a_constructor : (sig : Signature) (u : Term) (hs : List Head) → choices_at sig u ≡ Some hs → (h : Head) → Contains hs h → IsChoiceOf sig u (constant h)
a_constructor sig u hs at h c =
    let own = bind_some (sort_of sig u) (λ s. choices_of sig (out-Sort s)) hs at in
    record { sort = own.0; heads = hs; head = h; sorted = own.1; choices = own.2; one = c; is = refl }

module _ (sig : Signature) (law : IsLawful sig) (u : Term) (hs : List Head) (at : choices_at sig u ≡ Some hs) where
  own : (s : Sort) × (sort_of sig u ≡ Some s) × (choices_of sig (out-Sort s) ≡ Some hs)
  own = bind_some (sort_of sig u) (λ s. choices_of sig (out-Sort s)) hs at

  pub clause_is : exhaustion sig u ≡ Some (map (choice u) hs)
  clause_is = exhaustion_is sig u own.0 hs own.1 own.2

  all_sorted : clause_ok sig (map (choice u) hs) ≡ true
  all_sorted = let p : Problem = record { signature = sig; items = [] } in stated_sorted p 0 (Exh u) (map (choice u) hs) (line_states sig law u p 0 refl ∙ clause_is)

  equates : (h : Head) → Contains hs h → formula_ok sig (Eq u (constant h)) ≡ true
  equates h c = sorted_one (λ (l : Lit). formula_ok sig l.formula) (map (choice u) hs) (choice u h) all_sorted (made_of (choice u) hs h c)

  pub all_known : AllByRecursion (λ h. enterable sig (constant h) ≡ true) hs
  all_known = all_of_each (λ h. enterable sig (constant h) ≡ true) hs (λ h c. (eq_known sig u (constant h) (equates h c)).1)

  same_sort : (h : Head) → Contains hs h → sort_of sig (constant h) ≡ Some own.0
  same_sort h c = sym (same_known_is (sort_of sig u) (sort_of sig (constant h)) (sym (formula_in_eq sig (is_closed_sort sig) [] u (constant h)) ∙ equates h c)).1 ∙ own.1

  -- each constructor is one of them
  head_in : (t : Term) (k : IsChoiceOf sig u t) → Contains hs k.head
  head_in t k = subst (λ (ws : List Head). Contains ws k.head) (same_Some k.heads hs (sym (choices_there sig u t k) ∙ at)) k.one

  is_one : (t : Term) → IsChoiceOf sig u t → Contains (map constant hs) t
  is_one t k = subst (Contains (map constant hs)) (sym k.is) (made_of constant hs k.head (head_in t k))

  own_sort : (t : Term) → IsChoiceOf sig u t → sort_of sig t ≡ Some own.0
  own_sort t k = ap (sort_of sig) k.is ∙ same_sort k.head (head_in t k)

  pub of_itself : (t : Term) → IsChoiceOf sig u t → IsChoiceOf sig t t
  of_itself t k = record { sort = own.0; heads = hs; head = k.head; sorted = own_sort t k; choices = own.2; one = head_in t k; is = k.is }

  -- nothing but them stands in them
  stands_chosen : (t : Term) → StandsIn sig (map constant hs) t → IsChoiceOf sig u t
  stands_chosen t (itself c) = let h = of_head constant hs t c in subst (IsChoiceOf sig u) h.2 (a_constructor sig u hs at h.0 h.1)
  stands_chosen t (argument h ss us s i) =
      let k = stands_chosen (Apply h ss us) s in not_in_none t (subst (λ (ws : List Term). Contains ws t) (no_arguments h k.head ss us k.is) i)
  stands_chosen t (field s ss w i so e c) =
      let same : own.0 ≡ s = same_Some own.0 s (sym (own_sort w (stands_chosen w i)) ∙ so) in
      no_record sig s hs ss (ap (λ (z : Sort). choices_of sig (out-Sort z)) (sym same) ∙ own.2) e

  pub names_choices : (old new : Stored) → HasNamed old new (map constant hs) → old.signature ≡ sig → NamesChoices sig u old new
  names_choices old new n same = record {
    signature = n.signature;
    keeps = n.keeps;
    only = λ t c. elim (n.only t c) as (λ _. Contains (terms_in old) t ⊎ IsChoiceOf sig u t) [
      | inl o ↦ inl o
      | inr w ↦ inr (stands_chosen t (subst (λ (z : Signature). StandsIn z (map constant hs) t) same w))
    ];
    named = λ t k. n.named t (is_one t k);
  }

-- a constructor is one of its own sort
pub choice_of_itself : (sig : Signature) → IsLawful sig → (u t : Term) → IsChoiceOf sig u t → IsChoiceOf sig t t
choice_of_itself sig law u t k = of_itself sig law u k.heads (choices_there sig u t k) t k
