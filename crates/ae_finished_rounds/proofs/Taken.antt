-- Of all instances some that are listed are taken.
use Rattle.std.specs.Prelude.{Bool, true, false, ◌&&◌, ◌||◌, nat_eq, List, [], ◌∷◌, ◌≡◌}
use Rattle.std.specs.List.{Contains}
use Rattle.std.proofs.Common.{refl, sym, ap, subst, arith, inl, inr}
use Rattle.std.proofs.lemmas.Bool.{and_from, and_parts, eqb-true, or_cases, or_left, or_right}
use Rattle.ae_base.specs.Decided.{decided}
use Rattle.ae_base.proofs.Decided.{decided_of, decided_yes}
use Rattle.ae_base.proofs.Tests.{false_true, nat_eq_itself}
use Rattle.ae_core.specs.Decided.{Lit_discrete, Sorts_discrete, Term_discrete}
use Rattle.ae_core.specs.declared.terms.Sort.{Sort}
use Rattle.ae_core.specs.declared.terms.Term.{Term}
use Rattle.ae_journal.proofs.Splits.{contains_cases, contains_here, contains_later}
use Rattle.ae_journal.specs.States.{Owner, of_literal, of_axiom}
use Rattle.ae_owed.specs.Instances.{Instance}

abbrev same_owner : Owner → Owner → Bool
same_owner (of_literal l) (of_literal m) = decided (Lit_discrete l m)
same_owner (of_axiom j) (of_axiom k) = nat_eq j k
same_owner (of_literal l) (of_axiom k) = false
same_owner (of_axiom j) (of_literal m) = false

abbrev same_terms : List Term → List Term → Bool
same_terms [] [] = true
same_terms (t ∷ ts) (u ∷ us) = decided (Term_discrete t u) && same_terms ts us
same_terms [] (u ∷ us) = false
same_terms (t ∷ ts) [] = false

abbrev is_this : Owner → List Sort → List Term → Instance → Bool
is_this o us ts i = same_owner i.owner o && (decided (Sorts_discrete i.sorts us) && same_terms i.terms ts)

-- whether one of the instances is of this owner, with these sorts and terms
abbrev pub is_listed : List Instance → Owner → List Sort → List Term → Bool
is_listed [] o us ts = false
is_listed (i ∷ is) o us ts = is_this o us ts i || is_listed is o us ts

owners_are : (a b : Owner) → same_owner a b ≡ true → a ≡ b
owners_are (of_literal l) (of_literal m) e = ap of_literal (decided_yes (Lit_discrete l m) e)
owners_are (of_axiom j) (of_axiom k) e = ap of_axiom (eqb-true j k e)
owners_are (of_literal l) (of_axiom k) e = false_true e
owners_are (of_axiom j) (of_literal m) e = false_true e

owner_is : (a : Owner) → same_owner a a ≡ true
owner_is (of_literal l) = decided_of (Lit_discrete l l) refl
owner_is (of_axiom j) = nat_eq_itself j

terms_are : (ts us : List Term) → same_terms ts us ≡ true → ts ≡ us
terms_are [] [] e = refl
terms_are (t ∷ ts) (u ∷ us) e =
    let w = and_parts (decided (Term_discrete t u)) (same_terms ts us) e in
    let one : t ≡ u = decided_yes (Term_discrete t u) w.0 in
    let rest = terms_are ts us w.1 in
    λ i. one i ∷ rest i
terms_are [] (u ∷ us) e = false_true e
terms_are (t ∷ ts) [] e = false_true e

term_is : (ts : List Term) → same_terms ts ts ≡ true
term_is [] = refl
term_is (t ∷ ts) = and_from (decided (Term_discrete t t)) (same_terms ts ts) (decided_of (Term_discrete t t) refl) (term_is ts)

-- one that is listed is
pub listed_is : (is : List Instance) (o : Owner) (us : List Sort) (ts : List Term) → is_listed is o us ts ≡ true → (i : Instance) × Contains is i × (i.owner ≡ o) × (i.sorts ≡ us) × (i.terms ≡ ts)
listed_is [] o us ts e = false_true e
listed_is (i ∷ is) o us ts e =
    elim (or_cases (is_this o us ts i) (is_listed is o us ts) e) as (λ _. (j : Instance) × Contains (i ∷ is) j × (j.owner ≡ o) × (j.sorts ≡ us) × (j.terms ≡ ts)) [
      | inl h ↦
          let a = and_parts (same_owner i.owner o) (decided (Sorts_discrete i.sorts us) && same_terms i.terms ts) h in
          let b = and_parts (decided (Sorts_discrete i.sorts us)) (same_terms i.terms ts) a.1 in
          (i, contains_here i is, owners_are i.owner o a.0, decided_yes (Sorts_discrete i.sorts us) b.0, terms_are i.terms ts b.1)
      | inr h ↦ (let w = listed_is is o us ts h in (w.0, contains_later i is w.0 w.1, w.2, w.3, w.4))
    ]

-- and each of them is listed
pub is_in_list : (is : List Instance) (i : Instance) → Contains is i → is_listed is i.owner i.sorts i.terms ≡ true
is_in_list [] i c = absurd (omega (arith, c.1))
is_in_list (j ∷ is) i c = elim (contains_cases j is i c) as (λ _. is_listed (j ∷ is) i.owner i.sorts i.terms ≡ true) [
  | inl e ↦ or_left (is_this i.owner i.sorts i.terms j) (is_listed is i.owner i.sorts i.terms)
      (subst (λ (k : Instance). is_this i.owner i.sorts i.terms k ≡ true) (sym e)
      (and_from (same_owner i.owner i.owner) (decided (Sorts_discrete i.sorts i.sorts) && same_terms i.terms i.terms) (owner_is i.owner)
      (and_from (decided (Sorts_discrete i.sorts i.sorts)) (same_terms i.terms i.terms) (decided_of (Sorts_discrete i.sorts i.sorts) refl) (term_is i.terms))))
  | inr h ↦ or_right (is_this i.owner i.sorts i.terms j) (is_listed is i.owner i.sorts i.terms) (is_in_list is i h)
]
