-- What is in a list that is put together.
use Rattle.std.specs.Prelude.{List, [], ◌∷◌, Some}
use Rattle.std.specs.List.{AllByRecursion, Contains, flat_map}
use Rattle.std.proofs.Common.{sym, ap, ◌∙◌, subst, arith, inl, inr}
use Rattle.std.proofs.lemmas.List.Elements.{Contains-append_left, Contains-append_right, Contains-append_cases}
use Rattle.std.proofs.lemmas.Option.{slice_get-get_or, get_or_from_slice_get}
use Rattle.ae_core.specs.declared.terms.Term.{Term}
use Rattle.ae_journal.proofs.Splits.{contains_here, contains_later, contains_cases}
use Rattle.ae_rules.specs.Clauses.{Clause}
use Rattle.ae_sat.specs.Standing.{IsOneOf}

pub not_in_none : {A : Type 0} {P : Type 0} (x : A) → Contains [] x → P
not_in_none x c = absurd (let k = c.1 in omega (arith, k))

pub into : {A : Type 0} (f : A → List Term) (xs : List A) (x : A) (t : Term) → Contains xs x → Contains (f x) t → Contains (flat_map f xs) t
into f [] x t h k = not_in_none x h
into f (y ∷ ys) x t h k = elim (contains_cases y ys x h) as (λ _. Contains (flat_map f (y ∷ ys)) t) [
  | inl e ↦ Contains-append_left (f y) (flat_map f ys) t (subst (λ z. Contains (f z) t) (sym e) k)
  | inr d ↦ Contains-append_right (f y) (flat_map f ys) t (into f ys x t d k)
]

pub out_of : {A : Type 0} (f : A → List Term) (xs : List A) (t : Term) → Contains (flat_map f xs) t → (x : A) × Contains xs x × Contains (f x) t
out_of f [] t h = not_in_none t h
out_of {A} f (y ∷ ys) t h = elim (Contains-append_cases (f y) (flat_map f ys) t h) as (λ _. (x : A) × Contains (y ∷ ys) x × Contains (f x) t) [
  | inl k ↦ (y, contains_here y ys, k)
  | inr k ↦ (let r = out_of f ys t k in (r.0, contains_later y ys r.0 r.1, r.2))
]

pub each_of : {A : Type 0} (P : A → Type 0) (xs : List A) (x : A) → AllByRecursion P xs → Contains xs x → P x
each_of P [] x a h = not_in_none x h
each_of P (y ∷ ys) x a h = elim (contains_cases y ys x h) as (λ _. P x) [
  | inl e ↦ subst P e a.0
  | inr d ↦ each_of P ys x a.1 d
]

pub one_contained : (cs : List Clause) (c : Clause) → IsOneOf cs c → Contains cs c
one_contained cs c o = (o.0, o.1, get_or_from_slice_get cs o.0 c c (slice_get-get_or cs o.0 [] o.1 ∙ ap (λ (z : Clause). Some z) o.2))

pub contained_one : (cs : List Clause) (c : Clause) → Contains cs c → IsOneOf cs c
contained_one cs c h = (h.0, h.1, get_or_from_slice_get cs h.0 c [] (slice_get-get_or cs h.0 c h.1 ∙ ap (λ (z : Clause). Some z) h.2))
