-- One term after another.
use Rattle.std.specs.Prelude.{ℕ, ◌+◌, ◌<◌, take, List, [], ◌∷◌, ◌++◌, ◌≡◌, ◌⊎◌, length, slice_get, get_or, Some}
use Rattle.std.specs.List.{Contains, flat_map}
use Rattle.std.proofs.Common.{refl, sym, ap, ◌∙◌, subst, arith, inl, inr, append-nil, append_assoc}
use Rattle.std.proofs.lemmas.Bool.{cases_lt}
use Rattle.std.proofs.lemmas.List.{length-map, take_more}
use Rattle.std.proofs.lemmas.List.Elements.{Contains-append_left, Contains-append_right, Contains-append_cases}
use Rattle.std.proofs.lemmas.Option.{same_Some, slice_get-get_or}
use Rattle.ae_base.proofs.ListFacts.{value_at}
use Rattle.ae_core.specs.declared.terms.Term.{Term}
use Rattle.ae_core.specs.declared.problems.Signature.{Signature}
use Rattle.ae_journal.proofs.Splits.{contains_at, contains_one}
use Rattle.ae_store.specs.Parts.{HasAges}
use Rattle.ae_store.specs.Shapes.{shapes, shape_of}
use Rattle.ae_store.specs.Stores.{Stored, IsStore}
use Rattle.ae_store.specs.Terms.{Keeps}
use Rattle.ae_store.proofs.TermLaws.{length_terms}
use Rattle.ae_theory.specs.Names.{terms_in}
use Rattle.ae_goal_names.specs.Named.{StandsIn, itself, argument, field, HasNamed}
use Rattle.ae_goal_names.proofs.Standing.{part_stands}

pub as_many : (s : Stored) → length (terms_in s) ≡ length s.nodes
as_many s = length_terms (shapes s.nodes) ∙ length-map s.nodes shape_of

place_of : (xs : List Term) (t : Term) → (h : Contains xs t) → slice_get xs h.0 ≡ Some t
place_of xs t h = slice_get-get_or xs h.0 t h.1 ∙ ap (λ (z : Term). Some z) h.2

kept_in : (xs ys : List Term) → Keeps xs ys → (t : Term) → Contains xs t → Contains ys t
kept_in xs ys k t h = contains_at ys h.0 t (k h.0 t (place_of xs t h))

-- more terms to stand in
pub stands_more : (sig : Signature) (ts us : List Term) → ((t : Term) → Contains ts t → Contains us t) → (t : Term) → StandsIn sig ts t → StandsIn sig us t
stands_more sig ts us f t (itself h) = itself (f t h)
stands_more sig ts us f t (argument h ss vs s i) = argument h ss vs (stands_more sig ts us f _ s) i
stands_more sig ts us f t (field s ss u w e r i) = field s ss u (stands_more sig ts us f u w) e r i

pub none_named : (a : Stored) → HasNamed a a []
none_named a = record { signature = refl; keeps = λ i t e. e; named = λ t h. absurd (let i = h.1 in omega (arith, i)); only = λ t h. inl h }

pub both_named : (a b c : Stored) (ts us : List Term) → HasNamed a b ts → HasNamed b c us → HasNamed a c (ts ++ us)
both_named a b c ts us x y = record {
  signature = y.signature ∙ x.signature;
  keeps = λ i t e. y.keeps i t (x.keeps i t e);
  named = λ t h. elim (Contains-append_cases ts us t h) as (λ _. Contains (terms_in c) t) [
    | inl l ↦ kept_in (terms_in b) (terms_in c) y.keeps t (x.named t l)
    | inr r ↦ y.named t r
  ];
  only = λ t h. elim (y.only t h) as (λ _. Contains (terms_in a) t ⊎ StandsIn a.signature (ts ++ us) t) [
    | inl l ↦ elim (x.only t l) as (λ _. Contains (terms_in a) t ⊎ StandsIn a.signature (ts ++ us) t) [
      | inl o ↦ inl o
      | inr s ↦ inr (stands_more a.signature ts (ts ++ us) (λ v k. Contains-append_left ts us v k) t s)
    ]
    | inr s ↦ inr (stands_more a.signature us (ts ++ us) (λ v k. Contains-append_right ts us v k) t (subst (λ (w : Signature). StandsIn w us t) x.signature s))
  ];
}

pub one_named : (old new : Stored) (u : Term) (n g : ℕ) → IsStore new.signature new.nodes → new.signature ≡ old.signature → Keeps (terms_in old) (terms_in new) → slice_get (terms_in new) n ≡ Some u
    → HasAges new.signature g old.nodes new.nodes n → HasNamed old new (u ∷ [])
one_named old new u n g store same keeps at ages = record {
  signature = same;
  keeps = keeps;
  named = λ t h. subst (Contains (terms_in new)) (contains_one u t h) (contains_at (terms_in new) n u at);
  only = only;
}
  where
    only : (t : Term) → Contains (terms_in new) t → Contains (terms_in old) t ⊎ StandsIn old.signature (u ∷ []) t
    only t h =
        let e = place_of (terms_in new) t h in
        elim (cases_lt h.0 (length old.nodes)) as (λ _. Contains (terms_in old) t ⊎ StandsIn old.signature (u ∷ []) t) [
          | inl lt ↦
              let o = value_at (terms_in old) h.0 (omega (arith, lt, as_many old)) in
              inl (subst (Contains (terms_in old)) (same_Some o.0 t (sym (keeps h.0 o.0 o.1) ∙ e)) (contains_at (terms_in old) h.0 o.0 o.1))
          | inr ge ↦
              let y = value_at new.nodes h.0 (let w = h.1 in omega (arith, w, as_many new)) in
              let p = ages.news h.0 y.0 ge y.1 in
              inr (subst (λ (w : Signature). StandsIn w (u ∷ []) t) same (part_stands new.signature new.nodes store u n at h.0 p.1 t e))
        ]

-- one more of those that are named one after the other
pub flat_push : {A : Type 0} (f : A → List Term) (xs : List A) (x : A) → flat_map f (xs ++ x ∷ []) ≡ flat_map f xs ++ f x
flat_push f [] x = append-nil (f x)
flat_push f (y ∷ xs) x = ap (λ zs. f y ++ zs) (flat_push f xs x) ∙ sym (append_assoc (f y) (flat_map f xs) (f x))

pub flat_next : {A : Type 0} (f : A → List Term) (xs : List A) (i : ℕ) (x : A) → i < length xs → x ≡ get_or xs i x → flat_map f (take (i + 1) xs) ≡ flat_map f (take i xs) ++ f x
flat_next f xs i x l e = ap (flat_map f) (take_more xs i x l ∙ ap (λ y. take i xs ++ y ∷ []) (sym e)) ∙ flat_push f (take i xs) x
