-- What entering a term at a generation does to what is known.
use Rattle.std.specs.Prelude.{ℕ, min, ◌<◌, ◌≤◌, List, [], ◌∷◌, ◌++◌, ◌≡◌, ◌⊎◌, length, slice_get, Some}
use Rattle.std.specs.List.{Contains}
use Rattle.std.proofs.Common.{sym, ap, ◌∙◌, subst, arith, inl, inr}
use Rattle.std.proofs.lemmas.Bool.{cases_lt}
use Rattle.std.proofs.lemmas.List.Elements.{Contains-append_left, Contains-append_right, Contains-append_cases}
use Rattle.std.proofs.lemmas.Option.{same_Some, slice_get_within}
use Rattle.ae_base.proofs.ListFacts.{value_at}
use Rattle.ae_core.specs.declared.problems.Signature.{Signature}
use Rattle.ae_core.specs.declared.terms.Term.{Term}
use Rattle.ae_goal_names.specs.Named.{StandsIn}
use Rattle.ae_goal_names.proofs.Joining.{as_many, stands_more, none_named, both_named, one_named}
use Rattle.ae_goal_names.proofs.Standing.{part_stands}
use Rattle.ae_journal.proofs.Splits.{contains_one}
use Rattle.ae_owed.specs.Known.{IsYoung}
use Rattle.ae_store.proofs.PartLaws.{in_one}
use Rattle.ae_store.specs.Parts.{IsPart, root, HasAges}
use Rattle.ae_store.specs.Shapes.{shapes, aged}
use Rattle.ae_store.specs.Stores.{Stored, IsStore}
use Rattle.ae_store.specs.Terms.{Keeps}
use Rattle.ae_store.specs.declared.nodes.Node.{Node}
use Rattle.ae_theory.specs.Names.{terms_in}
use Rattle.ae_ages.specs.Interned.{IsInterned}

-- ---- one term
module _ (old new : Stored) (u : Term) (n g : ℕ) (store : IsStore new.signature new.nodes) (same : new.signature ≡ old.signature) (keeps : Keeps (terms_in old) (terms_in new))
    (at : slice_get (terms_in new) n ≡ Some u) (ages : HasAges new.signature g old.nodes new.nodes n) where
  node_at : (m : ℕ) (t : Term) → slice_get (terms_in new) m ≡ Some t → (y : Node) × (slice_get new.nodes m ≡ Some y)
  node_at m t e = value_at new.nodes m (omega (arith, slice_get_within (terms_in new) m t e, as_many new))

  -- a part of the term that was there
  aged_part : (m : ℕ) (x y : Node) → slice_get old.nodes m ≡ Some x → slice_get new.nodes m ≡ Some y → IsPart new.signature (shapes new.nodes) (n ∷ []) m → y.generation ≡ min x.generation g
  aged_part m x y e f p = ap (λ (z : Node). z.generation) (sym (same_Some (aged g x) y (sym (ages.parts m x e p) ∙ f)))

  falls : (m : ℕ) (x y : Node) → slice_get old.nodes m ≡ Some x → slice_get new.nodes m ≡ Some y → y.generation ≤ x.generation
  falls m x y e f =
      elim (ages.others m (slice_get_within old.nodes m x e)) as (λ _. y.generation ≤ x.generation) [
        | inl q ↦ (let v : x.generation ≡ y.generation = ap (λ (z : Node). z.generation) (same_Some x y (sym e ∙ sym q ∙ f)) in omega (arith, v))
        | inr p ↦ (let v = aged_part m x y e f p in omega (arith, v))
      ]

  kept : (k : ℕ) (t : Term) → IsYoung old k t → IsYoung new k t
  kept k t y =
      let e = keeps y.name t y.at in
      let z = node_at y.name t e in
      record { name = y.name; at = e; node = z.0; there = z.1; young = (let a = falls y.name y.node z.0 y.there z.1 in let b = y.young in omega (arith, a, b)) }

  entered : (z : Node) → slice_get new.nodes n ≡ Some z → z.generation ≤ g
  entered z e =
      elim (cases_lt n (length old.nodes)) as (λ _. z.generation ≤ g) [
        | inl lt ↦ (let x = value_at old.nodes n lt in let v = aged_part n x.0 z x.1 e (root n (in_one n)) in omega (arith, v))
        | inr ge ↦ (let v = (ages.news n z ge e).0 in omega (arith, v))
      ]

  young : (t : Term) → Contains (u ∷ []) t → IsYoung new g t
  young t c =
      let e : slice_get (terms_in new) n ≡ Some t = at ∙ ap (λ (w : Term). Some w) (contains_one u t c) in
      let z = node_at n t e in
      record { name = n; at = e; node = z.0; there = z.1; young = entered z.0 z.1 }

  stands : (m : ℕ) (t : Term) → slice_get (terms_in new) m ≡ Some t → IsPart new.signature (shapes new.nodes) (n ∷ []) m → StandsIn old.signature (u ∷ []) t
  stands m t e p = subst (λ (w : Signature). StandsIn w (u ∷ []) t) same (part_stands new.signature new.nodes store u n at m p t e)

  -- the name was there
  was : (m : ℕ) (t : Term) → m < length old.nodes → slice_get (terms_in new) m ≡ Some t → slice_get (terms_in old) m ≡ Some t
  was m t lt e =
      let o = value_at (terms_in old) m (omega (arith, lt, as_many old)) in
      o.1 ∙ ap (λ (w : Term). Some w) (same_Some o.0 t (sym (keeps m o.0 o.1) ∙ e))

  by_part : (k m : ℕ) (t : Term) (x y : Node) → slice_get old.nodes m ≡ Some x → slice_get new.nodes m ≡ Some y → y.generation ≤ k → m < length old.nodes → slice_get (terms_in new) m ≡ Some t
      → IsPart new.signature (shapes new.nodes) (n ∷ []) m → IsYoung old k t ⊎ ((g ≤ k) × StandsIn old.signature (u ∷ []) t)
  by_part k m t x y e f le lt at p =
      let v = aged_part m x y e f p in
      elim (cases_lt k x.generation) as (λ _. IsYoung old k t ⊎ ((g ≤ k) × StandsIn old.signature (u ∷ []) t)) [
        | inl late ↦ inr (omega (arith, v, le, late), stands m t at p)
        | inr early ↦ inl (record { name = m; at = was m t lt at; node = x; there = e; young = early })
      ]

  only : (k : ℕ) (t : Term) → IsYoung new k t → IsYoung old k t ⊎ ((g ≤ k) × StandsIn old.signature (u ∷ []) t)
  only k t y =
      elim (cases_lt y.name (length old.nodes)) as (λ _. IsYoung old k t ⊎ ((g ≤ k) × StandsIn old.signature (u ∷ []) t)) [
        | inl lt ↦
            elim (ages.others y.name lt) as (λ _. IsYoung old k t ⊎ ((g ≤ k) × StandsIn old.signature (u ∷ []) t)) [
              | inl q ↦ inl (record { name = y.name; at = was y.name t lt y.at; node = y.node; there = sym q ∙ y.there; young = y.young })
              | inr p ↦ (let x = value_at old.nodes y.name lt in by_part k y.name t x.0 y.node x.1 y.there y.young lt y.at p)
            ]
        | inr ge ↦
            (let w = ages.news y.name y.node ge y.there in let a = w.0 in let b = y.young in inr (omega (arith, a, b), stands y.name t y.at w.1))
      ]

  pub one_interned : IsInterned g old new (u ∷ [])
  one_interned = record { named = one_named old new u n g store same keeps at ages; kept = kept; young = young; only = only }

-- ---- none, and one after another
pub none_interned : (g : ℕ) (a : Stored) → IsInterned g a a []
none_interned g a = record { named = none_named a; kept = λ n t y. y; young = λ t c. absurd (let l = c.1 in omega (arith, l)); only = λ n t y. inl y }

pub both_interned : (g : ℕ) (a b c : Stored) (ts us : List Term) → IsInterned g a b ts → IsInterned g b c us → IsInterned g a c (ts ++ us)
both_interned g a b c ts us x y = record {
  named = both_named a b c ts us x.named y.named;
  kept = λ n t k. y.kept n t (x.kept n t k);
  young = λ t h. elim (Contains-append_cases ts us t h) as (λ _. IsYoung c g t) [ inl l ↦ y.kept g t (x.young t l) | inr r ↦ y.young t r ];
  only = λ n t k. elim (y.only n t k) as (λ _. IsYoung a n t ⊎ ((g ≤ n) × StandsIn a.signature (ts ++ us) t)) [
    | inl l ↦ elim (x.only n t l) as (λ _. IsYoung a n t ⊎ ((g ≤ n) × StandsIn a.signature (ts ++ us) t)) [
      | inl o ↦ inl o
      | inr s ↦ inr (s.0, stands_more a.signature ts (ts ++ us) (λ v i. Contains-append_left ts us v i) t s.1)
    ]
    | inr s ↦ inr (s.0, stands_more a.signature us (ts ++ us) (λ v i. Contains-append_right ts us v i) t (subst (λ (w : Signature). StandsIn w us t) x.named.signature s.1))
  ];
}
