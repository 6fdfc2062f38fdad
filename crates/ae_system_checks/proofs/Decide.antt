-- Decisions about finitely many things: places of lists, values that may be absent, terms by their shape.
use Rattle.std.specs.Prelude.{ℕ, zero, suc, ℤ, Bool, ◌≡◌, ◌⊎◌, List, [], ◌∷◌, slice_get, Option, Some, None}
use Rattle.std.proofs.Common.{inl, inr}
use Rattle.std.proofs.lemmas.Option.{same_Some}
use mathlib.Core.Path.{refl, sym, ap, subst, ◌∙◌}
use native.Mathlib.Decide.{map_dec}
use Rattle.ae_base.proofs.Options.{never_some}
use Rattle.ae_core.specs.declared.terms.Head.{Head}
use Rattle.ae_core.specs.declared.terms.Sort.{Sort}
use Rattle.ae_core.specs.declared.terms.Term.{Term, Term-F, Num, Apply, out-Term, roll-Term, roll-out-Term}
use Rattle.ae_core.specs.declared.terms.Term.TheOpen as layer
use Rattle.ae_core.specs.declared.terms.Term.TheVariants.{outs-Apply, outs-Num, rolls-Apply, rolls-Num}
use Rattle.ae_decide.specs.Inner.Decisions.{both}
use Rattle.ae_evaluation.proofs.ExampleSystem.{no_entry}

pub three : {A B C : Type 0} → Dec A → Dec B → Dec C → Dec (A × B × C)
three d e f = map_dec (λ (x, (z, w)). (x, z, w)) (λ (x, z, w). (x, (z, w))) (both d (both e f))

pub six : {A B C D E F : Type 0} → Dec A → Dec B → Dec C → Dec D → Dec E → Dec F → Dec (A × B × C × D × E × F)
six a b c d e f =
    map_dec (λ ((x, y, z), (u, v, w)). (x, y, z, u, v, w)) (λ (x, y, z, u, v, w). ((x, y, z), (u, v, w))) (both (three a b c) (three d e f))

pub either : {A B : Type 0} → Dec A → Dec B → Dec (A ⊎ B)
either (yes x) d = yes (inl x)
either (no n) (yes z) = yes (inr z)
either (no n) (no m) = no (λ s. elim s as (λ _. ⊥) [ inl x ↦ n x | inr z ↦ m z ])

pub implied : {A B : Type 0} → Dec A → Dec B → Dec (A → B)
implied (yes x) (yes z) = yes (λ w. z)
implied (yes x) (no n) = no (λ f. n (f x))
implied (no n) d = yes (λ x. absurd (n x))

-- ---- places of a list
module _ {A : Type 0} where
  places_step : (x : A) (xs : List A) (P : ℕ → A → Type 0) → P 0 x → ((k : ℕ) (e : A) → slice_get xs k ≡ Some e → P (suc k) e)
      → (k : ℕ) (e : A) → slice_get (x ∷ xs) k ≡ Some e → P k e
  places_step x xs P p q zero e i = subst (P 0) (same_Some x e i) p
  places_step x xs P p q (suc k) e i = q k e i

  pub at_all : (xs : List A) (P : ℕ → A → Type 0) → ((k : ℕ) (e : A) → Dec (P k e)) → Dec ((k : ℕ) (e : A) → slice_get xs k ≡ Some e → P k e)
  at_all [] P d = yes (λ k e i. absurd (no_entry k e i))
  at_all (x ∷ xs) P d =
      map_dec (λ p. places_step x xs P p.0 p.1) (λ f. (f 0 x refl, λ k e i. f (suc k) e i))
      (both (d 0 x) (at_all xs (λ k. P (suc k)) (λ k. d (suc k))))

  abbrev pub Somewhere : List A → (ℕ → A → Type 0) → Type 0
  Somewhere xs P = (k : ℕ) × (e : A) × (slice_get xs k ≡ Some e) × P k e

  somewhere_step : (x : A) (xs : List A) (P : ℕ → A → Type 0) (k : ℕ) (e : A) → slice_get (x ∷ xs) k ≡ Some e → P k e
      → P 0 x ⊎ Somewhere xs (λ k. P (suc k))
  somewhere_step x xs P zero e i p = inl (subst (P 0) (sym (same_Some x e i)) p)
  somewhere_step x xs P (suc k) e i p = inr (k, e, i, p)

  pub at_some : (xs : List A) (P : ℕ → A → Type 0) → ((k : ℕ) (e : A) → Dec (P k e)) → Dec (Somewhere xs P)
  at_some [] P d = no (λ w. no_entry w.0 w.1 w.2)
  at_some (x ∷ xs) P d =
      map_dec (λ s. elim s as (λ _. Somewhere (x ∷ xs) P) [ inl p ↦ (0, x, refl, p) | inr w ↦ (suc w.0, w.1, w.2, w.3) ])
      (λ w. somewhere_step x xs P w.0 w.1 w.2 w.3) (either (d 0 x) (at_some xs (λ k. P (suc k)) (λ k. d (suc k))))

  -- ---- values that may be absent
  pub where_known : (o : Option A) (P : A → Type 0) → ((x : A) → Dec (P x)) → Dec ((x : A) → o ≡ Some x → P x)
  where_known None P d = yes (λ x e. never_some x e)
  where_known (Some z) P d = map_dec (λ p x e. subst P (same_Some z x e) p) (λ f. f z refl) (d z)

  pub known_with : (o : Option A) (P : A → Type 0) → ((x : A) → Dec (P x)) → Dec ((x : A) × (o ≡ Some x) × P x)
  known_with None P d = no (λ w. never_some w.0 w.1)
  known_with (Some z) P d = map_dec (λ p. (z, refl, p)) (λ w. subst P (sym (same_Some z w.0 w.1)) w.2) (d z)

  pub option_discrete : Discrete A → Discrete (Option A)
  option_discrete d None None = yes refl
  option_discrete d None (Some z) = no (λ e. never_some z e)
  option_discrete d (Some x) None = no (λ e. never_some x (sym e))
  option_discrete d (Some x) (Some z) = map_dec (λ e. ap (λ w. Some w) e) (λ e. same_Some x z e) (d x z)

-- ---- terms by their shape
is_application : (t : Term) (h : Head) (ss : List Sort) (us : List Term) → out-Term t ≡ layer.Apply h ss us → t ≡ Apply h ss us
is_application t h ss us e = sym (roll-out-Term t) ∙ ap roll-Term e ∙ rolls-Apply h ss us

is_numeral : (t : Term) (p q : ℤ) (real : Bool) → out-Term t ≡ layer.Num p q real → t ≡ Num p q real
is_numeral t p q real e = sym (roll-out-Term t) ∙ ap roll-Term e ∙ rolls-Num p q real

tells_application : (t : Term) (l : Term-F Term) → out-Term t ≡ l → (h : Head) (ss : List Sort) (us : List Term) → t ≡ Apply h ss us
    → l ≡ layer.Apply h ss us
tells_application t l e h ss us q = sym e ∙ ap out-Term q ∙ outs-Apply h ss us

tells_numeral : (t : Term) (l : Term-F Term) → out-Term t ≡ l → (p q : ℤ) (real : Bool) → t ≡ Num p q real → l ≡ layer.Num p q real
tells_numeral t l e p q real w = sym e ∙ ap out-Term w ∙ outs-Num p q real

module _ (t : Term) (P : Head → List Sort → List Term → Type 0) (d : (h : Head) (ss : List Sort) (us : List Term) → Dec (P h ss us)) where
  pub where_applied : Dec ((h : Head) (ss : List Sort) (us : List Term) → t ≡ Apply h ss us → P h ss us)
  where_applied = go (out-Term t) refl
    where
      moved : (g h : Head) (rs ss : List Sort) (ts us : List Term) → layer.Apply g rs ts ≡ layer.Apply h ss us → P g rs ts → P h ss us
      moved g h rs ss ts us e p =
          let a : g ≡ h = cc in
          let b : rs ≡ ss = cc in
          let c : ts ≡ us = cc in
          subst (λ (w : Head × List Sort × List Term). P w.0 w.1 w.2) (λ i. (a i, b i, c i)) p

      go : (l : Term-F Term) → out-Term t ≡ l → Dec ((h : Head) (ss : List Sort) (us : List Term) → t ≡ Apply h ss us → P h ss us)
      go (layer.Apply g rs ts) e =
          map_dec (λ p h ss us q. moved g h rs ss ts us (tells_application t _ e h ss us q) p) (λ f. f g rs ts (is_application t g rs ts e)) (d g rs ts)
      go (layer.Bound n) e = yes (λ h ss us q. let z = tells_application t _ e h ss us q in absurd (cc))
      go (layer.Num a b r) e = yes (λ h ss us q. let z = tells_application t _ e h ss us q in absurd (cc))
      go (layer.Fresh n s) e = yes (λ h ss us q. let z = tells_application t _ e h ss us q in absurd (cc))

  pub applied_with : Dec ((h : Head) × (ss : List Sort) × (us : List Term) × (t ≡ Apply h ss us) × P h ss us)
  applied_with = go (out-Term t) refl
    where
      moved : (g h : Head) (rs ss : List Sort) (ts us : List Term) → layer.Apply g rs ts ≡ layer.Apply h ss us → P h ss us → P g rs ts
      moved g h rs ss ts us e p =
          let a : h ≡ g = cc in
          let b : ss ≡ rs = cc in
          let c : us ≡ ts = cc in
          subst (λ (w : Head × List Sort × List Term). P w.0 w.1 w.2) (λ i. (a i, b i, c i)) p

      go : (l : Term-F Term) → out-Term t ≡ l → Dec ((h : Head) × (ss : List Sort) × (us : List Term) × (t ≡ Apply h ss us) × P h ss us)
      go (layer.Apply g rs ts) e =
          map_dec (λ p. (g, rs, ts, is_application t g rs ts e, p))
          (λ w. moved g w.0 rs w.1 ts w.2 (tells_application t _ e w.0 w.1 w.2 w.3) w.4) (d g rs ts)
      go (layer.Bound n) e = no (λ w. let z = tells_application t _ e w.0 w.1 w.2 w.3 in cc)
      go (layer.Num a b r) e = no (λ w. let z = tells_application t _ e w.0 w.1 w.2 w.3 in cc)
      go (layer.Fresh n s) e = no (λ w. let z = tells_application t _ e w.0 w.1 w.2 w.3 in cc)

module _ (t : Term) (P : ℤ → ℤ → Bool → Type 0) (d : (p q : ℤ) (real : Bool) → Dec (P p q real)) where
  pub where_numeral : Dec ((p q : ℤ) (real : Bool) → t ≡ Num p q real → P p q real)
  where_numeral = go (out-Term t) refl
    where
      moved : (p q a b : ℤ) (r s : Bool) → ◌≡◌ {A = Term-F Term} (layer.Num p q r) (layer.Num a b s) → P p q r → P a b s
      moved p q a b r s e x =
          let f : p ≡ a = cc in
          let g : q ≡ b = cc in
          let h : r ≡ s = cc in
          subst (λ (w : ℤ × ℤ × Bool). P w.0 w.1 w.2) (λ i. (f i, g i, h i)) x

      go : (l : Term-F Term) → out-Term t ≡ l → Dec ((p q : ℤ) (real : Bool) → t ≡ Num p q real → P p q real)
      go (layer.Num a b r) e =
          map_dec (λ x p q real w. moved a b p q r real (tells_numeral t _ e p q real w) x) (λ f. f a b r (is_numeral t a b r e)) (d a b r)
      go (layer.Bound n) e = yes (λ p q real w. let z = tells_numeral t _ e p q real w in absurd (cc))
      go (layer.Apply h ss us) e = yes (λ p q real w. let z = tells_numeral t _ e p q real w in absurd (cc))
      go (layer.Fresh n s) e = yes (λ p q real w. let z = tells_numeral t _ e p q real w in absurd (cc))
