-- The least key of a map that is not a given one.
use Rattle.std.specs.Prelude.{ℕ, ◌<◌, ◌≤◌, ◌⊎◌, Bool, true, false, List, [], ◌∷◌, ◌≡◌, ◌≢◌, Option, Some, None, if◌then◌else◌, ◌==◌}
use Rattle.std.proofs.Common.{refl, sym, ap, ◌∙◌, subst, arith, inl, inr}
use Rattle.std.proofs.lemmas.Bool.{eqb-true, eq-eqb, ne_eqb}
use Rattle.ae_pmap.specs.Pairs.{found, Rises, AllAbove}
use Rattle.ae_free.specs.Classes.{first_key, rest, unless}

module _ {A : Type 0} where
  found_above : (k n : ℕ) (u : A) (ps : List (ℕ × A)) → AllAbove k ps → found ps n ≡ Some u → k < n
  found_above k n u [] a e = cc e
  found_above k n u (p ∷ ps) a e = by (p.0 == n) refl (found_above k n u ps a.1)
    where
      by : (b : Bool) → (p.0 == n) ≡ b → (found ps n ≡ Some u → k < n) → k < n
      by true q more = let l : k < p.0 = a.0 in let w = eqb-true p.0 n q in omega (arith, l, w)
      by false q more = more (sym (ap (λ b. if b then Some p.1 else found ps n) q) ∙ e)

  found_first : (p : ℕ × A) (ps : List (ℕ × A)) → found (p ∷ ps) p.0 ≡ Some p.1
  found_first p ps = ap (λ b. if b then Some p.1 else found ps p.0) (eq-eqb p.0 p.0 refl)

  found_parts : (p : ℕ × A) (ps : List (ℕ × A)) (n : ℕ) (u : A) → found (p ∷ ps) n ≡ Some u → (n ≡ p.0) ⊎ (found ps n ≡ Some u)
  found_parts p ps n u e = by (p.0 == n) refl
    where
      by : (b : Bool) → (p.0 == n) ≡ b → (n ≡ p.0) ⊎ (found ps n ≡ Some u)
      by true q = inl (sym (eqb-true p.0 n q))
      by false q = inr (sym (ap (λ b. if b then Some p.1 else found ps n) q) ∙ e)

  found_later : (p : ℕ × A) (ps : List (ℕ × A)) (n : ℕ) (u : A) → p.0 < n → found ps n ≡ Some u → found (p ∷ ps) n ≡ Some u
  found_later p ps n u l e = ap (λ b. if b then Some p.1 else found ps n) (ne_eqb p.0 n (λ q. omega (arith, l, q))) ∙ e

  -- the least key that is not the name, if there is one
  pub record IsOther (ps : List (ℕ × A)) (name : ℕ) (o : Option ℕ) : Type 0 where
    pub there : (m : ℕ) → o ≡ Some m → (u : A) × (found ps m ≡ Some u)
    pub differs : (m : ℕ) → o ≡ Some m → m ≢ name
    pub least : (m n : ℕ) (u : A) → o ≡ Some m → found ps n ≡ Some u → n ≢ name → m ≤ n
    pub none : (n : ℕ) (u : A) → o ≡ None → found ps n ≡ Some u → n ≡ name

  none_other : (name : ℕ) → IsOther [] name None
  none_other name = record {
    there = λ m e. cc e;
    differs = λ m e. cc e;
    least = λ m n u e f. cc e;
    none = λ n u e f. cc f;
  }

  first_other : (p : ℕ × A) (ps : List (ℕ × A)) (name : ℕ) → Rises (p ∷ ps) → p.0 ≢ name → IsOther (p ∷ ps) name (Some p.0)
  first_other p ps name r d = record {
    there = λ m e. (let f : p.0 ≡ m = cc e in (p.1, ap (found (p ∷ ps)) (sym f) ∙ found_first p ps));
    differs = λ m e q. (let f : p.0 ≡ m = cc e in d (f ∙ q));
    least = λ m n u e f q. (let g : p.0 ≡ m = cc e in
        elim (found_parts p ps n u f) [ inl h ↦ omega (arith, g, h) | inr h ↦ (let l = found_above p.0 n u ps r.0 h in omega (arith, g, l)) ]);
    none = λ n u e f. cc e;
  }

  alone_other : (p : ℕ × A) (name : ℕ) → p.0 ≡ name → IsOther (p ∷ []) name None
  alone_other p name e = record {
    there = λ m f. cc f;
    differs = λ m f. cc f;
    least = λ m n u f g. cc f;
    none = λ n u f g. elim (found_parts p [] n u g) [ inl h ↦ h ∙ e | inr h ↦ cc h ];
  }

  second_other : (p q : ℕ × A) (ps : List (ℕ × A)) (name : ℕ) → Rises (p ∷ q ∷ ps) → p.0 ≡ name → IsOther (p ∷ q ∷ ps) name (Some q.0)
  second_other p q ps name r e =
      let l : p.0 < q.0 = r.0.0 in
      record {
        there = λ m f. (let g : q.0 ≡ m = cc f in (q.1, ap (found (p ∷ q ∷ ps)) (sym g) ∙ found_later p (q ∷ ps) q.0 q.1 l (found_first q ps)));
        differs = λ m f h. (let g : q.0 ≡ m = cc f in omega (arith, l, e, g, h));
        least = λ m n u f g d. (let w : q.0 ≡ m = cc f in
            elim (found_parts p (q ∷ ps) n u g) [
              | inl h ↦ absurd (d (h ∙ e))
              | inr h ↦ elim (found_parts q ps n u h) [ inl i ↦ omega (arith, w, i) | inr i ↦ (let k = found_above q.0 n u ps r.1.0 i in omega (arith, w, k)) ]
            ]);
        none = λ n u f g. cc f;
      }

  pub other_key : (ps : List (ℕ × A)) (name : ℕ) → Rises ps → IsOther ps name (unless (first_key ps) (first_key (rest ps)) name)
  other_key [] name r = none_other name
  other_key (p ∷ ps) name r = by (p.0 == name) refl
    where
      two : (ps' : List (ℕ × A)) → Rises (p ∷ ps') → p.0 ≡ name → IsOther (p ∷ ps') name (first_key ps')
      two [] r' e = alone_other p name e
      two (q ∷ qs) r' e = second_other p q qs name r' e

      by : (b : Bool) → (p.0 == name) ≡ b → IsOther (p ∷ ps) name (if p.0 == name then first_key ps else Some p.0)
      by true e = subst (λ b. IsOther (p ∷ ps) name (if b then first_key ps else Some p.0)) (sym e) (two ps r (eqb-true p.0 name e))
      by false e = subst (λ b. IsOther (p ∷ ps) name (if b then first_key ps else Some p.0)) (sym e) (first_other p ps name r (λ q. (let w : ◌≡◌ {A = Bool} true false = sym (eq-eqb p.0 name q) ∙ e in cc w)))
