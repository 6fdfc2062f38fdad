-- The terms of shapes: one more at the end, each by its own shape, and different ones of different shapes.
use Rattle.std.specs.Prelude.{ℕ, ℤ, zero, suc, ◌+◌, ◌<◌, ◌≤◌, ◌⊎◌, Bool, List, [], ◌∷◌, ◌++◌, ◌≡◌, ◌≢◌, map, length, slice_get, Option, Some}
use Rattle.std.specs.List.{AllByRecursion}
use Rattle.std.proofs.Common.{refl, sym, ap, ◌∙◌, inl, inr, arith, subst, length-append}
use Rattle.ae_base.proofs.Decided.{decided_yes, decided_of}
use Rattle.std.proofs.lemmas.Option.{slice_get_within}
use Rattle.ae_base.specs.Options.{or_else}
use Rattle.ae_core.specs.Sorts.{same_sort}
use Rattle.ae_core.specs.Decided.{Sort_discrete}
use Rattle.ae_core.specs.declared.terms.Sort.{Sort, Int, Real}
use Rattle.ae_core.specs.declared.terms.Sort.TheOpen as sort_layer
use Rattle.ae_core.specs.declared.terms.Sort.TheVariants.{outs-Int, outs-Real}
use Rattle.ae_core.specs.declared.terms.Sort.{out-Sort, Sort-F}
use Rattle.ae_core.specs.declared.terms.Head.{Head}
use Rattle.ae_core.specs.declared.terms.Term.{Term, Term-F, Bound, Num, Fresh, Apply, out-Term}
use Rattle.ae_core.specs.declared.terms.Term.TheOpen as layer
use Rattle.ae_core.specs.declared.terms.Term.TheVariants.{outs-Apply, outs-Num, outs-Fresh}
use Rattle.ae_store.specs.declared.nodes.NodeHead.{NodeHead}
use Rattle.ae_store.specs.declared.nodes.NodeHead.TheVariants as node
use Rattle.ae_store.specs.declared.nodes.Shape.{Shape}
use Rattle.ae_core.specs.declared.problems.Signature.{Signature}
use Rattle.ae_store.specs.Terms.{named, term_of, terms_after, terms, node_sort, IsAlone, IsShapeAt, HasOneName, Keeps, IsSound, IsPlaced, IsOfSort}
use Rattle.ae_base.proofs.ListFacts.{get_append, value_at}
use Rattle.ae_store.proofs.Gets.{get_last, get_pushed}

length_after : (ts : List Term) (xs : List Shape) → length (terms_after ts xs) ≡ length ts + length xs
length_after ts [] = omega arith
length_after ts (x ∷ xs) = length_after (ts ++ term_of ts x ∷ []) xs ∙ omega (arith, length-append ts (term_of ts x ∷ []))

pub length_terms : (xs : List Shape) → length (terms xs) ≡ length xs
unfolding terms
length_terms xs = length_after [] xs ∙ omega arith

push_after : (ts : List Term) (xs : List Shape) (y : Shape) → terms_after ts (xs ++ y ∷ []) ≡ terms_after ts xs ++ term_of (terms_after ts xs) y ∷ []
push_after ts [] y = refl
push_after ts (x ∷ xs) y = push_after (ts ++ term_of ts x ∷ []) xs y

pub terms_push : (xs : List Shape) (y : Shape) → terms (xs ++ y ∷ []) ≡ terms xs ++ term_of (terms xs) y ∷ []
unfolding terms
terms_push xs y = push_after [] xs y

-- the terms of a list stand at the front of those of a longer one
pub keeps_push : (xs : List Shape) (y : Shape) → Keeps (terms xs) (terms (xs ++ y ∷ []))
keeps_push xs y i t e = ap (λ ts. slice_get ts i) (terms_push xs y) ∙ get_append (terms xs) (term_of (terms xs) y ∷ []) i t e

-- ---- the term of a shape hangs on the terms of its arguments alone
named_kept : (old new : List Term) → Keeps old new → (a : ℕ) → a < length old → named new a ≡ named old a
named_kept old new k a h =
    let g = value_at old a h in
    ap (λ o. or_else o (Bound 0)) (k a g.0 g.1 ∙ sym g.1)

pub all_named_kept : (old new : List Term) → Keeps old new → (names : List ℕ) → AllByRecursion (λ a. a < length old) names → map (named new) names ≡ map (named old) names
all_named_kept old new k [] h = refl
all_named_kept old new k (a ∷ names) h = λ i. named_kept old new k a h.0 i ∷ all_named_kept old new k names h.1 i

term_kept_by : (old new : List Term) → Keeps old new → (h : NodeHead) (x : Shape) → x.head ≡ h → AllByRecursion (λ a. a < length old) x.args → term_of new x ≡ term_of old x
term_kept_by old new k (node.Of h) x e all = cc (e, all_named_kept old new k x.args all)
term_kept_by old new k (node.Num a b) x e all = cc e
term_kept_by old new k (node.Fresh n) x e all = cc e

pub term_kept : (old new : List Term) → Keeps old new → (x : Shape) → AllByRecursion (λ a. a < length old) x.args → term_of new x ≡ term_of old x
term_kept old new k x all = term_kept_by old new k x.head x refl all

-- ---- different shapes have different terms
module _ (ts : List Term) (one : HasOneName ts) where
  name_is : (a b : ℕ) → a < length ts → b < length ts → named ts a ≡ named ts b → a ≡ b
  name_is a b h k e =
      let f = value_at ts a h in
      let g = value_at ts b k in
      let e' : f.0 ≡ g.0 = sym (ap (λ o. or_else o (Bound 0)) f.1) ∙ e ∙ ap (λ o. or_else o (Bound 0)) g.1 in
      one a b g.0 (f.1 ∙ ap Some e') g.1

  names_are : (xs ys : List ℕ) → AllByRecursion (λ a. a < length ts) xs → AllByRecursion (λ a. a < length ts) ys → map (named ts) xs ≡ map (named ts) ys → xs ≡ ys
  names_are [] [] h k e = refl
  names_are [] (y ∷ ys) h k e = cc e
  names_are (x ∷ xs) [] h k e = cc e
  names_are (x ∷ xs) (y ∷ ys) h k e =
      let p : named ts x ≡ named ts y = cc e in
      let q : map (named ts) xs ≡ map (named ts) ys = cc e in
      λ i. name_is x y h.0 k.0 p i ∷ names_are xs ys h.1 k.1 q i

apart : Int ≡ Real → ⊥
apart p = let q : ◌≡◌ {A = Sort-F Sort} sort_layer.Int sort_layer.Real = sym outs-Int ∙ ap out-Sort p ∙ outs-Real in cc q

int_real : same_sort Int Real ≡ same_sort Real Real → ⊥
int_real e = apart (decided_yes (Sort_discrete Int Real) (e ∙ decided_of (Sort_discrete Real Real) refl))

real_is : (s t : Sort) → ((s ≡ Int) ⊎ (s ≡ Real)) → ((t ≡ Int) ⊎ (t ≡ Real)) → same_sort s Real ≡ same_sort t Real → s ≡ t
real_is s t (inl p) (inl q) e = p ∙ sym q
real_is s t (inr p) (inr q) e = p ∙ sym q
real_is s t (inl p) (inr q) e = absurd (int_real (sym (ap (λ z. same_sort z Real) p) ∙ e ∙ ap (λ z. same_sort z Real) q))
real_is s t (inr p) (inl q) e = absurd (int_real (sym (ap (λ z. same_sort z Real) q) ∙ sym e ∙ ap (λ z. same_sort z Real) p))

of_num : (h : Head) (ss : List Sort) (us : List Term) (a b : ℤ) (r : Bool) → Apply h ss us ≡ Num a b r → ⊥
of_num h ss us a b r e = let e2 : ◌≡◌ {A = Term-F Term} (layer.Apply h ss us) (layer.Num a b r) = sym (outs-Apply h ss us) ∙ ap out-Term e ∙ outs-Num a b r in cc e2

of_fresh : (h : Head) (ss : List Sort) (us : List Term) (n : ℕ) (s : Sort) → Apply h ss us ≡ Fresh n s → ⊥
of_fresh h ss us n s e = let e2 : ◌≡◌ {A = Term-F Term} (layer.Apply h ss us) (layer.Fresh n s) = sym (outs-Apply h ss us) ∙ ap out-Term e ∙ outs-Fresh n s in cc e2

num_fresh : (a b : ℤ) (r : Bool) (n : ℕ) (s : Sort) → Num a b r ≡ Fresh n s → ⊥
num_fresh a b r n s e = let e2 : ◌≡◌ {A = Term-F Term} (layer.Num a b r) (layer.Fresh n s) = sym (outs-Num a b r) ∙ ap out-Term e ∙ outs-Fresh n s in cc e2

same_by : (sig : Signature) (ts : List Term) → HasOneName ts → (n : ℕ) → n ≡ length ts → (h k : NodeHead) (x y : Shape) → x.head ≡ h → y.head ≡ k → IsShapeAt sig n x → IsShapeAt sig n y → term_of ts x ≡ term_of ts y → x ≡ y
same_by sig ts one n len (node.Of h) (node.Of k) x y p q u v e =
    let e1 : Apply h x.sorts (map (named ts) x.args) ≡ Apply k y.sorts (map (named ts) y.args) = cc (e, p, q) in
    let e2 : ◌≡◌ {A = Term-F Term} (layer.Apply h x.sorts (map (named ts) x.args)) (layer.Apply k y.sorts (map (named ts) y.args)) =
    sym (outs-Apply h x.sorts (map (named ts) x.args)) ∙ ap out-Term e1 ∙ outs-Apply k y.sorts (map (named ts) y.args) in
    let eh : h ≡ k = cc e2 in
    let es : x.sorts ≡ y.sorts = cc e2 in
    let ea : map (named ts) x.args ≡ map (named ts) y.args = cc e2 in
    let eas : x.args ≡ y.args = names_are ts one x.args y.args (subst (λ m. AllByRecursion (λ a. a < m) x.args) len u.args) (subst (λ m. AllByRecursion (λ a. a < m) y.args) len v.args) ea in
    let ux : IsAlone sig x (node.Of h) = subst (IsAlone sig x) p u.alone in
    let vy : IsAlone sig y (node.Of k) = subst (IsAlone sig y) q v.alone in
    let et : x.sort ≡ y.sort = ux ∙ (λ i. node_sort sig (eh i) (es i)) ∙ sym vy in
    let en : x.head ≡ y.head = p ∙ ap node.Of eh ∙ sym q in
    λ i. record { head = en i; sorts = es i; args = eas i; sort = et i }
same_by sig ts one n len (node.Num a b) (node.Num c d) x y p q u v e =
    let e1 : Num a b (same_sort x.sort Real) ≡ Num c d (same_sort y.sort Real) = cc (e, p, q) in
    let e2 : ◌≡◌ {A = Term-F Term} (layer.Num a b (same_sort x.sort Real)) (layer.Num c d (same_sort y.sort Real)) =
    sym (outs-Num a b (same_sort x.sort Real)) ∙ ap out-Term e1 ∙ outs-Num c d (same_sort y.sort Real) in
    let ea : a ≡ c = cc e2 in
    let eb : b ≡ d = cc e2 in
    let er : same_sort x.sort Real ≡ same_sort y.sort Real = cc e2 in
    let ux : IsAlone sig x (node.Num a b) = subst (IsAlone sig x) p u.alone in
    let vy : IsAlone sig y (node.Num c d) = subst (IsAlone sig y) q v.alone in
    let et : x.sort ≡ y.sort = real_is x.sort y.sort ux.2 vy.2 er in
    let en : x.head ≡ y.head = p ∙ (λ i. node.Num (ea i) (eb i)) ∙ sym q in
    let es : x.sorts ≡ y.sorts = ux.0 ∙ sym vy.0 in
    let eas : x.args ≡ y.args = ux.1 ∙ sym vy.1 in
    λ i. record { head = en i; sorts = es i; args = eas i; sort = et i }
same_by sig ts one n len (node.Fresh a) (node.Fresh c) x y p q u v e =
    let e1 : Fresh a x.sort ≡ Fresh c y.sort = cc (e, p, q) in
    let e2 : ◌≡◌ {A = Term-F Term} (layer.Fresh a x.sort) (layer.Fresh c y.sort) = sym (outs-Fresh a x.sort) ∙ ap out-Term e1 ∙ outs-Fresh c y.sort in
    let ea : a ≡ c = cc e2 in
    let et : x.sort ≡ y.sort = cc e2 in
    let ux : IsAlone sig x (node.Fresh a) = subst (IsAlone sig x) p u.alone in
    let vy : IsAlone sig y (node.Fresh c) = subst (IsAlone sig y) q v.alone in
    let en : x.head ≡ y.head = p ∙ ap node.Fresh ea ∙ sym q in
    let es : x.sorts ≡ y.sorts = ux.0 ∙ sym vy.0 in
    let eas : x.args ≡ y.args = ux.1 ∙ sym vy.1 in
    λ i. record { head = en i; sorts = es i; args = eas i; sort = et i }
same_by sig ts one n len (node.Of h) (node.Num c d) x y p q u v e = absurd (of_num h x.sorts (map (named ts) x.args) c d (same_sort y.sort Real) (cc (e, p, q)))
same_by sig ts one n len (node.Num c d) (node.Of h) x y p q u v e = absurd (of_num h y.sorts (map (named ts) y.args) c d (same_sort x.sort Real) (cc (e, p, q)))
same_by sig ts one n len (node.Of h) (node.Fresh c) x y p q u v e = absurd (of_fresh h x.sorts (map (named ts) x.args) c y.sort (cc (e, p, q)))
same_by sig ts one n len (node.Fresh c) (node.Of h) x y p q u v e = absurd (of_fresh h y.sorts (map (named ts) y.args) c x.sort (cc (e, p, q)))
same_by sig ts one n len (node.Num a b) (node.Fresh c) x y p q u v e = absurd (num_fresh a b (same_sort x.sort Real) c y.sort (cc (e, p, q)))
same_by sig ts one n len (node.Fresh c) (node.Num a b) x y p q u v e = absurd (num_fresh a b (same_sort y.sort Real) c x.sort (cc (e, p, q)))

pub same_terms_same_shapes : (sig : Signature) (ts : List Term) → HasOneName ts → (n : ℕ) → n ≡ length ts → (x y : Shape) → IsShapeAt sig n x → IsShapeAt sig n y → term_of ts x ≡ term_of ts y → x ≡ y
same_terms_same_shapes sig ts one n len x y = same_by sig ts one n len x.head y.head x y refl refl

-- ---- the term at a place is that of the shape there
keeps_after : (ts : List Term) (xs : List Shape) → Keeps ts (terms_after ts xs)
keeps_after ts [] i t e = e
keeps_after ts (x ∷ xs) i t e = keeps_after (ts ++ term_of ts x ∷ []) xs i t (get_append ts (term_of ts x ∷ []) i t e)

after_append : (ts : List Term) (xs more : List Shape) → terms_after ts (xs ++ more) ≡ terms_after (terms_after ts xs) more
after_append ts [] more = refl
after_append ts (x ∷ xs) more = after_append (ts ++ term_of ts x ∷ []) xs more

pub keeps_append : (xs more : List Shape) → Keeps (terms xs) (terms (xs ++ more))
unfolding terms
keeps_append xs more i t e = ap (λ ts. slice_get ts i) (after_append [] xs more) ∙ keeps_after (terms_after [] xs) more i t e

at_after : (ts : List Term) (xs : List Shape) → ((j : ℕ) (y : Shape) → slice_get xs j ≡ Some y → AllByRecursion (λ a. a < length ts + j) y.args)
    → (i : ℕ) (x : Shape) → slice_get xs i ≡ Some x → slice_get (terms_after ts xs) (length ts + i) ≡ Some (term_of (terms_after ts xs) x)
at_after ts [] all i x e = cc e
at_after ts (y ∷ xs) all zero x e =
    let e' : y ≡ x = cc e in
    let new : List Term = terms_after ts (y ∷ xs) in
    let len : length ts + 0 ≡ length ts = omega arith in
    let within : AllByRecursion (λ a. a < length ts) y.args = subst (λ n. AllByRecursion (λ a. a < n) y.args) len (all 0 y refl) in
    let kept : term_of new y ≡ term_of ts y = term_kept ts new (keeps_after ts (y ∷ xs)) y within in
    ap (slice_get new) len ∙ keeps_after (ts ++ term_of ts y ∷ []) xs (length ts) (term_of ts y) (get_last ts (term_of ts y)) ∙ ap Some (sym kept ∙ ap (term_of new) e')
at_after ts (y ∷ xs) all (suc i) x e =
    let ts' : List Term = ts ++ term_of ts y ∷ [] in
    let len : (j : ℕ) → length ts' + j ≡ length ts + suc j = λ j. omega (arith, length-append ts (term_of ts y ∷ [])) in
    let all' : (j : ℕ) (z : Shape) → slice_get xs j ≡ Some z → AllByRecursion (λ a. a < length ts' + j) z.args = λ j z f. subst (λ n. AllByRecursion (λ a. a < n) z.args) (sym (len j)) (all (suc j) z f) in
    ap (slice_get (terms_after ts' xs)) (sym (len i)) ∙ at_after ts' xs all' i x e

pub widened : (m n : ℕ) → m ≤ n → (names : List ℕ) → AllByRecursion (λ a. a < m) names → AllByRecursion (λ a. a < n) names
widened m n h [] all = tt
widened m n h (a ∷ names) all = let h0 : a < m = all.0 in (omega arith, widened m n h names all.1)

module _ (sig : Signature) (xs : List Shape) (sound : IsSound sig xs) where
  pub term_at : (i : ℕ) (x : Shape) → slice_get xs i ≡ Some x → slice_get (terms xs) i ≡ Some (term_of (terms xs) x)
  unfolding terms
  term_at i x e =
      let z : 0 + i ≡ i = omega arith in
      ap (slice_get (terms xs)) (sym z)
      ∙ at_after [] xs (λ j y f. subst (λ n. AllByRecursion (λ a. a < n) y.args) (let w : j ≡ 0 + j = omega arith in w) ((sound.places j y f).args)) i x e

  pub wide : (n : ℕ) (i : ℕ) (x : Shape) → slice_get xs i ≡ Some x → length xs ≤ n → IsShapeAt sig n x
  wide n i x e h =
      let p = sound.places i x e in
      let l : i < length xs = slice_get_within xs i x e in
      record { args = widened i n (omega arith) x.args p.args; alone = p.alone }

  -- one more shape, which isn't there yet
  pub sound_push : (x : Shape) → IsShapeAt sig (length xs) x → ((i : ℕ) → slice_get xs i ≢ Some x) → IsOfSort sig (term_of (terms xs) x) x.sort → IsSound sig (xs ++ x ∷ [])
  sound_push x at new of = record {
    sorted = record { each = sorted };
    places = places;
    one_name = λ i j t e f. one i j t (subst (λ ts. slice_get ts i ≡ Some t) (terms_push xs x) e)
        (subst (λ ts. slice_get ts j ≡ Some t) (terms_push xs x) f);
  }
    where
      places : (i : ℕ) (y : Shape) → slice_get (xs ++ x ∷ []) i ≡ Some y → IsShapeAt sig i y
      places i y e = elim (get_pushed xs x i y e) [
        | inl h ↦ sound.places i y h
        | inr h ↦ subst (λ n. IsShapeAt sig n y) (sym h.0) (subst (IsShapeAt sig (length xs)) h.1 at)
      ]

      sorted : (i : ℕ) (y : Shape) (t : Term) → slice_get (xs ++ x ∷ []) i ≡ Some y → slice_get (terms (xs ++ x ∷ [])) i ≡ Some t → IsOfSort sig t y.sort
      sorted i y t e f = elim (get_pushed xs x i y e) [
        | inl h ↦ (
            let l : i < length xs = slice_get_within xs i y h in
            let g = value_at (terms xs) i (omega (arith, l, length_terms xs)) in
            let w : ◌≡◌ {A = Option Term} (Some g.0) (Some t) = sym (keeps_push xs x i g.0 g.1) ∙ f in
            sound.sorted.each i y t h (g.1 ∙ w))
        | inr h ↦ (
            let n : length xs ≡ length (terms xs) = sym (length_terms xs) in
            let a : slice_get (terms (xs ++ x ∷ [])) i ≡ Some (term_of (terms xs) x) = ap (λ ts. slice_get ts i) (terms_push xs x) ∙ ap (slice_get (terms xs ++ term_of (terms xs) x ∷ [])) (h.0 ∙ n) ∙
            get_last (terms xs) (term_of (terms xs) x) in
            let w : ◌≡◌ {A = Option Term} (Some (term_of (terms xs) x)) (Some t) = sym a ∙ f in
            let u : term_of (terms xs) x ≡ t = cc w in
            subst (λ (z : Shape). IsOfSort sig t z.sort) h.1 (subst (λ r. IsOfSort sig r x.sort) u of))
      ]

      other : (i : ℕ) (t : Term) → slice_get (terms xs) i ≡ Some t → term_of (terms xs) x ≡ t → ⊥
      other i t e f =
          let l : i < length (terms xs) = slice_get_within (terms xs) i t e in
          let l' : i < length xs = omega (arith, l, length_terms xs) in
          let y = value_at xs i l' in
          let at' = term_at i y.0 y.1 in
          let same : term_of (terms xs) y.0 ≡ term_of (terms xs) x = cc (e, f, at') in
          let is : y.0 ≡ x = same_terms_same_shapes sig (terms xs) sound.one_name (length xs) (sym (length_terms xs)) y.0 x (wide (length xs) i y.0 y.1 (omega arith)) at same in
          new i (y.1 ∙ ap Some is)

      one : (i j : ℕ) (t : Term) → slice_get (terms xs ++ term_of (terms xs) x ∷ []) i ≡ Some t → slice_get (terms xs ++ term_of (terms xs) x ∷ []) j ≡ Some t → i ≡ j
      one i j t e f = elim (get_pushed (terms xs) (term_of (terms xs) x) i t e) [
        | inl p ↦ elim (get_pushed (terms xs) (term_of (terms xs) x) j t f) [
          | inl q ↦ sound.one_name i j t p q
          | inr q ↦ absurd (other i t p q.1)
        ]
        | inr p ↦ elim (get_pushed (terms xs) (term_of (terms xs) x) j t f) [
          | inl q ↦ absurd (other j t q p.1)
          | inr q ↦ p.0 ∙ sym q.0
        ]
      ]

pub term_placed : (xs : List Shape) → IsPlaced xs → (i : ℕ) (x : Shape) → slice_get xs i ≡ Some x → slice_get (terms xs) i ≡ Some (term_of (terms xs) x)
unfolding terms
term_placed xs placed i x e =
    let z : 0 + i ≡ i = omega arith in
    ap (slice_get (terms xs)) (sym z)
    ∙ at_after [] xs (λ j y f. subst (λ n. AllByRecursion (λ a. a < n) y.args) (let w : j ≡ 0 + j = omega arith in w) (placed.args j y f)) i x e

pub placed : (sig : Signature) (xs : List Shape) → IsSound sig xs → IsPlaced xs
placed sig xs s = record { args = λ i x e. (s.places i x e).args }

pub sound_none : (sig : Signature) → IsSound sig []
unfolding terms
sound_none sig = record { sorted = record { each = λ i x t e f. cc e }; places = λ i x e. cc e; one_name = λ i j t e f. cc e }
