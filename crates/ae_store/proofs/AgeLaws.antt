-- Generations after some places are aged.
use Rattle.std.specs.Prelude.{ℕ, zero, suc, min, ◌<◌, ◌⊎◌, List, [], ◌∷◌, ◌++◌, ◌≡◌, length, get_or, slice_get, Option, Some}
use Rattle.std.proofs.Common.{refl, sym, ap, ◌∙◌, subst, arith, inl, inr}
use Rattle.ae_store.proofs.Gets.{below_at}
use Rattle.std.proofs.lemmas.List.{length-map}
use Rattle.std.proofs.lemmas.Option.{slice_get_within}
use Rattle.ae_core.specs.declared.problems.Signature.{Signature}
use Rattle.ae_store.specs.declared.nodes.Node.{Node}
use Rattle.ae_store.specs.declared.nodes.Shape.{Shape}
use Rattle.ae_store.specs.Shapes.{shape_of, shapes, aged, aged_at, aged_all}
use Rattle.ae_store.specs.Terms.{terms, term_of, IsSound}
use Rattle.ae_store.specs.Names.{AreWithin}
use Rattle.ae_store.specs.Growing.{IsFront}
use Rattle.ae_store.specs.Parts.{IsIn, IsPart, root, argument, field, HasAges, IsTouched, Added}
use Rattle.ae_base.proofs.ListFacts.{value_at}
use Rattle.ae_store.proofs.TermLaws.{term_at}
use Rattle.ae_store.proofs.TableLaws.{shapes_aged}
use Rattle.ae_store.proofs.PartLaws.{in_none, is_one, node_kept}

least_twice : (n g : ℕ) → min (min n g) g ≡ min n g
least_twice n g = omega arith

least_same : (g : ℕ) → min g g ≡ g
least_same g = omega arith

aged_twice : (g : ℕ) (x : Node) → aged g (aged g x) ≡ aged g x
aged_twice g x = λ i. record x { generation = least_twice x.generation g i }

pub aged_push : (g p : ℕ) (ps : List ℕ) (ns : List Node) → aged_all g (ps ++ p ∷ []) ns ≡ aged_at g p (aged_all g ps ns)
aged_push g p [] ns = refl
aged_push g p (q ∷ ps) ns = aged_push g p ps (aged_at g q ns)

pub shapes_aged_all : (g : ℕ) (ps : List ℕ) (ns : List Node) → shapes (aged_all g ps ns) ≡ shapes ns
shapes_aged_all g [] ns = refl
shapes_aged_all g (p ∷ ps) ns = shapes_aged_all g ps (aged_at g p ns) ∙ shapes_aged g p ns

aged_here : (g i : ℕ) (ns : List Node) (x : Node) → slice_get ns i ≡ Some x → slice_get (aged_at g i ns) i ≡ Some (aged g x)
aged_here g i [] x e = cc e
aged_here g zero (n ∷ ns) x e = let f : n ≡ x = cc e in ap (λ (y : Node). Some (aged g y)) f
aged_here g (suc i) (n ∷ ns) x e = aged_here g i ns x e

aged_or : (g i : ℕ) (ns : List Node) (m : ℕ) (x : Node) → slice_get ns m ≡ Some x → (slice_get (aged_at g i ns) m ≡ Some x) ⊎ (slice_get (aged_at g i ns) m ≡ Some (aged g x))
aged_or g i [] m x e = cc e
aged_or g zero (n ∷ ns) zero x e = let f : n ≡ x = cc e in inr (ap (λ (y : Node). Some (aged g y)) f)
aged_or g zero (n ∷ ns) (suc m) x e = inl e
aged_or g (suc i) (n ∷ ns) zero x e = inl e
aged_or g (suc i) (n ∷ ns) (suc m) x e = aged_or g i ns m x e

aged_other : (g i : ℕ) (ns : List Node) (m : ℕ) → (slice_get (aged_at g i ns) m ≡ slice_get ns m) ⊎ (m ≡ i)
aged_other g i [] m = inl refl
aged_other g zero (n ∷ ns) zero = inr refl
aged_other g zero (n ∷ ns) (suc m) = inl refl
aged_other g (suc i) (n ∷ ns) zero = inl refl
aged_other g (suc i) (n ∷ ns) (suc m) = elim (aged_other g i ns m) [ inl e ↦ inl e | inr e ↦ inr (ap suc e) ]

stays : (g : ℕ) (ps : List ℕ) (ns : List Node) (m : ℕ) (x : Node) → slice_get ns m ≡ Some (aged g x) → slice_get (aged_all g ps ns) m ≡ Some (aged g x)
stays g [] ns m x e = e
stays g (p ∷ ps) ns m x e = elim (aged_or g p ns m (aged g x) e) [ inl f ↦ stays g ps (aged_at g p ns) m x f | inr f ↦ stays g ps (aged_at g p ns) m x (f ∙ ap Some (aged_twice g x)) ]

aged_among : (g : ℕ) (ps : List ℕ) (ns : List Node) (m : ℕ) (x : Node) (i : ℕ) → slice_get ps i ≡ Some m → slice_get ns m ≡ Some x → slice_get (aged_all g ps ns) m ≡ Some (aged g x)
aged_among g [] ns m x i h e = cc h
aged_among g (p ∷ ps) ns m x zero h e = let q : p ≡ m = cc h in stays g ps (aged_at g p ns) m x (subst (λ k. slice_get (aged_at g k ns) m ≡ Some (aged g x)) (sym q) (aged_here g m ns x e))
aged_among g (p ∷ ps) ns m x (suc i) h e = elim (aged_or g p ns m x e) [ inl f ↦ aged_among g ps (aged_at g p ns) m x i h f | inr f ↦ stays g ps (aged_at g p ns) m x f ]

pub aged_in : (g : ℕ) (ps : List ℕ) (ns : List Node) (m : ℕ) (x : Node) → IsIn m ps → slice_get ns m ≡ Some x → slice_get (aged_all g ps ns) m ≡ Some (aged g x)
aged_in g ps ns m x h e = aged_among g ps ns m x h.place h.is e

pub aged_out : (g : ℕ) (ps : List ℕ) (ns : List Node) (m : ℕ) → (slice_get (aged_all g ps ns) m ≡ slice_get ns m) ⊎ IsIn m ps
aged_out g [] ns m = inl refl
aged_out g (p ∷ ps) ns m = elim (aged_out g ps (aged_at g p ns) m) [
  | inl e ↦ elim (aged_other g p ns m) [ inl f ↦ inl (e ∙ f) | inr q ↦ inr (record { place = 0; is = ap Some (sym q) }) ]
  | inr h ↦ inr (record { place = suc h.place; is = h.is })
]

-- ---- the names that entering a term touches are its parts
module _ (sig : Signature) (g : ℕ) (ns ms : List Node) (T : List ℕ) (n : ℕ) (sound : IsSound sig (shapes ms)) (front : IsFront ns ms) (added : Added sig g ns ms [] T (n ∷ [])) (here : IsIn n T) where
  touched : (m : ℕ) → IsIn m T → IsTouched sig (shapes ms) T (n ∷ []) m
  touched m h = elim (added.each m h) [ inl q ↦ absurd (in_none m q) | inr t ↦ t ]

  alike : (i j : ℕ) (x : Shape) → slice_get (shapes ms) i ≡ Some x → slice_get (shapes ms) j ≡ Some x → i ≡ j
  alike i j x e f = sound.one_name i j (term_of (terms (shapes ms)) x) (term_at sig (shapes ms) sound i x e) (term_at sig (shapes ms) sound j x f)

  part_touched : (m : ℕ) → IsPart sig (shapes ms) (n ∷ []) m → IsIn m T
  part_touched m (root k h) = subst (λ r. IsIn r T) (sym (is_one m n h)) here
  part_touched m (argument k x a p e h) = ((touched k (part_touched k p)).args x e).each m h
  part_touched m (field k x j b p e l h) =
      let f = ((touched k (part_touched k p)).fields x e).each j l in
      subst (λ r. IsIn r T) (alike f.name m _ f.at h) f.within

  pub ages : (zs : List Node) → zs ≡ aged_all g T ms → HasAges sig g ns zs n
  ages zs z =
      let sh : shapes zs ≡ shapes ms = ap shapes z ∙ shapes_aged_all g T ms in
      let len : length zs ≡ length ms = sym (length-map zs shape_of) ∙ ap length sh ∙ length-map ms shape_of in
      record {
        parts = λ m x e p. ap (λ l. slice_get l m) z ∙ aged_in g T ms m x (part_touched m (subst (λ xs. IsPart sig xs (n ∷ []) m) sh p)) (node_kept ns ms front m x e);
        others = λ m l. elim (aged_out g T ms m) [
          | inl e ↦ inl (let q = value_at ns m l in ap (λ l. slice_get l m) z ∙ e ∙ node_kept ns ms front m q.0 q.1 ∙ sym q.1)
          | inr h ↦ inr (subst (λ xs. IsPart sig xs (n ∷ []) m) (sym sh) (touched m h).under)
        ];
        news = λ m y l e.
            let w : m < length zs = slice_get_within zs m y e in
            let w' : m < length ms = omega (arith, w, len) in
            let h : IsIn m T = added.news m l w' in
            let q = value_at ms m w' in
            let a : slice_get zs m ≡ Some (aged g q.0) = ap (λ l. slice_get l m) z ∙ aged_in g T ms m q.0 h q.1 in
            let t : ◌≡◌ {A = Option Node} (Some (aged g q.0)) (Some y) = sym a ∙ e in
            let u : aged g q.0 ≡ y = cc t in
            let v : q.0.generation ≡ g = added.given.each m q.0 l q.1 in (
              ap (λ (x : Node). x.generation) (sym u) ∙ ap (λ k. min k g) v ∙ least_same g,
              subst (λ xs. IsPart sig xs (n ∷ []) m) (sym sh) (touched m h).under,
            );
      }

aged_length : (g : ℕ) (ps : List ℕ) (ns : List Node) → length (aged_all g ps ns) ≡ length ns
aged_length g ps ns = sym (length-map (aged_all g ps ns) shape_of) ∙ ap length (shapes_aged_all g ps ns) ∙ length-map ns shape_of

pub aged_within : (g : ℕ) (ps us : List ℕ) (ns zs : List Node) (k : ℕ) → zs ≡ aged_all g ps ns → AreWithin (length ns) us → k < length us → get_or us k 0 < length zs
aged_within g ps us ns zs k e w l =
    let a : get_or us k 0 < length ns = below_at (length ns) us k w.all l in
    let b : length zs ≡ length ns = ap length e ∙ aged_length g ps ns in
    omega (arith, a, b)
