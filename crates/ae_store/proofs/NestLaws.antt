-- A part of a name keeps at most the name's generation when a term is entered.
use Rattle.std.specs.Prelude.{ℕ, min, ◌<◌, ◌≤◌, List, [], ◌∷◌, ◌≡◌, length, slice_get, Option, Some}
use Rattle.std.proofs.Common.{sym, ap, ◌∙◌, subst, arith, inl, inr}
use Rattle.std.proofs.lemmas.Bool.{cases_lt}
use Rattle.std.proofs.lemmas.List.{length-map}
use Rattle.std.proofs.lemmas.Option.{slice_get_within}
use Rattle.ae_base.proofs.AllOf.{all_at}
use Rattle.ae_base.proofs.ListFacts.{value_at}
use Rattle.ae_core.specs.declared.problems.Signature.{Signature}
use Rattle.ae_store.specs.declared.nodes.Node.{Node}
use Rattle.ae_store.specs.declared.nodes.Shape.{Shape}
use Rattle.ae_store.specs.Shapes.{shape_of, shapes, aged}
use Rattle.ae_store.specs.Terms.{terms, term_of, applied, IsSound}
use Rattle.ae_store.specs.Growing.{IsFront}
use Rattle.ae_store.specs.Fields.{field_head, sort_args, HasFields}
use Rattle.ae_store.specs.Parts.{IsPart, root, argument, field, HasAges, AreNested}
use Rattle.ae_store.proofs.TermLaws.{term_at}
use Rattle.ae_store.proofs.FieldLaws.{shape_kept}
use Rattle.ae_store.proofs.PartLaws.{is_one, shape_back, part_under}

pub none_nested : (sig : Signature) (nodes : List Node) → nodes ≡ [] → AreNested sig nodes
none_nested sig nodes e = record { each = λ n m x y p f g. (let h : slice_get [] n ≡ Some x = subst (λ l. slice_get l n ≡ Some x) e f in cc h) }

module _ (sig : Signature) (ns ms : List Node) (front : IsFront ns ms) (old : IsSound sig (shapes ns)) (sound : IsSound sig (shapes ms)) (full : HasFields sig (shapes ns)) where
  same_name : (i j : ℕ) (x : Shape) → slice_get (shapes ms) i ≡ Some x → slice_get (shapes ms) j ≡ Some x → i ≡ j
  same_name i j x e f = sound.one_name i j (term_of (terms (shapes ms)) x) (term_at sig (shapes ms) sound i x e) (term_at sig (shapes ms) sound j x f)

  -- the parts of a name that was there were there
  part_back : (k m : ℕ) → k < length (shapes ns) → IsPart sig (shapes ms) (k ∷ []) m → (m < length (shapes ns)) × IsPart sig (shapes ns) (k ∷ []) m
  part_back k m l (root r h) = (subst (λ a. a < length (shapes ns)) (sym (is_one m k h)) l, root m h)
  part_back k m l (argument j x a p e h) =
      let q = part_back k j l p in
      let o : slice_get (shapes ns) j ≡ Some x = shape_back ns ms front j x q.0 e in
      let w : m < j = all_at (λ b. b < j) x.args h.place m (old.places j x o).args h.is in
      let low : j < length (shapes ns) = q.0 in
      (omega (arith, w, low), argument j x m q.1 o h)
  part_back k m l (field j x c b p e d h) =
      let q = part_back k j l p in
      let o : slice_get (shapes ns) j ≡ Some x = shape_back ns ms front j x q.0 e in
      let f = (full.each j q.0).fields x c o d in
      let same : f.name ≡ m = same_name f.name m _ (shape_kept ns ms front f.name _ f.at) h in
      let low : f.name < length (shapes ns) = slice_get_within (shapes ns) f.name _ f.at in (
        subst (λ r. r < length (shapes ns)) same low,
        field j x c m q.1 o d (subst (λ r. slice_get (shapes ns) r ≡ Some (applied sig (field_head x.sort c) (sort_args x.sort) (j ∷ []))) same f.at),
      )

  module _ (g n : ℕ) (zs : List Node) (sh : shapes zs ≡ shapes ms) (ages : HasAges sig g ns zs n) (was : AreNested sig ns) where
    -- a part of the term that is entered, which was there
    least_at : (m : ℕ) (x y : Node) → slice_get ns m ≡ Some x → slice_get zs m ≡ Some y → IsPart sig (shapes zs) (n ∷ []) m → y.generation ≡ min x.generation g
    least_at m x y e f p =
        let t : ◌≡◌ {A = Option Node} (Some (aged g x)) (Some y) = sym (ages.parts m x e p) ∙ f in
        let u : aged g x ≡ y = cc t in
        ap (λ (z : Node). z.generation) (sym u)

    -- the generation of a name that was there doesn't rise
    falls : (m : ℕ) (x y : Node) → slice_get ns m ≡ Some x → slice_get zs m ≡ Some y → y.generation ≤ x.generation
    falls m x y e f = elim (ages.others m (slice_get_within ns m x e)) [
      | inl same ↦ (let t : ◌≡◌ {A = Option Node} (Some x) (Some y) = sym e ∙ sym same ∙ f in let u : x ≡ y = cc t in let v : x.generation ≡ y.generation = ap (λ (z : Node). z.generation) u in omega (arith, v))
      | inr p ↦ (let v = least_at m x y e f p in omega (arith, v))
    ]

    -- a part of the term that is entered
    entered : (m : ℕ) (y : Node) → slice_get zs m ≡ Some y → IsPart sig (shapes zs) (n ∷ []) m → y.generation ≤ g
    entered m y f p = elim (cases_lt m (length ns)) [
      | inl b ↦ (let x = value_at ns m b in let v = least_at m x.0 y x.1 f p in omega (arith, v))
      | inr b ↦ (let v : y.generation ≡ g = (ages.news m y b f).0 in omega (arith, v))
    ]

    below_part : (k m : ℕ) → IsPart sig (shapes zs) (n ∷ []) k → IsPart sig (shapes zs) (k ∷ []) m → IsPart sig (shapes zs) (n ∷ []) m
    below_part k m p q = part_under sig (shapes zs) (k ∷ []) (n ∷ []) m (λ r h. subst (IsPart sig (shapes zs) (n ∷ [])) (sym (is_one r k h)) p) q

    old_pair : (k m : ℕ) (x y : Node) → k < length ns → IsPart sig (shapes zs) (k ∷ []) m → slice_get zs k ≡ Some x → slice_get zs m ≡ Some y → y.generation ≤ x.generation
    old_pair k m x y b p e f =
        let q = part_back k m (let z = length-map ns shape_of in omega (arith, b, z)) (subst (λ xs. IsPart sig xs (k ∷ []) m) sh p) in
        let low : m < length (shapes ns) = q.0 in
        let x0 = value_at ns k b in
        let y0 = value_at ns m (let z = length-map ns shape_of in omega (arith, low, z)) in
        let nest : y0.0.generation ≤ x0.0.generation = was.each k m x0.0 y0.0 q.1 x0.1 y0.1 in
        elim (ages.others k b) [
          | inl same ↦
              let t : ◌≡◌ {A = Option Node} (Some x0.0) (Some x) = sym x0.1 ∙ sym same ∙ e in
              let u : x0.0 ≡ x = cc t in
              let v : x0.0.generation ≡ x.generation = ap (λ (z : Node). z.generation) u in
              let w = falls m y0.0 y y0.1 f in
              omega (arith, nest, v, w)
          | inr r ↦
              let v = least_at k x0.0 x x0.1 e r in
              let w = least_at m y0.0 y y0.1 f (below_part k m r p) in
              omega (arith, nest, v, w)
        ]

    pub nested : AreNested sig zs
    nested = record {
      each = λ k m x y p e f. elim (cases_lt k (length ns)) [
        | inl b ↦ old_pair k m x y b p e f
        | inr b ↦ (let r = ages.news k x b e in let v : x.generation ≡ g = r.0 in let w = entered m y f (below_part k m r.1 p) in omega (arith, v, w))
      ];
    }
