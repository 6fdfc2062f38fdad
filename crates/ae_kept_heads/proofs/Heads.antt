-- What an index of names says of nodes it says of their shapes, and a term tells its shape.
use Rattle.std.specs.Prelude.{ℕ, suc, ◌≤◌, Bool, true, false, List, [], ◌∷◌, ◌++◌, ◌≡◌, length, filter, take, slice_get, Option, Some, None}
use Rattle.std.specs.Option.{option_map}
use Rattle.std.proofs.Common.{refl, sym, ap, ◌∙◌, subst, arith}
use Rattle.std.proofs.lemmas.List.{length-map, take-append-le, take-map}
use Rattle.std.proofs.lemmas.Option.{same_Some, slice_get-map, slice_get_within}
use Rattle.ae_base.specs.Decided.{decided}
use Rattle.ae_base.specs.Options.{or_else, ◌>>=◌}
use Rattle.ae_base.proofs.ListFacts.{value_at}
use Rattle.ae_base.proofs.Options.{mapped_some, never_some}
use Rattle.ae_core.specs.declared.problems.Signature.{Signature}
use Rattle.ae_journal.specs.Triggers.{numbers_below}
use Rattle.ae_known.specs.Index.{HasHeads, NodeHead_discrete, has_head, is_listed, names_where, passes_at, with_argument}
use Rattle.ae_known.specs.declared.known.Known.{Known}
use Rattle.ae_store.proofs.TermLaws.{length_terms, placed, same_terms_same_shapes, term_kept, term_placed, widened}
use Rattle.ae_store.specs.Shapes.{shape_of, shapes}
use Rattle.ae_store.specs.Stores.{IsStore, Stored}
use Rattle.ae_store.specs.Terms.{IsShapeAt, Keeps, term_of, terms}
use Rattle.ae_store.specs.declared.nodes.Node.{Node}
use Rattle.ae_store.specs.declared.nodes.NodeHead.{NodeHead}
use Rattle.ae_store.specs.declared.nodes.Shape.{Shape}

-- ---- the index, by shapes
abbrev applies : NodeHead → Option Shape → Bool
applies h o = or_else (o >>= λ x. Some (decided (NodeHead_discrete x.head h))) false

abbrev names_applying : NodeHead → List Shape → List ℕ
names_applying h xs = filter (λ n. applies h (slice_get xs n)) (numbers_below (length xs))

passes_by_shape : (h : NodeHead) (ns : List Node) (n : ℕ) → passes_at (has_head h) ns n ≡ applies h (slice_get (shapes ns) n)
passes_by_shape h ns n = from (slice_get ns n) ∙ ap (applies h) (sym (slice_get-map shape_of ns n))
  where
    from : (o : Option Node) → or_else (o >>= λ x. Some (has_head h x)) false ≡ applies h (option_map shape_of o)
    from None = refl
    from (Some x) = refl

names_by_shapes : (h : NodeHead) (ns : List Node) → names_where (has_head h) ns ≡ names_applying h (shapes ns)
names_by_shapes h ns = λ i. filter (λ n. passes_by_shape h ns n i) (numbers_below (sym (length-map ns shape_of) i))

module _ (ms ns : List Node) (same : shapes ms ≡ shapes ns) where
  -- the node of the same name has the same shape
  other : (n : ℕ) (x : Node) → slice_get ns n ≡ Some x → (y : Node) × (slice_get ms n ≡ Some y) × (shape_of y ≡ shape_of x)
  other n x e =
      mapped_some shape_of (slice_get ms n) (shape_of x)
      (sym (slice_get-map shape_of ms n) ∙ ap (λ (xs : List Shape). slice_get xs n) same ∙ slice_get-map shape_of ns n ∙ ap (option_map shape_of) e)

  listed : (k : Known) → HasHeads ms k → (n : ℕ) (x : Node) → slice_get ns n ≡ Some x → (place a : ℕ) → slice_get x.args place ≡ Some a → is_listed n (with_argument k x.head place a) ≡ true
  listed k h n x e place a i =
      let w = other n x e in
      let args : (w.0).args ≡ x.args = ap (λ (z : Shape). z.args) w.2 in
      ap (λ (z : Shape). is_listed n (with_argument k z.head place a)) (sym w.2) ∙ h.arguments n w.0 w.1 place a (ap (λ (zs : List ℕ). slice_get zs place) args ∙ i)

  pub heads_by_shapes : (k : Known) → HasHeads ms k → HasHeads ns k
  heads_by_shapes k h = record {
    heads = λ a. h.heads a ∙ names_by_shapes a ms ∙ ap (names_applying a) same ∙ sym (names_by_shapes a ns);
    arguments = λ n x e place a i. listed k h n x e place a i;
  }

-- ---- what keeps each element at its place begins with them all
begins_with : {X : Type 0} (xs ys : List X) → ((i : ℕ) (x : X) → slice_get xs i ≡ Some x → slice_get ys i ≡ Some x) → (more : List X) × (ys ≡ xs ++ more)
begins_with [] ys k = (ys, refl)
begins_with (x ∷ xs) [] k = never_some x (k 0 x refl)
begins_with (x ∷ xs) (y ∷ ys) k =
    let r = begins_with xs ys (λ i w h. k (suc i) w h) in
    let q : y ≡ x = same_Some y x (k 0 x refl) in
    (r.0, λ i. q i ∷ r.1 i)

-- ---- names that keep their terms keep their shapes
module _ (sig : Signature) (old new : List Node) (one : IsStore sig old) (two : IsStore sig new) (keeps : Keeps (terms (shapes old)) (terms (shapes new))) where
  shape_stays : (i : ℕ) (x : Shape) → slice_get (shapes old) i ≡ Some x → slice_get (shapes new) i ≡ Some x
  shape_stays i x e =
      let ts = terms (shapes old) in
      let us = terms (shapes new) in
      let at_x : slice_get us i ≡ Some (term_of ts x) = keeps i (term_of ts x) (term_placed (shapes old) (placed sig (shapes old) one.sound) i x e) in
      let in_new = slice_get_within us i (term_of ts x) at_x in
      let w = value_at (shapes new) i (omega (arith, in_new, length_terms (shapes new))) in
      let y = w.0 in
      let at_y : slice_get us i ≡ Some (term_of us y) = term_placed (shapes new) (placed sig (shapes new) two.sound) i y w.1 in
      let of_x = (one.sound).places i x e in
      let of_y = (two.sound).places i y w.1 in
      let in_old = slice_get_within (shapes old) i x e in
      let kept : term_of us x ≡ term_of ts x = term_kept ts us keeps x (widened i (length ts) (omega (arith, in_old, length_terms (shapes old))) x.args of_x.args) in
      let same : term_of us x ≡ term_of us y = kept ∙ same_Some (term_of ts x) (term_of us y) (sym at_x ∙ at_y) in
      let wide : (z : Shape) → IsShapeAt sig i z → IsShapeAt sig (length us) z = λ z a. record { args = widened i (length us) (omega (arith, in_new)) z.args a.args; alone = a.alone } in
      w.1 ∙ ap (λ (z : Shape). Some z) (sym (same_terms_same_shapes sig us (two.sound).one_name (length us) refl x y (wide x of_x) (wide y of_y) same))

  pub first_shapes : (n : ℕ) → n ≤ length old → shapes (take n old) ≡ shapes (take n new)
  first_shapes n inside =
      let r = begins_with (shapes old) (shapes new) shape_stays in
      sym (take-map shape_of n old) ∙ sym (take-append-le n (shapes old) r.0 (omega (arith, inside, length-map old shape_of))) ∙ ap (take n) (sym r.1) ∙ take-map shape_of n new

pub heads_stay : (n : ℕ) (old new : Stored) (k : Known) → IsStore old.signature old.nodes → IsStore new.signature new.nodes → new.signature ≡ old.signature
    → Keeps (terms (shapes old.nodes)) (terms (shapes new.nodes)) → n ≤ length old.nodes → HasHeads (take n old.nodes) k → HasHeads (take n new.nodes) k
heads_stay n old new k one two signature keeps inside h =
    heads_by_shapes (take n old.nodes) (take n new.nodes)
    (first_shapes old.signature old.nodes new.nodes one (subst (λ (sig : Signature). IsStore sig new.nodes) signature two) keeps n inside) k h
