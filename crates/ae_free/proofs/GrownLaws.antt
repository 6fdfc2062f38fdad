-- Tables over a store that has grown.
use Rattle.std.specs.Prelude.{ℕ, ◌<◌, List, ◌≡◌, length, slice_get, Option, Some}
use Rattle.std.proofs.Common.{refl, sym, ap, ◌∙◌, subst, arith}
use Rattle.std.proofs.lemmas.Option.{slice_get_within}
use Rattle.std.proofs.lemmas.List.{length-map}
use Rattle.ae_base.proofs.AllOf.{all_weaker}
use Rattle.ae_base.proofs.ListFacts.{get_map, value_at}
use Rattle.ae_core.specs.declared.problems.Signature.{Signature}
use Rattle.ae_core.specs.declared.terms.Head.{Head}
use Rattle.ae_core.specs.declared.terms.Term.{Term}
use Rattle.ae_store.specs.declared.nodes.Node.{Node}
use Rattle.ae_store.specs.declared.nodes.NodeHead.TheVariants.{Of}
use Rattle.ae_store.specs.declared.nodes.Shape.{Shape}
use Rattle.ae_store.specs.Shapes.{shape_of, shapes}
use Rattle.ae_store.specs.Stores.{IsStore}
use Rattle.ae_store.specs.Terms.{terms, term_of, node_sort, IsAlone, IsShapeAt, Keeps}
use Rattle.ae_store.proofs.TermLaws.{length_terms, term_kept, widened, term_at, wide, same_terms_same_shapes}
use Rattle.ae_pmap.specs.Forest.{present, map_at}
use Rattle.ae_free.specs.declared.classes.Class.{Class}
use Rattle.ae_free.specs.declared.table.Shared.{Shared}
use Rattle.ae_free.specs.Tables.{Tables, IsEntry, FitsWith, Fits, Stands}

module _ (sig : Signature) (old new : List Node) (a : IsStore sig old) (b : IsStore sig new) (keeps : Keeps (terms (shapes old)) (terms (shapes new))) where
  -- a name keeps its shape
  shape_stays : (i : ℕ) (x : Shape) → slice_get (shapes old) i ≡ Some x → slice_get (shapes new) i ≡ Some x
  shape_stays i x e =
      let told = terms (shapes old) in
      let tnew = terms (shapes new) in
      let there : slice_get tnew i ≡ Some (term_of told x) = keeps i (term_of told x) (term_at sig (shapes old) a.sound i x e) in
      let l : i < length tnew = slice_get_within tnew i (term_of told x) there in
      let n = length_terms (shapes new) in
      let y = value_at (shapes new) i (omega (arith, l, n)) in
      let w : ◌≡◌ {A = Option Term} (Some (term_of tnew y.0)) (Some (term_of told x)) = sym (term_at sig (shapes new) b.sound i y.0 y.1) ∙ there in
      let k = slice_get_within (shapes old) i x e in
      let m = length_terms (shapes old) in
      let placed = (a.sound.places i x e).args in
      let kept = term_kept told tnew keeps x (widened i (length told) (omega (arith, k, m)) x.args placed) in
      let same : term_of tnew y.0 ≡ term_of tnew x = cc (w, kept) in
      let at_x : IsShapeAt sig (length tnew) x = record { args = widened i (length tnew) (omega (arith, l)) x.args placed; alone = (a.sound.places i x e).alone } in
      let is : y.0 ≡ x = same_terms_same_shapes sig tnew b.sound.one_name (length tnew) refl y.0 x (wide sig (shapes new) b.sound (length tnew) i y.0 y.1 (omega (arith, n))) at_x same in
      y.1 ∙ ap Some is

  name_wider : (i : ℕ) → i < length old → i < length new
  name_wider i l =
      let x = value_at old i l in
      let e = shape_stays i (shape_of x.0) (get_map shape_of old i x.0 x.1) in
      let k = slice_get_within (shapes new) i (shape_of x.0) e in
      let m : length (shapes new) ≡ length new = length-map new shape_of in
      omega (arith, k, m)

  node_stays : (i : ℕ) (x : Node) → slice_get old i ≡ Some x → (y : Node) × (slice_get new i ≡ Some y) × (shape_of y ≡ shape_of x)
  node_stays i x e =
      let y = value_at new i (name_wider i (slice_get_within old i x e)) in
      let w : ◌≡◌ {A = Option Shape} (Some (shape_of y.0)) (Some (shape_of x)) = sym (get_map shape_of new i y.0 y.1) ∙ shape_stays i (shape_of x) (get_map shape_of old i x e) in
      (y.0, y.1, cc w)

  entry_kept : (xs : List Shape) (n k : ℕ) → IsEntry old xs n k → IsEntry new xs n k
  entry_kept xs n k x =
      let y = node_stays n x.node x.at in
      record {
        node = y.0;
        at = y.1;
        args = x.args;
        shape = x.shape ∙ ap (λ s. Some (record { head = s.head; sorts = s.sorts; args = x.args; sort = s.sort })) (sym y.2);
        one_each = x.one_each ∙ sym (ap (λ s. length s.args) y.2);
        within = all_weaker (λ i. i < length old) (λ i. i < length new) name_wider x.args x.within;
      }

  fits_grown : (t : Tables) (ns : List (ℕ × ℕ)) (cs : List (ℕ × Class)) → FitsWith old t ns cs → FitsWith new t ns cs
  fits_grown t ns cs x = record {
    distinct = x.distinct;
    resting = x.resting;
    are_numbers = x.are_numbers;
    entries = λ n k e. entry_kept t.shapes n k (x.entries n k e);
    are_classes = x.are_classes;
  }

  pub fits_kept : (t : Tables) → Fits old t → Fits new t
  fits_kept t x = fits_grown t (present t.numbers) (present t.classes) x

  pub stands_kept : (t : Tables) (v : Shared) (names : List (ℕ × List ℕ)) → Stands old t v names → Stands new t v names
  stands_kept t v names s = record { numbers = s.numbers; classes = s.classes; names_are = s.names_are; fits = fits_grown t (map_at t.numbers v.numbers) (map_at t.classes v.classes) s.fits }

pub one_sort : (sig : Signature) (nodes : List Node) (m n : ℕ) (x y : Node) (h : Head) → IsStore sig nodes → slice_get nodes m ≡ Some x → slice_get nodes n ≡ Some y → x.head ≡ Of h → y.head ≡ Of h
    → x.sorts ≡ y.sorts → x.sort ≡ y.sort
one_sort sig nodes m n x y h s e f p q r =
    let u = subst (IsAlone sig (shape_of x)) p (s.sound.places m (shape_of x) (get_map shape_of nodes m x e)).alone in
    let v = subst (IsAlone sig (shape_of y)) q (s.sound.places n (shape_of y) (get_map shape_of nodes n y f)).alone in
    u ∙ ap (node_sort sig h) r ∙ sym v
