-- With more names behind, the sides of a row of names are the same.
use Rattle.std.specs.Prelude.{ℕ, ◌<◌, length, List, [], ◌∷◌, ◌++◌, ◌≡◌, cond, slice_get, Option, Some, None}
use Rattle.std.specs.List.{AllByRecursion}
use Rattle.std.proofs.Common.{refl, sym, ap, ◌∙◌, subst}
use Rattle.std.proofs.lemmas.List.{length-map}
use Rattle.std.proofs.lemmas.Option.{slice_get_within}
use Rattle.ae_base.proofs.AllOf.{all_of_map, all_weaker}
use Rattle.ae_core.specs.Sorts.{sort_of}
use Rattle.ae_core.specs.declared.terms.Sort.{Int}
use Rattle.ae_core.specs.declared.terms.Term.{Term}
use Rattle.ae_core.specs.declared.problems.Signature.{Signature}
use Rattle.ae_journal.specs.Sides.{is_negative, times_term, summands, last_summand, sum_term, opposite_row, side, AreWhole}
use Rattle.ae_num.specs.declared.forms.Lin.{Lin}
use Rattle.ae_num.specs.declared.forms.Part.{Part}
use Rattle.ae_store.specs.declared.nodes.Node.{Node}
use Rattle.ae_store.specs.Shapes.{shapes, shape_of}
use Rattle.ae_store.specs.Terms.{terms, Keeps}
use Rattle.ae_store.proofs.TermLaws.{length_terms}
use Rattle.ae_row_sides.specs.Names.{AreNames}
use Rattle.ae_row_sides.specs.Laws.{SidesAreKept}
use Rattle.ae_row_sides.specs.Inner.Sums.{opposite_part}

module _ (sig : Signature) (old new : List Term) (keeps : Keeps old new) where
  abbrev IsWholeName : Part → Type 0
  IsWholeName q = (t : Term) × (slice_get old q.key ≡ Some t) × (sort_of sig t ≡ Some Int)

  abbrev one : List Term → Part → Option Term → List Term
  one us q o = cond (is_negative q.factor) us (elim o as (λ _. List Term) [ None ↦ us | Some t ↦ times_term Int q.factor t ∷ us ])

  same_name : (q : Part) → IsWholeName q → slice_get new q.key ≡ slice_get old q.key
  same_name q w = keeps q.key w.0 w.1 ∙ sym w.1

  same_summands : (qs : List Part) → AllByRecursion IsWholeName qs → summands Int new qs ≡ summands Int old qs
  same_summands [] w = refl
  same_summands (q ∷ qs) w =
      ap (λ (us : List Term). one us q (slice_get new q.key)) (same_summands qs w.1) ∙ ap (λ (o : Option Term). one (summands Int old qs) q o) (same_name q w.0)

  same_side : (f : Lin) → AllByRecursion IsWholeName f.parts → side Int new f ≡ side Int old f
  same_side f w = ap (λ (us : List Term). sum_term Int (us ++ last_summand Int f.constant)) (same_summands f.parts w)

  both : (f : Lin) → AllByRecursion IsWholeName f.parts → (side Int new f ≡ side Int old f) × (side Int new (opposite_row f) ≡ side Int old (opposite_row f))
  both f w = (same_side f w, same_side (opposite_row f) (all_of_map IsWholeName opposite_part f.parts (all_weaker IsWholeName (λ (q : Part). IsWholeName (opposite_part q)) (λ q h. h) f.parts w)))

-- the names of a row of integers are among the names
pub names_within : (sig : Signature) (nodes : List Node) (f : Lin) → AreWhole sig (terms (shapes nodes)) f → AreNames (length nodes) f.parts
names_within sig nodes f w =
    let long : length (terms (shapes nodes)) ≡ length nodes = length_terms (shapes nodes) ∙ length-map nodes shape_of in
    all_weaker (λ (q : Part). (t : Term) × (slice_get (terms (shapes nodes)) q.key ≡ Some t) × (sort_of sig t ≡ Some Int)) (λ (q : Part). q.key < length nodes)
    (λ q h. subst (λ (n : ℕ). q.key < n) long (slice_get_within (terms (shapes nodes)) q.key h.0 h.1)) f.parts w

-- the names of the opposite are the same
pub names_opposite : (n : ℕ) (f : Lin) → AreNames n f.parts → AreNames n (opposite_row f).parts
names_opposite n f a = all_of_map (λ (q : Part). q.key < n) opposite_part f.parts a

pub sides_are_kept : SidesAreKept
sides_are_kept sig old new f keeps w = both sig old new keeps f w
