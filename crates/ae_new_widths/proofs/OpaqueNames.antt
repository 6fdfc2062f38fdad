-- Names that nothing computes: they aren't computed, and come down to themselves; fields that come down to themselves are such names.
use Rattle.std.specs.Prelude.{ℕ, ℤ, zero, suc, ◌<◌, ◌⊎◌, Bool, true, false, cond, List, [], ◌∷◌, ◌≡◌, map, length, slice_get, Some}
use Rattle.std.proofs.Common.{refl, sym, ap, ◌∙◌, subst, arith, inl, inr}
use Rattle.std.proofs.lemmas.Option.{none-some, same_Some, slice_get_within}
use Rattle.ae_base.proofs.AllOf.{all_at}
use Rattle.ae_base.proofs.ListFacts.{value_at}
use Rattle.ae_base.proofs.Options.{known_each, when_some}
use Rattle.ae_base.proofs.Tests.{false_true}
use Rattle.ae_math.specs.Forms.{Form}
use Rattle.std.proofs.lemmas.List.{length-map}
use Rattle.ae_core.specs.Sorts.{sort_of, is_closed_sort, numeral_ok}
use Rattle.ae_core.specs.Inner.Induction.{by_terms}
use Rattle.ae_core.proofs.Recursion.{para_num, para_fresh}
use Rattle.ae_core.proofs.SortLaws.{sort_in_bound, sort_in_num}
use Rattle.ae_core.specs.declared.terms.Sort.{Sort, Sort-F, Int, Real, Named, out-Sort}
use Rattle.ae_core.specs.declared.terms.Sort.TheOpen as layer
use Rattle.ae_core.specs.declared.terms.Sort.TheVariants.{outs-Int, outs-Real, outs-Named}
use Rattle.ae_core.specs.declared.terms.Term.{Term, Num, Fresh, Apply}
use Rattle.ae_core.specs.declared.terms.Head.{Head}
use Rattle.ae_core.specs.declared.terms.Head.TheVariants as head
use Rattle.ae_core.specs.declared.problems.Signature.{Signature}
use Rattle.ae_num.specs.declared.forms.Lin.{Lin}
use Rattle.ae_journal.specs.Values.{nothing}
use Rattle.ae_evaluation.proofs.SortFacts.{is_applied, is_built}
use Rattle.ae_settled.specs.Valued.{linear_form, with_forms}
use Rattle.ae_store.specs.declared.nodes.Node.{Node}
use Rattle.ae_store.specs.Shapes.{shapes}
use Rattle.ae_store.specs.Stores.{IsStore}
use Rattle.ae_store.specs.Terms.{terms, named}
use Rattle.ae_store.proofs.StoreLaws.{name_term}
use Rattle.ae_entering.proofs.Sorting.{int_sort, real_sort}
use Rattle.ae_strips.specs.Stripping.{IsNoField, IsWrittenWith, StripsTo, itself, of_written, of_other}
use Rattle.ae_strips.proofs.FieldTerms.{length_is, field_below}
use Rattle.ae_strips.proofs.FieldSorts.{IsOwned, owned}
use Rattle.ae_strips.proofs.Totals.{IsFieldSomewhere, field_decided}
use Rattle.ae_take_in.specs.Computing.{IsComputed, a_numeral, an_operation}
use Rattle.ae_name_lines.specs.Closed.{AreClosed, IsAmong}
use Rattle.ae_name_lines.specs.InStep.{opaque_step, is_opaque}
use Rattle.ae_name_lines.proofs.KindValues.{nothing_stated}
use Rattle.ae_name_lines.proofs.NewNames.{opaque_field, opaque_layer}
use Rattle.ae_new_widths.proofs.Operations.{form_none}

pub constant_opaque : (k : ℕ) (s : Sort) → is_opaque (Fresh k s) ≡ true
unfolding is_opaque
constant_opaque k s = para_fresh Bool opaque_step k s

-- ---- what is computed isn't opaque
num_clear : (a b : ℤ) (r : Bool) → is_opaque (Num a b r) ≡ false
unfolding is_opaque
num_clear a b r = para_num Bool opaque_step a b r

module _ (ts : List Term) where
  -- an application that has a form of the numbers of its arguments
  applied_clear : (h : Head) (ss : List Sort) (args : List ℕ) (number : ℕ → Lin) (g : Form ℕ) → is_opaque (Apply h ss (map (named ts) args)) ≡ true
      → linear_form h (with_forms (map (named ts) args) (map number args)) ≡ Some g → ⊥
  applied_clear (head.Int o) ss args number g q e =
      none-some g (sym (form_none ts number (head.Int o) (λ u. nothing) args (nothing_stated (head.Int o) ss (map (named ts) args) (λ u. nothing) refl q)) ∙ e)
  applied_clear (head.Real o) ss args number g q e =
      none-some g (sym (form_none ts number (head.Real o) (λ u. nothing) args (nothing_stated (head.Real o) ss (map (named ts) args) (λ u. nothing) refl q)) ∙ e)
  applied_clear (head.Symbol n) ss args number g q e = none-some g e
  applied_clear (head.Build n) ss args number g q e = none-some g e
  applied_clear (head.Field n k) ss args number g q e = none-some g e
  applied_clear head.True ss args number g q e = none-some g e
  applied_clear head.False ss args number g q e = none-some g e
  applied_clear head.Void ss args number g q e = none-some g e

  pub opaque_free : (n : ℕ) (t : Term) → slice_get ts n ≡ Some t → is_opaque t ≡ true → IsComputed ts n → ⊥
  opaque_free n t at q (a_numeral a b real is) = false_true (sym (num_clear a b real) ∙ ap is_opaque (sym (same_Some t (Num a b real) (sym at ∙ is))) ∙ q)
  opaque_free n t at q (an_operation h ss args number g below is e) =
      applied_clear h ss args number g (ap is_opaque (sym (same_Some t (Apply h ss (map (named ts) args)) (sym at ∙ is))) ∙ q) e

-- ---- sorts of numbers are no records' sorts
int_apart : (k : ℕ) (ss : List Sort) → Int ≡ Named k ss → ⊥
int_apart k ss e = let z : ◌≡◌ {A = Sort-F Sort} layer.Int (layer.Named k ss) = sym outs-Int ∙ ap out-Sort e ∙ outs-Named k ss in cc z

real_apart : (k : ℕ) (ss : List Sort) → Real ≡ Named k ss → ⊥
real_apart k ss e = let z : ◌≡◌ {A = Sort-F Sort} layer.Real (layer.Named k ss) = sym outs-Real ∙ ap out-Sort e ∙ outs-Named k ss in cc z

numeral_apart : (r : Bool) (k : ℕ) (ss : List Sort) → cond r Real Int ≡ Named k ss → ⊥
numeral_apart true k ss e = real_apart k ss e
numeral_apart false k ss e = int_apart k ss e

same_named : (j k : ℕ) (ss os : List Sort) → Named j ss ≡ Named k os → (j ≡ k) × (ss ≡ os)
same_named j k ss os e =
    let z : ◌≡◌ {A = Sort-F Sort} (layer.Named j ss) (layer.Named k os) = sym (outs-Named j ss) ∙ ap out-Sort e ∙ outs-Named k os in
    let a : j ≡ k = cc z in
    let b : ss ≡ os = cc z in
    (a, b)

module _ (sig : Signature) (k : ℕ) (ss : List Sort) where
  -- a term of a record sort that is neither a field nor a written record
  abbrev IsPlain : Term → Type 0
  IsPlain t = sort_of sig t ≡ Some (Named k ss) → IsNoField t → ((us : List Term) → t ≡ Apply (head.Build k) ss us → ⊥) → is_opaque t ≡ true

  field_plain : (j i : ℕ) (os : List Sort) (us : List Term) → IsPlain (Apply (head.Field j i) os us)
  field_plain j i os [] o none plain = opaque_layer (head.Field j i) os []
  field_plain j i os (a ∷ []) o none plain = absurd (none j i os a refl)
  field_plain j i os (a ∷ b ∷ us) o none plain = opaque_layer (head.Field j i) os (a ∷ b ∷ us)

  built_plain : (j : ℕ) (os : List Sort) (us : List Term) → IsPlain (Apply (head.Build j) os us)
  built_plain j os us o none plain =
      let a = is_applied sig (head.Build j) os us (Named k ss) o in
      let e = same_named j k os ss (is_built sig j os a.args (Named k ss) a.headed).is in
      absurd (plain us (λ i. Apply (head.Build (e.0 i)) (e.1 i) us))

  applied_plain : (h : Head) (os : List Sort) (us : List Term) → IsPlain (Apply h os us)
  applied_plain (head.Build j) os us = built_plain j os us
  applied_plain (head.Field j i) os us = field_plain j i os us
  applied_plain (head.Symbol j) os us = λ o none plain. opaque_layer (head.Symbol j) os us
  applied_plain (head.Int p) os us = λ o none plain. absurd (int_apart k ss (int_sort sig p os us (Named k ss) o))
  applied_plain (head.Real p) os us = λ o none plain. absurd (real_apart k ss (real_sort sig p os us (Named k ss) o))
  applied_plain head.True os us = λ o none plain. opaque_layer head.True os us
  applied_plain head.False os us = λ o none plain. opaque_layer head.False os us
  applied_plain head.Void os us = λ o none plain. opaque_layer head.Void os us

  plain_opaque : (t : Term) → IsPlain t
  plain_opaque =
      by_terms IsPlain (λ n o none plain. absurd (none-some (Named k ss) (sym (sort_in_bound sig (is_closed_sort sig) [] n) ∙ o)))
      (λ a b r o none plain. absurd (numeral_apart r k ss (when_some (numeral_ok a b r) (cond r Real Int) (Named k ss) (sym (sort_in_num sig (is_closed_sort sig) [] a b r) ∙ o)).1))
      (λ n r o none plain. constant_opaque n r) (λ h os us each. applied_plain h os us)

module _ (sig : Signature) (nodes : List Node) (store : IsStore sig nodes) (closed : AreClosed sig (terms (shapes nodes))) where
  abbrev ts : List Term
  ts = terms (shapes nodes)

  -- ---- what is opaque comes down to itself
  written_clear : (b k place : ℕ) (ss : List Sort) (t : Term) → slice_get ts b ≡ Some t → is_opaque t ≡ true → (u : ℕ) → IsWrittenWith ts b k place ss u → ⊥
  written_clear b k place ss t at q u w =
      false_true (sym (opaque_layer (head.Build k) ss w.arguments) ∙ ap is_opaque (sym (same_Some t (Apply (head.Build k) ss w.arguments) (sym at ∙ w.is))) ∙ q)

  own_by : (n : ℕ) (t : Term) → slice_get ts n ≡ Some t → is_opaque t ≡ true → ((m : ℕ) (u : Term) → m < n → slice_get ts m ≡ Some u → is_opaque u ≡ true → StripsTo ts m m)
      → IsFieldSomewhere sig nodes store n ⊎ IsNoField (named ts n) → StripsTo ts n n
  own_by n t at q again (inr none) = itself n (named ts n) (at ∙ ap Some (sym (name_term ts n t at))) none
  own_by n t at q again (inl f) =
      let g = f.is in
      let below : f.owner < n = field_below sig nodes store n f.type f.place f.sorts f.owner g in
      let inner : is_opaque g.owner ≡ true =
      sym (opaque_field f.type f.place f.sorts g.owner) ∙ ap is_opaque (sym (same_Some t (Apply (head.Field f.type f.place) f.sorts (g.owner ∷ [])) (sym at ∙ g.is))) ∙ q in
      of_other n f.owner f.owner n f.type f.place f.sorts g (again f.owner g.owner below g.owner_is inner) (written_clear f.owner f.type f.place f.sorts g.owner g.owner_is inner) g

  own_below : (bound n : ℕ) (t : Term) → n < bound → slice_get ts n ≡ Some t → is_opaque t ≡ true → StripsTo ts n n
  own_below zero n t l at q = absurd (omega (arith, l))
  own_below (suc bound) n t l at q =
      let w : n < length ts = slice_get_within ts n t at in
      let e : length ts ≡ length nodes = length_is sig nodes store in
      own_by n t at q (λ m u k there o. own_below bound m u (omega (arith, k, l)) there o) (field_decided sig nodes store n (omega (arith, w, e)))

  pub opaque_own : (n : ℕ) (t : Term) → slice_get ts n ≡ Some t → is_opaque t ≡ true → StripsTo ts n n
  opaque_own n t at q = own_below (suc n) n t (omega arith) at q

  -- ---- a written record has an argument for each field
  written_full : (b k place : ℕ) (ss : List Sort) (us : List Term) → slice_get ts b ≡ Some (Apply (head.Build k) ss us) → IsOwned sig nodes store k place ss (Apply (head.Build k) ss us)
      → (u : ℕ) × IsWrittenWith ts b k place ss u
  written_full b k place ss us at o =
      let a = is_applied sig (head.Build k) ss us (Named k ss) o.sorted in
      let f = is_built sig k ss a.args (Named k ss) a.headed in
      let sorts : o.sorts ≡ a.args = same_Some o.sorts a.args (sym o.fields ∙ f.fields) in
      let inside : place < length o.sorts = slice_get_within o.sorts place _ o.at in
      let many : length us ≡ length a.args =
      sym (length-map us (sort_of sig)) ∙ ap length (known_each (sort_of sig) us a.args a.known) ∙ length-map a.args Some in
      let u = value_at us place (omega (arith, inside, ap length sorts, many)) in
      let n = all_at (IsAmong ts) us place u.0 (closed.arguments b (head.Build k) ss us at) u.1 in
      (n.0, record { arguments = us; is = at; argument = u.0; at = u.1; argument_is = n.1 })

  -- ---- what names come down to is opaque, where it is the record of a field, and not written
  end_opaque : (x b : ℕ) → StripsTo ts x b → (k place : ℕ) (ss : List Sort) → IsOwned sig nodes store k place ss (named ts b) → ((u : ℕ) → IsWrittenWith ts b k place ss u → ⊥) → is_opaque (named ts b) ≡ true
  end_opaque _ _ (itself n t at plain) k place ss o none =
      let is : named ts n ≡ t = name_term ts n t at in
      ap is_opaque is
      ∙ plain_opaque sig k ss t (ap (sort_of sig) (sym is) ∙ o.sorted) plain
      (λ us e. let w = written_full n k place ss us (at ∙ ap Some e) (subst (IsOwned sig nodes store k place ss) (is ∙ e) o) in none w.0 w.1)
  end_opaque _ _ (of_written n a b u m j i os f s w r) k place ss o none = end_opaque u m r k place ss o none
  end_opaque _ _ (of_other n a b m j i os f s unwritten g) k place ss o none =
      let up = owned sig nodes store m j i os g.owner g.is in
      let same : named ts b ≡ g.owner = name_term ts b g.owner g.owner_is in
      ap is_opaque (name_term ts m (Apply (head.Field j i) os (g.owner ∷ [])) g.is) ∙ opaque_field j i os g.owner ∙ ap is_opaque (sym same)
      ∙ end_opaque a b s j i os (subst (IsOwned sig nodes store j i os) (sym same) up) unwritten

  pub field_opaque : (x m : ℕ) → StripsTo ts x m → IsFieldSomewhere sig nodes store m → is_opaque (named ts m) ≡ true
  field_opaque _ _ (itself n t at plain) f =
      absurd (plain f.type f.place f.sorts (f.is).owner (same_Some t (Apply (head.Field f.type f.place) f.sorts ((f.is).owner ∷ [])) (sym at ∙ (f.is).is)))
  field_opaque _ _ (of_written n a b u m j i os g s w r) f = field_opaque u m r f
  field_opaque _ _ (of_other n a b m j i os h s unwritten g) f =
      let up = owned sig nodes store m j i os g.owner g.is in
      let same : named ts b ≡ g.owner = name_term ts b g.owner g.owner_is in
      ap is_opaque (name_term ts m (Apply (head.Field j i) os (g.owner ∷ [])) g.is) ∙ opaque_field j i os g.owner ∙ ap is_opaque (sym same)
      ∙ end_opaque a b s j i os (subst (IsOwned sig nodes store j i os) (sym same) up) unwritten
