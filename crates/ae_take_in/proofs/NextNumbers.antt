-- The next name, where it is a number: what is computed, what another name has, or itself.
use Rattle.std.specs.Prelude.{ℕ, ◌<◌, ◌≡◌, ◌≢◌, ◌⊎◌, Bool, false, List, length, map, Option, Some, None, IfSome, IfNone}
use Rattle.std.specs.List.{AllByRecursion}
use Rattle.std.proofs.Common.{refl, sym, ap, ◌∙◌, subst, inl, inr}
use Rattle.std.proofs.lemmas.Option.{same_Some}
use Rattle.ae_base.proofs.AllOf.{all_weaker}
use Rattle.ae_base.proofs.Tests.{true_false}
use Rattle.ae_math.specs.Forms.{single}
use Rattle.ae_core.specs.Sorts.{sort_of, is_numeric}
use Rattle.ae_core.specs.declared.terms.Sort.{Sort}
use Rattle.ae_core.specs.declared.terms.Term.{Term}
use Rattle.ae_core.specs.declared.problems.Signature.{Signature}
use Rattle.ae_num.specs.Forms.{meaning, SameMeaning, IsNormal}
use Rattle.ae_num.specs.declared.forms.Part.{Part}
use Rattle.ae_num.specs.declared.forms.Lin.{Lin}
use Rattle.ae_journal.specs.Systems.{IsPredicateName}
use Rattle.ae_settled.specs.Valued.{with_forms}
use Rattle.ae_settled.proofs.Sorts.{predicate_unsorted}
use Rattle.ae_store.specs.declared.nodes.Node.{Node}
use Rattle.ae_store.specs.Shapes.{shapes}
use Rattle.ae_store.specs.Terms.{terms, named}
use Rattle.ae_store.specs.Stores.{IsStore}
use Rattle.ae_just.specs.declared.steps.Step.{Step}
use Rattle.ae_state_steps.specs.ValueSteps.{sort_for, IsNumberName}
use Rattle.ae_strips.specs.Stripping.{StripsTo}
use Rattle.ae_strips.proofs.FieldTerms.{within}
use Rattle.ae_strips.proofs.Totals.{sort_kept}
use Rattle.ae_value_table.specs.Table.{Contents, own, number_at, leaf_at}
use Rattle.ae_value_fitting.proofs.Written.{own_normal, own_means, numeric_sort}
use Rattle.ae_entering.specs.Firsts.{IsKnown, IsOwnAt, IsNumberAt, AreFirst, IsNext}
use Rattle.ae_value_fitting.specs.Fitting.{AreSaid}
use Rattle.ae_store.specs.Growing.{IsFront}
use Rattle.ae_just.specs.Steps.{Fits}
use Rattle.ae_take_in.proofs.Resting.{rests_since}
use Rattle.ae_first_values.specs.declared.numbers.Given.{Given}
use Rattle.ae_take_in.specs.Computing.{IsComputed, a_numeral, an_operation, IsFirstNumber}
use Rattle.ae_take_in.specs.Inner.Next.{AreBelow, ComesToOther, IsCoveredNumber, IsNextNumber}
use Rattle.ae_take_in.proofs.Nexts.{one_end, field_numeral, field_operation, field_computed, other_field, computed_whole, other_whole, unknown, end_known, number_known}

module _ (sig : Signature) (nodes : List Node) (store : IsStore sig nodes) (n : ℕ) (inside : n < length nodes) (c : Contents) (below : AreBelow n c)
    (first : AreFirst sig (terms (shapes nodes)) n (number_at c) (leaf_at c)) (real : Bool) (name : IsNumberName sig (terms (shapes nodes)) real n) where
  abbrev ts : List Term
  ts = terms (shapes nodes)

  sort_here : (s : Sort) → sort_of sig (named ts n) ≡ Some s → sort_for real ≡ s
  sort_here s o = same_Some (sort_for real) s (sym name ∙ o)

  not_other : {P : Type 0} (s : Sort) → sort_of sig (named ts n) ≡ Some s → is_numeric s ≡ false → P
  not_other s o m = true_false (sym (numeric_sort real) ∙ ap is_numeric (sort_here s o) ∙ m)

  not_predicate : IsPredicateName sig (named ts n) → ⊥
  not_predicate g = predicate_unsorted sig (named ts n) (sort_for real) g name

  abbrev OwnOf : Sort → ℕ → Type 0
  OwnOf s k = IsOwnAt sig ts n (number_at c) s k

  abbrev OwnOrNew : Sort → Lin → ℕ → Type 0
  OwnOrNew s v k = OwnOf s k ⊎ ((k ≡ n) × SameMeaning (meaning v) (single n))

  over_here : (v : Lin) (s : Sort) → sort_of sig (named ts n) ≡ Some s → AllByRecursion (λ p. OwnOf (sort_for real) p.key) v.parts → AllByRecursion (λ p. OwnOrNew s v p.key) v.parts
  over_here v s o over =
      all_weaker (λ (p : Part). OwnOf (sort_for real) p.key) (λ (p : Part). OwnOrNew s v p.key) (λ p i. inl (subst (λ (r : Sort). OwnOf r p.key) (sort_here s o) i)) v.parts over

  pub over_others : IsComputed ts n ⊎ ComesToOther ts n → (v : Lin) → AllByRecursion (λ p. OwnOf (sort_for real) p.key) v.parts → AllByRecursion (λ p. OwnOf (sort_for real) p.key × (p.key ≢ n)) v.parts
  over_others why v over =
      all_weaker (λ (p : Part). OwnOf (sort_for real) p.key) (λ (p : Part). OwnOf (sort_for real) p.key × (p.key ≢ n))
      (λ p i. (i, λ e. unknown sig nodes store n inside why (subst (IsKnown ts n) e i.known))) v.parts over

  -- ---- its own number
  pub own_next : (IsComputed ts n → ⊥) → StripsTo ts n n → number_at c n ≡ own n → IsNext sig ts n (number_at c) (leaf_at c) (number_at c n) (leaf_at c n)
  own_next free st e = record {
    whole = λ w. (refl, refl);
    numbers = λ s o m. subst (λ (v : Lin). IsNormal v × AllByRecursion (λ p. OwnOrNew s v p.key) v.parts) (sym e) (own_normal n, (inr (refl, own_means n), tt));
    leaves = λ s o m f. not_other s o m;
    predicates = λ g. absurd (not_predicate g);
    numerals = λ a b r at. absurd (free (a_numeral a b r at));
    operations = λ h ss args g w at lin. absurd (free (an_operation h ss args (number_at c) g w at lin));
    covered_numbers = λ k s st' d o m. absurd (d (one_end sig nodes store n inside k n st' st));
    covered_leaves = λ k s st' d o m f. not_other s o m;
  }

  -- ---- a number that is computed
  pub computed_next : (old new : List Step) (g : Given) → IsFirstNumber sig ts old new c real n g → IsNext sig ts n (number_at c) (leaf_at c) g.value (leaf_at c n)
  computed_next old new g f = record {
    whole = λ w. absurd (computed_whole sig nodes store n inside f.computed w);
    numbers = λ s o m. ((f.stated).written.normal, over_here g.value s o f.over);
    leaves = λ s o m z. not_other s o m;
    predicates = λ p. absurd (not_predicate p);
    numerals = f.numerals;
    operations = f.operations;
    covered_numbers = λ k s st d o m. absurd (field_computed sig nodes store n inside (other_field sig nodes store n inside k st d) f.computed);
    covered_leaves = λ k s st d o m z. not_other s o m;
  }

  pub computed_number : (old new : List Step) (g : Given) → IsFirstNumber sig ts old new c real n g → IsNextNumber sig ts old new c real n g
  computed_number old new g f = record { next = computed_next old new g f; over = over_others (inl f.computed) g.value f.over; why = inl f.computed; stated = f.stated; rests = f.rests }

  -- ---- the number of another name
  module _ (k : ℕ) (st : StripsTo ts n k) (d : k ≢ n) where
    number_there : IsNumberAt sig ts n (number_at c) (sort_for real) (number_at c k)
    number_there =
        number_known sig nodes store n inside c below first k (sort_for real) (within sig nodes store n k st) (end_known sig nodes store n inside k st d) (sym (sort_kept sig nodes store n k st) ∙ name) (numeric_sort real)

    module _ (v : Lin) (e : v ≡ number_at c k) where
      number_is : IsNumberAt sig ts n (number_at c) (sort_for real) v
      number_is = subst (IsNumberAt sig ts n (number_at c) (sort_for real)) (sym e) number_there

      pub covered_next : IsNext sig ts n (number_at c) (leaf_at c) v (leaf_at c n)
      covered_next = record {
        whole = λ w. absurd (other_whole sig nodes store n inside k st d w);
        numbers = λ s o m. (number_is.normal, over_here v s o number_is.over);
        leaves = λ s o m z. not_other s o m;
        predicates = λ p. absurd (not_predicate p);
        numerals = λ a b r at. absurd (field_numeral sig nodes store n inside (other_field sig nodes store n inside k st d) a b r at);
        operations = λ h ss args g w at lin. absurd (field_operation sig nodes store n inside (other_field sig nodes store n inside k st d) h ss (map (named ts) args) (with_forms (map (named ts) args) (map (number_at c) args)) g at lin);
        covered_numbers = λ m s st' d' o z. e ∙ ap (number_at c) (one_end sig nodes store n inside k m st st');
        covered_leaves = λ m s st' d' o z f. not_other s o z;
      }

      pub covered_over : AllByRecursion (λ p. OwnOf (sort_for real) p.key) v.parts
      covered_over = number_is.over

  pub covered_number : (old new : List Step) (g : Given) → IsCoveredNumber sig ts old new c real n g → IsNextNumber sig ts old new c real n g
  covered_number old new g i =
      let why : IsComputed ts n ⊎ ComesToOther ts n = inr (record { name = i.name; strips = i.strips; other = i.other }) in
      record {
        next = covered_next i.name i.strips i.other g.value i.value;
        over = over_others why g.value (covered_over i.name i.strips i.other g.value i.value);
        why = why;
        stated = i.stated;
        rests = i.rests;
      }

  -- the same, after more steps
  pub covered_since : (js a ks : List Step) → IsFront js a → Fits sig ts a → AreSaid sig ts js c → (o : Option Given) → IfSome o (λ g. IsCoveredNumber sig ts a ks c real n g) → IfSome o (λ g. IsNextNumber sig ts js ks c real n g)
  covered_since js a ks f fits said None h = tt
  covered_since js a ks f fits said (Some g) h =
      let i = covered_number a ks g h in
      record { next = i.next; over = i.over; why = i.why; stated = i.stated; rests = rests_since sig ts js a ks f fits c said g.step i.rests }

pub none_if : {A X : Type 0} (o : Option A) → X → IfNone o X
none_if None x = x
none_if (Some a) x = tt
