-- The number that its term gives a name: of operations by their rules, of numerals, and names that arithmetic computes nothing of.
use Rattle.std.specs.Prelude.{ℕ, ℤ, ◌<◌, ◌≤◌, Bool, true, false, cond, List, ◌≡◌, map, length, slice_get, Option, Some, None, IfSome, IfNone}
use Rattle.std.specs.List.{AllByRecursion}
use Rattle.std.proofs.Common.{refl, sym, ap, ◌∙◌, subst, arith}
use Rattle.std.proofs.lemmas.Option.{same_Some, none-some, slice_get_within}
use Rattle.ae_math.specs.Fractions.{ℚ, ratio, neg_ℚ, one_ℚ, inverse_ℚ}
use Rattle.ae_math.specs.Forms.{Form, number as number_form, plus, minus, scale, is_zero}
use Rattle.ae_core.specs.Sorts.{sort_of, same_sort}
use Rattle.ae_core.specs.declared.terms.Sort.{Sort, Real}
use Rattle.ae_core.specs.declared.terms.Term.{Term, Bound, Num, Fresh, Apply, Apply'}
use Rattle.ae_core.specs.declared.terms.Head.{Head}
use Rattle.ae_core.specs.declared.problems.Signature.{Signature}
use Rattle.ae_num.specs.Forms.{meaning, SameMeaning, IsNormal}
use Rattle.ae_num.specs.declared.forms.Lin.{Lin}
use Rattle.ae_rules.specs.Linear.{form, is_number, Rule, rule_of}
use Rattle.ae_rules.specs.Linear.Rule.{opaque_term, sum_of, difference_of, negation_of, product_of, quotient_of}
use Rattle.ae_settled.specs.Valued.{linear_form, linear_by, with_forms, quotient}
use Rattle.ae_store.specs.declared.nodes.Node.{Node}
use Rattle.ae_store.specs.declared.nodes.NodeHead.TheVariants as node
use Rattle.ae_store.specs.Shapes.{shapes}
use Rattle.ae_store.specs.Terms.{terms, named, IsPlaced}
use Rattle.ae_store.specs.Stores.{IsStore}
use Rattle.ae_store.proofs.StoreLaws.{name_term, number_term, fresh_term}
use Rattle.ae_just.specs.declared.steps.Step.{Step}
use Rattle.ae_state_steps.specs.ValueSteps.{sort_for, IsNumberName}
use Rattle.ae_value_table.specs.Table.{Contents, number_at, leaf_at}
use Rattle.ae_value_fitting.proofs.Written.{numeric_sort, one_sort}
use Rattle.ae_constants.specs.Rules.{standing_for}
use Rattle.ae_constants.specs.declared.rules.Computed.{Computed}
use Rattle.ae_first_values.specs.declared.numbers.Given.{Given}
use Rattle.ae_first_values.proofs.Keys.{keys_of_sum, keys_of_difference, keys_of_multiple, keys_of_number}
use Rattle.ae_strips.proofs.FieldTerms.{length_is, term_there, args_below}
use Rattle.ae_entering.specs.Firsts.{IsOwnAt, AreFirst}
use Rattle.ae_entering.proofs.Rules.{with_each, with_number, OfEach, rule_each}
use Rattle.ae_entering.proofs.Sorting.{numeral_sorted, numeral_right}
use Rattle.ae_take_in.specs.Computing.{IsComputed, a_numeral, an_operation, IsFirstNumber}
use Rattle.ae_take_in.specs.Inner.Operations.{IsByRule, form_by, IsGiven, IsGivenBy}
use Rattle.ae_take_in.proofs.Rules.{form_is, form_by_each, same_ratio, num_apply, fresh_apply, fresh_num, same_form}
use Rattle.ae_take_in.proofs.Numbers.{IsRightNumeral, right_numeral}

-- ---- what holds of the names of the operands' numbers holds of those of the number that a rule makes of them
abbrev IsOver : (ℕ → Type 0) → (ℕ → Lin) → ℕ → Type 0
IsOver P number a = AllByRecursion (λ p. P p.key) (number a).parts

module _ (P : ℕ → Type 0) (ts : List Term) (number : ℕ → Lin) where
  abbrev Over : ℕ → Type 0
  Over a = IsOver P number a

  by_product : (x z : Bool) (ca cb : ℚ) (a b : ℕ) (v : Lin) (g : Form ℕ) → Over a → Over b → cond x (Some (scale ca (meaning (number b)))) (cond z (Some (scale cb (meaning (number a)))) None) ≡ Some g → IsNormal v → SameMeaning (meaning v) g
      → AllByRecursion (λ p. P p.key) v.parts
  by_product true z ca cb a b v g oa ob e n s = keys_of_multiple P ca (number b) v n (subst (SameMeaning (meaning v)) (sym (same_Some (scale ca (meaning (number b))) g e)) s) ob
  by_product false true ca cb a b v g oa ob e n s = keys_of_multiple P cb (number a) v n (subst (SameMeaning (meaning v)) (sym (same_Some (scale cb (meaning (number a))) g e)) s) oa
  by_product false false ca cb a b v g oa ob e n s = absurd (none-some g e)

  by_zero_test : (z : Bool) (x : ℚ) (a : ℕ) (v : Lin) (g : Form ℕ) → Over a → cond z None (Some (scale x (meaning (number a)))) ≡ Some g → IsNormal v → SameMeaning (meaning v) g → AllByRecursion (λ p. P p.key) v.parts
  by_zero_test true x a v g o e n s = absurd (none-some g e)
  by_zero_test false x a v g o e n s = keys_of_multiple P x (number a) v n (subst (SameMeaning (meaning v)) (sym (same_Some (scale x (meaning (number a))) g e)) s) o

  by_divisor : (w : Term) (a : ℕ) (v : Lin) (g : Form ℕ) → Over a → quotient (meaning (number a)) w ≡ Some g → IsNormal v → SameMeaning (meaning v) g → AllByRecursion (λ p. P p.key) v.parts
  by_divisor (Bound j) a v g o e n s = absurd (none-some g e)
  by_divisor (Fresh j q) a v g o e n s = absurd (none-some g e)
  by_divisor (Apply' j ss shape row) a v g o e n s = absurd (none-some g e)
  by_divisor (Num c d r) a v g o e n s = by_zero_test (is_zero (ratio c d)) (inverse_ℚ (ratio c d)) a v g o e n s

  over_rule : (r : Rule ℕ) (v : Lin) (g : Form ℕ) → OfEach Over r → linear_by (with_each (with_number ts number) r) ≡ Some g → IsNormal v → SameMeaning (meaning v) g → AllByRecursion (λ p. P p.key) v.parts
  over_rule opaque_term v g o e n s = absurd (none-some g e)
  over_rule (sum_of a b) v g o e n s =
      keys_of_sum P (number a) (number b) v n (subst (SameMeaning (meaning v)) (sym (same_Some (plus (meaning (number a)) (meaning (number b))) g e)) s) o.0 o.1
  over_rule (difference_of a b) v g o e n s =
      keys_of_difference P (number a) (number b) v n (subst (SameMeaning (meaning v)) (sym (same_Some (minus (meaning (number a)) (meaning (number b))) g e)) s) o.0 o.1
  over_rule (negation_of a) v g o e n s = keys_of_multiple P (neg_ℚ one_ℚ) (number a) v n (subst (SameMeaning (meaning v)) (sym (same_Some (scale (neg_ℚ one_ℚ) (meaning (number a))) g e)) s) o
  over_rule (product_of a b) v g o e n s =
      by_product (is_number (form (named ts a))) (is_number (form (named ts b))) (form (named ts a)).constant (form (named ts b)).constant a b v g o.0 o.1 e n s
  over_rule (quotient_of a b) v g o e n s = by_divisor (named ts b) a v g o.0 e n s

module _ (sig : Signature) (nodes : List Node) (store : IsStore sig nodes) (n : ℕ) (p : Node) (at : slice_get nodes n ≡ Some p) where
  abbrev ts : List Term
  ts = terms (shapes nodes)

  placed : IsPlaced (shapes nodes)
  placed = record { args = λ i x e. (store.sound.places i x e).args }

  inside : n ≤ length ts
  inside = let l : n < length nodes = slice_get_within nodes n p at in let e : length ts ≡ length nodes = length_is sig nodes store in omega (arith, l, e)

  -- ---- applications
  module _ (h : Head) (head : p.head ≡ node.Of h) where
    pub there : slice_get ts n ≡ Some (Apply h p.sorts (map (named ts) p.args))
    there = term_there sig nodes store n p h at head

    pub applies : named ts n ≡ Apply h p.sorts (map (named ts) p.args)
    applies = name_term ts n (Apply h p.sorts (map (named ts) p.args)) there

    pub below : AllByRecursion (λ a. a < n) p.args
    below = args_below sig nodes store n p at

    module _ (r : Computed) (rule : rule_of h p.args ≡ standing_for (λ i. i) r) where
      -- what an operation on earlier names makes
      made : (number : ℕ → Lin) (k : Head) (rs : List Sort) (args : List ℕ) (g : Form ℕ) → AllByRecursion (λ a. a < n) args → slice_get ts n ≡ Some (Apply k rs (map (named ts) args))
          → linear_form k (with_forms (map (named ts) args) (map number args)) ≡ Some g → form_by ts number r ≡ Some g
      made number k rs args g w e lin =
          let same : Apply h p.sorts (map (named ts) p.args) ≡ Apply k rs (map (named ts) args) = same_Some (Apply h p.sorts (map (named ts) p.args)) (Apply k rs (map (named ts) args)) (sym there ∙ e) in
          sym (form_is ts number h p.args r rule) ∙ same_form ts store.sound.one_name n inside number h k p.sorts rs p.args args below w same ∙ lin

      pub uncomputed : ((number : ℕ → Lin) → form_by ts number r ≡ None) → IsComputed ts n → ⊥
      uncomputed none (a_numeral a b q e) = num_apply a b q h p.sorts (map (named ts) p.args) (same_Some (Num a b q) (Apply h p.sorts (map (named ts) p.args)) (sym e ∙ there))
      uncomputed none (an_operation k rs args number g w e lin) = none-some g (sym (none number) ∙ made number k rs args g w e lin)

      pub if_uncomputed : (o : Option Given) → IfNone o ((number : ℕ → Lin) → form_by ts number r ≡ None) → IfNone o (IsComputed ts n → ⊥)
      if_uncomputed None none = uncomputed none
      if_uncomputed (Some g) none = tt

      module _ (old new : List Step) (c : Contents) (real : Bool) (first : AreFirst sig ts n (number_at c) (leaf_at c)) (applied : IsByRule sig ts real n (standing_for (λ i. i) r)) where
        abbrev Own : ℕ → Type 0
        Own k = IsOwnAt sig ts n (number_at c) (sort_for real) k

        over_at : (a : ℕ) → a < n → IsNumberName sig ts real a → IsOver Own (number_at c) a
        over_at a l s = (first.numbers a (sort_for real) l s (numeric_sort real)).over

        over_each : (q : Rule ℕ) → OfEach (λ a. a < n) q → IsByRule sig ts real n q → OfEach (IsOver Own (number_at c)) q
        over_each opaque_term l i = tt
        over_each (sum_of a b) l i = (over_at a l.0 i.left, over_at b l.1 i.right)
        over_each (difference_of a b) l i = (over_at a l.0 i.left, over_at b l.1 i.right)
        over_each (negation_of a) l i = over_at a l i.of
        over_each (product_of a b) l i = (over_at a l.0 i.left, over_at b l.1 i.right)
        over_each (quotient_of a b) l i = (over_at a l.0 i.1.left, over_at b l.1 i.1.right)

        pub operation_first : (g : Given) → IsGivenBy sig ts old new c real n r g → IsFirstNumber sig ts old new c real n g
        operation_first g given = record {
          computed = an_operation h p.sorts p.args (number_at c) given.form below there (form_is ts (number_at c) h p.args r rule ∙ given.is);
          numerals = λ a b q e. absurd (num_apply a b q h p.sorts (map (named ts) p.args) (same_Some (Num a b q) (Apply h p.sorts (map (named ts) p.args)) (sym e ∙ there)));
          operations = λ k rs args form w e lin. subst (SameMeaning (meaning g.value)) (same_Some given.form form (sym given.is ∙ made (number_at c) k rs args form w e lin)) given.given.means;
          over =
              over_rule Own ts (number_at c) (standing_for (λ i. i) r) g.value given.form
              (over_each (standing_for (λ i. i) r) (subst (OfEach (λ a. a < n)) rule (rule_each (λ a. a < n) h p.args below)) applied) (sym (form_by_each ts (number_at c) r) ∙ given.is) given.given.stated.written.normal given.given.means;
          stated = given.given.stated;
          rests = given.given.rests;
        }

        pub if_first : (o : Option Given) → IfSome o (λ g. IsGivenBy sig ts old new c real n r g) → IfSome o (λ g. IsFirstNumber sig ts old new c real n g)
        if_first None given = tt
        if_first (Some g) given = operation_first g given

  -- ---- numerals
  module _ (a b : ℤ) (head : p.head ≡ node.Num a b) where
    numeral_by_sort : slice_get ts n ≡ Some (Num a b (same_sort p.sort Real))
    numeral_by_sort = number_term nodes placed n p at a b (Num a b (same_sort p.sort Real)) head refl

    pub numeral_there : (real : Bool) → IsNumberName sig ts real n → slice_get ts n ≡ Some (Num a b real)
    numeral_there real name =
        let q = same_sort p.sort Real in
        let sorted : sort_of sig (named ts n) ≡ Some (sort_for q) = ap (sort_of sig) (name_term ts n (Num a b q) numeral_by_sort) ∙ numeral_sorted sig nodes store n a b q numeral_by_sort in
        let kind : q ≡ real = one_sort q real (same_Some (sort_for q) (sort_for real) (sym sorted ∙ name)) in
        numeral_by_sort ∙ ap (λ (r : Bool). Some (Num a b r)) kind

    pub numeral_is : (real : Bool) → IsNumberName sig ts real n → named ts n ≡ Num a b real
    numeral_is real name = name_term ts n (Num a b real) (numeral_there real name)

    pub numeral_numbers : IsRightNumeral a b
    numeral_numbers = right_numeral a b (same_sort p.sort Real) (numeral_right sig nodes store n a b (same_sort p.sort Real) numeral_by_sort)

    pub some_numeral : (r : Bool) × (named ts n ≡ Num a b r)
    some_numeral = (same_sort p.sort Real, name_term ts n (Num a b (same_sort p.sort Real)) numeral_by_sort)

    pub numeral_first : (old new : List Step) (c : Contents) (real : Bool) → IsNumberName sig ts real n → (g : Given) → IsGiven sig ts old new c real n (number_form (ratio a b)) g → IsFirstNumber sig ts old new c real n g
    numeral_first old new c real name g given =
        let there = numeral_there real name in
        record {
          computed = a_numeral a b real there;
          numerals = λ d e r at. subst (λ (x : ℚ). SameMeaning (meaning g.value) (number_form x)) (same_ratio a b d e real r (same_Some (Num a b real) (Num d e r) (sym there ∙ at))) given.means;
          operations = λ k rs args form w at lin. absurd (num_apply a b real k rs (map (named ts) args) (same_Some (Num a b real) (Apply k rs (map (named ts) args)) (sym there ∙ at)));
          over = keys_of_number (λ k. IsOwnAt sig ts n (number_at c) (sort_for real) k) (ratio a b) g.value given.stated.written.normal given.means;
          stated = given.stated;
          rests = given.rests;
        }

  -- ---- fresh constants, and terms that are no numeral
  module _ (k : ℕ) (head : p.head ≡ node.Fresh k) where
    fresh_there : slice_get ts n ≡ Some (Fresh k p.sort)
    fresh_there = fresh_term nodes placed n p at k p.sort head refl

    pub fresh_uncomputed : IsComputed ts n → ⊥
    fresh_uncomputed (a_numeral a b q e) = fresh_num k p.sort a b q (same_Some (Fresh k p.sort) (Num a b q) (sym fresh_there ∙ e))
    fresh_uncomputed (an_operation h rs args number g w e lin) = fresh_apply k p.sort h rs (map (named ts) args) (same_Some (Fresh k p.sort) (Apply h rs (map (named ts) args)) (sym fresh_there ∙ e))

    pub fresh_no_numeral : (a b : ℤ) (r : Bool) → named ts n ≡ Num a b r → ⊥
    fresh_no_numeral a b r e = fresh_num k p.sort a b r (sym (name_term ts n (Fresh k p.sort) fresh_there) ∙ e)

  pub apply_no_numeral : (h : Head) → p.head ≡ node.Of h → (a b : ℤ) (r : Bool) → named ts n ≡ Num a b r → ⊥
  apply_no_numeral h head a b r e = num_apply a b r h p.sorts (map (named ts) p.args) (sym e ∙ applies h head)
