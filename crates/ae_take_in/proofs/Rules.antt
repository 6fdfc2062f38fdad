-- The program's rule of an application is that of the calculus, and what it says of the application's names.
use Rattle.std.specs.Prelude.{ℕ, ℤ, ◌<◌, ◌≤◌, Bool, true, false, List, [], ◌∷◌, ◌≡◌, map, length, Some}
use Rattle.std.specs.List.{AllByRecursion}
use Rattle.std.proofs.Common.{refl, sym, ap, ◌∙◌, subst, arith}
use Rattle.ae_base.proofs.AllOf.{all_before_map}
use Rattle.ae_base.proofs.ListFacts.{cons_head, cons_tail}
use Rattle.ae_math.specs.Fractions.{ℚ, zero_ℚ, ratio}
use Rattle.ae_math.specs.Forms.{single}
use Rattle.ae_core.specs.Sorts.{sort_of}
use Rattle.ae_core.specs.declared.terms.Sort.{Sort}
use Rattle.ae_core.specs.declared.terms.Op.{Op}
use Rattle.ae_core.specs.declared.terms.Op.TheVariants as op
use Rattle.ae_core.specs.declared.terms.Term.{Term, Term-F, Bound, Num, Fresh, Apply, out-Term}
use Rattle.ae_core.specs.declared.terms.Term.TheOpen as layer
use Rattle.ae_core.specs.declared.terms.Term.TheVariants.{outs-Bound, outs-Num, outs-Fresh, outs-Apply}
use Rattle.ae_core.specs.declared.terms.Head.{Head}
use Rattle.ae_core.specs.declared.terms.Head.TheVariants as head
use Rattle.ae_core.specs.declared.problems.Signature.{Signature}
use Rattle.ae_num.specs.declared.forms.Lin.{Lin}
use Rattle.ae_rules.specs.Linear.{Linear, Rule, rule_of}
use Rattle.ae_rules.specs.Linear.Rule.{opaque_term, sum_of, difference_of, negation_of, product_of, quotient_of}
use Rattle.ae_settled.specs.Valued.{linear_form, linear_by, with_forms}
use Rattle.ae_settled.proofs.Nodes.{named_at}
use Rattle.ae_store.specs.Terms.{named, HasOneName}
use Rattle.ae_state_steps.specs.ValueSteps.{sort_for, IsNumberName}
use Rattle.ae_value_fitting.proofs.Written.{one_sort}
use Rattle.ae_constants.specs.Rules.{standing_for}
use Rattle.ae_constants.specs.declared.rules.Computed.{Computed}
use Rattle.ae_constants.specs.declared.rules.Computed.TheVariants as computed
use Rattle.ae_entering.proofs.Rules.{with_each, with_number, by_length, rule_map, form_each}
use Rattle.ae_entering.proofs.Sorting.{int_operands, real_operands, int_sort, real_sort}
use Rattle.ae_take_in.specs.Inner.Operations.{IsByRule, form_by}

-- ---- a rule that is known for one kind of arguments is known for names
abbrev coded : ℕ → Term × Linear
coded i = (Bound i, single (Bound i))

abbrev number_in : Term-F Term → ℕ
number_in (layer.Bound i) = i
number_in _ = 0

abbrev decoded : Term × Linear → ℕ
decoded x = number_in (out-Term x.0)

back : (i : ℕ) → decoded (coded i) ≡ i
back i = ap number_in (outs-Bound i)

with_back : (r : Rule ℕ) → with_each decoded (with_each coded r) ≡ r
with_back opaque_term = refl
with_back (sum_of a b) = λ i. sum_of (back a i) (back b i)
with_back (difference_of a b) = λ i. difference_of (back a i) (back b i)
with_back (negation_of a) = λ i. negation_of (back a i)
with_back (product_of a b) = λ i. product_of (back a i) (back b i)
with_back (quotient_of a b) = λ i. quotient_of (back a i) (back b i)

standing_each : {A : Type 0} (f : ℕ → A) (r : Computed) → standing_for f r ≡ with_each f (standing_for (λ i. i) r)
standing_each f computed.Opaque = refl
standing_each f (computed.Sum a b) = refl
standing_each f (computed.Difference a b) = refl
standing_each f (computed.Negation a) = refl
standing_each f (computed.Product a b) = refl
standing_each f (computed.Quotient a b) = refl

pub rule_is : (h : Head) (args : List ℕ) (r : Computed) → ((f : ℕ → Term × Linear) → rule_of h (map f args) ≡ standing_for f r) → rule_of h args ≡ standing_for (λ i. i) r
rule_is h args r e =
    sym (with_back (rule_of h args)) ∙ ap (with_each decoded) (sym (rule_map coded h args) ∙ e coded ∙ standing_each coded r) ∙ with_back (standing_for (λ i. i) r)

pub form_is : (ts : List Term) (number : ℕ → Lin) (h : Head) (args : List ℕ) (r : Computed) → rule_of h args ≡ standing_for (λ i. i) r
    → linear_form h (with_forms (map (named ts) args) (map number args)) ≡ form_by ts number r
form_is ts number h args r e =
    form_each ts number h args ∙ ap (λ (q : Rule ℕ). linear_by (with_each (with_number ts number) q)) e ∙ ap linear_by (sym (standing_each (with_number ts number) r))

pub form_by_each : (ts : List Term) (number : ℕ → Lin) (r : Computed) → form_by ts number r ≡ linear_by (with_each (with_number ts number) (standing_for (λ i. i) r))
form_by_each ts number r = ap linear_by (standing_each (with_number ts number) r)

-- ---- what the rule says of the names
module _ (sig : Signature) (ts : List Term) (n : ℕ) where
  abbrev Are : Bool → List ℕ → Type 0
  Are real args = AllByRecursion (λ a. IsNumberName sig ts real a) args

  abbrev IntRule : Op → List ℕ → Type 0
  IntRule o xs = named ts n ≡ Apply (head.Int o) [] (map (named ts) xs) → Are false xs → IsByRule sig ts false n (rule_of (head.Int o) xs)

  int_rule : (o : Op) (args : List ℕ) → IntRule o args
  int_rule op.Add args = by_length (IntRule op.Add) (λ e w. tt) (λ a e w. tt) (λ a b e w. record { is = e; left = w.0; right = w.1.0 }) (λ a b c r e w. tt) args
  int_rule op.Sub args = by_length (IntRule op.Sub) (λ e w. tt) (λ a e w. tt) (λ a b e w. record { is = e; left = w.0; right = w.1.0 }) (λ a b c r e w. tt) args
  int_rule op.Mul args = by_length (IntRule op.Mul) (λ e w. tt) (λ a e w. tt) (λ a b e w. record { is = e; left = w.0; right = w.1.0 }) (λ a b c r e w. tt) args
  int_rule op.Neg args = by_length (IntRule op.Neg) (λ e w. tt) (λ a e w. record { is = e; of = w.0 }) (λ a b e w. tt) (λ a b c r e w. tt) args
  int_rule op.Div args = λ e w. tt
  int_rule op.Mod args = λ e w. tt

  abbrev RealRule : Op → List ℕ → Type 0
  RealRule o xs = named ts n ≡ Apply (head.Real o) [] (map (named ts) xs) → Are true xs → IsByRule sig ts true n (rule_of (head.Real o) xs)

  real_rule : (o : Op) (args : List ℕ) → RealRule o args
  real_rule op.Add args = by_length (RealRule op.Add) (λ e w. tt) (λ a e w. tt) (λ a b e w. record { is = e; left = w.0; right = w.1.0 }) (λ a b c r e w. tt) args
  real_rule op.Sub args = by_length (RealRule op.Sub) (λ e w. tt) (λ a e w. tt) (λ a b e w. record { is = e; left = w.0; right = w.1.0 }) (λ a b c r e w. tt) args
  real_rule op.Mul args = by_length (RealRule op.Mul) (λ e w. tt) (λ a e w. tt) (λ a b e w. record { is = e; left = w.0; right = w.1.0 }) (λ a b c r e w. tt) args
  real_rule op.Neg args = by_length (RealRule op.Neg) (λ e w. tt) (λ a e w. record { is = e; of = w.0 }) (λ a b e w. tt) (λ a b c r e w. tt) args
  real_rule op.Div args = by_length (RealRule op.Div) (λ e w. tt) (λ a e w. tt) (λ a b e w. (refl, record { is = e; left = w.0; right = w.1.0 })) (λ a b c r e w. tt) args
  real_rule op.Mod args = λ e w. tt

  pub by_rule : (h : Head) (ss : List Sort) (args : List ℕ) (real : Bool) → named ts n ≡ Apply h ss (map (named ts) args) → IsNumberName sig ts real n → IsByRule sig ts real n (rule_of h args)
  by_rule (head.Int o) ss args real at name =
      let us = map (named ts) args in
      let s : sort_of sig (Apply (head.Int o) ss us) ≡ Some (sort_for real) = ap (sort_of sig) (sym at) ∙ name in
      let i = int_operands sig o ss us (sort_for real) s in
      let r : real ≡ false = one_sort real false (sym (int_sort sig o ss us (sort_for real) s)) in
      subst (λ (b : Bool). IsByRule sig ts b n (rule_of (head.Int o) args)) (sym r)
      (int_rule o args (at ∙ ap (λ (rs : List Sort). Apply (head.Int o) rs us) i.none)
      (subst (λ (b : Bool). Are b args) r (all_before_map (λ (u : Term). sort_of sig u ≡ Some (sort_for real)) (named ts) args i.each)))
  by_rule (head.Real o) ss args real at name =
      let us = map (named ts) args in
      let s : sort_of sig (Apply (head.Real o) ss us) ≡ Some (sort_for real) = ap (sort_of sig) (sym at) ∙ name in
      let i = real_operands sig o ss us (sort_for real) s in
      let r : real ≡ true = one_sort real true (sym (real_sort sig o ss us (sort_for real) s)) in
      subst (λ (b : Bool). IsByRule sig ts b n (rule_of (head.Real o) args)) (sym r)
      (real_rule o args (at ∙ ap (λ (rs : List Sort). Apply (head.Real o) rs us) i.none)
      (subst (λ (b : Bool). Are b args) r (all_before_map (λ (u : Term). sort_of sig u ≡ Some (sort_for real)) (named ts) args i.each)))
  by_rule (head.Symbol j) ss args real at name = tt
  by_rule (head.Build j) ss args real at name = tt
  by_rule (head.Field j k) ss args real at name = tt
  by_rule head.True ss args real at name = tt
  by_rule head.False ss args real at name = tt
  by_rule head.Void ss args real at name = tt

-- ---- a name has one term
abbrev head_in : Head → Term-F Term → Head
head_in d (layer.Apply h ss us) = h
head_in d _ = d

abbrev args_in : Term-F Term → List Term
args_in (layer.Apply h ss us) = us
args_in _ = []

abbrev ratio_in : Term-F Term → ℚ
ratio_in (layer.Num a b r) = ratio a b
ratio_in _ = zero_ℚ

pub same_heads : (h k : Head) (ss rs : List Sort) (us vs : List Term) → Apply h ss us ≡ Apply k rs vs → h ≡ k
same_heads h k ss rs us vs e = ap (head_in h) (sym (outs-Apply h ss us) ∙ ap out-Term e ∙ outs-Apply k rs vs)

pub same_ratio : (a b c d : ℤ) (r s : Bool) → Num a b r ≡ Num c d s → ratio a b ≡ ratio c d
same_ratio a b c d r s e = ap ratio_in (sym (outs-Num a b r) ∙ ap out-Term e ∙ outs-Num c d s)

pub num_apply : (a b : ℤ) (r : Bool) (h : Head) (ss : List Sort) (us : List Term) → Num a b r ≡ Apply h ss us → ⊥
num_apply a b r h ss us e = let z : ◌≡◌ {A = Term-F Term} (layer.Num a b r) (layer.Apply h ss us) = sym (outs-Num a b r) ∙ ap out-Term e ∙ outs-Apply h ss us in cc z

pub fresh_apply : (k : ℕ) (s : Sort) (h : Head) (ss : List Sort) (us : List Term) → Fresh k s ≡ Apply h ss us → ⊥
fresh_apply k s h ss us e = let z : ◌≡◌ {A = Term-F Term} (layer.Fresh k s) (layer.Apply h ss us) = sym (outs-Fresh k s) ∙ ap out-Term e ∙ outs-Apply h ss us in cc z

pub fresh_num : (k : ℕ) (s : Sort) (a b : ℤ) (r : Bool) → Fresh k s ≡ Num a b r → ⊥
fresh_num k s a b r e = let z : ◌≡◌ {A = Term-F Term} (layer.Fresh k s) (layer.Num a b r) = sym (outs-Fresh k s) ∙ ap out-Term e ∙ outs-Num a b r in cc z

module _ (ts : List Term) (one : HasOneName ts) (n : ℕ) (inside : n ≤ length ts) where
  same_names : (xs ys : List ℕ) → AllByRecursion (λ a. a < n) xs → AllByRecursion (λ a. a < n) ys → map (named ts) xs ≡ map (named ts) ys → xs ≡ ys
  same_names [] [] v w e = refl
  same_names [] (y ∷ ys) v w e = absurd (cc e)
  same_names (x ∷ xs) [] v w e = absurd (cc e)
  same_names (x ∷ xs) (y ∷ ys) v w e =
      let first : named ts x ≡ named ts y = cons_head (named ts x) (named ts y) (map (named ts) xs) (map (named ts) ys) e in
      let lx : x < n = v.0 in
      let ly : y < n = w.0 in
      let same : x ≡ y = one x y (named ts x) (named_at ts x (omega (arith, lx, inside))) (named_at ts y (omega (arith, ly, inside)) ∙ ap (λ (t : Term). Some t) (sym first)) in
      let rest : xs ≡ ys = same_names xs ys v.1 w.1 (cons_tail (named ts x) (named ts y) (map (named ts) xs) (map (named ts) ys) e) in
      λ i. same i ∷ rest i

  -- an application of earlier names, in two ways
  pub same_form : (number : ℕ → Lin) (h k : Head) (ss rs : List Sort) (xs ys : List ℕ) → AllByRecursion (λ a. a < n) xs → AllByRecursion (λ a. a < n) ys → Apply h ss (map (named ts) xs) ≡ Apply k rs (map (named ts) ys)
      → linear_form h (with_forms (map (named ts) xs) (map number xs)) ≡ linear_form k (with_forms (map (named ts) ys) (map number ys))
  same_form number h k ss rs xs ys v w e =
      let l : ◌≡◌ {A = Term-F Term} (layer.Apply h ss (map (named ts) xs)) (layer.Apply k rs (map (named ts) ys)) = sym (outs-Apply h ss (map (named ts) xs)) ∙ ap out-Term e ∙ outs-Apply k rs (map (named ts) ys) in
      let heads : h ≡ k = ap (head_in h) l in
      let names : xs ≡ ys = same_names xs ys v w (ap args_in l) in
      λ i. linear_form (heads i) (with_forms (map (named ts) (names i)) (map number (names i)))
