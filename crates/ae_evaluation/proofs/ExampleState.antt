-- The example has a saturated state, and its goal belongs to the ground fragment.
use Rattle.std.specs.Prelude.{ℕ, zero, suc, ◌<◌, Bool, true, false, nat_lt, ◌&&◌, List, [], ◌∷◌, ◌++◌, ◌≡◌, ◌≢◌, ◌⊎◌, map, slice_get, Option, Some, None}
use Rattle.std.specs.List.{AllByRecursion, list_all, Contains}
use Rattle.std.proofs.Common.{inl, inr, true≢false}
use Rattle.std.proofs.lemmas.Bool.Decides.{nat_tests}
use lib.ListN.{get_or}
use mathlib.Core.Path.{refl, sym, ap, ◌∙◌, subst}
use native.Mathlib.Omega.{arith}
use Rattle.ae_core.specs.Putting.{put_sort, instance, instance_term}
use Rattle.ae_core.specs.Sorts.{sort_in, sort_ok, sort_of, same_known, same_sorts, head_sort}
use Rattle.ae_base.specs.Options.{only, all_known, ◌>>=◌}
use Rattle.ae_rules.specs.Lines.{IsAc}
use Rattle.ae_rules.specs.Linear.{is_plain}
use Rattle.ae_rules.specs.Instances.{choices_of, hypothesis as hypothesis_at, axiom_with}
use Rattle.ae_core.specs.Constants.{constants, formula_constants, formula_constants_step}
use Rattle.ae_rules.specs.Clauses.{Clause, row, is_true, is_false, no_of, yes_of, opposite}
use Rattle.ae_rules.specs.Derivations.{goal_body, IsConstructor}
use Rattle.ae_core.specs.Signatures.{IsLawful, IsLawfulFormula, IsLawfulProblem, IsTrigger, triggers_in, triggers_step, IsLawfulType, IsLawfulSymbol}
use Rattle.ae_core.specs.Signatures.{is_sort_over, is_name, names_below, names_below_step, taken_names, IsChoice, IsEnumeration, IsEnumerated}
use Rattle.ae_rules.proofs.ClauseLaws.{literal_eq, row_eq}
use Rattle.ae_core.proofs.PuttingLaws.{instance_apply, instance_eq, put_real, put_named}
use Rattle.ae_core.proofs.Recursion.{fold_eq, fold_real}
use Rattle.ae_core.proofs.Recursion as recursion
use Rattle.ae_core.proofs.SortLaws.{ok_real, ok_named, sort_in_apply, formula_in_eq}
use Rattle.ae_core.specs.declared.formulas.Formula.{Formula, Eq, Pred, out-Formula}
use Rattle.ae_core.specs.declared.formulas.Formula.TheOpen as formula_layer
use Rattle.ae_core.specs.declared.formulas.Formula.TheVariants.{outs-Eq}
use Rattle.ae_core.specs.declared.formulas.Lit.{Lit}
use Rattle.ae_core.specs.declared.formulas.Quant.{Quant}
use Rattle.ae_core.specs.declared.terms.Sort.{Sort, Int, Real, out-Sort}
use Rattle.ae_core.specs.declared.terms.Sort.TheOpen as sort_layer
use Rattle.ae_core.specs.declared.terms.Sort.TheVariants.{outs-Named, outs-Real, outs-Int}
use Rattle.ae_core.specs.declared.terms.Term.{Term, Apply, out-Term}
use Rattle.ae_core.specs.declared.terms.Term.TheOpen as layer
use Rattle.ae_core.specs.declared.terms.Term.TheVariants.{outs-Apply}
use Rattle.ae_core.specs.declared.terms.Head.{Head}
use Rattle.ae_core.specs.declared.terms.Head.TheVariants as head
use Rattle.ae_core.specs.declared.problems.Item.{Item}
use Rattle.ae_core.specs.declared.problems.Item.TheVariants.{Axiom, Goal}
use Rattle.ae_core.specs.declared.problems.Nature.{Nature}
use Rattle.ae_core.specs.declared.problems.Nature.TheVariants.{Free, Ac, Choice}
use Rattle.ae_core.specs.declared.problems.SymbolEntry.{SymbolEntry}
use Rattle.ae_core.specs.declared.problems.TypeEntry.{TypeEntry}
use Rattle.ae_core.specs.declared.problems.FieldEntry.{FieldEntry}
use Rattle.ae_journal.specs.Values.{Val, once, leaf}
use Rattle.ae_journal.specs.Systems.{IsNamed, ValueOf, value_at, record_fields, Has}
use Rattle.ae_journal.specs.States.{IsSaturatedBy, Stands, IsFirst, of_hypothesis, of_goal, Comes, first, by_row, by_block, HasGeneration, Matches, Owner, all_taken}
use Rattle.ae_journal.specs.States.{of_literal, of_axiom, Pattern, pattern_of, literal_pattern, outside, quant_of, is_universal_by, inequality, inequality_of}
use Rattle.ae_journal.specs.Ground.{IsGround, IsFragmentTerm, reals, records, more, none, HoldsEnumeration, itself as holds_itself, in_field, HasFragmentSort}
use Rattle.ae_journal.specs.Ground.{JoinsNoEnumeration, IsGroundFormula, subterms, subterms_step, is_simple, simple_step, atom_terms, atom_terms_step}
use Rattle.ae_evaluation.specs.Consequences.{MakesTrue}
use Rattle.ae_evaluation.specs.Examples.{signature, record_type, x_entry, r_entry, u_entry, x, r, joined_x, square, field, system, hypothesis, goal, problem}
use Rattle.ae_evaluation.specs.Examples.{state, red, hue, colour_type, red_entry, green_entry, hue_entry}
use Rattle.ae_evaluation.proofs.ExampleSystem.{R, no_entry, each_applied, one_place, completed, x_value, joined_value, field_value, x_sort, r_sort, joined_sort}
use Rattle.ae_evaluation.proofs.ExampleSystem.{square_sort, field_sort, R_fields, real_fields, once_tells, each_name, C, C_choices, red_sort, hue_sort}
use Rattle.ae_evaluation.proofs.ExampleSystem.{red_value, hue_value}
use Rattle.ae_evaluation.proofs.Literals.{outside-Eq}
use Rattle.ae_evaluation.proofs.Decisions.{yes_sort, yes_sorts}
use Rattle.ae_evaluation.proofs.Plainness.{plain-Apply}
use Rattle.ae_evaluation.proofs.Substitution.{constants-Apply}
use Rattle.ae_base.proofs.Options.{bind_some, never_some, only_some}
use Rattle.std.proofs.lemmas.Option.{same_Some}
use Rattle.ae_journal.proofs.Splits.{contains_cases, contains_one}

-- ---- the two formulas
outs_hypothesis : out-Formula hypothesis ≡ formula_layer.Eq joined_x x
outs_hypothesis = outs-Eq joined_x x

outs_goal : out-Formula goal ≡ formula_layer.Eq field x
outs_goal = outs-Eq field x

-- an equation's sides
sides : (a b s t : Term) → Eq a b ≡ Eq s t → (a ≡ s) × (b ≡ t)
sides a b s t e = let z : formula_layer.Eq a b ≡ formula_layer.Eq s t = sym (outs-Eq a b) ∙ ap out-Formula e ∙ outs-Eq s t in (cc, cc)

differ : hypothesis ≡ goal → ⊥
differ e =
    let f = (sides joined_x x field x e).0 in
    let z : layer.Apply (head.Symbol 2) [] (x ∷ x ∷ []) ≡ layer.Apply (head.Field 0 0) [] (r ∷ []) =
    sym (outs-Apply (head.Symbol 2) [] (x ∷ x ∷ [])) ∙ ap out-Term f ∙ outs-Apply (head.Field 0 0) [] (r ∷ []) in
    cc

only_these : (l : Lit) → Stands problem 1 state l → (is_true hypothesis ≡ l) ⊎ (is_false goal ≡ l)
only_these l h =
    elim (contains_cases (is_true hypothesis) (is_false goal ∷ []) l h) as
    (λ _. (is_true hypothesis ≡ l) ⊎ (is_false goal ≡ l)) [ inl e ↦ inl e | inr c ↦ inr (contains_one (is_false goal) l c) ]

positive_is : (f : Formula) → Stands problem 1 state (is_true f) → hypothesis ≡ f
positive_is f h = elim (only_these (is_true f) h) as (λ _. hypothesis ≡ f) [
  | inl e ↦ ap (λ (l : Lit). l.formula) e
  | inr e ↦ absurd (true≢false (sym (ap (λ (l : Lit). l.positive) e)))
]

negative_is : (f : Formula) → Stands problem 1 state (is_false f) → goal ≡ f
negative_is f h = elim (only_these (is_false f) h) as (λ _. goal ≡ f) [
  | inl e ↦ absurd (true≢false (ap (λ (l : Lit). l.positive) e))
  | inr e ↦ ap (λ (l : Lit). l.formula) e
]

-- what holds of both literals holds of each that stands
both_stand : (P : Lit → Type 0) → P (is_true hypothesis) → P (is_false goal) → (l : Lit) → Stands problem 1 state l → P l
both_stand P a b l h = elim (only_these l h) as (λ _. P l) [ inl e ↦ subst P e a | inr e ↦ subst P e b ]

hypothesis_stands : Stands problem 1 state (is_true hypothesis)
hypothesis_stands = (zero, omega arith, refl)

goal_stands : Stands problem 1 state (is_false goal)
goal_stands = (suc zero, omega arith, refl)

consistent : (l : Lit) → Stands problem 1 state l → Stands problem 1 state (opposite l) → ⊥
consistent =
    both_stand (λ l. Stands problem 1 state (opposite l) → ⊥) (λ h. differ (sym (negative_is hypothesis h)))
    (λ h. differ (positive_is goal h))

named : (l : Lit) → Stands problem 1 state l → AllByRecursion (IsNamed system) (outside l.formula)
named =
    both_stand (λ l. AllByRecursion (IsNamed system) (outside l.formula))
    (subst (AllByRecursion (IsNamed system)) (sym (outside-Eq joined_x x)) ((1, refl), ((0, refl), tt)))
    (subst (AllByRecursion (IsNamed system)) (sym (outside-Eq field x)) ((4, refl), ((0, refl), tt)))

-- ---- the hypothesis and the goal
no_more : (k : ℕ) (f : Formula) → (i : Item) → slice_get problem.items (suc k) ≡ Some i → nat_lt (suc k) 1 ≡ true → ⊥
no_more k f i e h = omega (arith, lt)
  where
    lt : suc k < 1
    lt = grind (arith, nat_tests, h)

instance_x : instance_term [] x ≡ x
instance_x = instance_apply [] (head.Symbol 0) [] []

instance_joined : instance_term [] joined_x ≡ joined_x
instance_joined = instance_apply [] (head.Symbol 2) [] (x ∷ x ∷ []) ∙ (λ i. Apply (head.Symbol 2) [] (instance_x i ∷ instance_x i ∷ []))

instance_hypothesis : instance [] hypothesis ≡ hypothesis
instance_hypothesis = instance_eq [] joined_x x ∙ (λ i. Eq (instance_joined i) (instance_x i))

is_hypothesis : (k : ℕ) (f : Formula) → hypothesis_at problem 1 k [] ≡ Some f → hypothesis ≡ f
is_hypothesis zero f e = sym instance_hypothesis ∙ same_Some (instance [] hypothesis) f e
is_hypothesis (suc k) f e =
    let b =
    bind_some (only (nat_lt (suc k) 1) (slice_get problem.items (suc k)))
    (λ i. elim i as (λ _. Option Formula) [ Axiom n v f ↦ axiom_with v f [] | Goal n v f ↦ None ]) f e in
    let o = only_some (nat_lt (suc k) 1) (slice_get problem.items (suc k)) b.0 b.1 in
    absurd (no_more k f b.0 o.1 o.0)

is_goal : (f : Formula) → goal_body problem 1 ≡ Some f → goal ≡ f
is_goal f e = same_Some goal f e

firsts : (l : Lit) → IsFirst problem 1 state l → Stands problem 1 state l
firsts l (of_hypothesis k f e) =
    subst (λ g. Stands problem 1 state (yes_of g)) (is_hypothesis k f e)
    (subst (Stands problem 1 state) (sym (literal_eq true joined_x x)) hypothesis_stands)
firsts l (of_goal f e) =
    subst (λ g. Stands problem 1 state (no_of g)) (is_goal f e)
    (subst (Stands problem 1 state) (sym (literal_eq false field x)) goal_stands)

no_row : (l : Lit) → Stands problem 1 state l → (k : ℕ) (c : Clause) → row k l.formula ≡ Some c → ⊥
no_row =
    both_stand (λ l. (k : ℕ) (c : Clause) → row k l.formula ≡ Some c → ⊥) (λ k c e. never_some c (sym (row_eq k joined_x x) ∙ e))
    (λ k c e. never_some c (sym (row_eq k field x) ∙ e))

-- ---- values
value_is : (t : Term) (k : ℕ) (v w : Val) → slice_get system.names k ≡ Some t → value_at system k ≡ Some v → ValueOf system t w → v ≡ w
value_is t k v w i e o = same_Some v w (sym e ∙ ap (value_at system) (one_place k o.0 t i o.1) ∙ o.2)

equal : (s t : Term) → Stands problem 1 state (is_true (Eq s t)) → (v : Val) × ValueOf system s v × ValueOf system t v
equal s t h =
    let e = sides joined_x x s t (positive_is (Eq s t) h) in
    (once 0, (1, ap (λ (u : Term). Some u) e.0, joined_value), (0, ap (λ (u : Term). Some u) e.1, x_value))

unequal : (s t : Term) (v : Val) → Stands problem 1 state (is_false (Eq s t)) → ValueOf system s v → ValueOf system t v → ⊥
unequal s t v h a b =
    let e = sides field x s t (negative_is (Eq s t) h) in
    let p = value_is field 4 (once 4) v refl field_value (subst (λ (u : Term). ValueOf system u v) (sym e.0) a) in
    let q = value_is x 0 (once 0) v refl x_value (subst (λ (u : Term). ValueOf system u v) (sym e.1) b) in
    let z = once_tells 4 0 (p ∙ sym q) in
    omega (arith, z)

-- the state's equation has names with equal values as its sides
pub makes_true : MakesTrue signature system state.literals
makes_true s t (k, e) ok = equal s t (at_place k e)
  where
    at_place : (k : ℕ) → slice_get state.literals k ≡ Some (is_true (Eq s t)) → Stands problem 1 state (is_true (Eq s t))
    at_place zero e = (zero, omega arith, same_Some (is_true hypothesis) (is_true (Eq s t)) e)
    at_place (suc zero) e = (suc zero, omega arith, same_Some (is_false goal) (is_true (Eq s t)) e)
    at_place (suc (suc k)) e = absurd (no_entry k (is_true (Eq s t)) e)

-- ---- the enumeration
free_x : (e : SymbolEntry) → Some x_entry ≡ Some e → Free ≡ e.nature
free_x e f = ap (λ (s : SymbolEntry). s.nature) (same_Some x_entry e f)

not_choice : (n : Nature) (of place : ℕ) → (n ≡ Free) ⊎ (n ≡ Ac) → n ≡ Choice of place → ⊥
not_choice n of place (inl e) f = cc
not_choice n of place (inr e) f = cc

-- the one constructor that has a name
is_red : (n : ℕ) (h : Head) (ss : List Sort) (us : List Term) → slice_get system.names n ≡ Some (Apply h ss us)
    → IsConstructor signature h → h ≡ head.Symbol 3
is_red =
    each_applied (λ h ss us n. IsConstructor signature h → h ≡ head.Symbol 3) (λ (e, of, place, f, g). absurd
    (not_choice e.nature of place (inl (ap (λ (s : SymbolEntry). s.nature) (sym (same_Some x_entry e f)))) g))
    (λ (e, of, place, f, g). absurd
    (not_choice e.nature of place (inr (ap (λ (s : SymbolEntry). s.nature) (sym (same_Some u_entry e f)))) g))
    (λ c. absurd c)
    (λ (e, of, place, f, g). absurd
    (not_choice e.nature of place (inl (ap (λ (s : SymbolEntry). s.nature) (sym (same_Some r_entry e f)))) g))
    (λ c. absurd c) (λ c. refl)
    (λ (e, of, place, f, g). absurd
    (not_choice e.nature of place (inl (ap (λ (s : SymbolEntry). s.nature) (sym (same_Some hue_entry e f)))) g))

real_no_choice : choices_of signature (out-Sort Real) ≡ None
real_no_choice = ap (choices_of signature) outs-Real

record_no_choice : choices_of signature (out-Sort R) ≡ None
record_no_choice = ap (choices_of signature) (outs-Named 0 [])

-- a name of an enumeration has the value of `red`
exhausted : (s : Sort) (v : Val) (n : ℕ) (hs : List Head) → Has signature system s v n → choices_of signature (out-Sort s) ≡ Some hs
    → (h : Head) × Contains hs h × ValueOf system (Apply h [] []) v
exhausted s v n hs a e =
    each_name (λ k t. sort_of signature t ≡ Some s → value_at system k ≡ Some v → (h : Head) × Contains hs h × ValueOf system
    (Apply h [] []) v)
    (λ f w. none x Real x_sort real_no_choice f) (λ f w. none joined_x Real joined_sort real_no_choice f)
    (λ f w. none square Real square_sort real_no_choice f) (λ f w. none r R r_sort record_no_choice f)
    (λ f w. none field Real field_sort real_no_choice f) (λ f w. some red red_sort f (sym red_value ∙ w))
    (λ f w. some hue hue_sort f (sym hue_value ∙ w)) n a.term a.is a.sort a.value
  where
    none : {A : Type 0} (t : Term) (o : Sort) → sort_of signature t ≡ Some o → choices_of signature (out-Sort o) ≡ None
        → sort_of signature t ≡ Some s → A
    none t o f c g =
        absurd (never_some hs (sym c ∙ ap (λ (q : Sort). choices_of signature (out-Sort q)) (same_Some o s (sym f ∙ g)) ∙ e))

    some : (t : Term) → sort_of signature t ≡ Some C → sort_of signature t ≡ Some s → Some (leaf 5) ≡ Some v
        → (h : Head) × Contains hs h × ValueOf system (Apply h [] []) v
    some t f g w =
        let is : head.Symbol 3 ∷ head.Symbol 4 ∷ [] ≡ hs =
        same_Some (head.Symbol 3 ∷ head.Symbol 4 ∷ []) hs
        (sym C_choices ∙ ap (λ (q : Sort). choices_of signature (out-Sort q)) (same_Some C s (sym f ∙ g)) ∙ e) in
        (head.Symbol 3, subst (λ (xs : List Head). Contains xs (head.Symbol 3)) is (zero, omega arith, refl), (5, refl, red_value ∙ w))

not_int : (n : ℕ) (t : Term) → slice_get system.names n ≡ Some t → sort_of signature t ≡ Some Int → ⊥
not_int =
    each_name (λ n t. sort_of signature t ≡ Some Int → ⊥) (λ e. real x x_sort e) (λ e. real joined_x joined_sort e)
    (λ e. real square square_sort e)
    (λ e. let z : sort_layer.Named 0 [] ≡ sort_layer.Int = sym (outs-Named 0 []) ∙ ap out-Sort (same_Some R Int (sym r_sort ∙ e))
    ∙ outs-Int in cc) (λ e. real field field_sort e) (λ e. colour red red_sort e)
    (λ e. colour hue hue_sort e)
  where
    colour : (t : Term) → sort_of signature t ≡ Some C → sort_of signature t ≡ Some Int → ⊥
    colour t f e =
        let z : sort_layer.Named 1 [] ≡ sort_layer.Int = sym (outs-Named 1 []) ∙ ap out-Sort (same_Some C Int (sym f ∙ e)) ∙ outs-Int in cc

    real : (t : Term) → sort_of signature t ≡ Some Real → sort_of signature t ≡ Some Int → ⊥
    real t f e = let z : sort_layer.Real ≡ sort_layer.Int = sym outs-Real ∙ ap out-Sort (same_Some Real Int (sym f ∙ e)) ∙ outs-Int in cc

-- ---- no inequality, no quantifier, no match
no_inequality : (l : Lit) → Stands problem 1 state l → (z : Term × Term × Bool) → inequality l ≡ Some z → ⊥
no_inequality =
    both_stand (λ l. (z : Term × Term × Bool) → inequality l ≡ Some z → ⊥)
    (λ z e. never_some z (sym (ap (inequality_of true) outs_hypothesis) ∙ e))
    (λ z e. never_some z (sym (ap (inequality_of false) outs_goal) ∙ e))

no_quant : (l : Lit) → Stands problem 1 state l → (q : Quant) → quant_of (out-Formula l.formula) ≡ Some q → ⊥
no_quant =
    both_stand (λ l. (q : Quant) → quant_of (out-Formula l.formula) ≡ Some q → ⊥)
    (λ q e. never_some q (sym (ap quant_of outs_hypothesis) ∙ e)) (λ q e. never_some q (sym (ap quant_of outs_goal) ∙ e))

no_pattern : (l : Lit) → Stands problem 1 state l → (q : Pattern) → pattern_of problem 1 (of_literal l) ≡ Some q → ⊥
no_pattern =
    both_stand (λ l. (q : Pattern) → pattern_of problem 1 (of_literal l) ≡ Some q → ⊥)
    (λ q e. never_some q (sym
    (ap (λ g. only (is_universal_by true g) (quant_of g) >>= λ q. Some (literal_pattern signature q)) outs_hypothesis) ∙ e))
    (λ q e. never_some q (sym (ap (λ g. only (is_universal_by false g) (quant_of g) >>= λ q. Some (literal_pattern signature q)) outs_goal)
    ∙ e))

no_axiom : (k : ℕ) (q : Pattern) → pattern_of problem 1 (of_axiom k) ≡ Some q → ⊥
no_axiom zero q e = never_some q e
no_axiom (suc k) q e =
    let b = bind_some (only (nat_lt (suc k) 1) (slice_get problem.items (suc k))) _ q e in
    let o = only_some (nat_lt (suc k) 1) (slice_get problem.items (suc k)) b.0 b.1 in
    no_more k goal b.0 o.1 o.0

reached : (n : ℕ) (l : Lit) → Comes problem 1 state all_taken (HasGeneration problem 1 state all_taken n) l → Stands problem 1 state l
reached n l (first a b) = b
reached n l (by_row q c a b d e f g) = g
reached n l (by_block q a b c d) = d

none_matches : (n : ℕ) (o : Owner) (us : List Sort) (ts : List Term)
    → Matches problem 1 state all_taken (HasGeneration problem 1 state all_taken n) o us ts → ⊥
none_matches n (of_literal l) us ts m = no_pattern l (reached n l m.owner_comes) m.pattern m.of_owner
none_matches n (of_axiom k) us ts m = no_axiom k m.pattern m.of_owner

pub saturated_by : (bound : ℕ) → IsSaturatedBy problem 1 state all_taken bound
saturated_by bound = record {
  consistent = consistent;
  completed = completed;
  named = named;
  firsts = firsts;
  taken_apart = λ l h k c e. absurd (no_row l h k c e);
  equal = equal;
  unequal = unequal;
  constructors = λ h i v a b c d. is_red c.0 h [] [] c.1 a ∙ sym (is_red d.0 i [] [] d.1 b);
  predicates = λ q ss ts us h k a. not_an_equation q ss ts (positive_is (Pred q ss ts) h);
  exhausted = exhausted;
  whole = λ n d t f i e g z w. absurd (not_int n t i e);
  inequalities = λ l s t strict v w h e a b. absurd (no_inequality l h (s, t, strict) e);
  blocks = λ l q h e f. absurd (no_quant l h q f);
  instances = λ n o us ts h m k. absurd (none_matches n o us ts m);
}
  where
    not_an_equation : (q : ℕ) (ss : List Sort) (ts : List Term) → hypothesis ≡ Pred q ss ts → ⊥
    not_an_equation q ss ts e = cc

-- ---- the signature is lawful
good_names : list_all is_name
    (map (λ (e : TypeEntry). e.name) signature.types ++ map (λ (e : SymbolEntry). e.name) signature.symbols ++ (112 ∷ []) ∷ []) ≡ true
unfolding taken_names
good_names = refl

pub codes_differ : (a b : ℕ) → a ≢ b → a ∷ [] ≡ b ∷ [] → ⊥
codes_differ a b n e = n (ap (λ codes. get_or codes 0 0) e)

abbrev names : List (List ℕ)
names = (120 ∷ []) ∷ (114 ∷ []) ∷ (117 ∷ []) ∷ (97 ∷ []) ∷ (98 ∷ []) ∷ (104 ∷ []) ∷ []

different_names : (i j : ℕ) (d : List ℕ) → i < j → j < 6 → get_or names i d ≡ get_or names j d → ⊥
different_names i zero d h k e = omega (arith, h)
different_names zero (suc zero) d h k e = codes_differ 120 114 (omega arith) e
different_names zero (suc (suc zero)) d h k e = codes_differ 120 117 (omega arith) e
different_names zero (suc (suc (suc zero))) d h k e = codes_differ 120 97 (omega arith) e
different_names zero (suc (suc (suc (suc zero)))) d h k e = codes_differ 120 98 (omega arith) e
different_names zero (suc (suc (suc (suc (suc zero))))) d h k e = codes_differ 120 104 (omega arith) e
different_names (suc zero) (suc (suc zero)) d h k e = codes_differ 114 117 (omega arith) e
different_names (suc zero) (suc (suc (suc zero))) d h k e = codes_differ 114 97 (omega arith) e
different_names (suc zero) (suc (suc (suc (suc zero)))) d h k e = codes_differ 114 98 (omega arith) e
different_names (suc zero) (suc (suc (suc (suc (suc zero))))) d h k e = codes_differ 114 104 (omega arith) e
different_names (suc (suc zero)) (suc (suc (suc zero))) d h k e = codes_differ 117 97 (omega arith) e
different_names (suc (suc zero)) (suc (suc (suc (suc zero)))) d h k e = codes_differ 117 98 (omega arith) e
different_names (suc (suc zero)) (suc (suc (suc (suc (suc zero))))) d h k e = codes_differ 117 104 (omega arith) e
different_names (suc (suc (suc zero))) (suc (suc (suc (suc zero)))) d h k e = codes_differ 97 98 (omega arith) e
different_names (suc (suc (suc zero))) (suc (suc (suc (suc (suc zero))))) d h k e = codes_differ 97 104 (omega arith) e
different_names (suc (suc (suc (suc zero)))) (suc (suc (suc (suc (suc zero))))) d h k e = codes_differ 98 104 (omega arith) e
different_names i j d h k e = omega (arith, h, k)

two_types : (i j : ℕ) (d : List ℕ) → i < j → j < 2 → get_or ((116 ∷ []) ∷ (99 ∷ []) ∷ []) i d ≡ get_or ((116 ∷ []) ∷ (99 ∷ []) ∷ []) j d → ⊥
two_types i zero d h k e = omega (arith, h)
two_types zero (suc zero) d h k e = codes_differ 116 99 (omega arith) e
two_types (suc i) (suc zero) d h k e = omega (arith, h)
two_types i (suc (suc j)) d h k e = omega (arith, k)

real_over : is_sort_over signature 0 Real ≡ true
real_over = ok_real signature (λ i. nat_lt i 0) (λ i. false)

record_over : is_sort_over signature 0 R ≡ true
record_over = ok_named signature (λ i. nat_lt i 0) (λ i. false) 0 []

real_below : names_below 0 Real ≡ true
unfolding names_below
real_below = fold_real Bool (names_below_step 0)

colour_over : is_sort_over signature 0 C ≡ true
colour_over = ok_named signature (λ i. nat_lt i 0) (λ i. false) 1 []

-- the enumeration lists its two constructors
choice_places : (symbol place : ℕ) → slice_get (3 ∷ 4 ∷ []) place ≡ Some symbol → IsChoice signature symbol 1 place
choice_places symbol zero e = subst (λ (k : ℕ). IsChoice signature k 1 0) (same_Some 3 symbol e) (red_entry, refl, refl)
choice_places symbol (suc zero) e = subst (λ (k : ℕ). IsChoice signature k 1 1) (same_Some 4 symbol e) (green_entry, refl, refl)
choice_places symbol (suc (suc k)) e = absurd (no_entry k symbol e)

place_of : (e d : SymbolEntry) (of place at : ℕ) → d.nature ≡ Choice of at → Some d ≡ Some e → e.nature ≡ Choice 1 place → at ≡ place
place_of e d of place at a f g =
    let z : Choice of at ≡ Choice 1 place = sym a ∙ ap (λ (s : SymbolEntry). s.nature) (same_Some d e f) ∙ g in cc

chosen_places : (symbol place : ℕ) → IsChoice signature symbol 1 place → slice_get (3 ∷ 4 ∷ []) place ≡ Some symbol
chosen_places zero place (e, f, g) = absurd
    (not_choice e.nature 1 place (inl (ap (λ (s : SymbolEntry). s.nature) (sym (same_Some x_entry e f)))) g)
chosen_places (suc zero) place (e, f, g) =
    absurd (not_choice e.nature 1 place (inl (ap (λ (s : SymbolEntry). s.nature) (sym (same_Some r_entry e f)))) g)
chosen_places (suc (suc zero)) place (e, f, g) =
    absurd (not_choice e.nature 1 place (inr (ap (λ (s : SymbolEntry). s.nature) (sym (same_Some u_entry e f)))) g)
chosen_places (suc (suc (suc zero))) place (e, f, g) = ap (slice_get (3 ∷ 4 ∷ [])) (sym (place_of e red_entry 1 place 0 refl f g))
chosen_places (suc (suc (suc (suc zero)))) place (e, f, g) = ap (slice_get (3 ∷ 4 ∷ [])) (sym (place_of e green_entry 1 place 1 refl f g))
chosen_places (suc (suc (suc (suc (suc zero))))) place (e, f, g) =
    absurd (not_choice e.nature 1 place (inl (ap (λ (s : SymbolEntry). s.nature) (sym (same_Some hue_entry e f)))) g)
chosen_places (suc (suc (suc (suc (suc (suc n)))))) place (e, f, g) = absurd (no_entry n e f)

colours : IsEnumeration signature 1 0 (3 ∷ 4 ∷ [])
colours = record { no_parameters = refl; some = not_none; each = λ symbol place. (choice_places symbol place, chosen_places symbol place) }
  where
    not_none : ◌≢◌ {A = List ℕ} (3 ∷ 4 ∷ []) []
    not_none e = cc

lawful_type : (n : ℕ) (e : TypeEntry) → slice_get signature.types n ≡ Some e → IsLawfulType signature n e
lawful_type zero e f =
    subst (IsLawfulType signature 0) (same_Some record_type e f) (not_empty _ [], λ i. (real_over i && real_below i) && true)
  where
    not_empty : (f : FieldEntry) (fs : List FieldEntry) → f ∷ fs ≡ [] → ⊥
    not_empty f fs e = cc
lawful_type (suc zero) e f = subst (IsLawfulType signature 1) (same_Some colour_type e f) colours
lawful_type (suc (suc n)) e f = absurd (no_entry n e f)

lawful_choice : (◌≡◌ {A = ℕ} 0 0) × (◌≡◌ {A = List Sort} [] []) × (Some C ≡ Some C) × IsEnumerated signature 1
lawful_choice = (refl, refl, refl, (colour_type, 3 ∷ 4 ∷ [], refl, refl))

lawful_symbol : (n : ℕ) (e : SymbolEntry) → slice_get signature.symbols n ≡ Some e → IsLawfulSymbol signature e
lawful_symbol zero e f = subst (IsLawfulSymbol signature) (same_Some x_entry e f) (refl, real_over, tt)
lawful_symbol (suc zero) e f = subst (IsLawfulSymbol signature) (same_Some r_entry e f) (refl, record_over, tt)
lawful_symbol (suc (suc zero)) e f =
    subst (IsLawfulSymbol signature) (same_Some u_entry e f) ((λ i. real_over i && (real_over i && true)), real_over, (Real, refl, refl))
lawful_symbol (suc (suc (suc zero))) e f = subst (IsLawfulSymbol signature) (same_Some red_entry e f) (refl, colour_over, lawful_choice)
lawful_symbol (suc (suc (suc (suc zero)))) e f = subst (IsLawfulSymbol signature) (same_Some green_entry e f)
    (refl, colour_over, lawful_choice)
lawful_symbol (suc (suc (suc (suc (suc zero))))) e f = subst (IsLawfulSymbol signature) (same_Some hue_entry e f) (refl, colour_over, tt)
lawful_symbol (suc (suc (suc (suc (suc (suc n)))))) e f = absurd (no_entry n e f)

pub lawful : IsLawful signature
lawful = record {
  names = good_names;
  type_names = two_types;
  symbol_names = different_names;
  field_names = λ i j d h k. absurd (omega (arith, h, k));
  types = lawful_type;
  symbols = lawful_symbol;
}

-- ---- the goal belongs to the ground fragment
real_holds_none : HoldsEnumeration signature Real → ⊥
real_holds_none h = go Real h refl
  where
    go : (s : Sort) → HoldsEnumeration signature s → Real ≡ s → ⊥
    go s (holds_itself t hs e) z = never_some hs (sym real_no_choice ∙ ap (λ (o : Sort). choices_of signature (out-Sort o)) z ∙ e)
    go s (in_field t fs e i) z = never_some fs (sym real_fields ∙ ap (record_fields signature) z ∙ e)

real_fragment : (t : Term) → sort_of signature t ≡ Some Real → HasFragmentSort signature [] t
real_fragment t e = (Real, e, reals)

record_fragment : HasFragmentSort signature [] r
record_fragment = (R, r_sort, records 0 [] (Real ∷ []) R_fields (more reals none))

parts_of_x : subterms x ≡ x ∷ []
unfolding subterms
parts_of_x = recursion.para_apply (List Term) subterms_step (head.Symbol 0) [] []

parts_of_r : subterms r ≡ r ∷ []
unfolding subterms
parts_of_r = recursion.para_apply (List Term) subterms_step (head.Symbol 1) [] []

parts_of_joined : subterms joined_x ≡ joined_x ∷ x ∷ x ∷ []
unfolding subterms
parts_of_joined =
    recursion.para_apply (List Term) subterms_step (head.Symbol 2) [] (x ∷ x ∷ [])
    ∙ (λ i. joined_x ∷ (parts_of_x i ++ (parts_of_x i ++ [])))

parts_of_field : subterms field ≡ field ∷ r ∷ []
unfolding subterms
parts_of_field = recursion.para_apply (List Term) subterms_step (head.Field 0 0) [] (r ∷ []) ∙ (λ i. field ∷ (parts_of_r i ++ []))

-- what has the sort `real` joins no enumeration, and a free symbol joins nothing
real_join : (t : Term) → sort_of signature t ≡ Some Real → JoinsNoEnumeration signature [] t
real_join t e h ss us s f i o k = real_holds_none (subst (HoldsEnumeration signature) (same_Some s Real (sym o ∙ e)) k)

record_join : JoinsNoEnumeration signature [] r
record_join h ss us s f i o k = not_ac (subst (IsAc signature) (sym (same_head f)) i)
  where
    same_head : r ≡ Apply h ss us → head.Symbol 1 ≡ h
    same_head f =
        let z : layer.Apply (head.Symbol 1) [] [] ≡ layer.Apply h ss us =
        sym (outs-Apply (head.Symbol 1) [] []) ∙ ap out-Term f ∙ outs-Apply h ss us in
        cc

    free_not_ac : Free ≡ Ac → ⊥
    free_not_ac e = cc

    not_ac : IsAc signature (head.Symbol 1) → ⊥
    not_ac (e, at, is) = free_not_ac (ap (λ (s : SymbolEntry). s.nature) (same_Some r_entry e at) ∙ is)

fragment_x : IsFragmentTerm signature [] x
fragment_x = record {
  plain = plain-Apply (head.Symbol 0) [] [];
  sorted = subst (AllByRecursion (HasFragmentSort signature [])) (sym parts_of_x) (real_fragment x x_sort, tt);
  joins = subst (AllByRecursion (JoinsNoEnumeration signature [])) (sym parts_of_x) (real_join x x_sort, tt);
}

plain_x : is_plain x ≡ true
plain_x = plain-Apply (head.Symbol 0) [] []

plain_r : is_plain r ≡ true
plain_r = plain-Apply (head.Symbol 1) [] []

fragment_joined : IsFragmentTerm signature [] joined_x
fragment_joined = record {
  plain = plain-Apply (head.Symbol 2) [] (x ∷ x ∷ []) ∙ (λ i. plain_x i && (plain_x i && true));
  sorted = subst (AllByRecursion (HasFragmentSort signature [])) (sym parts_of_joined)
      (real_fragment joined_x joined_sort, (real_fragment x x_sort, (real_fragment x x_sort, tt)));
  joins = subst (AllByRecursion (JoinsNoEnumeration signature [])) (sym parts_of_joined)
      (real_join joined_x joined_sort, (real_join x x_sort, (real_join x x_sort, tt)));
}

fragment_field : IsFragmentTerm signature [] field
fragment_field = record {
  plain = plain-Apply (head.Field 0 0) [] (r ∷ []) ∙ (λ i. plain_r i && true);
  sorted = subst (AllByRecursion (HasFragmentSort signature [])) (sym parts_of_field)
      (real_fragment field field_sort, (record_fragment, tt));
  joins = subst (AllByRecursion (JoinsNoEnumeration signature [])) (sym parts_of_field) (real_join field field_sort, (record_join, tt));
}

simple_equation : (a b : Term) → is_simple (Eq a b) ≡ true
unfolding is_simple
simple_equation a b = fold_eq Bool (Unit {0}) simple_step (λ q. tt) a b

sides_of : (a b : Term) → atom_terms (Eq a b) ≡ a ∷ b ∷ []
unfolding atom_terms
sides_of a b = fold_eq (List Term) (Unit {0}) atom_terms_step (λ q. tt) a b

ground_equation : (a b : Term) → IsFragmentTerm signature [] a → IsFragmentTerm signature [] b → IsGroundFormula signature [] (Eq a b)
ground_equation a b p q =
    record { simple = simple_equation a b; terms = subst (AllByRecursion (IsFragmentTerm signature [])) (sym (sides_of a b)) (p, (q, tt)) }

not_varied : (k : ℕ) (name : List ℕ) (v : ℕ) (f : Formula) → k < 1 → slice_get problem.items k ≡ Some (Axiom name v f) → v ≡ 0
not_varied zero name v f h e = let z : Axiom [] 0 hypothesis ≡ Axiom name v f = same_Some (Axiom [] 0 hypothesis) (Axiom name v f) e in cc
not_varied (suc k) name v f h e = absurd (omega (arith, h))

pub ground : IsGround problem 1
ground = record {
  not_varied = not_varied;
  hypotheses = λ k f e. subst (IsGroundFormula signature []) (is_hypothesis k f e) (ground_equation joined_x x fragment_joined fragment_x);
  goal = goal;
  is = refl;
  ground = inl (ground_equation field x fragment_field fragment_x);
}

-- ---- no fresh constant stands in the problem
constants_x : constants x ≡ []
constants_x = constants-Apply (head.Symbol 0) [] []

constants_joined : constants joined_x ≡ []
constants_joined = constants-Apply (head.Symbol 2) [] (x ∷ x ∷ []) ∙ (λ i. constants_x i ++ (constants_x i ++ []))

constants_field : constants field ≡ []
constants_field = constants-Apply (head.Field 0 0) [] (r ∷ []) ∙ (λ i. constants-Apply (head.Symbol 1) [] [] i ++ [])

constants_sides : (a b : Term) → formula_constants (Eq a b) ≡ constants a ++ constants b
unfolding formula_constants
constants_sides a b = fold_eq (List Term) (List Term) formula_constants_step _ a b

hypothesis_constants : formula_constants hypothesis ≡ []
hypothesis_constants = constants_sides joined_x x ∙ (λ i. constants_joined i ++ constants_x i)

goal_constants : formula_constants goal ≡ []
goal_constants = constants_sides field x ∙ (λ i. constants_field i ++ constants_x i)

-- ---- the terms under other type variables: no sort stands in them
module _ (may : Sort → Bool) where
  x_in : sort_in signature may [] x ≡ Some Real
  x_in =
      sort_in_apply signature may [] (head.Symbol 0) [] [] ∙ ap (λ b. only b (Some Real) >>= λ s. Some (put_sort [] s)) (yes_sorts [])
      ∙ ap (λ (s : Sort). Some s) (put_real [])

  r_in : sort_in signature may [] r ≡ Some R
  r_in =
      sort_in_apply signature may [] (head.Symbol 1) [] [] ∙ ap (λ b. only b (Some R) >>= λ s. Some (put_sort [] s)) (yes_sorts [])
      ∙ ap (λ (s : Sort). Some s) (put_named [] 0 [])

  joined_in : sort_in signature may [] joined_x ≡ Some Real
  joined_in =
      sort_in_apply signature may [] (head.Symbol 2) [] (x ∷ x ∷ []) ∙
      (λ i. all_known (x_in i ∷ x_in i ∷ []) >>= head_sort signature (head.Symbol 2) [])
      ∙ (λ i. only (same_sorts (Real ∷ Real ∷ []) (put_real [] i ∷ put_real [] i ∷ [])) (Some Real) >>= λ s. Some (put_sort [] s))
      ∙ ap (λ b. only b (Some Real) >>= λ s. Some (put_sort [] s)) (yes_sorts (Real ∷ Real ∷ [])) ∙ ap (λ (s : Sort). Some s) (put_real [])

  field_in : sort_in signature may [] field ≡ Some Real
  field_in =
      sort_in_apply signature may [] (head.Field 0 0) [] (r ∷ []) ∙
      (λ i. all_known (r_in i ∷ []) >>= head_sort signature (head.Field 0 0) [])
      ∙ ap (λ b. only b (Some (put_sort [] Real))) (yes_sorts (R ∷ [])) ∙ ap (λ (s : Sort). Some s) (put_real [])

-- ---- the problem is lawful
no_triggers : (a b : Term) → triggers_in (Eq a b) ≡ []
unfolding triggers_in
no_triggers a b = fold_eq (List (ℕ × List Term)) (List (ℕ × List Term)) triggers_step _ a b

lawful_equation : (may : Sort → Bool) (a b : Term) → sort_in signature may [] a ≡ Some Real → sort_in signature may [] b ≡ Some Real
    → formula_constants (Eq a b) ≡ [] → IsLawfulFormula signature may (Eq a b)
lawful_equation may a b e f c = (
  formula_in_eq signature may [] a b ∙ (λ i. same_known (e i) (f i)) ∙ yes_sort Real,
  subst (AllByRecursion (λ (t : ℕ × List Term). IsTrigger t.0 t.1)) (sym (no_triggers a b)) tt,
  c,
)

pub lawful_problem : IsLawfulProblem problem
lawful_problem = record {
  signature = lawful;
  items = (
    lawful_equation (is_sort_over signature 0) joined_x x (joined_in _) (x_in _) hypothesis_constants,
    (lawful_equation (sort_ok signature (λ i. false) (λ i. nat_lt i 0)) field x (field_in _) (x_in _) goal_constants, tt),
  );
}
