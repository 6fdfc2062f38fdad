-- Where its conditions are met, an expression of a parsed text has trees whose sorts fit.
use Rattle.std.proofs.Common.{arith, ◌≡◌, ◌∙◌, ◌+◌, ℕ, suc, Bool, true, false, ◌&&◌, List, [], ◌∷◌, map, refl, sym, ap, subst, Option, Some, None}
use Rattle.std.proofs.Common.{slice_get, pos}
use Rattle.std.specs.List.{AllByRecursion}
use Rattle.std.specs.Str.{bytes_eq}
use Rattle.std.proofs.lemmas.Bool.{and_from}
use Rattle.ae_base.specs.Options.{when}
use Rattle.ae_base.proofs.Decided.{decided_of}
use Rattle.ae_core.specs.Decided.{Sorts_discrete}
use Rattle.ae_core.specs.Signatures.{IsLawful}
use Rattle.ae_core.specs.Sorts.{head_sort, same_sorts}
use Rattle.ae_core.proofs.SortLaws.{ok_int, ok_real, ok_bool, ok_unit}
use Rattle.ae_core.specs.declared.terms.Sort.{Sort, Int, Real, Bool as BoolSort, Unit as UnitSort}
use Rattle.ae_core.specs.declared.terms.Head.{Head}
use Rattle.ae_core.specs.declared.terms.Head.TheVariants as head
use Rattle.ae_core.specs.declared.terms.Op.TheVariants as op
use Rattle.ae_core.specs.declared.problems.Signature.{Signature}
use Rattle.ae_core.specs.declared.problems.SymbolEntry.{SymbolEntry}
use Rattle.ae_types.specs.Substitutions.{put}
use Rattle.ae_syntax.specs.declared.spans.Span.{Span}
use Rattle.ae_syntax.specs.declared.exprs.BinaryOp.{BinaryOp}
use Rattle.ae_syntax.specs.declared.exprs.BinaryOp.TheVariants as binary
use Rattle.ae_syntax.specs.declared.exprs.Number.{Number}
use Rattle.ae_syntax.specs.declared.exprs.Number.TheVariants as number
use Rattle.ae_syntax.specs.declared.exprs.Expr.{Expr}
use Rattle.ae_syntax.specs.declared.exprs.ExprKind.{ExprKind}
use Rattle.ae_syntax.specs.declared.exprs.Setting.{Setting}
use Rattle.ae_syntax.specs.declared.exprs.Trigger.{Trigger}
use Rattle.ae_syntax.specs.Parts.{expression}
use Rattle.ae_elab.specs.declared.faults.TypeFault.TheVariants as fault
use Rattle.ae_elab.specs.Trees.{Tree, Claim, none, equal, unequal, less, at_most, greater, at_least, truth, falsity, negation, conjunction}
use Rattle.ae_elab.specs.Trees.{disjunction, exclusion, equivalence, implication, variable, numeral, constant}
use Rattle.ae_elab.specs.Scope.{Scope, Class, formula, either, term, Meaning, a_variable, a_term, a_formula, Local, named, Named, bound, function}
use Rattle.ae_elab.specs.Scope.{predicate as predicate_name, unknown, by_result, symbol_from, look_up, meaning_of, name_at, with_locals}
use Rattle.ae_elab.specs.Rules.{Passed, Rule, give, ◌>>◌, all_of, refuse, Typed, typed, no_term, Around, Part, as_term, as_formula}
use Rattle.ae_elab.specs.Terms.{numeral_rule, operation_rule, negative_rule, ascribed_rule, field_rule, record_rule, update_rule}
use Rattle.ae_elab.specs.Formulas.{equation_rule, inequality_rule, distinct_rule, connective_rule, predicate_rule, merging_into, block_rule}
use Rattle.ae_elab.specs.Expressions.{formula_in_term, a_term_part, a_formula_part, constant_part, bind, let_part, no_arguments, name_term}
use Rattle.ae_elab.specs.Expressions.{name_formula, name_part, binary_part, part_of, kind_part, set_of, trigger_of}
use Rattle.ae_elab.proofs.PutLaws.{put_int, put_real, put_bool, put_unit}
use Rattle.ae_elab.proofs.PartRules.{kind_binary, kind_not, kind_negative, kind_quantified, kind_let, kind_if, kind_field, kind_apply, kind_numeral}
use Rattle.ae_elab.proofs.PartRules.{kind_true, kind_false, kind_void, kind_bracketed, kind_ascribed, kind_distinct, kind_record, kind_update}
use Rattle.ae_typed_laws.proofs.BuiltRules.{built_part, built_setting, built_trigger}
use Rattle.ae_typed_laws.proofs.MetConditions.{Grows}
use Rattle.ae_lawful_problems.proofs.FitRules.{Gives, gives_value, gives_then, gives_after, gives_after_all}
use Rattle.ae_typed_laws.proofs.ParsedTrees.{IsNumber, IsTree, is_binary, is_not, is_negative, is_quantified, is_let, is_if, is_field, is_apply}
use Rattle.ae_typed_laws.proofs.ParsedTrees.{is_numeral, is_true, is_false, is_void, is_bracketed, is_ascribed, is_distinct, is_record, is_update}
use Rattle.ae_typed_laws.proofs.ParsedTrees.{AreTrees, no_trees, and_tree, AreTriggers, no_triggers, and_trigger, AreSettings, no_settings}
use Rattle.ae_typed_laws.proofs.ParsedTrees.{and_setting}
use Rattle.ae_lawful_problems.proofs.TestsOnly.{tests_around}
use Rattle.ae_lawful_problems.proofs.SortedTrees.{Env, fits, Sorted, of_variable, of_whole, of_decimal, of_apply, of_none, Fitting, fits_truth}
use Rattle.ae_lawful_problems.proofs.SortedTrees.{fits_falsity, fits_conjunction, fits_disjunction, fits_exclusion, fits_equivalence}
use Rattle.ae_lawful_problems.proofs.SortedTrees.{fits_implication}
use Rattle.ae_lawful_problems.proofs.TypedTrees.{MeaningFits, LocalFits, Lies, lies_later, TypedFits, ClaimFits, FitsPart, FitsSet, refused}
use Rattle.ae_lawful_problems.proofs.TypedTrees.{in_operation, in_negative, in_ascribed, in_choice, in_function, in_projection, in_record, in_update}
use Rattle.ae_lawful_problems.proofs.TypedFormulas.{truth_in, equation_in, inequality_in, distinct_in, connective_in, negation_in, conditional_in}
use Rattle.ae_lawful_problems.proofs.TypedFormulas.{predicate_in, block_in}

module _ (F : Signature) (law : IsLawful F) (m : ℕ → Sort) (text : List ℕ) where
  abbrev L : Env → Passed → Scope → Type 0
  L env p sc = Lies F law m text env p sc

  abbrev P : Part → Type 0
  P e = FitsPart F law m text e

  abbrev T : Env → Typed → Passed → Type 0
  T env = TypedFits F law m text env

  abbrev C : Env → Claim → Passed → Type 0
  C env = ClaimFits F law m text env

  plain : (env : Env) (t : Tree) (s : Sort) (q : Passed) → put m s ≡ s → fits F s ≡ true → Sorted F m env t s → T env (typed t s) q
  plain env t s q e f h = (subst (Sorted F m env t) (sym e) h, f)

  same_lists : (xs : List Sort) → same_sorts xs xs ≡ true
  same_lists xs = decided_of (Sorts_discrete xs xs) refl

  no_sorts : (s : Sort) → when (same_sorts [] [] && same_sorts [] []) s ≡ Some s
  no_sorts s = ap (λ x. when x s) (and_from (same_sorts [] []) (same_sorts [] []) (same_lists []) (same_lists []))

  -- a formula in a term's place
  no_formula : (env : Env) (place : Span) (r : Rule Claim) (p : Passed) → Gives F m p (C env) r → Gives F m p (T env) (formula_in_term place r)
  no_formula env place r p h =
      gives_then F m (C env) (T env) r (λ f. refuse (fault.PropInTerm place.from place.to) no_term) p h
      (λ f q g x. refused F law m text (T env) (fault.PropInTerm place.from place.to) no_term q)

  term_part : (own : Span) (r : Scope → Rule Typed) → ((env : Env) (sc : Scope) (p : Passed) → L env p sc → Gives F m p (T env) (r sc)) → P (a_term_part own r)
  term_part own r h = record { term = λ env sc p l at. h env sc p l; formula = λ env sc p l around at. truth_in F law m text env sc at (r sc) p (h env sc p l) }

  formula_part : (own : Span) (r : Scope → Around → Rule Claim) → ((env : Env) (sc : Scope) (p : Passed) → L env p sc → (around : Around) → Gives F m p (C env) (r sc around)) → P (a_formula_part own r)
  formula_part own r h = record { term = λ env sc p l at. no_formula env at (r sc None) p (h env sc p l None); formula = λ env sc p l around at. h env sc p l around }

  number_in : (env : Env) (n : Number) (p : Passed) → IsNumber n → Gives F m p (T env) (numeral_rule n)
  number_in env (number.Whole n) p h =
      gives_value F m (T env) (typed (numeral n (pos 1) false) Int) p (plain env (numeral n (pos 1) false) Int p (put_int m) (ok_int F (λ i. true) (λ i. true)) (of_whole env n (pos 1) h))
  number_in env (number.Decimal a b) p h =
      gives_value F m (T env) (typed (numeral a b true) Real) p (plain env (numeral a b true) Real p (put_real m) (ok_real F (λ i. true) (λ i. true)) (of_decimal env a b h))

  binary_in : (o : BinaryOp) (own : Span) (a b : Part) → P a → P b → P (binary_part o own a b)
  binary_in binary.Implies own a b h k = formula_part own (λ sc around. connective_rule implication a b sc) (λ env sc p l around. connective_in F law m text env sc implication (λ f g. fits_implication env f g) a b p l h k)
  binary_in binary.Iff own a b h k = formula_part own (λ sc around. connective_rule equivalence a b sc) (λ env sc p l around. connective_in F law m text env sc equivalence (λ f g. fits_equivalence env f g) a b p l h k)
  binary_in binary.Xor own a b h k = formula_part own (λ sc around. connective_rule exclusion a b sc) (λ env sc p l around. connective_in F law m text env sc exclusion (λ f g. fits_exclusion env f g) a b p l h k)
  binary_in binary.Or own a b h k = formula_part own (λ sc around. connective_rule disjunction a b sc) (λ env sc p l around. connective_in F law m text env sc disjunction (λ f g. fits_disjunction env f g) a b p l h k)
  binary_in binary.And own a b h k = formula_part own (λ sc around. connective_rule conjunction a b sc) (λ env sc p l around. connective_in F law m text env sc conjunction (λ f g. fits_conjunction env f g) a b p l h k)
  binary_in binary.Equal own a b h k = formula_part own (λ sc around. equation_rule equal a b sc) (λ env sc p l around. equation_in F law m text env sc equal (λ s. tt) a b p l h k)
  binary_in binary.NotEqual own a b h k = formula_part own (λ sc around. equation_rule unequal a b sc) (λ env sc p l around. equation_in F law m text env sc unequal (λ s. tt) a b p l h k)
  binary_in binary.Less own a b h k = formula_part own (λ sc around. inequality_rule less a b sc) (λ env sc p l around. inequality_in F law m text env sc less (λ s n. n) a b p l h k)
  binary_in binary.AtMost own a b h k = formula_part own (λ sc around. inequality_rule at_most a b sc) (λ env sc p l around. inequality_in F law m text env sc at_most (λ s n. n) a b p l h k)
  binary_in binary.Greater own a b h k = formula_part own (λ sc around. inequality_rule greater a b sc) (λ env sc p l around. inequality_in F law m text env sc greater (λ s n. n) a b p l h k)
  binary_in binary.AtLeast own a b h k = formula_part own (λ sc around. inequality_rule at_least a b sc) (λ env sc p l around. inequality_in F law m text env sc at_least (λ s n. n) a b p l h k)
  binary_in binary.Add own a b h k = term_part own (operation_rule op.Add a b) (λ env sc p l. in_operation F law m text env sc op.Add (λ t. refl) a b p l h k)
  binary_in binary.Sub own a b h k = term_part own (operation_rule op.Sub a b) (λ env sc p l. in_operation F law m text env sc op.Sub (λ t. refl) a b p l h k)
  binary_in binary.Mul own a b h k = term_part own (operation_rule op.Mul a b) (λ env sc p l. in_operation F law m text env sc op.Mul (λ t. refl) a b p l h k)
  binary_in binary.Div own a b h k = term_part own (operation_rule op.Div a b) (λ env sc p l. in_operation F law m text env sc op.Div (λ t. refl) a b p l h k)
  binary_in binary.Rem own a b h k = term_part own (operation_rule op.Mod a b) (λ env sc p l. in_operation F law m text env sc op.Mod (λ t. refl) a b p l h k)

  -- ---- `let`
  one_local : (env : Env) (sc : Scope) (p q : Passed) (x : List ℕ) (k : Meaning) → Grows m p q → L env p sc → MeaningFits F law m text env k → L env q (with_locals (named x k ∷ []) sc)
  one_local env sc p q x k g l h = let w = lies_later F law m text env p q sc g l in record { text_is = w.text_is; types = w.types; symbols = w.symbols; locals = (h, w.locals); below = w.below }

  bind_in : (x : Span) (k : Class) (e : Part) (env : Env) (sc : Scope) (p : Passed) → L env p sc → P e → Gives F m p (λ inner q. L env q inner) (bind x k e sc)
  bind_in x formula e env sc p l h =
      gives_then F m (C env) (λ inner q. L env q inner) (as_formula sc e) (λ f. give (with_locals (named (name_at sc x) (a_formula f) ∷ []) sc)) p (h.formula env sc p l None e.place)
      (λ f q g y. gives_value F m (λ inner q. L env q inner) (with_locals (named (name_at sc x) (a_formula f) ∷ []) sc) q (one_local env sc p q (name_at sc x) (a_formula f) g l y))
  bind_in x either e env sc p l h =
      gives_then F m (T env) (λ inner q. L env q inner) (as_term sc e) (λ t. give (with_locals (named (name_at sc x) (a_term either t.tree t.sort) ∷ []) sc)) p (h.term env sc p l e.place)
      (λ t q g y. gives_value F m (λ inner q. L env q inner) (with_locals (named (name_at sc x) (a_term either t.tree t.sort) ∷ []) sc) q (one_local env sc p q (name_at sc x) (a_term either t.tree t.sort) g l y))
  bind_in x term e env sc p l h =
      gives_then F m (T env) (λ inner q. L env q inner) (as_term sc e) (λ t. give (with_locals (named (name_at sc x) (a_term term t.tree t.sort) ∷ []) sc)) p (h.term env sc p l e.place)
      (λ t q g y. gives_value F m (λ inner q. L env q inner) (with_locals (named (name_at sc x) (a_term term t.tree t.sort) ∷ []) sc) q (one_local env sc p q (name_at sc x) (a_term term t.tree t.sort) g l y))

  let_in : (own x : Span) (e b : Part) → P e → P b → P (let_part own x e b)
  let_in own x e b h k = record {
    term = λ env sc p l at. gives_then F m (λ inner q. L env q inner) (T env) (bind x (e.class sc) e sc) (λ inner. b.term inner b.place) p (bind_in x (e.class sc) e env sc p l h) (λ inner q g i. k.term env inner q i b.place);
    formula = λ env sc p l around at. gives_then F m (λ inner q. L env q inner) (C env) (bind x (e.class sc) e sc) (λ inner. b.formula inner around b.place) p (bind_in x (e.class sc) e env sc p l h)
        (λ inner q g i. k.formula env inner q i around b.place);
  }

  -- ---- names
  abbrev NameFits : Env → Named → Type 0
  NameFits env (bound x) = MeaningFits F law m text env x
  NameFits env (function k e s) = (slice_get F.symbols k ≡ Some e) × (e.result ≡ Some s)
  NameFits env (predicate_name k e) = (slice_get F.symbols k ≡ Some e) × (e.result ≡ None)
  NameFits env unknown = Unit {0}

  result_fits : (env : Env) (k : ℕ) (e : SymbolEntry) (r : Option Sort) → slice_get F.symbols k ≡ Some e → e.result ≡ r → NameFits env (by_result k e r)
  result_fits env k e (Some s) d i = (d, i)
  result_fits env k e None d i = (d, i)

  chosen_fits : (env : Env) (b : Bool) (x y : Named) → NameFits env x → NameFits env y → NameFits env (elim b [ true ↦ x | false ↦ y ])
  chosen_fits env true x y h k = h
  chosen_fits env false x y h k = k

  symbol_fits : (env : Env) (k : ℕ) (es : List SymbolEntry) (name : List ℕ) → ((j : ℕ) (e : SymbolEntry) → slice_get es j ≡ Some e → slice_get F.symbols (k + j) ≡ Some e) → NameFits env (symbol_from k es name)
  symbol_fits env k [] name h = tt
  symbol_fits env k (e ∷ es) name h =
      chosen_fits env (bytes_eq name e.name) (by_result k e e.result) (symbol_from (suc k) es name)
      (result_fits env k e e.result (ap (slice_get F.symbols) (let z : k ≡ k + 0 = omega arith in z) ∙ h 0 e refl) refl)
      (symbol_fits env (suc k) es name (λ j d i. ap (slice_get F.symbols) (let z : suc k + j ≡ k + suc j = omega arith in z) ∙ h (suc j) d i))

  local_fits : (env : Env) (ls : List Local) (outside : Named) (name : List ℕ) → AllByRecursion (LocalFits F law m text env) ls → NameFits env outside → NameFits env (look_up ls outside name)
  local_fits env [] outside name a o = o
  local_fits env (l ∷ ls) outside name a o = chosen_fits env (bytes_eq name l.name) (bound l.meaning) (look_up ls outside name) a.0 (local_fits env ls outside name a.1 o)

  name_fits : (env : Env) (sc : Scope) (p : Passed) (name : List ℕ) → L env p sc → NameFits env (meaning_of sc name)
  name_fits env sc p name l =
      local_fits env sc.locals (symbol_from 0 sc.signature.symbols name) name l.locals
      (symbol_fits env 0 sc.signature.symbols name (λ j e i. ap (slice_get F.symbols) (let z : 0 + j ≡ j = omega arith in z) ∙ l.symbols j e i))

  name_term_in : (name : Span) (args : List Part) (env : Env) (sc : Scope) (p : Passed) (at : Span) (n : Named) → L env p sc → AllByRecursion P args → NameFits env n → Gives F m p (T env) (name_term name args sc at n)
  name_term_in name args env sc p at (bound (a_variable x s)) l a h =
      gives_after F m (T env) (no_arguments name args) (give (typed (variable x) s)) p tt (λ c. gives_value F m (T env) (typed (variable x) s) p (of_variable env x (put m s) h.0, h.1))
  name_term_in name args env sc p at (bound (a_term k t s)) l a h = gives_after F m (T env) (no_arguments name args) (give (typed t s)) p tt (λ c. gives_value F m (T env) (typed t s) p h)
  name_term_in name args env sc p at (bound (a_formula f)) l a h =
      gives_after F m (T env) (no_arguments name args) (formula_in_term at (give f)) p tt (λ c. no_formula env at (give f) p (gives_value F m (C env) f p h))
  name_term_in name args env sc p at (function k e s) l a h = in_function F law m text env sc name k e s args p l h.0 h.1 a
  name_term_in name args env sc p at (predicate_name k e) l a h = no_formula env at (predicate_rule name k e args sc) p (predicate_in F law m text env sc name k e args p l h.0 h.1 a)
  name_term_in name args env sc p at unknown l a h = refused F law m text (T env) (fault.UnknownName (name_at sc name) name.from name.to) no_term p

  name_formula_in : (name : Span) (args : List Part) (env : Env) (sc : Scope) (p : Passed) (around : Around) (at : Span) (n : Named) → L env p sc → AllByRecursion P args → NameFits env n
      → Gives F m p (C env) (name_formula name args sc around at n)
  name_formula_in name args env sc p around at (bound (a_formula f)) l a h =
      gives_after F m (C env) (no_arguments name args) (all_of (merging_into around f) (give f)) p tt
      (λ c. gives_after_all F m (C env) (merging_into around f) (give f) p (tests_around F around f) (λ d. gives_value F m (C env) f p h))
  name_formula_in name args env sc p around at (predicate_name k e) l a h = predicate_in F law m text env sc name k e args p l h.0 h.1 a
  name_formula_in name args env sc p around at (bound (a_variable x s)) l a h =
      truth_in F law m text env sc at (name_term name args sc at (bound (a_variable x s))) p (name_term_in name args env sc p at (bound (a_variable x s)) l a h)
  name_formula_in name args env sc p around at (bound (a_term k t s)) l a h =
      truth_in F law m text env sc at (name_term name args sc at (bound (a_term k t s))) p (name_term_in name args env sc p at (bound (a_term k t s)) l a h)
  name_formula_in name args env sc p around at (function k e s) l a h =
      truth_in F law m text env sc at (name_term name args sc at (function k e s)) p (name_term_in name args env sc p at (function k e s) l a h)
  name_formula_in name args env sc p around at unknown l a h =
      truth_in F law m text env sc at (name_term name args sc at unknown) p (name_term_in name args env sc p at unknown l a h)

  name_in_part : (own name : Span) (args : List Part) → AllByRecursion P args → P (name_part own name args)
  name_in_part own name args a = record {
    term = λ env sc p l at. name_term_in name args env sc p at (meaning_of sc (name_at sc name)) l a (name_fits env sc p (name_at sc name) l);
    formula = λ env sc p l around at. name_formula_in name args env sc p around at (meaning_of sc (name_at sc name)) l a (name_fits env sc p (name_at sc name) l);
  }

  -- ---- constants
  constant_fits : (env : Env) (h : Head) (s : Sort) (q : Passed) → put m s ≡ s → fits F s ≡ true → head_sort F h [] [] ≡ Some s → T env (typed (constant h) s) q
  constant_fits env h s q e f i = plain env (constant h) s q e f (of_apply env h [] none [] s tt i (of_none env))

  constant_in : (own : Span) (h : Head) (f : Claim) → head_sort F h [] [] ≡ Some BoolSort → ((env : Env) → Fitting F m env f) → P (constant_part own (constant h) f)
  constant_in own h f i k = record {
    term = λ env sc p l at. gives_value F m (T env) (typed (constant h) BoolSort) p (constant_fits env h BoolSort p (put_bool m) (ok_bool F (λ i. true) (λ i. true)) i);
    formula = λ env sc p l around at. gives_value F m (C env) f p (k env);
  }

  by_rule : (s : Span) (k : ExprKind) (x : Span → Part) → kind_part k ≡ x → P (x s) → P (part_of (expression s k))
  by_rule s k x e h = subst P (sym (built_part s k ∙ ap (λ (f : Span → Part). f s) e)) h

  mutual
    pub tree_fits : {e : Expr} → IsTree text e → P (part_of e)
    tree_fits (is_binary s o a b i h k) = by_rule s _ _ (kind_binary o a b) (binary_in o s (part_of a) (part_of b) (tree_fits h) (tree_fits k))
    tree_fits (is_not s a i h) =
        by_rule s _ _ (kind_not a) (formula_part s (λ sc around. as_formula sc (part_of a) >> λ f. give (negation f)) (λ env sc p l around. negation_in F law m text env sc (part_of a) p l (tree_fits h)))
    tree_fits (is_negative s a i h) = by_rule s _ _ (kind_negative a) (term_part s (negative_rule (part_of a)) (λ env sc p l. in_negative F law m text env sc (part_of a) p l (tree_fits h)))
    tree_fits (is_quantified s q gs ts b i g a h) =
        by_rule s _ _ (kind_quantified q gs ts b)
        (formula_part s (block_rule q gs (map trigger_of ts) (part_of b)) (λ env sc p l around. block_in F law m text q gs (map trigger_of ts) (part_of b) env sc around p l g (triggers_fit a) (tree_fits h)))
    tree_fits (is_let s n a b i j h k) = by_rule s _ _ (kind_let n a b) (let_in s n (part_of a) (part_of b) (tree_fits h) (tree_fits k))
    tree_fits (is_if s c a b i h k l) = by_rule s _ _ (kind_if c a b) (record {
      term = λ env sc p x at. in_choice F law m text env sc (part_of c) (part_of a) (part_of b) p x (tree_fits h) (tree_fits k) (tree_fits l);
      formula = λ env sc p x around at. conditional_in F law m text env sc (part_of c) (part_of a) (part_of b) p x (tree_fits h) (tree_fits k) (tree_fits l);
    })
    tree_fits (is_field s a n i h j) = by_rule s _ _ (kind_field a n) (term_part s (field_rule (part_of a) n) (λ env sc p l. in_projection F law m text env sc (part_of a) n p l (tree_fits h)))
    tree_fits (is_apply s n es i j a) = by_rule s _ _ (kind_apply n es) (name_in_part s n (map part_of es) (trees_fit a))
    tree_fits (is_numeral s n i h) = by_rule s _ _ (kind_numeral n) (term_part s (λ sc. numeral_rule n) (λ env sc p l. number_in env n p h))
    tree_fits (is_true s i) = by_rule s _ _ kind_true (constant_in s head.True truth (no_sorts BoolSort) (λ env. fits_truth env))
    tree_fits (is_false s i) = by_rule s _ _ kind_false (constant_in s head.False falsity (no_sorts BoolSort) (λ env. fits_falsity env))
    tree_fits (is_void s i) =
        by_rule s _ _ kind_void (term_part s (λ sc. give (typed (constant head.Void) UnitSort))
        (λ env sc p l. gives_value F m (T env) (typed (constant head.Void) UnitSort) p (constant_fits env head.Void UnitSort p (put_unit m) (ok_unit F (λ i. true) (λ i. true)) (no_sorts UnitSort))))
    tree_fits (is_bracketed s a i h) = by_rule s _ _ (kind_bracketed a) (let x = tree_fits h in record { term = x.term; formula = x.formula })
    tree_fits (is_ascribed s a w i h k) = by_rule s _ _ (kind_ascribed a w) (term_part s (ascribed_rule (part_of a) w) (λ env sc p l. in_ascribed F law m text env sc (part_of a) w p l (tree_fits h) k))
    tree_fits (is_distinct s es i a) = by_rule s _ _ (kind_distinct es) (formula_part s (λ sc around. distinct_rule (map part_of es) sc) (λ env sc p l around. distinct_in F law m text env sc (map part_of es) p l (trees_fit a)))
    tree_fits (is_record s xs i a) = by_rule s _ _ (kind_record xs) (term_part s (record_rule s (map set_of xs)) (λ env sc p l. in_record F law m text env sc s (map set_of xs) p l (settings_fit a)))
    tree_fits (is_update s e xs i h a) =
        by_rule s _ _ (kind_update e xs) (term_part s (update_rule s (part_of e) (map set_of xs)) (λ env sc p l. in_update F law m text env sc s (part_of e) (map set_of xs) p l (tree_fits h) (settings_fit a)))

    trees_fit : {es : List Expr} → AreTrees text es → AllByRecursion P (map part_of es)
    trees_fit no_trees = tt
    trees_fit (and_tree e es h a) = (tree_fits h, trees_fit a)

    triggers_fit : {ts : List Trigger} → AreTriggers text ts → AllByRecursion (AllByRecursion P) (map trigger_of ts)
    triggers_fit no_triggers = tt
    triggers_fit (and_trigger s es ts a b) = (subst (AllByRecursion P) (sym (built_trigger s es)) (trees_fit a), triggers_fit b)

    settings_fit : {xs : List Setting} → AreSettings text xs → AllByRecursion (FitsSet F law m text) (map set_of xs)
    settings_fit no_settings = tt
    settings_fit (and_setting s n e xs k h a) = (subst (FitsSet F law m text) (sym (built_setting s n e)) (record { value = tree_fits h }), settings_fit a)
