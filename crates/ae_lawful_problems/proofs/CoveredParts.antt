-- Where its conditions are met, an expression of a parsed text has trees whose triggers may stand.
use Rattle.std.proofs.Common.{◌≡◌, ◌∙◌, ℕ, suc, Bool, true, false, List, [], ◌∷◌, map, refl, sym, ap, subst, Option, Some, None}
use Rattle.std.specs.List.{AllByRecursion}
use Rattle.std.specs.Str.{bytes_eq}
use Rattle.ae_core.specs.declared.terms.Sort.{Sort, Bool as BoolSort, Unit as UnitSort}
use Rattle.ae_core.specs.declared.terms.Head.TheVariants as head
use Rattle.ae_core.specs.declared.terms.Op.TheVariants as op
use Rattle.ae_core.specs.declared.problems.SymbolEntry.{SymbolEntry}
use Rattle.ae_syntax.specs.declared.spans.Span.{Span}
use Rattle.ae_syntax.specs.declared.exprs.BinaryOp.{BinaryOp}
use Rattle.ae_syntax.specs.declared.exprs.BinaryOp.TheVariants as binary
use Rattle.ae_syntax.specs.declared.exprs.Expr.{Expr}
use Rattle.ae_syntax.specs.declared.exprs.ExprKind.{ExprKind}
use Rattle.ae_syntax.specs.declared.exprs.Setting.{Setting}
use Rattle.ae_syntax.specs.declared.exprs.Trigger.{Trigger}
use Rattle.ae_syntax.specs.Parts.{expression}
use Rattle.ae_elab.specs.declared.faults.TypeFault.TheVariants as fault
use Rattle.ae_elab.specs.Trees.{Tree, Claim, equal, unequal, less, at_most, greater, at_least, truth, falsity, variable, constant}
use Rattle.ae_elab.specs.Trees.{negation, conjunction, disjunction, exclusion, equivalence, implication}
use Rattle.ae_elab.specs.Scope.{Scope, Class, formula, either, term, Meaning, a_variable, a_term, a_formula, Local, named}
use Rattle.ae_elab.specs.Scope.{Named, bound, function, predicate as predicate_name, unknown, by_result, symbol_from, look_up, meaning_of, name_at}
use Rattle.ae_elab.specs.Scope.{with_locals}
use Rattle.ae_elab.specs.Rules.{Passed, Rule, give, ◌>>◌, all_of, refuse, Typed, typed, no_term, Around, Part, as_term, as_formula}
use Rattle.ae_elab.specs.Terms.{numeral_rule, operation_rule, negative_rule, ascribed_rule, field_rule, record_rule, update_rule}
use Rattle.ae_elab.specs.Formulas.{equation_rule, inequality_rule, distinct_rule, connective_rule, predicate_rule, merging_into, block_rule}
use Rattle.ae_elab.specs.Expressions.{formula_in_term, a_term_part, a_formula_part, constant_part, bind, let_part, no_arguments, name_term}
use Rattle.ae_elab.specs.Expressions.{name_formula}
use Rattle.ae_elab.specs.Expressions.{name_part, binary_part, part_of, kind_part, set_of, trigger_of}
use Rattle.ae_elab.proofs.PartRules.{kind_binary, kind_not, kind_negative, kind_quantified, kind_let, kind_if, kind_field, kind_apply, kind_numeral}
use Rattle.ae_elab.proofs.PartRules.{kind_true, kind_false, kind_void, kind_bracketed, kind_ascribed, kind_distinct, kind_record, kind_update}
use Rattle.ae_typed_laws.proofs.BuiltRules.{built_part, built_setting, built_trigger}
use Rattle.ae_typed_laws.proofs.MetConditions.{Gives, gives_value, gives_then, gives_after, gives_after_all, Grows}
use Rattle.ae_typed_laws.proofs.ParsedTrees.{IsTree, is_binary, is_not, is_negative, is_quantified, is_let, is_if, is_field, is_apply, is_numeral}
use Rattle.ae_typed_laws.proofs.ParsedTrees.{is_true, is_false, is_void, is_bracketed, is_ascribed, is_distinct, is_record, is_update}
use Rattle.ae_typed_laws.proofs.ParsedTrees.{AreTrees, no_trees, and_tree, AreTriggers, no_triggers, and_trigger, AreSettings, no_settings}
use Rattle.ae_typed_laws.proofs.ParsedTrees.{and_setting}
use Rattle.ae_lawful_problems.proofs.CoveredTrees.{CoveredTerm, IsAlone, covered_around}
use Rattle.ae_lawful_problems.proofs.CoveredRules.{ClaimCovered, TypedCovered, MeaningCovered, LocalCovered, Stands, stands_later, CoveredPart}
use Rattle.ae_lawful_problems.proofs.CoveredRules.{CoveredSet}
use Rattle.ae_lawful_problems.proofs.CoveredRules.{refused_here, covers_numeral, covers_operation, covers_negative, covers_ascribed, covers_choice}
use Rattle.ae_lawful_problems.proofs.CoveredRules.{covers_function, covers_projection, covers_record, covers_update}
use Rattle.ae_lawful_problems.proofs.CoveredFormulas.{plainly, covers_truth, covers_equation, covers_inequality, covers_distinct, covers_connective}
use Rattle.ae_lawful_problems.proofs.CoveredFormulas.{covers_negation, covers_conditional, covers_predicate, covers_block}

module _ (m : ℕ → Sort) (text : List ℕ) where
  abbrev L : List ℕ → Passed → Scope → Type 0
  L outer p sc = Stands m text outer p sc

  abbrev P : Part → Type 0
  P e = CoveredPart m text e

  abbrev C : List ℕ → Around → Claim → Passed → Type 0
  C outer around = ClaimCovered outer around

  -- a formula in a term's place
  no_formula : (outer : List ℕ) (place : Span) (r : Rule Claim) (p : Passed) → Gives m p (C outer None) r → Gives m p TypedCovered (formula_in_term place r)
  no_formula outer place r p h =
      gives_then m (C outer None) TypedCovered r (λ f. refuse (fault.PropInTerm place.from place.to) no_term) p h
      (λ f q g x. refused_here m text TypedCovered (fault.PropInTerm place.from place.to) no_term q)

  term_part : (own : Span) (r : Scope → Rule Typed) → ((outer : List ℕ) (sc : Scope) (p : Passed) → L outer p sc → Gives m p TypedCovered (r sc)) → P (a_term_part own r)
  term_part own r h = record {
    term = λ outer sc p l at. h outer sc p l;
    formula = λ outer sc p l around at. covers_truth m text outer sc around at (r sc) p (h outer sc p l);
  }

  formula_part : (own : Span) (r : Scope → Around → Rule Claim)
      → ((outer : List ℕ) (sc : Scope) (p : Passed) → L outer p sc → (around : Around) → Gives m p (C outer around) (r sc around)) → P (a_formula_part own r)
  formula_part own r h = record {
    term = λ outer sc p l at. no_formula outer at (r sc None) p (h outer sc p l None);
    formula = λ outer sc p l around at. h outer sc p l around;
  }

  -- two formulas together
  join_part : (own : Span) (join : Claim → Claim → Claim) (a b : Part)
      → ((outer : List ℕ) (around : Around) (f g : Claim) (q : Passed) → IsAlone f → IsAlone g → C outer around (join f g) q) → P a → P b
      → P (a_formula_part own (λ sc around. connective_rule join a b sc))
  join_part own join a b j h k =
      formula_part own (λ sc around. connective_rule join a b sc)
      (λ outer sc p l around. covers_connective m text outer sc around join (λ f g q x y. j outer around f g q x y) a b p l h k)

  binary_covered : (o : BinaryOp) (own : Span) (a b : Part) → P a → P b → P (binary_part o own a b)
  binary_covered binary.Implies own a b h k = join_part own implication a b (λ outer around f g q x y. plainly refl (x, y)) h k
  binary_covered binary.Iff own a b h k = join_part own equivalence a b (λ outer around f g q x y. plainly refl (x, y)) h k
  binary_covered binary.Xor own a b h k = join_part own exclusion a b (λ outer around f g q x y. plainly refl (x, y)) h k
  binary_covered binary.Or own a b h k = join_part own disjunction a b (λ outer around f g q x y. plainly refl (x, y)) h k
  binary_covered binary.And own a b h k = join_part own conjunction a b (λ outer around f g q x y. plainly refl (x, y)) h k
  binary_covered binary.Equal own a b h k =
      formula_part own (λ sc around. equation_rule equal a b sc) (λ outer sc p l around. covers_equation m text outer sc around equal a b p l h k)
  binary_covered binary.NotEqual own a b h k =
      formula_part own (λ sc around. equation_rule unequal a b sc) (λ outer sc p l around. covers_equation m text outer sc around unequal a b p l h k)
  binary_covered binary.Less own a b h k =
      formula_part own (λ sc around. inequality_rule less a b sc) (λ outer sc p l around. covers_inequality m text outer sc around less a b p l h k)
  binary_covered binary.AtMost own a b h k =
      formula_part own (λ sc around. inequality_rule at_most a b sc) (λ outer sc p l around. covers_inequality m text outer sc around at_most a b p l h k)
  binary_covered binary.Greater own a b h k =
      formula_part own (λ sc around. inequality_rule greater a b sc) (λ outer sc p l around. covers_inequality m text outer sc around greater a b p l h k)
  binary_covered binary.AtLeast own a b h k =
      formula_part own (λ sc around. inequality_rule at_least a b sc) (λ outer sc p l around. covers_inequality m text outer sc around at_least a b p l h k)
  binary_covered binary.Add own a b h k = term_part own (operation_rule op.Add a b) (λ outer sc p l. covers_operation m text outer sc op.Add a b p l h k)
  binary_covered binary.Sub own a b h k = term_part own (operation_rule op.Sub a b) (λ outer sc p l. covers_operation m text outer sc op.Sub a b p l h k)
  binary_covered binary.Mul own a b h k = term_part own (operation_rule op.Mul a b) (λ outer sc p l. covers_operation m text outer sc op.Mul a b p l h k)
  binary_covered binary.Div own a b h k = term_part own (operation_rule op.Div a b) (λ outer sc p l. covers_operation m text outer sc op.Div a b p l h k)
  binary_covered binary.Rem own a b h k = term_part own (operation_rule op.Mod a b) (λ outer sc p l. covers_operation m text outer sc op.Mod a b p l h k)

  -- ---- `let`
  one_local : (outer : List ℕ) (sc : Scope) (p q : Passed) (x : List ℕ) (k : Meaning) → Grows m p q → L outer p sc → MeaningCovered outer q k
      → L outer q (with_locals (named x k ∷ []) sc)
  one_local outer sc p q x k g l h = let w = stands_later m text outer p q sc g l in record { text_is = w.text_is; locals = (h, w.locals); below = w.below }

  bind_covered : (x : Span) (k : Class) (e : Part) (outer : List ℕ) (sc : Scope) (p : Passed) → L outer p sc → P e → Gives m p (λ inner q. L outer q inner) (bind x k e sc)
  bind_covered x formula e outer sc p l h =
      gives_then m (C outer None) (λ inner q. L outer q inner) (as_formula sc e) (λ f. give (with_locals (named (name_at sc x) (a_formula f) ∷ []) sc)) p
      (h.formula outer sc p l None e.place)
      (λ f q g y. gives_value m (λ inner q. L outer q inner) (with_locals (named (name_at sc x) (a_formula f) ∷ []) sc) q (one_local outer sc p q (name_at sc x) (a_formula f) g l y))
  bind_covered x either e outer sc p l h =
      gives_then m TypedCovered (λ inner q. L outer q inner) (as_term sc e) (λ t. give (with_locals (named (name_at sc x) (a_term either t.tree t.sort) ∷ []) sc)) p
      (h.term outer sc p l e.place)
      (λ t q g y. gives_value m (λ inner q. L outer q inner) (with_locals (named (name_at sc x) (a_term either t.tree t.sort) ∷ []) sc) q
      (one_local outer sc p q (name_at sc x) (a_term either t.tree t.sort) g l y))
  bind_covered x term e outer sc p l h =
      gives_then m TypedCovered (λ inner q. L outer q inner) (as_term sc e) (λ t. give (with_locals (named (name_at sc x) (a_term term t.tree t.sort) ∷ []) sc)) p
      (h.term outer sc p l e.place)
      (λ t q g y. gives_value m (λ inner q. L outer q inner) (with_locals (named (name_at sc x) (a_term term t.tree t.sort) ∷ []) sc) q
      (one_local outer sc p q (name_at sc x) (a_term term t.tree t.sort) g l y))

  let_covered : (own x : Span) (e b : Part) → P e → P b → P (let_part own x e b)
  let_covered own x e b h k = record {
    term = λ outer sc p l at. gives_then m (λ inner q. L outer q inner) TypedCovered (bind x (e.class sc) e sc) (λ inner. b.term inner b.place) p
        (bind_covered x (e.class sc) e outer sc p l h) (λ inner q g i. k.term outer inner q i b.place);
    formula = λ outer sc p l around at. gives_then m (λ inner q. L outer q inner) (C outer around) (bind x (e.class sc) e sc) (λ inner. b.formula inner around b.place) p
        (bind_covered x (e.class sc) e outer sc p l h) (λ inner q g i. k.formula outer inner q i around b.place);
  }

  -- ---- names
  abbrev NameCovered : List ℕ → Passed → Named → Type 0
  NameCovered outer p (bound x) = MeaningCovered outer p x
  NameCovered outer p (function k e s) = Unit {0}
  NameCovered outer p (predicate_name k e) = Unit {0}
  NameCovered outer p unknown = Unit {0}

  module _ (outer : List ℕ) (p : Passed) where
    result_covered : (k : ℕ) (e : SymbolEntry) (r : Option Sort) → NameCovered outer p (by_result k e r)
    result_covered k e (Some s) = tt
    result_covered k e None = tt

    chosen_covered : (b : Bool) (x y : Named) → NameCovered outer p x → NameCovered outer p y → NameCovered outer p (elim b [ true ↦ x | false ↦ y ])
    chosen_covered true x y h k = h
    chosen_covered false x y h k = k

    symbol_covered : (k : ℕ) (es : List SymbolEntry) (name : List ℕ) → NameCovered outer p (symbol_from k es name)
    symbol_covered k [] name = tt
    symbol_covered k (e ∷ es) name =
        chosen_covered (bytes_eq name e.name) (by_result k e e.result) (symbol_from (suc k) es name) (result_covered k e e.result) (symbol_covered (suc k) es name)

    local_covered : (ls : List Local) (outside : Named) (name : List ℕ) → AllByRecursion (LocalCovered outer p) ls → NameCovered outer p outside
        → NameCovered outer p (look_up ls outside name)
    local_covered [] outside name a o = o
    local_covered (l ∷ ls) outside name a o =
        chosen_covered (bytes_eq name l.name) (bound l.meaning) (look_up ls outside name) a.0 (local_covered ls outside name a.1 o)

    name_covered : (sc : Scope) (name : List ℕ) → L outer p sc → NameCovered outer p (meaning_of sc name)
    name_covered sc name l = local_covered sc.locals (symbol_from 0 sc.signature.symbols name) name l.locals (symbol_covered 0 sc.signature.symbols name)

  name_as_term : (name : Span) (args : List Part) (outer : List ℕ) (sc : Scope) (p : Passed) (at : Span) (n : Named) → L outer p sc → AllByRecursion P args → NameCovered outer p n
      → Gives m p TypedCovered (name_term name args sc at n)
  name_as_term name args outer sc p at (bound (a_variable x s)) l a h =
      gives_after m TypedCovered (no_arguments name args) (give (typed (variable x) s)) p (λ c. gives_value m TypedCovered (typed (variable x) s) p tt)
  name_as_term name args outer sc p at (bound (a_term k t s)) l a h =
      gives_after m TypedCovered (no_arguments name args) (give (typed t s)) p (λ c. gives_value m TypedCovered (typed t s) p h)
  name_as_term name args outer sc p at (bound (a_formula f)) l a h =
      gives_after m TypedCovered (no_arguments name args) (formula_in_term at (give f)) p (λ c. no_formula outer at (give f) p (gives_value m (C outer None) f p h))
  name_as_term name args outer sc p at (function k e s) l a h = covers_function m text outer sc name k e s args p l a
  name_as_term name args outer sc p at (predicate_name k e) l a h =
      no_formula outer at (predicate_rule name k e args sc) p (covers_predicate m text outer sc None name k e args p l a)
  name_as_term name args outer sc p at unknown l a h = refused_here m text TypedCovered (fault.UnknownName (name_at sc name) name.from name.to) no_term p

  name_as_formula : (name : Span) (args : List Part) (outer : List ℕ) (sc : Scope) (p : Passed) (around : Around) (at : Span) (n : Named) → L outer p sc → AllByRecursion P args
      → NameCovered outer p n → Gives m p (C outer around) (name_formula name args sc around at n)
  name_as_formula name args outer sc p around at (bound (a_formula f)) l a h =
      gives_after m (C outer around) (no_arguments name args) (all_of (merging_into around f) (give f)) p
      (λ c. gives_after_all m (C outer around) (merging_into around f) (give f) p
      (λ d. gives_value m (C outer around) f p (record { covered = covered_around m around f h.covered d; distinct = h.distinct; below = h.below; apart = h.apart })))
  name_as_formula name args outer sc p around at (predicate_name k e) l a h = covers_predicate m text outer sc around name k e args p l a
  name_as_formula name args outer sc p around at (bound (a_variable x s)) l a h =
      covers_truth m text outer sc around at (name_term name args sc at (bound (a_variable x s))) p (name_as_term name args outer sc p at (bound (a_variable x s)) l a h)
  name_as_formula name args outer sc p around at (bound (a_term k t s)) l a h =
      covers_truth m text outer sc around at (name_term name args sc at (bound (a_term k t s))) p (name_as_term name args outer sc p at (bound (a_term k t s)) l a h)
  name_as_formula name args outer sc p around at (function k e s) l a h =
      covers_truth m text outer sc around at (name_term name args sc at (function k e s)) p (name_as_term name args outer sc p at (function k e s) l a h)
  name_as_formula name args outer sc p around at unknown l a h =
      covers_truth m text outer sc around at (name_term name args sc at unknown) p (name_as_term name args outer sc p at unknown l a h)

  named_part : (own name : Span) (args : List Part) → AllByRecursion P args → P (name_part own name args)
  named_part own name args a = record {
    term = λ outer sc p l at. name_as_term name args outer sc p at (meaning_of sc (name_at sc name)) l a (name_covered outer p sc (name_at sc name) l);
    formula = λ outer sc p l around at.
        name_as_formula name args outer sc p around at (meaning_of sc (name_at sc name)) l a (name_covered outer p sc (name_at sc name) l);
  }

  constant_covered : (own : Span) (t : Tree) (f : Claim) → CoveredTerm t → ((outer : List ℕ) (around : Around) (q : Passed) → C outer around f q) → P (constant_part own t f)
  constant_covered own t f h k = record {
    term = λ outer sc p l at. gives_value m TypedCovered (typed t BoolSort) p h;
    formula = λ outer sc p l around at. gives_value m (C outer around) f p (k outer around p);
  }

  by_rule : (s : Span) (k : ExprKind) (x : Span → Part) → kind_part k ≡ x → P (x s) → P (part_of (expression s k))
  by_rule s k x e h = subst P (sym (built_part s k ∙ ap (λ (f : Span → Part). f s) e)) h

  mutual
    pub tree_covered : {e : Expr} → IsTree text e → P (part_of e)
    tree_covered (is_binary s o a b i h k) = by_rule s _ _ (kind_binary o a b) (binary_covered o s (part_of a) (part_of b) (tree_covered h) (tree_covered k))
    tree_covered (is_not s a i h) =
        by_rule s _ _ (kind_not a) (formula_part s (λ sc around. as_formula sc (part_of a) >> λ f. give (negation f))
        (λ outer sc p l around. covers_negation m text outer sc around (part_of a) p l (tree_covered h)))
    tree_covered (is_negative s a i h) =
        by_rule s _ _ (kind_negative a) (term_part s (negative_rule (part_of a)) (λ outer sc p l. covers_negative m text outer sc (part_of a) p l (tree_covered h)))
    tree_covered (is_quantified s q gs ts b i g a h) =
        by_rule s _ _ (kind_quantified q gs ts b)
        (formula_part s (block_rule q gs (map trigger_of ts) (part_of b))
        (λ outer sc p l around. covers_block m text q gs (map trigger_of ts) (part_of b) outer sc around p l g (triggers_covered a) (tree_covered h)))
    tree_covered (is_let s n a b i j h k) = by_rule s _ _ (kind_let n a b) (let_covered s n (part_of a) (part_of b) (tree_covered h) (tree_covered k))
    tree_covered (is_if s c a b i h k l) = by_rule s _ _ (kind_if c a b) (record {
      term = λ outer sc p x at. covers_choice m text outer sc (part_of c) (part_of a) (part_of b) p x (tree_covered h) (tree_covered k) (tree_covered l);
      formula = λ outer sc p x around at.
          covers_conditional m text outer sc around (part_of c) (part_of a) (part_of b) p x (tree_covered h) (tree_covered k) (tree_covered l);
    })
    tree_covered (is_field s a n i h j) =
        by_rule s _ _ (kind_field a n) (term_part s (field_rule (part_of a) n) (λ outer sc p l. covers_projection m text outer sc (part_of a) n p l (tree_covered h)))
    tree_covered (is_apply s n es i j a) = by_rule s _ _ (kind_apply n es) (named_part s n (map part_of es) (trees_covered a))
    tree_covered (is_numeral s n i h) = by_rule s _ _ (kind_numeral n) (term_part s (λ sc. numeral_rule n) (λ outer sc p l. covers_numeral m text outer sc n p))
    tree_covered (is_true s i) = by_rule s _ _ kind_true (constant_covered s (constant head.True) truth tt (λ outer around q. plainly refl tt))
    tree_covered (is_false s i) = by_rule s _ _ kind_false (constant_covered s (constant head.False) falsity tt (λ outer around q. plainly refl tt))
    tree_covered (is_void s i) =
        by_rule s _ _ kind_void (term_part s (λ sc. give (typed (constant head.Void) UnitSort))
        (λ outer sc p l. gives_value m TypedCovered (typed (constant head.Void) UnitSort) p tt))
    tree_covered (is_bracketed s a i h) = by_rule s _ _ (kind_bracketed a) (let x = tree_covered h in record { term = x.term; formula = x.formula })
    tree_covered (is_ascribed s a w i h k) =
        by_rule s _ _ (kind_ascribed a w) (term_part s (ascribed_rule (part_of a) w) (λ outer sc p l. covers_ascribed m text outer sc (part_of a) w p l (tree_covered h) k))
    tree_covered (is_distinct s es i a) =
        by_rule s _ _ (kind_distinct es) (formula_part s (λ sc around. distinct_rule (map part_of es) sc)
        (λ outer sc p l around. covers_distinct m text outer sc around (map part_of es) p l (trees_covered a)))
    tree_covered (is_record s xs i a) =
        by_rule s _ _ (kind_record xs) (term_part s (record_rule s (map set_of xs)) (λ outer sc p l. covers_record m text outer sc s (map set_of xs) p l (settings_covered a)))
    tree_covered (is_update s e xs i h a) =
        by_rule s _ _ (kind_update e xs) (term_part s (update_rule s (part_of e) (map set_of xs))
        (λ outer sc p l. covers_update m text outer sc s (part_of e) (map set_of xs) p l (tree_covered h) (settings_covered a)))

    trees_covered : {es : List Expr} → AreTrees text es → AllByRecursion P (map part_of es)
    trees_covered no_trees = tt
    trees_covered (and_tree e es h a) = (tree_covered h, trees_covered a)

    triggers_covered : {ts : List Trigger} → AreTriggers text ts → AllByRecursion (AllByRecursion P) (map trigger_of ts)
    triggers_covered no_triggers = tt
    triggers_covered (and_trigger s es ts a b) = (subst (AllByRecursion P) (sym (built_trigger s es)) (trees_covered a), triggers_covered b)

    settings_covered : {xs : List Setting} → AreSettings text xs → AllByRecursion (CoveredSet m text) (map set_of xs)
    settings_covered no_settings = tt
    settings_covered (and_setting s n e xs k h a) = (subst (CoveredSet m text) (sym (built_setting s n e)) (record { value = tree_covered h }), settings_covered a)
