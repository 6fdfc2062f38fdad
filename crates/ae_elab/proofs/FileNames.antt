-- The names of a file that is parsed are names of the text.
use Rattle.std.proofs.Common.{◌≡◌, ◌∙◌, ℕ, inl, inr, List, [], ◌∷◌, ◌++◌, map, refl, sym, ap, subst}
use Rattle.std.specs.List.{AllByRecursion}
use Rattle.ae_base.proofs.AllOf.{all_append, all_front, all_back}
use Rattle.ae_lex.specs.declared.kinds.Token.{Token}
use Rattle.ae_lex.specs.Lexis.{IsTokenized}
use Rattle.ae_syntax.specs.declared.spans.Span.{Span}
use Rattle.ae_syntax.specs.declared.types.WrittenType.{WrittenType}
use Rattle.ae_syntax.specs.declared.types.TypeKind.{TypeKind}
use Rattle.ae_syntax.specs.declared.types.TypeKind as type_kind
use Rattle.ae_syntax.specs.declared.exprs.Expr.{Expr}
use Rattle.ae_syntax.specs.declared.exprs.ExprKind.{ExprKind}
use Rattle.ae_syntax.specs.declared.exprs.ExprKind as expr_kind
use Rattle.ae_syntax.specs.declared.exprs.BinaryOp.TheVariants as op
use Rattle.ae_syntax.specs.declared.exprs.Group.{Group}
use Rattle.ae_syntax.specs.declared.exprs.Trigger.{Trigger}
use Rattle.ae_syntax.specs.declared.exprs.Setting.{Setting}
use Rattle.ae_syntax.specs.declared.decls.TypedName.{TypedName}
use Rattle.ae_syntax.specs.declared.decls.SymbolResult.{SymbolResult}
use Rattle.ae_syntax.specs.declared.decls.Decl.{Decl}
use Rattle.ae_syntax.specs.declared.decls.File.{File}
use Rattle.ae_syntax.specs.Parts.{Part, token, tree, sort, setting, trigger, group, typed, result, decl, names, trees, sorts, settings, triggers, groups, typeds, decls, alone, and_then, span, expression, setting_of, trigger_of, written, typed_name, group_of, a_sort, prop_at, abstract_type, record_type, enumeration, logic_of, function_of, predicate_of, axiom_of, goal_of}
use Rattle.ae_syntax.specs.Grammar.{Level, Items, element, Is, file, a_decl, id, var, ac, params, formals, in_brackets, arguments, in_squares, typed_id, set_id, a_result, a_type, a_group, a_trigger, some, of_names, of_constructors, of_vars, of_types, of_fields, of_formals, of_groups, of_exprs, of_triggers, of_settings, file_none, file_decl, some_one, some_more, decl_type, decl_record, decl_enumeration, decl_logic, decl_function, decl_predicate, decl_axiom, decl_goal, is_id, is_var, ac_none, ac_word, params_none, params_var, params_vars, id_type, formals_none, formals_some, brackets_none, brackets_some, arguments_none, arguments_some, result_type, result_prop, type_int, type_real, type_bool, type_unit, type_var, type_name, type_postfix, type_brackets, expr_arrow, expr_orE, orE_or, orE_andE, orC_or, orC_andC, andE_and, andE_notE, andC_and, andC_notC, notE_not, notE_open, notE_rel, notC_not, notC_rel, open_quantified, open_let, open_if, group_type, squares_none, squares_some, trigger_exprs, rel_two, rel_sum, sum_two, sum_prod, prod_two, prod_unary, unary_minus, unary_post, post_field, post_atom, atom_name, atom_call, atom_numeral, atom_true, atom_false, atom_void, atom_brackets, atom_ascribed, atom_distinct, atom_record, atom_update, id_value}
use Rattle.ae_syntax.specs.Files.{IsParsed}
use Rattle.ae_elab.specs.Names.{IsName, joined, names_in_type, names_in_result, names_in_typed, names_in_all, names_in_group, names_in, names_in_form, names_in_set, names_in_trigger, names_in_kind, names_in_file}
use Rattle.ae_elab.proofs.NamesInRules.{in_binary, in_not, in_negative, in_quantified, in_let, in_if, in_field, in_apply, in_numeral, in_true, in_false, in_void, in_bracketed, in_ascribed, in_distinct, in_record, in_update, in_built, in_set_built, in_trigger_built, in_type_built, in_type_int, in_type_real, in_type_bool, in_type_unit, in_type_var, in_type_named, names_in_type_form}
use Rattle.ae_elab.proofs.NamesStand.{Stands, tokens_stand}

-- ---- the names of parts
abbrev same : List Span → List Span
same xs = xs

abbrev in_token : Token → List Span
in_token t = span t ∷ []

abbrev in_sorts : List WrittenType → List Span
in_sorts ws = joined (map names_in_type ws)

abbrev in_triggers : List Trigger → List Span
in_triggers ts = joined (map names_in_trigger ts)

abbrev in_trees : List Expr → List Span
in_trees es = joined (map names_in es)

abbrev in_settings : List Setting → List Span
in_settings ss = joined (map names_in_set ss)

abbrev in_groups : List Group → List Span
in_groups gs = joined (map names_in_group gs)

abbrev in_decl : Decl → List Span
in_decl d = names_in_kind d.kind

abbrev in_decls : List Decl → List Span
in_decls ds = joined (map in_decl ds)

abbrev in_result : SymbolResult → List Span
in_result r = names_in_result r.sort

-- a part is made of a value whose names stand in the text
record Holds (text : List ℕ) {X : Type 0} (make : X → Part) (f : X → List Span) (p : Part) : Type 0 where
  value : X
  is : p ≡ make value
  named : AllByRecursion (IsName text) (f value)

module _ (text : List ℕ) where
  abbrev Named : List Span → Type 0
  Named xs = AllByRecursion (IsName text) xs

  abbrev Good : List Token → Type 0
  Good ts = AllByRecursion (Stands text) ts

  abbrev Claim : Level → Part → Type 0
  Claim file p = Holds text decls in_decls p
  Claim a_decl p = Holds text decl in_decl p
  Claim id p = Holds text token in_token p
  Claim var p = Holds text token in_token p
  Claim ac p = Unit {0}
  Claim params p = Holds text names same p
  Claim formals p = Holds text typeds names_in_all p
  Claim in_brackets p = Holds text typeds names_in_all p
  Claim arguments p = Holds text sorts in_sorts p
  Claim in_squares p = Holds text triggers in_triggers p
  Claim typed_id p = Holds text typed names_in_typed p
  Claim set_id p = Holds text setting names_in_set p
  Claim a_result p = Holds text result in_result p
  Claim a_type p = Holds text sort names_in_type p
  Claim a_group p = Holds text group names_in_group p
  Claim a_trigger p = Holds text trigger names_in_trigger p
  Claim (some of_names) p = Holds text names same p
  Claim (some of_constructors) p = Holds text names same p
  Claim (some of_vars) p = Holds text names same p
  Claim (some of_types) p = Holds text sorts in_sorts p
  Claim (some of_fields) p = Holds text typeds names_in_all p
  Claim (some of_formals) p = Holds text typeds names_in_all p
  Claim (some of_groups) p = Holds text groups in_groups p
  Claim (some of_exprs) p = Holds text trees in_trees p
  Claim (some of_triggers) p = Holds text triggers in_triggers p
  Claim (some of_settings) p = Holds text settings in_settings p
  Claim _ p = Holds text tree names_in p

  holds : {X : Type 0} (make : X → Part) (f : X → List Span) (x : X) → Named (f x) → Holds text make f (make x)
  holds make f x h = record { value = x; is = refl; named = h }

  -- ---- lists
  push : {X : Type 0} (f : X → List Span) (xs : List X) (x : X) → Named (joined (map f xs)) → Named (f x) → Named (joined (map f (xs ++ x ∷ [])))
  push f [] x h k = all_append (IsName text) (f x) [] k tt
  push f (y ∷ xs) x h k =
      all_append (IsName text) (f y) (joined (map f (xs ++ x ∷ []))) (all_front (IsName text) (f y) (joined (map f xs)) h)
      (push f xs x (all_back (IsName text) (f y) (joined (map f xs)) h) k)

  module _ {X : Type 0} (make : X → Part) (many : List X → Part) (f : X → List Span) where
    one_of : {p : Part} → ((x : X) → alone (make x) ≡ many (x ∷ [])) → Holds text make f p → Holds text many (λ xs. joined (map f xs)) (alone p)
    one_of {p} law h = record { value = h.value ∷ []; is = ap alone h.is ∙ law h.value; named = all_append (IsName text) (f h.value) [] h.named tt }

    more_of : {ps p : Part} → ((xs : List X) (x : X) → and_then (many xs) (make x) ≡ many (xs ++ x ∷ [])) → Holds text many (λ xs. joined (map f xs)) ps → Holds text make f p
        → Holds text many (λ xs. joined (map f xs)) (and_then ps p)
    more_of {ps} {p} law h k = record {
      value = h.value ++ k.value ∷ [];
      is = ap (λ z. and_then z p) h.is ∙ ap (and_then (many h.value)) k.is ∙ law h.value k.value;
      named = push f h.value k.value h.named k.named;
    }

  one_name : {p : Part} → Holds text token in_token p → Holds text names same (alone p)
  one_name {p} h = record { value = span h.value ∷ []; is = ap alone h.is; named = h.named }

  more_names : {ps p : Part} → Holds text names same ps → Holds text token in_token p → Holds text names same (and_then ps p)
  more_names {ps} {p} h k = record {
    value = h.value ++ span k.value ∷ [];
    is = ap (λ z. and_then z p) h.is ∙ ap (and_then (names h.value)) k.is;
    named = all_append (IsName text) h.value (span k.value ∷ []) h.named k.named;
  }

  one : (r : Items) (p : Part) → Claim (element r) p → Claim (some r) (alone p)
  one of_names p h = one_name h
  one of_constructors p h = one_name h
  one of_vars p h = one_name h
  one of_types p h = one_of sort sorts names_in_type (λ x. refl) h
  one of_fields p h = one_of typed typeds names_in_typed (λ x. refl) h
  one of_formals p h = one_of typed typeds names_in_typed (λ x. refl) h
  one of_groups p h = one_of group groups names_in_group (λ x. refl) h
  one of_exprs p h = one_of tree trees names_in (λ x. refl) h
  one of_triggers p h = one_of trigger triggers names_in_trigger (λ x. refl) h
  one of_settings p h = one_of setting settings names_in_set (λ x. refl) h

  more : (r : Items) (ps p : Part) → Claim (some r) ps → Claim (element r) p → Claim (some r) (and_then ps p)
  more of_names ps p h k = more_names h k
  more of_constructors ps p h k = more_names h k
  more of_vars ps p h k = more_names h k
  more of_types ps p h k = more_of sort sorts names_in_type (λ xs x. refl) h k
  more of_fields ps p h k = more_of typed typeds names_in_typed (λ xs x. refl) h k
  more of_formals ps p h k = more_of typed typeds names_in_typed (λ xs x. refl) h k
  more of_groups ps p h k = more_of group groups names_in_group (λ xs x. refl) h k
  more of_exprs ps p h k = more_of tree trees names_in (λ xs x. refl) h k
  more of_triggers ps p h k = more_of trigger triggers names_in_trigger (λ xs x. refl) h k
  more of_settings ps p h k = more_of setting settings names_in_set (λ xs x. refl) h k

  -- ---- the value of a part that is known
  from_names : (x : List Span) → Holds text names same (names x) → Named (same x)
  from_names x h = let i : x ≡ h.value = cc h.is in subst (λ (y : List Span). Named (same y)) (sym i) h.named

  from_typeds : (x : List TypedName) → Holds text typeds names_in_all (typeds x) → Named (names_in_all x)
  from_typeds x h = let i : x ≡ h.value = cc h.is in subst (λ (y : List TypedName). Named (names_in_all y)) (sym i) h.named

  from_sorts : (x : List WrittenType) → Holds text sorts in_sorts (sorts x) → Named (in_sorts x)
  from_sorts x h = let i : x ≡ h.value = cc h.is in subst (λ (y : List WrittenType). Named (in_sorts y)) (sym i) h.named

  from_triggers : (x : List Trigger) → Holds text triggers in_triggers (triggers x) → Named (in_triggers x)
  from_triggers x h = let i : x ≡ h.value = cc h.is in subst (λ (y : List Trigger). Named (in_triggers y)) (sym i) h.named

  from_trees : (x : List Expr) → Holds text trees in_trees (trees x) → Named (in_trees x)
  from_trees x h = let i : x ≡ h.value = cc h.is in subst (λ (y : List Expr). Named (in_trees y)) (sym i) h.named

  from_settings : (x : List Setting) → Holds text settings in_settings (settings x) → Named (in_settings x)
  from_settings x h = let i : x ≡ h.value = cc h.is in subst (λ (y : List Setting). Named (in_settings y)) (sym i) h.named

  from_groups : (x : List Group) → Holds text groups in_groups (groups x) → Named (in_groups x)
  from_groups x h = let i : x ≡ h.value = cc h.is in subst (λ (y : List Group). Named (in_groups y)) (sym i) h.named

  from_decls : (x : List Decl) → Holds text decls in_decls (decls x) → Named (in_decls x)
  from_decls x h = let i : x ≡ h.value = cc h.is in subst (λ (y : List Decl). Named (in_decls y)) (sym i) h.named

  from_decl : (x : Decl) → Holds text decl in_decl (decl x) → Named (in_decl x)
  from_decl x h = let i : x ≡ h.value = cc h.is in subst (λ (y : Decl). Named (in_decl y)) (sym i) h.named

  from_typed : (x : TypedName) → Holds text typed names_in_typed (typed x) → Named (names_in_typed x)
  from_typed x h = let i : x ≡ h.value = cc h.is in subst (λ (y : TypedName). Named (names_in_typed y)) (sym i) h.named

  from_sort : (x : WrittenType) → Holds text sort names_in_type (sort x) → Named (names_in_type x)
  from_sort x h = let i : x ≡ h.value = cc h.is in subst (λ (y : WrittenType). Named (names_in_type y)) (sym i) h.named

  from_tree : (x : Expr) → Holds text tree names_in (tree x) → Named (names_in x)
  from_tree x h = let i : x ≡ h.value = cc h.is in subst (λ (y : Expr). Named (names_in y)) (sym i) h.named

  from_result : (x : SymbolResult) → Holds text result in_result (result x) → Named (in_result x)
  from_result x h = let i : x ≡ h.value = cc h.is in subst (λ (y : SymbolResult). Named (in_result y)) (sym i) h.named

  -- ---- what the grammar builds
  built : (s : Span) (k : ExprKind) (xs : List Span) → names_in_form k ≡ xs → Named xs → Holds text tree names_in (tree (expression s k))
  built s k xs e h = record { value = expression s k; is = refl; named = subst Named (sym (in_built s k ∙ e)) h }

  type_built : (s : Span) (k : TypeKind) (xs : List Span) → names_in_type_form k s ≡ xs → Named xs → Holds text sort names_in_type (sort (written s k))
  type_built s k xs e h = record { value = written s k; is = refl; named = subst Named (sym (in_type_built s k ∙ e)) h }

  both : (xs ys : List Span) → Named xs → Named ys → Named (xs ++ ys)
  both xs ys h k = all_append (IsName text) xs ys h k

  before : (u w : List Token) → Good (u ++ w) → Good u
  before u w g = all_front (Stands text) u w g

  after : (u w : List Token) → Good (u ++ w) → Good w
  after u w g = all_back (Stands text) u w g

  two : (u w : List Token) (t : Token) (s : Span) (k : ExprKind) (a b : Expr) → names_in_form k ≡ names_in a ++ names_in b → Good (u ++ t ∷ w) → (Good u → Holds text tree names_in (tree a)) → (Good w → Holds text tree names_in (tree b))
      → Holds text tree names_in (tree (expression s k))
  two u w t s k a b e g p q = built s k (names_in a ++ names_in b) e (both (names_in a) (names_in b) (from_tree a (p (before u (t ∷ w) g))) (from_tree b (q (after u (t ∷ w) g).1)))

  named : {l : Level} {w : List Token} {p : Part} → Is l w p → Good w → Claim l p
  named file_none g = holds decls in_decls [] tt
  named (file_decl {ds} {d} u w p q) g = holds decls in_decls (ds ++ d ∷ []) (push in_decl ds d (from_decls ds (named p (before u w g))) (from_decl d (named q (after u w g))))
  named (some_one {p} r q) g = one r p (named q g)
  named (some_more {ps} {p} r u w t q h k) g = more r ps p (named q (before u (t ∷ w) g)) (named k (after u (t ∷ w) g).1)
  named (decl_type {ps} w t n ht p hn) g = (let b = after w (n ∷ []) g.1 in holds decl in_decl (abstract_type t ps n) (both ps (span n ∷ []) (from_names ps (named p (before w (n ∷ []) g.1))) (b.0.name (inl hn), tt)))
  named (decl_record {ps} {fs} u w t n e o c ht p hn he ho q hc) g = (let a = before (u ++ n ∷ e ∷ o ∷ w) (c ∷ []) g.1 in let b = after u (n ∷ e ∷ o ∷ w) a in holds decl in_decl (record_type t ps n fs c) (both ps (span n ∷ names_in_all fs) (from_names ps (named p (before u (n ∷ e ∷ o ∷ w) a))) (b.0.name (inl hn), from_typeds fs (named q b.1.1.1))))
  named (decl_enumeration {cs} w t n e ht hn he p) g = holds decl in_decl (enumeration t n cs) (g.1.0.name (inl hn), from_names cs (named p g.1.1.1))
  named (decl_logic {a} {ns} {ss} {r} u v w x t c ht p q hc k l) g = (let d = before (u ++ v ++ c ∷ w) x g.1 in holds decl in_decl (logic_of t a ns ss r) (both (ns ++ in_sorts ss) (in_result r) (both ns (in_sorts ss) (from_names ns (named q (after u v (before (u ++ v) (c ∷ w) d)))) (from_sorts ss (named k (after (u ++ v) (c ∷ w) d).1))) (from_result r (named l (after (u ++ v ++ c ∷ w) x g.1)))))
  named (decl_function {fs} {s} {e} u v w t n o c d q ht hn ho p hc hd k hq l) g = (let a = before (u ++ c ∷ d ∷ v) (q ∷ w) g.1.1.1 in holds decl in_decl (function_of t n fs s e) (g.1.0.name (inl hn), both (names_in_all fs ++ names_in_type s) (names_in e) (both (names_in_all fs) (names_in_type s) (from_typeds fs (named p (before u (c ∷ d ∷ v) a))) (from_sort s (named k (after u (c ∷ d ∷ v) a).1.1))) (from_tree e (named l (after (u ++ c ∷ d ∷ v) (q ∷ w) g.1.1.1).1))))
  named (decl_predicate {fs} {e} u w t n q ht hn p hq k) g = (let a = g.1.1 in holds decl in_decl (predicate_of t n fs e) (g.1.0.name (inl hn), both (names_in_all fs) (names_in e) (from_typeds fs (named p (before u (q ∷ w) a))) (from_tree e (named k (after u (q ∷ w) a).1))))
  named (decl_axiom {e} w t n c ht hn hc p) g = holds decl in_decl (axiom_of t n e) (g.1.0.name (inl hn), from_tree e (named p g.1.1.1))
  named (decl_goal {e} w t n c ht hn hc p) g = holds decl in_decl (goal_of t n e) (g.1.0.name (inl hn), from_tree e (named p g.1.1.1))
  named (is_id t h) g = holds token in_token t (g.0.name (inl h), tt)
  named (is_var t h) g = holds token in_token t (g.0.name (inr h), tt)
  named ac_none g = tt
  named (ac_word t h) g = tt
  named params_none g = holds names same [] tt
  named (params_var t h) g = holds names same (span t ∷ []) (g.0.name (inr h), tt)
  named (params_vars {ps} w o v m c ho hv hm p hc) g = holds names same (span v ∷ ps) (g.1.0.name (inr hv), from_names ps (named p (before w (c ∷ []) g.1.1.1)))
  named (id_type {s} w n c hn hc p) g = holds typed names_in_typed (typed_name n s) (g.0.name (inl hn), from_sort s (named p g.1.1))
  named formals_none g = holds typeds names_in_all [] tt
  named (formals_some p) g = named p g
  named brackets_none g = holds typeds names_in_all [] tt
  named (brackets_some w o c ho p hc) g = named p (before w (c ∷ []) g.1)
  named arguments_none g = holds sorts in_sorts [] tt
  named (arguments_some w a p h) g = named p (before w (a ∷ []) g)
  named (result_type {s} p) g = holds result in_result (a_sort s) (from_sort s (named p g))
  named (result_prop t h) g = holds result in_result (prop_at t) tt
  named (type_int t h) g = type_built (span t) type_kind.Int [] (in_type_int (span t)) tt
  named (type_real t h) g = type_built (span t) type_kind.Real [] (in_type_real (span t)) tt
  named (type_bool t h) g = type_built (span t) type_kind.Bool [] (in_type_bool (span t)) tt
  named (type_unit t h) g = type_built (span t) type_kind.Unit [] (in_type_unit (span t)) tt
  named (type_var t h) g = type_built (span t) type_kind.Var (span t ∷ []) (in_type_var (span t)) (g.0.name (inr h), tt)
  named (type_name n h) g = type_built _ (type_kind.Named (span n) []) (span n ∷ []) (in_type_named _ (span n) []) (g.0.name (inl h), tt)
  named (type_postfix {s} u n p h) g = type_built _ (type_kind.Named (span n) (s ∷ [])) (span n ∷ in_sorts (s ∷ [])) (in_type_named _ (span n) (s ∷ [])) ((after u (n ∷ []) g).0.name (inl h), both (names_in_type s) [] (from_sort s (named p (before u (n ∷ []) g))) tt)
  named (type_brackets {s} {ss} u w o m c n ho p hm q hc hn) g = (let a = before (u ++ m ∷ w) (c ∷ n ∷ []) g.1 in type_built _ (type_kind.Named (span n) (s ∷ ss)) (span n ∷ in_sorts (s ∷ ss)) (in_type_named _ (span n) (s ∷ ss)) ((after (u ++ m ∷ w) (c ∷ n ∷ []) g.1).1.0.name (inl hn), both (names_in_type s) (in_sorts ss) (from_sort s (named p (before u (m ∷ w) a))) (from_sorts ss (named q (after u (m ∷ w) a).1))))
  named (expr_arrow {a} {b} u w t o p h q) g = two u w t _ (expr_kind.Binary o a b) a b (in_binary o a b) g (named p) (named q)
  named (expr_orE p) g = named p g
  named (orE_or {a} {b} u w t p h q) g = two u w t _ (expr_kind.Binary op.Or a b) a b (in_binary op.Or a b) g (named p) (named q)
  named (orE_andE p) g = named p g
  named (orC_or {a} {b} u w t p h q) g = two u w t _ (expr_kind.Binary op.Or a b) a b (in_binary op.Or a b) g (named p) (named q)
  named (orC_andC p) g = named p g
  named (andE_and {a} {b} u w t p h q) g = two u w t _ (expr_kind.Binary op.And a b) a b (in_binary op.And a b) g (named p) (named q)
  named (andE_notE p) g = named p g
  named (andC_and {a} {b} u w t p h q) g = two u w t _ (expr_kind.Binary op.And a b) a b (in_binary op.And a b) g (named p) (named q)
  named (andC_notC p) g = named p g
  named (notE_not {e} w t h p) g = built _ (expr_kind.Not e) (names_in e) (in_not e) (from_tree e (named p g.1))
  named (notE_open p) g = named p g
  named (notE_rel p) g = named p g
  named (notC_not {e} w t h p) g = built _ (expr_kind.Not e) (names_in e) (in_not e) (from_tree e (named p g.1))
  named (notC_rel p) g = named p g
  named (open_quantified {gs} {ts} {e} u v w t d q h p k hd l) g = (let a = before (u ++ v) (d ∷ w) g.1 in built _ (expr_kind.Quantified q gs ts e) (in_groups gs ++ in_triggers ts ++ names_in e) (in_quantified q gs ts e) (both (in_groups gs ++ in_triggers ts) (names_in e) (both (in_groups gs) (in_triggers ts) (from_groups gs (named p (before u v a))) (from_triggers ts (named k (after u v a)))) (from_tree e (named l (after (u ++ v) (d ∷ w) g.1).1))))
  named (open_let {a} {b} u w t n e i ht hn he p hi q) g = (let c = g.1.1.1 in built _ (expr_kind.Let (span n) a b) (span n ∷ names_in a ++ names_in b) (in_let (span n) a b) (g.1.0.name (inl hn), both (names_in a) (names_in b) (from_tree a (named p (before u (i ∷ w) c))) (from_tree b (named q (after u (i ∷ w) c).1))))
  named (open_if {c} {a} {b} u v w t h l ht p hh q hl r) g = (let d = before (u ++ h ∷ v) (l ∷ w) g.1 in built _ (expr_kind.If c a b) (names_in c ++ names_in a ++ names_in b) (in_if c a b) (both (names_in c ++ names_in a) (names_in b) (both (names_in c) (names_in a) (from_tree c (named p (before u (h ∷ v) d))) (from_tree a (named q (after u (h ∷ v) d).1))) (from_tree b (named r (after (u ++ h ∷ v) (l ∷ w) g.1).1))))
  named (group_type {ns} {s} u w c p hc q) g = holds group names_in_group (group_of ns s) (both ns (names_in_type s) (from_names ns (named p (before u (c ∷ w) g))) (from_sort s (named q (after u (c ∷ w) g).1)))
  named squares_none g = holds triggers in_triggers [] tt
  named (squares_some w o c ho p hc) g = named p (before w (c ∷ []) g.1)
  named (trigger_exprs {es} p) g = record { value = trigger_of es; is = refl; named = subst Named (sym (in_trigger_built es)) (from_trees es (named p g)) }
  named (rel_two {a} {b} u w t o p h q) g = two u w t _ (expr_kind.Binary o a b) a b (in_binary o a b) g (named p) (named q)
  named (rel_sum p) g = named p g
  named (sum_two {a} {b} u w t o p h q) g = two u w t _ (expr_kind.Binary o a b) a b (in_binary o a b) g (named p) (named q)
  named (sum_prod p) g = named p g
  named (prod_two {a} {b} u w t o p h q) g = two u w t _ (expr_kind.Binary o a b) a b (in_binary o a b) g (named p) (named q)
  named (prod_unary p) g = named p g
  named (unary_minus {e} w t h p) g = built _ (expr_kind.Negative e) (names_in e) (in_negative e) (from_tree e (named p g.1))
  named (unary_post p) g = named p g
  named (post_field {e} u d n p h k) g = built _ (expr_kind.Field e (span n)) (names_in e ++ span n ∷ []) (in_field e (span n)) (both (names_in e) (span n ∷ []) (from_tree e (named p (before u (d ∷ n ∷ []) g))) ((after u (d ∷ n ∷ []) g).1.0.name (inl k), tt))
  named (post_atom p) g = named p g
  named (atom_name n h) g = built _ (expr_kind.Apply (span n) []) (span n ∷ []) (in_apply (span n) []) (g.0.name (inl h), tt)
  named (atom_call {es} w n o c hn ho p hc) g = built _ (expr_kind.Apply (span n) es) (span n ∷ in_trees es) (in_apply (span n) es) (g.0.name (inl hn), from_trees es (named p (before w (c ∷ []) g.1.1)))
  named (atom_numeral t n h) g = built _ (expr_kind.Numeral n) [] (in_numeral n) tt
  named (atom_true t h) g = built _ expr_kind.True [] in_true tt
  named (atom_false t h) g = built _ expr_kind.False [] in_false tt
  named (atom_void t h) g = built _ expr_kind.Void [] in_void tt
  named (atom_brackets {e} w o c ho p hc) g = built _ (expr_kind.Bracketed e) (names_in e) (in_bracketed e) (from_tree e (named p (before w (c ∷ []) g.1)))
  named (atom_ascribed {e} {s} u w o d c ho p hd q hc) g = (let a = before (u ++ d ∷ w) (c ∷ []) g.1 in built _ (expr_kind.Ascribed e s) (names_in e ++ names_in_type s) (in_ascribed e s) (both (names_in e) (names_in_type s) (from_tree e (named p (before u (d ∷ w) a))) (from_sort s (named q (after u (d ∷ w) a).1))))
  named (atom_distinct {es} w t o c ht ho p hc) g = built _ (expr_kind.Distinct es) (in_trees es) (in_distinct es) (from_trees es (named p (before w (c ∷ []) g.1.1)))
  named (atom_record {ss} w o c ho p hc) g = built _ (expr_kind.Record ss) (in_settings ss) (in_record ss) (from_settings ss (named p (before w (c ∷ []) g.1)))
  named (atom_update {e} {ss} u w o h c ho p hh q hc) g = (let a = before (u ++ h ∷ w) (c ∷ []) g.1 in built _ (expr_kind.Update e ss) (names_in e ++ in_settings ss) (in_update e ss) (both (names_in e) (in_settings ss) (from_tree e (named p (before u (h ∷ w) a))) (from_settings ss (named q (after u (h ∷ w) a).1))))
  named (id_value {e} w n q hn hq p) g = record { value = setting_of n e; is = refl; named = subst Named (sym (in_set_built n e)) (g.0.name (inl hn), from_tree e (named p g.1.1)) }

-- the names of a file that the tokens of a text are
pub file_named : (text : List ℕ) (tokens : List Token) (f : File) → IsTokenized text tokens → IsParsed tokens f → AllByRecursion (IsName text) (names_in_file f)
file_named text tokens f t p = from_decls text f.decls (named text p.is (tokens_stand text tokens t))
