-- The tree that the tokens of a text are is made of places and identifiers of the text.
use Rattle.std.proofs.Common.{arith, ◌≡◌, ◌<◌, ◌∙◌, ℕ, List, [], ◌∷◌, ◌++◌, length, refl, sym, ap, subst}
use Rattle.std.proofs.lemmas.List.{length-append}
use Rattle.std.specs.List.{AllByRecursion}
use Rattle.ae_base.proofs.AllOf.{all_front, all_back, all_push}
use Rattle.ae_lex.specs.declared.kinds.Token.{Token}
use Rattle.ae_lex.specs.Lexis.{IsTokenized}
use Rattle.ae_syntax.specs.declared.spans.Span.{Span}
use Rattle.ae_syntax.specs.declared.types.WrittenType.{WrittenType}
use Rattle.ae_syntax.specs.declared.exprs.Expr.{Expr, Expr-F, out-roll-Expr}
use Rattle.ae_syntax.specs.declared.exprs.ExprKind as expr_kind
use Rattle.ae_syntax.specs.declared.exprs.BinaryOp.{BinaryOp}
use Rattle.ae_syntax.specs.declared.exprs.BinaryOp.TheVariants as op
use Rattle.ae_syntax.specs.declared.exprs.Group.{Group}
use Rattle.ae_syntax.specs.declared.exprs.Trigger.{Trigger}
use Rattle.ae_syntax.specs.declared.exprs.Setting.{Setting}
use Rattle.ae_syntax.specs.declared.decls.TypedName.{TypedName}
use Rattle.ae_syntax.specs.declared.decls.SymbolResult.{SymbolResult}
use Rattle.ae_syntax.specs.declared.decls.Decl.{Decl}
use Rattle.ae_syntax.specs.declared.decls.File.{File}
use Rattle.ae_syntax.specs.Parts.{Part, token, tree, sort, setting, trigger, group, typed, result, decl, names, trees, sorts, settings, triggers}
use Rattle.ae_syntax.specs.Parts.{groups, typeds, decls, alone, and_then, span, span_of, cover, terms_span, binary, expression, setting_of}
use Rattle.ae_syntax.specs.Parts.{trigger_of, typed_name, group_of, a_sort, prop_at, abstract_type, record_type, enumeration, logic_of, function_of}
use Rattle.ae_syntax.specs.Parts.{predicate_of, axiom_of, goal_of}
use Rattle.ae_syntax.specs.Grammar.{Level, Items, element, Is, file, a_decl, id, var, ac, params, formals, in_brackets, arguments, in_squares}
use Rattle.ae_syntax.specs.Grammar.{typed_id, set_id, a_result, a_type, a_group, a_trigger, some, of_names, of_constructors, of_vars, of_types}
use Rattle.ae_syntax.specs.Grammar.{of_fields, of_formals, of_groups, of_exprs, of_triggers, of_settings, file_none, file_decl, some_one, some_more}
use Rattle.ae_syntax.specs.Grammar.{decl_type, decl_record, decl_enumeration, decl_logic, decl_function, decl_predicate, decl_axiom, decl_goal, is_id}
use Rattle.ae_syntax.specs.Grammar.{is_var as is_var_token, ac_none, ac_word, params_none, params_var, params_vars, id_type, formals_none}
use Rattle.ae_syntax.specs.Grammar.{formals_some, brackets_none, brackets_some, arguments_none, arguments_some, result_type, result_prop, type_int}
use Rattle.ae_syntax.specs.Grammar.{type_real, type_bool, type_unit, type_var, type_name, type_postfix, type_brackets, expr_arrow, expr_orE, orE_or}
use Rattle.ae_syntax.specs.Grammar.{orE_andE, orC_or, orC_andC, andE_and, andE_notE, andC_and, andC_notC, notE_not, notE_open, notE_rel, notC_not}
use Rattle.ae_syntax.specs.Grammar.{notC_rel, open_quantified, open_let, open_if, group_type, squares_none, squares_some, trigger_exprs, rel_two}
use Rattle.ae_syntax.specs.Grammar.{rel_sum, sum_two, sum_prod, prod_two, prod_unary, unary_minus, unary_post, post_field, post_atom, atom_name}
use Rattle.ae_syntax.specs.Grammar.{atom_call, atom_numeral, atom_true, atom_false, atom_void, atom_brackets, atom_ascribed, atom_distinct}
use Rattle.ae_syntax.specs.Grammar.{atom_record, atom_update, id_value}
use Rattle.ae_syntax.specs.Files.{IsParsed}
use Rattle.ae_typed_laws.proofs.ParsedTrees.{IsPlace, IsIdentifier, IsWritten, is_int, is_real, is_bool, is_unit, is_var, is_named, and_type}
use Rattle.ae_typed_laws.proofs.ParsedTrees.{no_types, no_trees, IsGroup, IsTree, is_binary, is_not, is_negative, is_quantified, is_let, is_if}
use Rattle.ae_typed_laws.proofs.ParsedTrees.{is_field, is_apply, is_numeral, is_true, is_false, is_void, is_bracketed, is_ascribed, is_distinct}
use Rattle.ae_typed_laws.proofs.ParsedTrees.{is_record, is_update, IsTrigger, IsSetting, IsTypedName, IsResult, IsKind, IsDeclaration, written_list}
use Rattle.ae_typed_laws.proofs.ParsedTrees.{tree_list, trigger_list, setting_list}
use Rattle.ae_typed_laws.proofs.Tokens.{Fits, tokens_fit}

-- a part is made of a value of which this is so
record Holds {X : Type 0} (make : X → Part) (Q : X → Type 0) (p : Part) : Type 0 where
  value : X
  is : p ≡ make value
  good : Q value

holds : {X : Type 0} (make : X → Part) (Q : X → Type 0) (x : X) → Q x → Holds make Q (make x)
holds make Q x h = record { value = x; is = refl; good = h }

module _ (text : List ℕ) where
  -- an expression, and its place
  record Placed (e : Expr) : Type 0 where
    tree : IsTree text e
    place : IsPlace text (span_of e)

  abbrev Good : List Token → Type 0
  Good ts = AllByRecursion (Fits text) ts

  abbrev IsNameToken : Token → Type 0
  IsNameToken t = IsIdentifier text (span t)

  abbrev IsVarToken : Token → Type 0
  IsVarToken t = IsPlace text (span t)

  abbrev IsResultPart : SymbolResult → Type 0
  IsResultPart r = IsResult text r.sort

  abbrev Names : List Span → Type 0
  Names = AllByRecursion (IsIdentifier text)

  -- one or more
  record SomeNames (xs : List Span) : Type 0 where
    all : Names xs
    some : 0 < length xs

  abbrev Vars : List Span → Type 0
  Vars = AllByRecursion (IsPlace text)

  abbrev Types : List WrittenType → Type 0
  Types = AllByRecursion (IsWritten text)

  abbrev Typeds : List TypedName → Type 0
  Typeds = AllByRecursion (IsTypedName text)

  abbrev Groups : List Group → Type 0
  Groups = AllByRecursion (IsGroup text)

  abbrev Trees : List Expr → Type 0
  Trees = AllByRecursion (IsTree text)

  abbrev Triggers : List Trigger → Type 0
  Triggers = AllByRecursion (IsTrigger text)

  abbrev Settings : List Setting → Type 0
  Settings = AllByRecursion (IsSetting text)

  abbrev Decls : List Decl → Type 0
  Decls = AllByRecursion (IsDeclaration text)

  abbrev Claim : Level → Part → Type 0
  Claim file p = Holds decls Decls p
  Claim a_decl p = Holds decl (IsDeclaration text) p
  Claim id p = Holds token IsNameToken p
  Claim var p = Holds token IsVarToken p
  Claim ac p = Unit {0}
  Claim params p = Holds names Vars p
  Claim formals p = Holds typeds Typeds p
  Claim in_brackets p = Holds typeds Typeds p
  Claim arguments p = Holds sorts Types p
  Claim in_squares p = Holds triggers Triggers p
  Claim typed_id p = Holds typed (IsTypedName text) p
  Claim set_id p = Holds setting (IsSetting text) p
  Claim a_result p = Holds result IsResultPart p
  Claim a_type p = Holds sort (IsWritten text) p
  Claim a_group p = Holds group (IsGroup text) p
  Claim a_trigger p = Holds trigger (IsTrigger text) p
  Claim (some of_names) p = Holds names Names p
  Claim (some of_constructors) p = Holds names SomeNames p
  Claim (some of_vars) p = Holds names Vars p
  Claim (some of_types) p = Holds sorts Types p
  Claim (some of_fields) p = Holds typeds Typeds p
  Claim (some of_formals) p = Holds typeds Typeds p
  Claim (some of_groups) p = Holds groups Groups p
  Claim (some of_exprs) p = Holds trees Trees p
  Claim (some of_triggers) p = Holds triggers Triggers p
  Claim (some of_settings) p = Holds settings Settings p
  Claim _ p = Holds tree Placed p

  -- ---- lists
  module _ {X Y : Type 0} (make : X → Part) (many : List Y → Part) (Q : X → Type 0) (R : Y → Type 0) (g : X → Y) (keep : (x : X) → Q x → R (g x)) where
    one_of : {p : Part} → ((x : X) → alone (make x) ≡ many (g x ∷ [])) → Holds make Q p → Holds many (AllByRecursion R) (alone p)
    one_of {p} law h = record { value = g h.value ∷ []; is = ap alone h.is ∙ law h.value; good = (keep h.value h.good, tt) }

    more_of : {ps p : Part} → ((xs : List Y) (x : X) → and_then (many xs) (make x) ≡ many (xs ++ g x ∷ [])) → Holds many (AllByRecursion R) ps → Holds make Q p
        → Holds many (AllByRecursion R) (and_then ps p)
    more_of {ps} {p} law h k = record {
      value = h.value ++ g k.value ∷ [];
      is = ap (λ z. and_then z p) h.is ∙ ap (and_then (many h.value)) k.is ∙ law h.value k.value;
      good = all_push R h.value (g k.value) h.good (keep k.value k.good);
    }

  one : (r : Items) (p : Part) → Claim (element r) p → Claim (some r) (alone p)
  one of_names p h = one_of token names IsNameToken (IsIdentifier text) span (λ x q. q) (λ x. refl) h
  one of_constructors p h = record { value = span h.value ∷ []; is = ap alone h.is; good = record { all = (h.good, tt); some = omega arith } }
  one of_vars p h = one_of token names IsVarToken (IsPlace text) span (λ x q. q) (λ x. refl) h
  one of_types p h = one_of sort sorts (IsWritten text) (IsWritten text) (λ x. x) (λ x q. q) (λ x. refl) h
  one of_fields p h = one_of typed typeds (IsTypedName text) (IsTypedName text) (λ x. x) (λ x q. q) (λ x. refl) h
  one of_formals p h = one_of typed typeds (IsTypedName text) (IsTypedName text) (λ x. x) (λ x q. q) (λ x. refl) h
  one of_groups p h = one_of group groups (IsGroup text) (IsGroup text) (λ x. x) (λ x q. q) (λ x. refl) h
  one of_exprs p h = one_of tree trees Placed (IsTree text) (λ x. x) (λ x q. q.tree) (λ x. refl) h
  one of_triggers p h = one_of trigger triggers (IsTrigger text) (IsTrigger text) (λ x. x) (λ x q. q) (λ x. refl) h
  one of_settings p h = one_of setting settings (IsSetting text) (IsSetting text) (λ x. x) (λ x q. q) (λ x. refl) h

  more : (r : Items) (ps p : Part) → Claim (some r) ps → Claim (element r) p → Claim (some r) (and_then ps p)
  more of_names ps p h k = more_of token names IsNameToken (IsIdentifier text) span (λ x q. q) (λ xs x. refl) h k
  more of_constructors ps p h k = record {
    value = h.value ++ span k.value ∷ [];
    is = ap (λ z. and_then z p) h.is ∙ ap (and_then (names h.value)) k.is;
    good = record {
      all = all_push (IsIdentifier text) h.value (span k.value) h.good.all k.good;
      some = let l = length-append h.value (span k.value ∷ []) in omega (arith, l);
    };
  }
  more of_vars ps p h k = more_of token names IsVarToken (IsPlace text) span (λ x q. q) (λ xs x. refl) h k
  more of_types ps p h k = more_of sort sorts (IsWritten text) (IsWritten text) (λ x. x) (λ x q. q) (λ xs x. refl) h k
  more of_fields ps p h k = more_of typed typeds (IsTypedName text) (IsTypedName text) (λ x. x) (λ x q. q) (λ xs x. refl) h k
  more of_formals ps p h k = more_of typed typeds (IsTypedName text) (IsTypedName text) (λ x. x) (λ x q. q) (λ xs x. refl) h k
  more of_groups ps p h k = more_of group groups (IsGroup text) (IsGroup text) (λ x. x) (λ x q. q) (λ xs x. refl) h k
  more of_exprs ps p h k = more_of tree trees Placed (IsTree text) (λ x. x) (λ x q. q.tree) (λ xs x. refl) h k
  more of_triggers ps p h k = more_of trigger triggers (IsTrigger text) (IsTrigger text) (λ x. x) (λ x q. q) (λ xs x. refl) h k
  more of_settings ps p h k = more_of setting settings (IsSetting text) (IsSetting text) (λ x. x) (λ x q. q) (λ xs x. refl) h k

  -- ---- the value of a part that is known
  from_ids : (x : List Span) → Holds names Names (names x) → Names x
  from_ids x h = let i : x ≡ h.value = cc h.is in subst (λ (y : List Span). Names y) (sym i) h.good

  from_constructors : (x : List Span) → Holds names SomeNames (names x) → SomeNames x
  from_constructors x h = let i : x ≡ h.value = cc h.is in subst (λ (y : List Span). SomeNames y) (sym i) h.good

  from_vars : (x : List Span) → Holds names Vars (names x) → Vars x
  from_vars x h = let i : x ≡ h.value = cc h.is in subst (λ (y : List Span). Vars y) (sym i) h.good

  from_typeds : (x : List TypedName) → Holds typeds Typeds (typeds x) → Typeds x
  from_typeds x h = let i : x ≡ h.value = cc h.is in subst (λ (y : List TypedName). Typeds y) (sym i) h.good

  from_sorts : (x : List WrittenType) → Holds sorts Types (sorts x) → Types x
  from_sorts x h = let i : x ≡ h.value = cc h.is in subst (λ (y : List WrittenType). Types y) (sym i) h.good

  from_triggers : (x : List Trigger) → Holds triggers Triggers (triggers x) → Triggers x
  from_triggers x h = let i : x ≡ h.value = cc h.is in subst (λ (y : List Trigger). Triggers y) (sym i) h.good

  from_trees : (x : List Expr) → Holds trees Trees (trees x) → Trees x
  from_trees x h = let i : x ≡ h.value = cc h.is in subst (λ (y : List Expr). Trees y) (sym i) h.good

  from_settings : (x : List Setting) → Holds settings Settings (settings x) → Settings x
  from_settings x h = let i : x ≡ h.value = cc h.is in subst (λ (y : List Setting). Settings y) (sym i) h.good

  from_groups : (x : List Group) → Holds groups Groups (groups x) → Groups x
  from_groups x h = let i : x ≡ h.value = cc h.is in subst (λ (y : List Group). Groups y) (sym i) h.good

  from_decls : (x : List Decl) → Holds decls Decls (decls x) → Decls x
  from_decls x h = let i : x ≡ h.value = cc h.is in subst (λ (y : List Decl). Decls y) (sym i) h.good

  from_decl : (x : Decl) → Holds decl (IsDeclaration text) (decl x) → (IsDeclaration text) x
  from_decl x h = let i : x ≡ h.value = cc h.is in subst (λ (y : Decl). (IsDeclaration text) y) (sym i) h.good

  from_typed : (x : TypedName) → Holds typed (IsTypedName text) (typed x) → (IsTypedName text) x
  from_typed x h = let i : x ≡ h.value = cc h.is in subst (λ (y : TypedName). (IsTypedName text) y) (sym i) h.good

  from_sort : (x : WrittenType) → Holds sort (IsWritten text) (sort x) → (IsWritten text) x
  from_sort x h = let i : x ≡ h.value = cc h.is in subst (λ (y : WrittenType). (IsWritten text) y) (sym i) h.good

  from_tree : (x : Expr) → Holds tree Placed (tree x) → Placed x
  from_tree x h = let i : x ≡ h.value = cc h.is in subst (λ (y : Expr). Placed y) (sym i) h.good

  from_result : (x : SymbolResult) → Holds result IsResultPart (result x) → IsResultPart x
  from_result x h = let i : x ≡ h.value = cc h.is in subst (λ (y : SymbolResult). IsResultPart y) (sym i) h.good

  -- ---- what the grammar builds
  placed_at : (s : Span) (k : expr_kind.ExprKind) → IsPlace text s → IsPlace text (span_of (expression s k))
  placed_at s k p = let e = out-roll-Expr (record { span = s; kind = k }) in subst (λ (r : Expr-F expr_kind.ExprKind Expr Setting Trigger). IsPlace text r.span) (sym e) p

  built : (s : Span) (k : expr_kind.ExprKind) → IsPlace text s → IsTree text (expression s k) → Holds tree Placed (tree (expression s k))
  built s k p h = holds tree Placed (expression s k) (record { tree = h; place = placed_at s k p })

  declared : (d : Decl) → IsPlace text d.span → IsKind text d.kind → Holds decl (IsDeclaration text) (decl d)
  declared d p k = holds decl (IsDeclaration text) d (record { place = p; kind = k })

  before : (u w : List Token) → Good (u ++ w) → Good u
  before u w g = all_front (Fits text) u w g

  after : (u w : List Token) → Good (u ++ w) → Good w
  after u w g = all_back (Fits text) u w g

  two : (u w : List Token) (t : Token) (o : BinaryOp) (a b : Expr) → Good (u ++ t ∷ w) → (Good u → Holds tree Placed (tree a)) → (Good w → Holds tree Placed (tree b))
      → Holds tree Placed (tree (binary o a b))
  two u w t o a b g p q =
      let x = from_tree a (p (before u (t ∷ w) g)) in
      let y = from_tree b (q (after u (t ∷ w) g).1) in
      built (cover (span_of a) (span_of b)) (expr_kind.Binary o a b) x.place (is_binary (cover (span_of a) (span_of b)) o a b x.place x.tree y.tree)

  made : {l : Level} {w : List Token} {p : Part} → Is l w p → Good w → Claim l p
  made file_none g = holds decls Decls [] tt
  made (file_decl {ds} {d} u w p q) g = holds decls Decls (ds ++ d ∷ []) (all_push (IsDeclaration text) ds d (from_decls ds (made p (before u w g))) (from_decl d (made q (after u w g))))
  made (some_one {p} r q) g = one r p (made q g)
  made (some_more {ps} {p} r u w t q h k) g = more r ps p (made q (before u (t ∷ w) g)) (made k (after u (t ∷ w) g).1)
  made (decl_type {ps} w t n ht p hn) g = (let b = after w (n ∷ []) g.1 in declared (abstract_type t ps n) g.0.place (from_vars ps (made p (before w (n ∷ []) g.1)), b.0.name hn, tt))
  made (decl_record {ps} {fs} u w t n e o c ht p hn he ho q hc) g =
      (let a = before (u ++ n ∷ e ∷ o ∷ w) (c ∷ []) g.1 in let b = after u (n ∷ e ∷ o ∷ w) a in
      declared (record_type t ps n fs c) g.0.place (from_vars ps (made p (before u (n ∷ e ∷ o ∷ w) a)), b.0.name hn, from_typeds fs (made q b.1.1.1)))
  made (decl_enumeration {cs} w t n e ht hn he p) g = declared (enumeration t n cs) g.0.place (let x = from_constructors cs (made p g.1.1.1) in (g.1.0.name hn, x.all, x.some))
  made (decl_logic {a} {ns} {ss} {r} u v w x t c ht p q hc k l) g =
      (let d = before (u ++ v ++ c ∷ w) x g.1 in
      declared (logic_of t a ns ss r) g.0.place
      (from_ids ns (made q (after u v (before (u ++ v) (c ∷ w) d))), written_list text ss (from_sorts ss (made k (after (u ++ v) (c ∷ w) d).1)), from_result r (made l (after (u ++ v ++ c ∷ w) x g.1))))
  made (decl_function {fs} {s} {e} u v w t n o c d q ht hn ho p hc hd k hq l) g =
      (let a = before (u ++ c ∷ d ∷ v) (q ∷ w) g.1.1.1 in
      declared (function_of t n fs s e) g.0.place
      (g.1.0.name hn, from_typeds fs (made p (before u (c ∷ d ∷ v) a)), from_sort s (made k (after u (c ∷ d ∷ v) a).1.1), (from_tree e (made l (after (u ++ c ∷ d ∷ v) (q ∷ w) g.1.1.1).1)).tree))
  made (decl_predicate {fs} {e} u w t n q ht hn p hq k) g = (let a = g.1.1 in declared (predicate_of t n fs e) g.0.place (g.1.0.name hn, from_typeds fs (made p (before u (q ∷ w) a)), (from_tree e (made k (after u (q ∷ w) a).1)).tree))
  made (decl_axiom {e} w t n c ht hn hc p) g = declared (axiom_of t n e) g.0.place (g.1.0.name hn, (from_tree e (made p g.1.1.1)).tree)
  made (decl_goal {e} w t n c ht hn hc p) g = declared (goal_of t n e) g.0.place (g.1.0.name hn, (from_tree e (made p g.1.1.1)).tree)
  made (is_id t h) g = holds token IsNameToken t (g.0.name h)
  made (is_var_token t h) g = holds token IsVarToken t g.0.place
  made ac_none g = tt
  made (ac_word t h) g = tt
  made params_none g = holds names Vars [] tt
  made (params_var t h) g = holds names Vars (span t ∷ []) (g.0.place, tt)
  made (params_vars {ps} w o v m c ho hv hm p hc) g = holds names Vars (span v ∷ ps) (g.1.0.place, from_vars ps (made p (before w (c ∷ []) g.1.1.1)))
  made (id_type {s} w n c hn hc p) g = holds typed (IsTypedName text) (typed_name n s) (record { name = g.0.name hn; sort = from_sort s (made p g.1.1) })
  made formals_none g = holds typeds Typeds [] tt
  made (formals_some p) g = made p g
  made brackets_none g = holds typeds Typeds [] tt
  made (brackets_some w o c ho p hc) g = made p (before w (c ∷ []) g.1)
  made arguments_none g = holds sorts Types [] tt
  made (arguments_some w a p h) g = made p (before w (a ∷ []) g)
  made (result_type {s} p) g = holds result IsResultPart (a_sort s) (from_sort s (made p g))
  made (result_prop t h) g = holds result IsResultPart (prop_at t) tt
  made (type_int t h) g = holds sort (IsWritten text) _ (is_int (span t))
  made (type_real t h) g = holds sort (IsWritten text) _ (is_real (span t))
  made (type_bool t h) g = holds sort (IsWritten text) _ (is_bool (span t))
  made (type_unit t h) g = holds sort (IsWritten text) _ (is_unit (span t))
  made (type_var t h) g = holds sort (IsWritten text) _ (is_var (span t) g.0.place)
  made (type_name n h) g = holds sort (IsWritten text) _ (is_named _ (span n) [] (g.0.name h) no_types)
  made (type_postfix {s} u n p h) g = holds sort (IsWritten text) _ (is_named _ (span n) (s ∷ []) ((after u (n ∷ []) g).0.name h) (and_type s [] (from_sort s (made p (before u (n ∷ []) g))) no_types))
  made (type_brackets {s} {ss} u w o m c n ho p hm q hc hn) g =
      (let a = before (u ++ m ∷ w) (c ∷ n ∷ []) g.1 in
      holds sort (IsWritten text) _
      (is_named _ (span n) (s ∷ ss) ((after (u ++ m ∷ w) (c ∷ n ∷ []) g.1).1.0.name hn) (and_type s ss (from_sort s (made p (before u (m ∷ w) a))) (written_list text ss (from_sorts ss (made q (after u (m ∷ w) a).1))))))
  made (expr_arrow {a} {b} u w t o p h q) g = two u w t o a b g (made p) (made q)
  made (expr_orE p) g = made p g
  made (orE_or {a} {b} u w t p h q) g = two u w t op.Or a b g (made p) (made q)
  made (orE_andE p) g = made p g
  made (orC_or {a} {b} u w t p h q) g = two u w t op.Or a b g (made p) (made q)
  made (orC_andC p) g = made p g
  made (andE_and {a} {b} u w t p h q) g = two u w t op.And a b g (made p) (made q)
  made (andE_notE p) g = made p g
  made (andC_and {a} {b} u w t p h q) g = two u w t op.And a b g (made p) (made q)
  made (andC_notC p) g = made p g
  made (notE_not {e} w t h p) g = built _ (expr_kind.Not e) g.0.place (is_not _ e g.0.place (from_tree e (made p g.1)).tree)
  made (notE_open p) g = made p g
  made (notE_rel p) g = made p g
  made (notC_not {e} w t h p) g = built _ (expr_kind.Not e) g.0.place (is_not _ e g.0.place (from_tree e (made p g.1)).tree)
  made (notC_rel p) g = made p g
  made (open_quantified {gs} {ts} {e} u v w t d q h p k hd l) g =
      (let a = before (u ++ v) (d ∷ w) g.1 in
      built _ (expr_kind.Quantified q gs ts e) g.0.place
      (is_quantified _ q gs ts e g.0.place (from_groups gs (made p (before u v a))) (trigger_list text ts (from_triggers ts (made k (after u v a)))) (from_tree e (made l (after (u ++ v) (d ∷ w) g.1).1)).tree))
  made (open_let {a} {b} u w t n e i ht hn he p hi q) g =
      (let c = g.1.1.1 in
      built _ (expr_kind.Let (span n) a b) g.0.place
      (is_let _ (span n) a b g.0.place (g.1.0.name hn) (from_tree a (made p (before u (i ∷ w) c))).tree (from_tree b (made q (after u (i ∷ w) c).1)).tree))
  made (open_if {c} {a} {b} u v w t h l ht p hh q hl r) g =
      (let d = before (u ++ h ∷ v) (l ∷ w) g.1 in
      built _ (expr_kind.If c a b) g.0.place
      (is_if _ c a b g.0.place (from_tree c (made p (before u (h ∷ v) d))).tree (from_tree a (made q (after u (h ∷ v) d).1)).tree (from_tree b (made r (after (u ++ h ∷ v) (l ∷ w) g.1).1)).tree))
  made (group_type {ns} {s} u w c p hc q) g = holds group (IsGroup text) (group_of ns s) (record { names = from_ids ns (made p (before u (c ∷ w) g)); sort = from_sort s (made q (after u (c ∷ w) g).1) })
  made squares_none g = holds triggers Triggers [] tt
  made (squares_some w o c ho p hc) g = made p (before w (c ∷ []) g.1)
  made (trigger_exprs {es} p) g = holds trigger (IsTrigger text) (trigger_of es) (record { span = terms_span es; terms = es; is = refl; trees = tree_list text es (from_trees es (made p g)) })
  made (rel_two {a} {b} u w t o p h q) g = two u w t o a b g (made p) (made q)
  made (rel_sum p) g = made p g
  made (sum_two {a} {b} u w t o p h q) g = two u w t o a b g (made p) (made q)
  made (sum_prod p) g = made p g
  made (prod_two {a} {b} u w t o p h q) g = two u w t o a b g (made p) (made q)
  made (prod_unary p) g = made p g
  made (unary_minus {e} w t h p) g = built _ (expr_kind.Negative e) g.0.place (is_negative _ e g.0.place (from_tree e (made p g.1)).tree)
  made (unary_post p) g = made p g
  made (post_field {e} u d n p h k) g = (let x = from_tree e (made p (before u (d ∷ n ∷ []) g)) in built _ (expr_kind.Field e (span n)) x.place (is_field _ e (span n) x.place x.tree ((after u (d ∷ n ∷ []) g).1.0.name k)))
  made (post_atom p) g = made p g
  made (atom_name n h) g = built _ (expr_kind.Apply (span n) []) g.0.place (is_apply _ (span n) [] g.0.place (g.0.name h) no_trees)
  made (atom_call {es} w n o c hn ho p hc) g = built _ (expr_kind.Apply (span n) es) g.0.place (is_apply _ (span n) es g.0.place (g.0.name hn) (tree_list text es (from_trees es (made p (before w (c ∷ []) g.1.1)))))
  made (atom_numeral t n h) g = built _ (expr_kind.Numeral n) g.0.place (is_numeral _ n g.0.place (g.0.number n h))
  made (atom_true t h) g = built _ expr_kind.True g.0.place (is_true _ g.0.place)
  made (atom_false t h) g = built _ expr_kind.False g.0.place (is_false _ g.0.place)
  made (atom_void t h) g = built _ expr_kind.Void g.0.place (is_void _ g.0.place)
  made (atom_brackets {e} w o c ho p hc) g = built _ (expr_kind.Bracketed e) g.0.place (is_bracketed _ e g.0.place (from_tree e (made p (before w (c ∷ []) g.1))).tree)
  made (atom_ascribed {e} {s} u w o d c ho p hd q hc) g =
      (let a = before (u ++ d ∷ w) (c ∷ []) g.1 in
      built _ (expr_kind.Ascribed e s) g.0.place
      (is_ascribed _ e s g.0.place (from_tree e (made p (before u (d ∷ w) a))).tree (from_sort s (made q (after u (d ∷ w) a).1))))
  made (atom_distinct {es} w t o c ht ho p hc) g = built _ (expr_kind.Distinct es) g.0.place (is_distinct _ es g.0.place (tree_list text es (from_trees es (made p (before w (c ∷ []) g.1.1)))))
  made (atom_record {ss} w o c ho p hc) g = built _ (expr_kind.Record ss) g.0.place (is_record _ ss g.0.place (setting_list text ss (from_settings ss (made p (before w (c ∷ []) g.1)))))
  made (atom_update {e} {ss} u w o h c ho p hh q hc) g =
      (let a = before (u ++ h ∷ w) (c ∷ []) g.1 in
      built _ (expr_kind.Update e ss) g.0.place
      (is_update _ e ss g.0.place (from_tree e (made p (before u (h ∷ w) a))).tree (setting_list text ss (from_settings ss (made q (after u (h ∷ w) a).1)))))
  made (id_value {e} w n q hn hq p) g = holds setting (IsSetting text) (setting_of n e) (record { span = cover (span n) (span_of e); name = span n; value = e; is = refl; identifier = g.0.name hn; tree = (from_tree e (made p g.1.1)).tree })

-- the declarations of a file that the tokens of a text are
pub file_made : (text : List ℕ) (tokens : List Token) (f : File) → IsTokenized text tokens → IsParsed tokens f → AllByRecursion (IsDeclaration text) f.decls
file_made text tokens f t p = from_decls text f.decls (made text p.is (tokens_fit text tokens t))
