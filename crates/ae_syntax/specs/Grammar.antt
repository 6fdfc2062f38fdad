-- The grammar: which tokens are which part of a tree, one case for each production.
use Rattle.std.specs.Prelude.{Bool, true, false, List, [], ◌∷◌, ◌++◌, ◌≡◌, Some}
use Rattle.ae_lex.specs.declared.kinds.Token.{Token}
use Rattle.ae_lex.specs.declared.kinds.TokenKind.TheVariants as kind
use Rattle.ae_lex.specs.declared.kinds.Reserved.{Reserved}
use Rattle.ae_lex.specs.declared.kinds.Reserved.TheVariants as word
use Rattle.ae_lex.specs.declared.kinds.Sign.{Sign}
use Rattle.ae_lex.specs.declared.kinds.Sign.TheVariants as sign
use Rattle.ae_syntax.specs.declared.spans.Span.{Span}
use Rattle.ae_syntax.specs.declared.types.WrittenType.{WrittenType}
use Rattle.ae_syntax.specs.declared.types.TypeKind as type_kind
use Rattle.ae_syntax.specs.declared.exprs.BinaryOp.{BinaryOp}
use Rattle.ae_syntax.specs.declared.exprs.BinaryOp.TheVariants as op
use Rattle.ae_syntax.specs.declared.exprs.Quantifier.{Quantifier}
use Rattle.ae_syntax.specs.declared.exprs.Number.{Number}
use Rattle.ae_syntax.specs.declared.exprs.Expr.{Expr}
use Rattle.ae_syntax.specs.declared.exprs.Group.{Group}
use Rattle.ae_syntax.specs.declared.exprs.Trigger.{Trigger}
use Rattle.ae_syntax.specs.declared.exprs.Setting.{Setting}
use Rattle.ae_syntax.specs.declared.decls.TypedName.{TypedName}
use Rattle.ae_syntax.specs.declared.decls.SymbolResult.{SymbolResult}
use Rattle.ae_syntax.specs.declared.decls.Decl.{Decl}
use Rattle.ae_syntax.specs.Kinds.{arrow, relation, additive, multiplicative, quantifies, numeral}
use Rattle.ae_syntax.specs.Parts.{Part, token, flag, tree, sort, setting, trigger, group, typed, result, decl, names, trees, sorts, settings, triggers, groups, typeds, decls, alone, and_then, span, type_span, binary, negation, negative, quantified, let_in, conditional, field_of, bare, applied, number_at, true_at, false_at, void_at, bracketed, ascribed, distinct_of, record_of, update_of, setting_of, trigger_of, written, named_after, typed_name, group_of, a_sort, prop_at, abstract_type, record_type, enumeration, logic_of, function_of, predicate_of, axiom_of, goal_of}

-- the token is this word, or this sign
abbrev pub IsWord : Reserved → Token → Type 0
IsWord r t = t.kind ≡ kind.Reserved r

abbrev pub IsSign : Sign → Token → Type 0
IsSign s t = t.kind ≡ kind.Sign s

abbrev pub IsIdent : Token → Type 0
IsIdent t = t.kind ≡ kind.Ident

abbrev pub IsTypeVar : Token → Type 0
IsTypeVar t = t.kind ≡ kind.TypeVar

-- the items of which one or more follow each other, parted by a sign
pub data Items : Type 0 where
  -- identifiers, with commas
  of_names : Items
  -- constructors, with bars
  of_constructors : Items
  -- type variables, with commas
  of_vars : Items
  -- types, with commas
  of_types : Items
  -- fields, with semicolons
  of_fields : Items
  -- formal parameters, with commas
  of_formals : Items
  -- groups of variables, with commas
  of_groups : Items
  -- expressions, with commas
  of_exprs : Items
  -- triggers, with bars
  of_triggers : Items
  -- values of fields, with semicolons
  of_settings : Items

abbrev pub separator : Items → Sign
separator of_constructors = sign.Bar
separator of_fields = sign.Semicolon
separator of_triggers = sign.Bar
separator of_settings = sign.Semicolon
separator _ = sign.Comma

-- the left sides of the grammar; those that end in E may end in an open form, those that end in C may not
pub data Level : Type 0 where
  file a_decl : Level
  -- identifier and type variable
  id var : Level
  -- optional parts: `ac`, the parameters of a type, the formals of a function, those of a predicate with their
  -- brackets, the sorts of a symbol's arguments with their arrow, the triggers with their brackets
  ac params formals in_brackets arguments in_squares : Level
  -- an identifier with a type, and with a value
  typed_id set_id : Level
  a_result a_type : Level
  expr orE orC andE andC notE notC open_expr : Level
  a_group a_trigger : Level
  rel sum prod unary post atom : Level
  -- one or more, parted by a sign
  some : Items → Level

abbrev pub element : Items → Level
element of_names = id
element of_constructors = id
element of_vars = var
element of_types = a_type
element of_fields = typed_id
element of_formals = typed_id
element of_groups = a_group
element of_exprs = expr
element of_triggers = a_trigger
element of_settings = set_id

pub data Is : Level → List Token → Part → Type 0 where
  -- file
  file_none : Is file [] (decls [])
  file_decl : {ds : List Decl} {d : Decl} (u w : List Token) → Is file u (decls ds) → Is a_decl w (decl d) → Is file (u ++ w) (decls (ds ++ d ∷ []))
  -- one or more, parted by a sign
  some_one : {p : Part} {w : List Token} (r : Items) → Is (element r) w p → Is (some r) w (alone p)
  some_more : {ps p : Part} (r : Items) (u w : List Token) (t : Token) → Is (some r) u ps → IsSign (separator r) t → Is (element r) w p → Is (some r) (u ++ t ∷ w) (and_then ps p)
  -- decl
  decl_type : {ps : List Span} (w : List Token) (t n : Token) → IsWord word.Type_ t → Is params w (names ps) → IsIdent n → Is a_decl (t ∷ w ++ n ∷ []) (decl (abstract_type t ps n))
  decl_record : {ps : List Span} {fs : List TypedName} (u w : List Token) (t n e o c : Token) → IsWord word.Type_ t → Is params u (names ps) → IsIdent n → IsSign sign.Equal e → IsSign sign.OpenBrace o → Is (some of_fields) w (typeds fs) → IsSign sign.CloseBrace c → Is a_decl (t ∷ u ++ n ∷ e ∷ o ∷ w ++ c ∷ []) (decl (record_type t ps n fs c))
  decl_enumeration : {cs : List Span} (w : List Token) (t n e : Token) → IsWord word.Type_ t → IsIdent n → IsSign sign.Equal e → Is (some of_constructors) w (names cs) → Is a_decl (t ∷ n ∷ e ∷ w) (decl (enumeration t n cs))
  decl_logic : {a : Bool} {ns : List Span} {ss : List WrittenType} {r : SymbolResult} (u v w x : List Token) (t c : Token) → IsWord word.Logic t → Is ac u (flag a) → Is (some of_names) v (names ns) → IsSign sign.Colon c → Is arguments w (sorts ss) → Is a_result x (result r) → Is a_decl (t ∷ u ++ v ++ c ∷ w ++ x) (decl (logic_of t a ns ss r))
  decl_function : {fs : List TypedName} {s : WrittenType} {e : Expr} (u v w : List Token) (t n o c d q : Token) → IsWord word.Function t → IsIdent n → IsSign sign.OpenParen o → Is formals u (typeds fs) → IsSign sign.CloseParen c → IsSign sign.Colon d → Is a_type v (sort s) → IsSign sign.Equal q → Is expr w (tree e) → Is a_decl (t ∷ n ∷ o ∷ u ++ c ∷ d ∷ v ++ q ∷ w) (decl (function_of t n fs s e))
  decl_predicate : {fs : List TypedName} {e : Expr} (u w : List Token) (t n q : Token) → IsWord word.Predicate t → IsIdent n → Is in_brackets u (typeds fs) → IsSign sign.Equal q → Is expr w (tree e) → Is a_decl (t ∷ n ∷ u ++ q ∷ w) (decl (predicate_of t n fs e))
  decl_axiom : {e : Expr} (w : List Token) (t n c : Token) → IsWord word.Axiom t → IsIdent n → IsSign sign.Colon c → Is expr w (tree e) → Is a_decl (t ∷ n ∷ c ∷ w) (decl (axiom_of t n e))
  decl_goal : {e : Expr} (w : List Token) (t n c : Token) → IsWord word.Goal t → IsIdent n → IsSign sign.Colon c → Is expr w (tree e) → Is a_decl (t ∷ n ∷ c ∷ w) (decl (goal_of t n e))
  is_id : (t : Token) → IsIdent t → Is id (t ∷ []) (token t)
  is_var : (t : Token) → IsTypeVar t → Is var (t ∷ []) (token t)
  ac_none : Is ac [] (flag false)
  ac_word : (t : Token) → IsWord word.Ac t → Is ac (t ∷ []) (flag true)
  -- params
  params_none : Is params [] (names [])
  params_var : (t : Token) → IsTypeVar t → Is params (t ∷ []) (names (span t ∷ []))
  params_vars : {ps : List Span} (w : List Token) (o v m c : Token) → IsSign sign.OpenParen o → IsTypeVar v → IsSign sign.Comma m → Is (some of_vars) w (names ps) → IsSign sign.CloseParen c → Is params (o ∷ v ∷ m ∷ w ++ c ∷ []) (names (span v ∷ ps))
  -- fields, formals and result
  id_type : {s : WrittenType} (w : List Token) (n c : Token) → IsIdent n → IsSign sign.Colon c → Is a_type w (sort s) → Is typed_id (n ∷ c ∷ w) (typed (typed_name n s))
  formals_none : Is formals [] (typeds [])
  formals_some : {fs : List TypedName} {w : List Token} → Is (some of_formals) w (typeds fs) → Is formals w (typeds fs)
  brackets_none : Is in_brackets [] (typeds [])
  brackets_some : {fs : List TypedName} (w : List Token) (o c : Token) → IsSign sign.OpenParen o → Is formals w (typeds fs) → IsSign sign.CloseParen c → Is in_brackets (o ∷ w ++ c ∷ []) (typeds fs)
  arguments_none : Is arguments [] (sorts [])
  arguments_some : {ss : List WrittenType} (w : List Token) (a : Token) → Is (some of_types) w (sorts ss) → IsSign sign.Arrow a → Is arguments (w ++ a ∷ []) (sorts ss)
  result_type : {s : WrittenType} {w : List Token} → Is a_type w (sort s) → Is a_result w (result (a_sort s))
  result_prop : (t : Token) → IsWord word.Prop t → Is a_result (t ∷ []) (result (prop_at t))
  -- type
  type_int : (t : Token) → IsWord word.Int t → Is a_type (t ∷ []) (sort (written (span t) type_kind.Int))
  type_real : (t : Token) → IsWord word.Real t → Is a_type (t ∷ []) (sort (written (span t) type_kind.Real))
  type_bool : (t : Token) → IsWord word.Bool t → Is a_type (t ∷ []) (sort (written (span t) type_kind.Bool))
  type_unit : (t : Token) → IsWord word.Unit t → Is a_type (t ∷ []) (sort (written (span t) type_kind.Unit))
  type_var : (t : Token) → IsTypeVar t → Is a_type (t ∷ []) (sort (written (span t) type_kind.Var))
  type_name : (n : Token) → IsIdent n → Is a_type (n ∷ []) (sort (named_after (span n) [] n))
  type_postfix : {s : WrittenType} (u : List Token) (n : Token) → Is a_type u (sort s) → IsIdent n → Is a_type (u ++ n ∷ []) (sort (named_after (type_span s) (s ∷ []) n))
  type_brackets : {s : WrittenType} {ss : List WrittenType} (u w : List Token) (o m c n : Token) → IsSign sign.OpenParen o → Is a_type u (sort s) → IsSign sign.Comma m → Is (some of_types) w (sorts ss) → IsSign sign.CloseParen c → IsIdent n → Is a_type (o ∷ u ++ m ∷ w ++ c ∷ n ∷ []) (sort (named_after (span o) (s ∷ ss) n))
  -- expr
  expr_arrow : {a b : Expr} (u w : List Token) (t : Token) (o : BinaryOp) → Is orC u (tree a) → arrow t.kind ≡ Some o → Is expr w (tree b) → Is expr (u ++ t ∷ w) (tree (binary o a b))
  expr_orE : {e : Expr} {w : List Token} → Is orE w (tree e) → Is expr w (tree e)
  orE_or : {a b : Expr} (u w : List Token) (t : Token) → Is orC u (tree a) → IsWord word.Or t → Is andE w (tree b) → Is orE (u ++ t ∷ w) (tree (binary op.Or a b))
  orE_andE : {e : Expr} {w : List Token} → Is andE w (tree e) → Is orE w (tree e)
  orC_or : {a b : Expr} (u w : List Token) (t : Token) → Is orC u (tree a) → IsWord word.Or t → Is andC w (tree b) → Is orC (u ++ t ∷ w) (tree (binary op.Or a b))
  orC_andC : {e : Expr} {w : List Token} → Is andC w (tree e) → Is orC w (tree e)
  andE_and : {a b : Expr} (u w : List Token) (t : Token) → Is andC u (tree a) → IsWord word.And t → Is notE w (tree b) → Is andE (u ++ t ∷ w) (tree (binary op.And a b))
  andE_notE : {e : Expr} {w : List Token} → Is notE w (tree e) → Is andE w (tree e)
  andC_and : {a b : Expr} (u w : List Token) (t : Token) → Is andC u (tree a) → IsWord word.And t → Is notC w (tree b) → Is andC (u ++ t ∷ w) (tree (binary op.And a b))
  andC_notC : {e : Expr} {w : List Token} → Is notC w (tree e) → Is andC w (tree e)
  notE_not : {e : Expr} (w : List Token) (t : Token) → IsWord word.Not t → Is notE w (tree e) → Is notE (t ∷ w) (tree (negation t e))
  notE_open : {e : Expr} {w : List Token} → Is open_expr w (tree e) → Is notE w (tree e)
  notE_rel : {e : Expr} {w : List Token} → Is rel w (tree e) → Is notE w (tree e)
  notC_not : {e : Expr} (w : List Token) (t : Token) → IsWord word.Not t → Is notC w (tree e) → Is notC (t ∷ w) (tree (negation t e))
  notC_rel : {e : Expr} {w : List Token} → Is rel w (tree e) → Is notC w (tree e)
  -- open
  open_quantified : {gs : List Group} {ts : List Trigger} {e : Expr} (u v w : List Token) (t d : Token) (q : Quantifier) → quantifies t.kind ≡ Some q → Is (some of_groups) u (groups gs) → Is in_squares v (triggers ts) → IsSign sign.Dot d → Is expr w (tree e) → Is open_expr (t ∷ u ++ v ++ d ∷ w) (tree (quantified t q gs ts e))
  open_let : {a b : Expr} (u w : List Token) (t n e i : Token) → IsWord word.Let t → IsIdent n → IsSign sign.Equal e → Is expr u (tree a) → IsWord word.In i → Is expr w (tree b) → Is open_expr (t ∷ n ∷ e ∷ u ++ i ∷ w) (tree (let_in t n a b))
  open_if : {c a b : Expr} (u v w : List Token) (t h l : Token) → IsWord word.If t → Is expr u (tree c) → IsWord word.Then h → Is expr v (tree a) → IsWord word.Else l → Is expr w (tree b) → Is open_expr (t ∷ u ++ h ∷ v ++ l ∷ w) (tree (conditional t c a b))
  -- group and triggers
  group_type : {ns : List Span} {s : WrittenType} (u w : List Token) (c : Token) → Is (some of_names) u (names ns) → IsSign sign.Colon c → Is a_type w (sort s) → Is a_group (u ++ c ∷ w) (group (group_of ns s))
  squares_none : Is in_squares [] (triggers [])
  squares_some : {ts : List Trigger} (w : List Token) (o c : Token) → IsSign sign.OpenBracket o → Is (some of_triggers) w (triggers ts) → IsSign sign.CloseBracket c → Is in_squares (o ∷ w ++ c ∷ []) (triggers ts)
  trigger_exprs : {es : List Expr} {w : List Token} → Is (some of_exprs) w (trees es) → Is a_trigger w (trigger (trigger_of es))
  -- rel, sum, prod, unary and post
  rel_two : {a b : Expr} (u w : List Token) (t : Token) (o : BinaryOp) → Is sum u (tree a) → relation t.kind ≡ Some o → Is sum w (tree b) → Is rel (u ++ t ∷ w) (tree (binary o a b))
  rel_sum : {e : Expr} {w : List Token} → Is sum w (tree e) → Is rel w (tree e)
  sum_two : {a b : Expr} (u w : List Token) (t : Token) (o : BinaryOp) → Is sum u (tree a) → additive t.kind ≡ Some o → Is prod w (tree b) → Is sum (u ++ t ∷ w) (tree (binary o a b))
  sum_prod : {e : Expr} {w : List Token} → Is prod w (tree e) → Is sum w (tree e)
  prod_two : {a b : Expr} (u w : List Token) (t : Token) (o : BinaryOp) → Is prod u (tree a) → multiplicative t.kind ≡ Some o → Is unary w (tree b) → Is prod (u ++ t ∷ w) (tree (binary o a b))
  prod_unary : {e : Expr} {w : List Token} → Is unary w (tree e) → Is prod w (tree e)
  unary_minus : {e : Expr} (w : List Token) (t : Token) → IsSign sign.Minus t → Is unary w (tree e) → Is unary (t ∷ w) (tree (negative t e))
  unary_post : {e : Expr} {w : List Token} → Is post w (tree e) → Is unary w (tree e)
  post_field : {e : Expr} (u : List Token) (d n : Token) → Is post u (tree e) → IsSign sign.Dot d → IsIdent n → Is post (u ++ d ∷ n ∷ []) (tree (field_of e n))
  post_atom : {e : Expr} {w : List Token} → Is atom w (tree e) → Is post w (tree e)
  -- atom
  atom_name : (n : Token) → IsIdent n → Is atom (n ∷ []) (tree (bare n))
  atom_call : {es : List Expr} (w : List Token) (n o c : Token) → IsIdent n → IsSign sign.OpenParen o → Is (some of_exprs) w (trees es) → IsSign sign.CloseParen c → Is atom (n ∷ o ∷ w ++ c ∷ []) (tree (applied n es c))
  atom_numeral : (t : Token) (n : Number) → numeral t.kind ≡ Some n → Is atom (t ∷ []) (tree (number_at t n))
  atom_true : (t : Token) → IsWord word.True t → Is atom (t ∷ []) (tree (true_at t))
  atom_false : (t : Token) → IsWord word.False t → Is atom (t ∷ []) (tree (false_at t))
  atom_void : (t : Token) → IsWord word.Void t → Is atom (t ∷ []) (tree (void_at t))
  atom_brackets : {e : Expr} (w : List Token) (o c : Token) → IsSign sign.OpenParen o → Is expr w (tree e) → IsSign sign.CloseParen c → Is atom (o ∷ w ++ c ∷ []) (tree (bracketed o e c))
  atom_ascribed : {e : Expr} {s : WrittenType} (u w : List Token) (o d c : Token) → IsSign sign.OpenParen o → Is expr u (tree e) → IsSign sign.Colon d → Is a_type w (sort s) → IsSign sign.CloseParen c → Is atom (o ∷ u ++ d ∷ w ++ c ∷ []) (tree (ascribed o e s c))
  atom_distinct : {es : List Expr} (w : List Token) (t o c : Token) → IsWord word.Distinct t → IsSign sign.OpenParen o → Is (some of_exprs) w (trees es) → IsSign sign.CloseParen c → Is atom (t ∷ o ∷ w ++ c ∷ []) (tree (distinct_of t es c))
  atom_record : {ss : List Setting} (w : List Token) (o c : Token) → IsSign sign.OpenBrace o → Is (some of_settings) w (settings ss) → IsSign sign.CloseBrace c → Is atom (o ∷ w ++ c ∷ []) (tree (record_of o ss c))
  atom_update : {e : Expr} {ss : List Setting} (u w : List Token) (o h c : Token) → IsSign sign.OpenBrace o → Is post u (tree e) → IsWord word.With h → Is (some of_settings) w (settings ss) → IsSign sign.CloseBrace c → Is atom (o ∷ u ++ h ∷ w ++ c ∷ []) (tree (update_of o e ss c))
  id_value : {e : Expr} (w : List Token) (n q : Token) → IsIdent n → IsSign sign.Equal q → Is expr w (tree e) → Is set_id (n ∷ q ∷ w) (setting (setting_of n e))

-- the tokens are a file with these declarations, however deep they are
abbrev pub IsFileOfTokens : List Token → List Decl → Type 0
IsFileOfTokens w ds = Is file w (decls ds)
