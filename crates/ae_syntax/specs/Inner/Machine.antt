-- How tokens are read: a stack of what is still to come, and a stack of the parts read so far. A token never comes back.
use Rattle.std.specs.Prelude.{ℕ, suc, ◌-◌, true, false, cond, nat_le, List, [], ◌∷◌, ◌++◌, Option, Some, None, length}
use Rattle.ae_lex.specs.declared.kinds.Token.{Token}
use Rattle.ae_lex.specs.declared.kinds.TokenKind.{TokenKind}
use Rattle.ae_lex.specs.declared.kinds.TokenKind.TheVariants as kind
use Rattle.ae_lex.specs.declared.kinds.Reserved.{Reserved}
use Rattle.ae_lex.specs.declared.kinds.Reserved.TheVariants as word
use Rattle.ae_lex.specs.declared.kinds.Sign.{Sign}
use Rattle.ae_lex.specs.declared.kinds.Sign.TheVariants as sign
use Rattle.ae_syntax.specs.declared.types.TypeKind as type_kind
use Rattle.ae_syntax.specs.declared.types.WrittenType.{WrittenType}
use Rattle.ae_syntax.specs.declared.exprs.Expr.{Expr}
use Rattle.ae_syntax.specs.declared.exprs.BinaryOp.{BinaryOp}
use Rattle.ae_syntax.specs.declared.exprs.BinaryOp.TheVariants as op
use Rattle.ae_syntax.specs.declared.exprs.Quantifier.{Quantifier}
use Rattle.ae_syntax.specs.declared.exprs.Number.TheVariants as number
use Rattle.ae_syntax.specs.declared.exprs.Group.{Group}
use Rattle.ae_syntax.specs.declared.exprs.Trigger.{Trigger}
use Rattle.ae_syntax.specs.Kinds.{arrow, relation, additive, multiplicative, quantifies}
use Rattle.ae_syntax.specs.Inner.SameKinds.{same}
use Rattle.ae_syntax.specs.Parts.{Part, token, flag, tree, sort, setting, trigger, group, typed, result, decl, names, trees, sorts, settings, triggers, groups, typeds, alone, and_then, span, type_span, binary, negation, negative, quantified, let_in, conditional, field_of, bare, applied, number_at, true_at, false_at, void_at, bracketed, ascribed, distinct_of, record_of, update_of, setting_of, trigger_of, written, named_after, typed_name, group_of, a_sort, prop_at, abstract_type, record_type, enumeration, logic_of, function_of, predicate_of, axiom_of, goal_of}
use Rattle.ae_syntax.specs.Grammar.{Items, of_names, of_constructors, of_vars, of_types, of_fields, of_formals, of_groups, of_exprs, of_triggers, of_settings, separator}
use Rattle.ae_syntax.specs.declared.cursor.TheConstants.{DEPTH_LIMIT}

-- what parts on top of the stack become one
pub data Rule : Type 0 where
  -- the last part begins a list, or goes to the end of one
  begin add : Rule
  -- expressions
  join : BinaryOp → Rule
  negate oppose quantify bind_name choose : Rule
  take_field be_bare call_it enclose ascribe all_differ set build change match_terms : Rule
  -- types
  bracket_sorts : Rule
  -- declarations
  more_params give_type group_names sort_result lone_result : Rule
  be_abstract be_record be_choice be_symbols be_function be_predicate be_axiom be_goal : Rule

abbrev pub quantified_by : Token → List Group → List Trigger → Expr → List Part → Option Quantifier → List Part
quantified_by t gs ts a v (Some q) = tree (quantified t q gs ts a) ∷ v
quantified_by t gs ts a v None = v

abbrev pub apply : Rule → List Part → List Part
apply begin (p ∷ v) = alone p ∷ v
apply add (p ∷ ps ∷ v) = and_then ps p ∷ v
apply (join o) (tree b ∷ tree a ∷ v) = tree (binary o a b) ∷ v
apply negate (tree a ∷ token t ∷ v) = tree (negation t a) ∷ v
apply oppose (tree a ∷ token t ∷ v) = tree (negative t a) ∷ v
apply quantify (tree a ∷ triggers ts ∷ groups gs ∷ token t ∷ v) = quantified_by t gs ts a v (quantifies t.kind)
apply bind_name (tree b ∷ tree a ∷ token n ∷ token t ∷ v) = tree (let_in t n a b) ∷ v
apply choose (tree b ∷ tree a ∷ tree c ∷ token t ∷ v) = tree (conditional t c a b) ∷ v
apply take_field (token n ∷ tree a ∷ v) = tree (field_of a n) ∷ v
apply be_bare (token n ∷ v) = tree (bare n) ∷ v
apply call_it (token c ∷ trees es ∷ token n ∷ v) = tree (applied n es c) ∷ v
apply enclose (token c ∷ tree a ∷ token o ∷ v) = tree (bracketed o a c) ∷ v
apply ascribe (token c ∷ sort s ∷ tree a ∷ token o ∷ v) = tree (ascribed o a s c) ∷ v
apply all_differ (token c ∷ trees es ∷ token t ∷ v) = tree (distinct_of t es c) ∷ v
apply set (tree a ∷ token n ∷ v) = setting (setting_of n a) ∷ v
apply build (token c ∷ settings ss ∷ token o ∷ v) = tree (record_of o ss c) ∷ v
apply change (token c ∷ settings ss ∷ tree a ∷ token o ∷ v) = tree (update_of o a ss c) ∷ v
apply match_terms (trees es ∷ v) = trigger (trigger_of es) ∷ v
apply bracket_sorts (token n ∷ sorts ss ∷ sort s ∷ token o ∷ v) = sort (named_after (span o) (s ∷ ss) n) ∷ v
apply more_params (names ps ∷ token p ∷ v) = names (span p ∷ ps) ∷ v
apply give_type (sort s ∷ token n ∷ v) = typed (typed_name n s) ∷ v
apply group_names (sort s ∷ names ns ∷ v) = group (group_of ns s) ∷ v
apply sort_result (sort s ∷ v) = result (a_sort s) ∷ v
apply lone_result (sort s ∷ v) = result (a_sort s) ∷ sorts [] ∷ v
apply be_abstract (token n ∷ names ps ∷ token t ∷ v) = decl (abstract_type t ps n) ∷ v
apply be_record (token c ∷ typeds fs ∷ token n ∷ names ps ∷ token t ∷ v) = decl (record_type t ps n fs c) ∷ v
apply be_choice (names cs ∷ token n ∷ names ps ∷ token t ∷ v) = decl (enumeration t n cs) ∷ v
apply be_symbols (result r ∷ sorts ss ∷ names ns ∷ flag a ∷ token t ∷ v) = decl (logic_of t a ns ss r) ∷ v
apply be_function (tree e ∷ sort s ∷ typeds fs ∷ token n ∷ token t ∷ v) = decl (function_of t n fs s e) ∷ v
apply be_predicate (tree e ∷ typeds fs ∷ token n ∷ token t ∷ v) = decl (predicate_of t n fs e) ∷ v
apply be_axiom (tree e ∷ token n ∷ token t ∷ v) = decl (axiom_of t n e) ∷ v
apply be_goal (tree e ∷ token n ∷ token t ∷ v) = decl (goal_of t n e) ∷ v
apply _ v = v

-- what may still come, and how much is open there
pub data Want : Type 0 where
  -- an expression of a level, and a type
  an_expr an_or an_and an_not a_rel a_sum a_prod a_unary a_post an_atom a_type : ℕ → Want
  -- more operands of a chain
  more_arrow more_or more_and more_rel more_sum more_prod more_post more_type : ℕ → Want
  -- more of what is repeated
  more : Items → ℕ → Want
  -- a token of this kind: kept, or passed over
  keep pass : TokenKind → ℕ → Want
  -- no token: parts on top become one
  make : Rule → Want
  -- parts of a production that go on in several ways
  call bracket_end brace brace_name triggers_or_dot : ℕ → Want
  a_file type_head type_body type_definition type_end logic_head logic_sorts after_sort a_result formals_end predicate_head : Want

-- what the top of the stack does with a token
pub data Act : Type 0 where
  -- nothing: it goes, and the next is asked
  skip : List Part → Act
  -- it takes the token at a depth, and wants more
  take : ℕ → List Want → List Part → Act
  -- the same, where what follows reaches as far right as it can: no chain below goes on
  opens : ℕ → List Want → List Part → Act
  refuse : Act

abbrev pub then_wants : Act → List Want → Act
then_wants (skip v) new = skip v
then_wants (take d wants v) new = take d (wants ++ new) v
then_wants (opens d wants v) new = opens d wants v
then_wants refuse new = refuse

abbrev pub the_word : Reserved → TokenKind
the_word r = kind.Reserved r

abbrev pub the_sign : Sign → TokenKind
the_sign s = kind.Sign s

-- the wants of what is repeated
abbrev pub typed_wants : ℕ → List Want
typed_wants d = keep kind.Ident d ∷ pass (the_sign sign.Colon) d ∷ a_type d ∷ make give_type ∷ []

abbrev pub element_wants : Items → ℕ → List Want
element_wants of_names d = keep kind.Ident d ∷ []
element_wants of_constructors d = keep kind.Ident d ∷ []
element_wants of_vars d = keep kind.TypeVar d ∷ []
element_wants of_types d = a_type d ∷ []
element_wants of_fields d = typed_wants d
element_wants of_formals d = typed_wants d
element_wants of_groups d = keep kind.Ident d ∷ make begin ∷ more of_names d ∷ pass (the_sign sign.Colon) d ∷ a_type d ∷ make group_names ∷ []
element_wants of_exprs d = an_expr d ∷ []
element_wants of_triggers d = an_expr d ∷ make begin ∷ more of_exprs d ∷ make match_terms ∷ []
element_wants of_settings d = keep kind.Ident d ∷ pass (the_sign sign.Equal) d ∷ an_expr d ∷ make set ∷ []

abbrev pub items_wants : Items → ℕ → List Want
items_wants r d = element_wants r d ++ make begin ∷ more r d ∷ []

-- a sign that isn't kept, and one that is
abbrev pub past : Sign → ℕ → Want
past s d = pass (the_sign s) d

abbrev pub kept : Sign → ℕ → Want
kept s d = keep (the_sign s) d

-- an atom that is one token
abbrev pub constant : Token → TokenKind → Option Expr
constant t (kind.Whole n) = Some (number_at t (number.Whole n))
constant t (kind.Decimal top bottom) = Some (number_at t (number.Decimal top bottom))
constant t (kind.Reserved word.True) = Some (true_at t)
constant t (kind.Reserved word.False) = Some (false_at t)
constant t (kind.Reserved word.Void) = Some (void_at t)
constant t _ = None

-- a type that is one token
abbrev pub base_type : Token → TokenKind → Option WrittenType
base_type t (kind.Reserved word.Int) = Some (written (span t) type_kind.Int)
base_type t (kind.Reserved word.Real) = Some (written (span t) type_kind.Real)
base_type t (kind.Reserved word.Bool) = Some (written (span t) type_kind.Bool)
base_type t (kind.Reserved word.Unit) = Some (written (span t) type_kind.Unit)
base_type t kind.TypeVar = Some (written (span t) type_kind.Var)
base_type t kind.Ident = Some (named_after (span t) [] t)
base_type t _ = None

-- what a want becomes where the next token isn't its own, if it may
abbrev pub idle : Want → List Part → Act
idle (more_arrow d) v = skip v
idle (more_or d) v = skip v
idle (more_and d) v = skip v
idle (more_rel d) v = skip v
idle (more_sum d) v = skip v
idle (more_prod d) v = skip v
idle (more_post d) v = skip v
idle (more_type d) v = skip v
idle (more r d) v = skip v
idle (make r) v = skip (apply r v)
idle (call d) v = skip (apply be_bare v)
idle a_file v = skip v
idle type_body v = skip (apply be_abstract v)
idle type_end v = skip (apply be_abstract v)
idle after_sort v = skip (apply be_symbols (apply lone_result v))
idle _ v = refuse

-- the second act where the first one has no token of its own
abbrev pub if_some : {A : Type 0} → Option A → (A → Act) → Act → Act
if_some (Some x) f other = f x
if_some None f other = other

abbrev pub on_atom : ℕ → List Part → Token → TokenKind → Act
on_atom d v t k =
    cond (same k kind.Ident) (take d (call d ∷ []) (token t ∷ v))
    (cond (same k (the_sign sign.OpenParen)) (take (suc d) (an_expr (suc d) ∷ bracket_end d ∷ []) (token t ∷ v))
    (cond (same k (the_sign sign.OpenBrace)) (take (suc d) (brace d ∷ []) (token t ∷ v))
    (cond (same k (the_word word.Distinct)) (take d (past sign.OpenParen (suc d) ∷ items_wants of_exprs (suc d) ++ kept sign.CloseParen d ∷ make all_differ ∷ []) (token t ∷ v))
    (if_some (constant t k) (λ e. take d [] (tree e ∷ v)) refuse))))

abbrev pub on_post : ℕ → List Part → Token → TokenKind → Act
on_post d v t k = then_wants (on_atom d v t k) (more_post d ∷ [])

abbrev pub on_unary : ℕ → List Part → Token → TokenKind → Act
on_unary d v t k = cond (same k (the_sign sign.Minus)) (take (suc d) (a_unary (suc d) ∷ make oppose ∷ []) (token t ∷ v)) (on_post d v t k)

abbrev pub on_prod : ℕ → List Part → Token → TokenKind → Act
on_prod d v t k = then_wants (on_unary d v t k) (more_prod d ∷ [])

abbrev pub on_sum : ℕ → List Part → Token → TokenKind → Act
on_sum d v t k = then_wants (on_prod d v t k) (more_sum d ∷ [])

abbrev pub on_rel : ℕ → List Part → Token → TokenKind → Act
on_rel d v t k = then_wants (on_sum d v t k) (more_rel d ∷ [])

-- after the word of a quantifier, after `let`, and after `if`
abbrev pub block_wants : ℕ → List Want
block_wants d = items_wants of_groups d ++ triggers_or_dot d ∷ an_expr d ∷ make quantify ∷ []

abbrev pub let_wants : ℕ → List Want
let_wants d = keep kind.Ident d ∷ past sign.Equal d ∷ an_expr d ∷ pass (the_word word.In) d ∷ an_expr d ∷ make bind_name ∷ []

abbrev pub if_wants : ℕ → List Want
if_wants d = an_expr d ∷ pass (the_word word.Then) d ∷ an_expr d ∷ pass (the_word word.Else) d ∷ an_expr d ∷ make choose ∷ []

abbrev pub on_not : ℕ → List Part → Token → TokenKind → Act
on_not d v t k =
    cond (same k (the_word word.Not)) (take (suc d) (an_not (suc d) ∷ make negate ∷ []) (token t ∷ v))
    (cond (same k (the_word word.Let)) (opens (suc d) (let_wants (suc d)) (token t ∷ v))
    (cond (same k (the_word word.If)) (opens (suc d) (if_wants (suc d)) (token t ∷ v))
    (if_some (quantifies k) (λ q. opens (suc d) (block_wants (suc d)) (token t ∷ v)) (on_rel d v t k))))

abbrev pub on_and : ℕ → List Part → Token → TokenKind → Act
on_and d v t k = then_wants (on_not d v t k) (more_and d ∷ [])

abbrev pub on_or : ℕ → List Part → Token → TokenKind → Act
on_or d v t k = then_wants (on_and d v t k) (more_or d ∷ [])

abbrev pub on_expr : ℕ → List Part → Token → TokenKind → Act
on_expr d v t k = then_wants (on_or d v t k) (more_arrow d ∷ [])

abbrev pub bracketed_sorts : ℕ → List Want
bracketed_sorts d = a_type (suc d) ∷ past sign.Comma (suc d) ∷ items_wants of_types (suc d) ++ past sign.CloseParen d ∷ keep kind.Ident (suc d) ∷ make bracket_sorts ∷ more_type (suc d) ∷ []

abbrev pub on_type : ℕ → List Part → Token → TokenKind → Act
on_type d v t k =
    if_some (base_type t k) (λ s. take d (more_type d ∷ []) (sort s ∷ v))
    (cond (same k (the_sign sign.OpenParen)) (take (suc d) (bracketed_sorts d) (token t ∷ v)) refuse)

-- a postfix type name, a closing bracket
abbrev pub named : Token → List Part → List Part
named n (sort s ∷ v) = sort (named_after (type_span s) (s ∷ []) n) ∷ v
named n v = v

-- the operand and the tree after an operator
abbrev pub operand : ℕ → List Part → (ℕ → Want) → List Want → Option BinaryOp → Act
operand d v want next (Some o) = take d (want d ∷ make (join o) ∷ next) v
operand d v want next None = skip v

-- what follows the record in `{ r with .. }`
abbrev pub update_wants : ℕ → List Want
update_wants d = pass (the_word word.With) (suc d) ∷ items_wants of_settings (suc d) ++ kept sign.CloseBrace d ∷ make change ∷ []

abbrev pub on_brace_name : ℕ → List Part → Token → TokenKind → Act
on_brace_name d v t k =
    cond (same k (the_sign sign.Equal)) (take (suc d) (an_expr (suc d) ∷ make set ∷ make begin ∷ more of_settings (suc d) ∷ kept sign.CloseBrace d ∷ make build ∷ []) v)
    (cond (same k (the_sign sign.OpenParen)) (take (suc (suc d)) (items_wants of_exprs (suc (suc d)) ++ kept sign.CloseParen (suc d) ∷ make call_it ∷ more_post (suc d) ∷ update_wants d) v)
    (cond (same k (the_sign sign.Dot)) (take (suc (suc d)) (keep kind.Ident (suc (suc d)) ∷ make take_field ∷ more_post (suc (suc d)) ∷ update_wants d) (apply be_bare v))
    (cond (same k (the_word word.With)) (take (suc d) (items_wants of_settings (suc d) ++ kept sign.CloseBrace d ∷ make change ∷ []) (apply be_bare v))
    refuse)))

-- the word that begins a declaration, and what follows it
abbrev pub decl_wants : TokenKind → Option (List Want)
decl_wants (kind.Reserved word.Type_) = Some (type_head ∷ [])
decl_wants (kind.Reserved word.Logic) = Some (logic_head ∷ [])
decl_wants (kind.Reserved word.Function) = Some (keep kind.Ident 0 ∷ past sign.OpenParen 1 ∷ formals_end ∷ past sign.Colon 0 ∷ a_type 0 ∷ past sign.Equal 0 ∷ an_expr 0 ∷ make be_function ∷ [])
decl_wants (kind.Reserved word.Predicate) = Some (keep kind.Ident 0 ∷ predicate_head ∷ an_expr 0 ∷ make be_predicate ∷ [])
decl_wants (kind.Reserved word.Axiom) = Some (keep kind.Ident 0 ∷ past sign.Colon 0 ∷ an_expr 0 ∷ make be_axiom ∷ [])
decl_wants (kind.Reserved word.Goal) = Some (keep kind.Ident 0 ∷ past sign.Colon 0 ∷ an_expr 0 ∷ make be_goal ∷ [])
decl_wants _ = None

abbrev pub record_wants : List Want
record_wants = items_wants of_fields 1 ++ kept sign.CloseBrace 0 ∷ make be_record ∷ []

abbrev pub on_result : List Part → Token → TokenKind → Act
on_result v t k =
    cond (same k (the_word word.Prop)) (take 0 [] (result (prop_at t) ∷ v))
    (then_wants (on_type 0 v t k) (make sort_result ∷ []))

abbrev pub act : Want → List Part → Token → TokenKind → Act
act (an_expr d) v t k = on_expr d v t k
act (an_or d) v t k = on_or d v t k
act (an_and d) v t k = on_and d v t k
act (an_not d) v t k = on_not d v t k
act (a_rel d) v t k = on_rel d v t k
act (a_sum d) v t k = on_sum d v t k
act (a_prod d) v t k = on_prod d v t k
act (a_unary d) v t k = on_unary d v t k
act (a_post d) v t k = on_post d v t k
act (an_atom d) v t k = on_atom d v t k
act (a_type d) v t k = on_type d v t k
act (more_arrow d) v t k = operand (suc d) v an_expr [] (arrow k)
act (more_or d) v t k = cond (same k (the_word word.Or)) (take (suc d) (an_and (suc d) ∷ make (join op.Or) ∷ more_or (suc d) ∷ []) v) (skip v)
act (more_and d) v t k = cond (same k (the_word word.And)) (take (suc d) (an_not (suc d) ∷ make (join op.And) ∷ more_and (suc d) ∷ []) v) (skip v)
act (more_rel d) v t k = operand d v a_sum [] (relation k)
act (more_sum d) v t k = operand (suc d) v a_prod (more_sum (suc d) ∷ []) (additive k)
act (more_prod d) v t k = operand (suc d) v a_unary (more_prod (suc d) ∷ []) (multiplicative k)
act (more_post d) v t k = cond (same k (the_sign sign.Dot)) (take (suc d) (keep kind.Ident (suc d) ∷ make take_field ∷ more_post (suc d) ∷ []) v) (skip v)
act (more_type d) v t k = cond (same k kind.Ident) (take (suc d) (more_type (suc d) ∷ []) (named t v)) (skip v)
act (more r d) v t k = cond (same k (the_sign (separator r))) (take d (element_wants r d ++ make add ∷ more r d ∷ []) v) (skip v)
act (keep j d) v t k = cond (same k j) (take d [] (token t ∷ v)) refuse
act (pass j d) v t k = cond (same k j) (take d [] v) refuse
act (make r) v t k = skip (apply r v)
act (call d) v t k = cond (same k (the_sign sign.OpenParen)) (take (suc d) (items_wants of_exprs (suc d) ++ kept sign.CloseParen d ∷ make call_it ∷ []) v) (skip (apply be_bare v))
act (bracket_end d) v t k =
    cond (same k (the_sign sign.CloseParen)) (take d (make enclose ∷ []) (token t ∷ v))
    (cond (same k (the_sign sign.Colon)) (take (suc d) (a_type (suc d) ∷ kept sign.CloseParen d ∷ make ascribe ∷ []) v) refuse)
act (brace d) v t k = cond (same k kind.Ident) (take (suc d) (brace_name d ∷ []) (token t ∷ v)) (then_wants (on_post (suc d) v t k) (update_wants d))
act (brace_name d) v t k = on_brace_name d v t k
act (triggers_or_dot d) v t k =
    cond (same k (the_sign sign.Dot)) (take d [] (triggers [] ∷ v))
    (cond (same k (the_sign sign.OpenBracket)) (take (suc d) (items_wants of_triggers (suc d) ++ past sign.CloseBracket d ∷ past sign.Dot d ∷ []) v) refuse)
act a_file v t k = if_some (decl_wants k) (λ wants. take 0 (wants ++ make add ∷ a_file ∷ []) (token t ∷ v)) (skip v)
act type_head v t k =
    cond (same k kind.Ident) (take 0 (type_body ∷ []) (token t ∷ names [] ∷ v))
    (cond (same k kind.TypeVar) (take 0 (keep kind.Ident 0 ∷ type_end ∷ []) (names (span t ∷ []) ∷ v))
    (cond (same k (the_sign sign.OpenParen)) (take 1 (keep kind.TypeVar 1 ∷ past sign.Comma 1 ∷ items_wants of_vars 1 ++ past sign.CloseParen 0 ∷ make more_params ∷ keep kind.Ident 0 ∷ type_end ∷ []) v)
    refuse))
act type_body v t k = cond (same k (the_sign sign.Equal)) (take 0 (type_definition ∷ []) v) (skip (apply be_abstract v))
act type_definition v t k =
    cond (same k (the_sign sign.OpenBrace)) (take 1 record_wants v)
    (cond (same k kind.Ident) (take 0 (make begin ∷ more of_constructors 0 ∷ make be_choice ∷ []) (token t ∷ v)) refuse)
act type_end v t k = cond (same k (the_sign sign.Equal)) (take 0 (past sign.OpenBrace 1 ∷ record_wants) v) (skip (apply be_abstract v))
act logic_head v t k =
    cond (same k (the_word word.Ac)) (take 0 (items_wants of_names 0 ++ past sign.Colon 0 ∷ logic_sorts ∷ []) (flag true ∷ v))
    (cond (same k kind.Ident) (take 0 (make begin ∷ more of_names 0 ∷ past sign.Colon 0 ∷ logic_sorts ∷ []) (token t ∷ flag false ∷ v)) refuse)
act logic_sorts v t k =
    cond (same k (the_word word.Prop)) (take 0 (make be_symbols ∷ []) (result (prop_at t) ∷ sorts [] ∷ v))
    (then_wants (on_type 0 v t k) (after_sort ∷ []))
act after_sort v t k =
    cond (same k (the_sign sign.Arrow)) (take 0 (a_result ∷ make be_symbols ∷ []) (apply begin v))
    (cond (same k (the_sign sign.Comma)) (take 0 (a_type 0 ∷ make add ∷ more of_types 0 ∷ past sign.Arrow 0 ∷ a_result ∷ make be_symbols ∷ []) (apply begin v))
    (skip (apply be_symbols (apply lone_result v))))
act a_result v t k = on_result v t k
act formals_end v t k =
    cond (same k (the_sign sign.CloseParen)) (take 0 [] (typeds [] ∷ v))
    (cond (same k kind.Ident) (take 1 (past sign.Colon 1 ∷ a_type 1 ∷ make give_type ∷ make begin ∷ more of_formals 1 ∷ past sign.CloseParen 0 ∷ []) (token t ∷ v)) refuse)
act predicate_head v t k =
    cond (same k (the_sign sign.Equal)) (take 0 [] (typeds [] ∷ v))
    (cond (same k (the_sign sign.OpenParen)) (take 1 (formals_end ∷ past sign.Equal 0 ∷ []) v) refuse)

-- the stack without the chains on top
abbrev pub unchained : List Want → List Want
unchained (more_arrow d ∷ s) = unchained s
unchained (more_or d ∷ s) = unchained s
unchained (more_and d ∷ s) = unchained s
unchained (make r ∷ s) = make r ∷ unchained s
unchained s = s

-- the parts that were read, or a stop with so many tokens left; before it the depth of each token that was taken
pub data Outcome : Type 0 where
  read : List Part → Outcome
  stops : ℕ → Outcome
  mark : ℕ → Outcome → Outcome

-- the stacks after a token, with its depth, if it is taken
pub data Fed : Type 0 where
  fed : ℕ → List Want → List Part → Fed
  unfed : Fed

abbrev pub after : Act → (List Part → Fed) → List Want → Fed
after (skip u) next ss = next u
after (take d new u) next ss = fed d (new ++ ss) u
after (opens d new u) next ss = fed d (new ++ unchained ss) u
after refuse next ss = unfed

unfoldable pub feed : List Want → List Part → Token → Fed
feed [] v t = unfed
feed (s ∷ ss) v t = after (act s v t t.kind) (λ u. feed ss u t) ss

abbrev pub ended : Act → (List Part → Outcome) → Outcome
ended (skip u) next = next u
ended (take d new u) next = stops 0
ended (opens d new u) next = stops 0
ended refuse next = stops 0

unfoldable pub finish : List Want → List Part → Outcome
finish [] v = read v
finish (s ∷ ss) v = ended (idle s v) (λ u. finish ss u)

abbrev pub onward : Fed → (List Want → List Part → Outcome) → ℕ → Outcome
onward (fed d s v) next left = mark d (next s v)
onward unfed next left = stops left

-- reads tokens
unfoldable pub run : List Token → List Want → List Part → Outcome
run [] s v = finish s v
run (t ∷ ts) s v = onward (feed s v t) (λ s v. run ts s v) (suc (length ts))

-- the outcome within the limit of depth: the first token that passes it stops the reading
pub data Verdict : Type 0 where
  all : List Part → Verdict
  wrong deep : ℕ → Verdict

abbrev pub limited : ℕ → Outcome → Verdict
limited left (read v) = all v
limited left (stops n) = wrong n
limited left (mark d o) = cond (nat_le d DEPTH_LIMIT) (limited (left - 1) o) (deep left)

abbrev pub judge : List Token → List Want → List Part → Verdict
judge ts s v = limited (length ts) (run ts s v)
