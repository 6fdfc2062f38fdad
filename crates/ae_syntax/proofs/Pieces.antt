-- Tokens that stand for what a stack wants.
use Rattle.std.proofs.Common.{ℕ, Bool, true, false, List, [], ◌∷◌, ◌++◌, ◌≡◌, refl, sym, ap, ◌∙◌, subst, append_assoc, append-nil}
use Rattle.ae_lex.specs.declared.kinds.Token.{Token}
use Rattle.ae_lex.specs.declared.kinds.TokenKind.{TokenKind}
use Rattle.ae_lex.specs.declared.kinds.TokenKind.TheVariants as kind
use Rattle.ae_lex.specs.declared.kinds.Reserved.TheVariants as word
use Rattle.ae_lex.specs.declared.kinds.Sign.TheVariants as sign
use Rattle.ae_syntax.specs.declared.spans.Span.{Span}
use Rattle.ae_syntax.specs.declared.types.WrittenType.{WrittenType}
use Rattle.ae_syntax.specs.declared.exprs.Expr.{Expr}
use Rattle.ae_syntax.specs.declared.exprs.Group.{Group}
use Rattle.ae_syntax.specs.declared.exprs.Trigger.{Trigger}
use Rattle.ae_syntax.specs.declared.exprs.Setting.{Setting}
use Rattle.ae_syntax.specs.declared.decls.TypedName.{TypedName}
use Rattle.ae_syntax.specs.declared.decls.SymbolResult.{SymbolResult}
use Rattle.ae_syntax.specs.declared.decls.Decl.{Decl}
use Rattle.ae_syntax.specs.Parts.{Part, token, flag, tree, sort, setting, trigger, group, typed, result, decl, names, trees, sorts, settings, triggers, groups, typeds, decls}
use Rattle.ae_syntax.specs.Grammar.{IsWord, IsSign, IsIdent, Items, of_names, of_constructors, of_vars, of_types, of_fields, of_formals, of_groups, of_exprs, of_triggers, of_settings, separator, Level, file, a_decl, id, var, ac, params, formals, in_brackets, arguments, in_squares, typed_id, set_id, a_result as result_level, a_type as type_level, expr, orE, orC, andE, andC, notE, notC, a_group, a_trigger, rel, sum, prod, unary, post, atom, some, element, Is, some_one, some_more, is_id, is_var, id_type, group_type, trigger_exprs, id_value}
use Rattle.ae_syntax.specs.Inner.Machine.{Rule, begin, give_type, group_names, match_terms, set, Want, an_expr, an_or, an_and, an_not, a_rel, a_sum, a_prod, a_unary, a_post, an_atom, a_type, more_arrow, more_or, more_and, more_rel, more_sum, more_prod, more_post, more_type, more, keep, pass, make, call, bracket_end, brace, brace_name, triggers_or_dot, a_file, type_head, type_body, type_definition, type_end, logic_head, logic_sorts, after_sort, a_result, formals_end, predicate_head, element_wants, items_wants, unchained}
use Rattle.ae_syntax.proofs.SameKinds.{never}

-- ---- what a level makes
abbrev pub Made : Level → Type 0
Made file = List Decl
Made a_decl = Decl
Made id = Token
Made var = Token
Made ac = Bool
Made params = List Span
Made formals = List TypedName
Made in_brackets = List TypedName
Made arguments = List WrittenType
Made in_squares = List Trigger
Made typed_id = TypedName
Made set_id = Setting
Made result_level = SymbolResult
Made type_level = WrittenType
Made a_group = Group
Made a_trigger = Trigger
Made (some of_names) = List Span
Made (some of_constructors) = List Span
Made (some of_vars) = List Span
Made (some of_types) = List WrittenType
Made (some of_fields) = List TypedName
Made (some of_formals) = List TypedName
Made (some of_groups) = List Group
Made (some of_exprs) = List Expr
Made (some of_triggers) = List Trigger
Made (some of_settings) = List Setting
Made _ = Expr

abbrev pub part_of : (l : Level) → Made l → Part
part_of file x = decls x
part_of a_decl x = decl x
part_of id x = token x
part_of var x = token x
part_of ac x = flag x
part_of params x = names x
part_of formals x = typeds x
part_of in_brackets x = typeds x
part_of arguments x = sorts x
part_of in_squares x = triggers x
part_of typed_id x = typed x
part_of set_id x = setting x
part_of result_level x = result x
part_of type_level x = sort x
part_of a_group x = group x
part_of a_trigger x = trigger x
part_of (some of_names) x = names x
part_of (some of_constructors) x = names x
part_of (some of_vars) x = names x
part_of (some of_types) x = sorts x
part_of (some of_fields) x = typeds x
part_of (some of_formals) x = typeds x
part_of (some of_groups) x = groups x
part_of (some of_exprs) x = trees x
part_of (some of_triggers) x = triggers x
part_of (some of_settings) x = settings x
part_of expr x = tree x
part_of _ x = tree x

-- some part of a level has these tokens
pub record Some_of (l : Level) (w : List Token) : Type 0 where
  pub value : Made l
  pub is : Is l w (part_of l value)

pub one_of : (r : Items) (w : List Token) → Some_of (element r) w → Some_of (some r) w
one_of of_names w p = record { value = _; is = some_one of_names p.is }
one_of of_constructors w p = record { value = _; is = some_one of_constructors p.is }
one_of of_vars w p = record { value = _; is = some_one of_vars p.is }
one_of of_types w p = record { value = _; is = some_one of_types p.is }
one_of of_fields w p = record { value = _; is = some_one of_fields p.is }
one_of of_formals w p = record { value = _; is = some_one of_formals p.is }
one_of of_groups w p = record { value = _; is = some_one of_groups p.is }
one_of of_exprs w p = record { value = _; is = some_one of_exprs p.is }
one_of of_triggers w p = record { value = _; is = some_one of_triggers p.is }
one_of of_settings w p = record { value = _; is = some_one of_settings p.is }

pub more_of : (r : Items) (u w : List Token) (t : Token) → Some_of (some r) u → IsSign (separator r) t → Some_of (element r) w → Some_of (some r) (u ++ t ∷ w)
more_of of_names u w t q h p = record { value = _; is = some_more of_names u w t q.is h p.is }
more_of of_constructors u w t q h p = record { value = _; is = some_more of_constructors u w t q.is h p.is }
more_of of_vars u w t q h p = record { value = _; is = some_more of_vars u w t q.is h p.is }
more_of of_types u w t q h p = record { value = _; is = some_more of_types u w t q.is h p.is }
more_of of_fields u w t q h p = record { value = _; is = some_more of_fields u w t q.is h p.is }
more_of of_formals u w t q h p = record { value = _; is = some_more of_formals u w t q.is h p.is }
more_of of_groups u w t q h p = record { value = _; is = some_more of_groups u w t q.is h p.is }
more_of of_exprs u w t q h p = record { value = _; is = some_more of_exprs u w t q.is h p.is }
more_of of_triggers u w t q h p = record { value = _; is = some_more of_triggers u w t q.is h p.is }
more_of of_settings u w t q h p = record { value = _; is = some_more of_settings u w t q.is h p.is }

-- ---- what stands for a want
-- one token of this kind
pub data One : TokenKind → List Token → Type 0 where
  one : {k : TokenKind} (t : Token) → t.kind ≡ k → One k (t ∷ [])

-- a part of a level with a token after it
pub data Closed : Level → TokenKind → List Token → Type 0 where
  closed : {l : Level} {k : TokenKind} (x : List Token) (c : Token) → Some_of l x → c.kind ≡ k → Closed l k (x ++ c ∷ [])

-- the sorts of a symbol's arguments, if it has any, and its result
pub data Arity : List Token → Type 0 where
  lone : (y : List Token) → Some_of result_level y → Arity y
  full : (x y : List Token) (a : Token) → Some_of (some of_types) x → IsSign sign.Arrow a → Some_of result_level y → Arity (x ++ a ∷ y)

-- a level where an open form may stand at the end, or not
abbrev pub or_level : Bool → Level
or_level true = orE
or_level false = orC

abbrev pub and_level : Bool → Level
and_level true = andE
and_level false = andC

abbrev pub not_level : Bool → Level
not_level true = notE
not_level false = notC

-- tokens that stand for what is wanted; the mark says whether an open form may stand at their end
abbrev pub Piece : Want → Bool → List Token → Type 0
Piece (an_expr n) d u = Some_of expr u
Piece (an_or n) d u = Some_of (or_level d) u
Piece (an_and n) d u = Some_of (and_level d) u
Piece (an_not n) d u = Some_of (not_level d) u
Piece (a_rel n) d u = Some_of rel u
Piece (a_sum n) d u = Some_of sum u
Piece (a_prod n) d u = Some_of prod u
Piece (a_unary n) d u = Some_of unary u
Piece (a_post n) d u = Some_of post u
Piece (an_atom n) d u = Some_of atom u
Piece (a_type n) d u = Some_of type_level u
Piece (more_arrow n) d u = (x : List Token) → Some_of orC x → Some_of expr (x ++ u)
Piece (more_or n) d u = (x : List Token) → Some_of orC x → Some_of (or_level d) (x ++ u)
Piece (more_and n) d u = (x : List Token) → Some_of andC x → Some_of (and_level d) (x ++ u)
Piece (more_rel n) d u = (x : List Token) → Some_of sum x → Some_of rel (x ++ u)
Piece (more_sum n) d u = (x : List Token) → Some_of sum x → Some_of sum (x ++ u)
Piece (more_prod n) d u = (x : List Token) → Some_of prod x → Some_of prod (x ++ u)
Piece (more_post n) d u = (x : List Token) → Some_of post x → Some_of post (x ++ u)
Piece (more_type n) d u = (x : List Token) → Some_of type_level x → Some_of type_level (x ++ u)
Piece (more r n) d u = (x : List Token) → Some_of (some r) x → Some_of (some r) (x ++ u)
Piece (keep k n) d u = One k u
Piece (pass k n) d u = One k u
Piece (make r) d u = ⊥
Piece (call n) d u = (m : Token) → IsIdent m → Some_of atom (m ∷ u)
Piece (bracket_end n) d u = (x : List Token) → Some_of expr x → (o : Token) → IsSign sign.OpenParen o → Some_of atom (o ∷ x ++ u)
Piece (brace n) d u = (o : Token) → IsSign sign.OpenBrace o → Some_of atom (o ∷ u)
Piece (brace_name n) d u = (o m : Token) → IsSign sign.OpenBrace o → IsIdent m → Some_of atom (o ∷ m ∷ u)
Piece (triggers_or_dot n) d u = Closed in_squares (kind.Sign sign.Dot) u
Piece a_file d u = (x : List Token) → Some_of file x → Some_of file (x ++ u)
Piece type_head d u = (t : Token) → IsWord word.Type_ t → Some_of a_decl (t ∷ u)
Piece type_body d u = (t m : Token) → IsWord word.Type_ t → IsIdent m → Some_of a_decl (t ∷ m ∷ u)
Piece type_definition d u = (t m e : Token) → IsWord word.Type_ t → IsIdent m → IsSign sign.Equal e → Some_of a_decl (t ∷ m ∷ e ∷ u)
Piece type_end d u = (t : Token) → IsWord word.Type_ t → (x : List Token) → Some_of params x → (m : Token) → IsIdent m → Some_of a_decl (t ∷ x ++ m ∷ u)
Piece logic_head d u = (t : Token) → IsWord word.Logic t → Some_of a_decl (t ∷ u)
Piece logic_sorts d u = Arity u
Piece after_sort d u = (x : List Token) → Some_of type_level x → Arity (x ++ u)
Piece a_result d u = Some_of result_level u
Piece formals_end d u = Closed formals (kind.Sign sign.CloseParen) u
Piece predicate_head d u = Closed in_brackets (kind.Sign sign.Equal) u

pub record Cut (piece after : Bool → List Token → Type 0) (w : List Token) : Type 0 where
  pub open_end : Bool
  pub here : List Token
  pub there : List Token
  pub whole : w ≡ here ++ there
  pub is : piece open_end here
  pub more : after open_end there

abbrev pub Chain : Bool → (Bool → List Token → Type 0) → (Bool → List Token → Type 0) → List Token → Type 0
Chain true piece after w = after true w
Chain false piece after w = Cut piece after w

-- tokens that stand for all that a stack wants, after an operand with an open end or not
abbrev pub Split : List Want → Bool → List Token → Type 0
Split [] c w = w ≡ []
Split (make r ∷ ss) c w = Split ss c w
Split (more_arrow n ∷ ss) c w = Chain c (Piece (more_arrow n)) (Split ss) w
Split (more_or n ∷ ss) c w = Chain c (Piece (more_or n)) (Split ss) w
Split (more_and n ∷ ss) c w = Chain c (Piece (more_and n)) (Split ss) w
Split (s ∷ ss) c w = Cut (Piece s) (Split ss) w

pub cut : {piece after : Bool → List Token → Type 0} (d : Bool) (u x : List Token) → piece d u → after d x → Cut piece after (u ++ x)
cut d u x p n = record { open_end = d; here = u; there = x; whole = refl; is = p; more = n }

-- an open end leaves every chain below empty
pub unchain : (ss : List Want) (d : Bool) (w : List Token) → Split (unchained ss) d w → Split ss true w
unchain [] d w h = h
unchain (more_arrow n ∷ ss) d w h = unchain ss d w h
unchain (more_or n ∷ ss) d w h = unchain ss d w h
unchain (more_and n ∷ ss) d w h = unchain ss d w h
unchain (make r ∷ ss) d w h = unchain ss d w h
unchain (s ∷ ss) d w h = h

-- two pieces as one
pub sew : {first second both after : Bool → List Token → Type 0} (y : List Token) → ((c d : Bool) (u x : List Token) → first c u → second d x → both d (u ++ x)) → Cut first (λ c w. Cut second after w) y → Cut both after y
sew y f k = let n = k.more in record { open_end = n.open_end; here = k.here ++ n.here; there = n.there; whole = k.whole ∙ ap (λ z. k.here ++ z) n.whole ∙ sym (append_assoc k.here n.here n.there); is = f k.open_end n.open_end k.here n.here k.is n.is; more = n.more }

-- a token before a piece
pub prefixed : {piece whole after : Bool → List Token → Type 0} (t : Token) (y : List Token) → ((d : Bool) (u : List Token) → piece d u → whole d (t ∷ u)) → Cut piece after y → Cut whole after (t ∷ y)
prefixed t y f k = record { open_end = k.open_end; here = t ∷ k.here; there = k.there; whole = ap (λ z. t ∷ z) k.whole; is = f k.open_end k.here k.is; more = k.more }

-- ---- items
abbrev pub Elemental : Items → Type 0
Elemental r = (n : ℕ) (ss : List Want) (c : Bool) (y : List Token) → Split (element_wants r n ++ ss) c y → Cut (λ d u. Some_of (element r) u) (Split ss) y

abbrev pub Itemized : Items → Type 0
Itemized r = (n : ℕ) (ss : List Want) (c : Bool) (y : List Token) → Split (items_wants r n ++ ss) c y → Cut (λ d u. Some_of (some r) u) (Split ss) y

itemized : (r : Items) → Elemental r → Itemized r
itemized r e n ss c y k = sew y (λ c d u x p m. m u (one_of r u p)) (e n (make begin ∷ more r n ∷ ss) c y (subst (λ z. Split z c y) (append_assoc (element_wants r n) (make begin ∷ more r n ∷ []) ss) k))

-- ---- what is wanted in sequence
pub data Bit : Type 0 where
  want : Want → Bit
  items : Items → ℕ → Bit
  mk : Rule → Bit

abbrev pub Bite : Bit → Bool → List Token → Type 0
Bite (want s) d u = Piece s d u
Bite (items r n) d u = Some_of (some r) u
Bite (mk r) d u = ⊥

pub data Pieces : List Bit → List Token → Type 0 where
  none : Pieces [] []
  last : {b : Bit} (d : Bool) (u : List Token) → Bite b d u → Pieces (b ∷ []) u
  next : {b c : Bit} {bs : List Bit} (d : Bool) (u x : List Token) → Bite b d u → Pieces (c ∷ bs) x → Pieces (b ∷ c ∷ bs) (u ++ x)

-- the wants of a sequence, and the sequence without what takes no token
abbrev pub expand : List Bit → List Want
expand [] = []
expand (want s ∷ bs) = s ∷ expand bs
expand (items r n ∷ bs) = items_wants r n ++ expand bs
expand (mk r ∷ bs) = make r ∷ expand bs

abbrev pub reals : List Bit → List Bit
reals [] = []
reals (want s ∷ bs) = want s ∷ reals bs
reals (items r n ∷ bs) = items r n ∷ reals bs
reals (mk r ∷ bs) = reals bs

-- no chain of expressions is among them
abbrev pub quiet : List Bit → Bool
quiet [] = true
quiet (want (more_arrow n) ∷ bs) = false
quiet (want (more_or n) ∷ bs) = false
quiet (want (more_and n) ∷ bs) = false
quiet (want (make r) ∷ bs) = false
quiet (b ∷ bs) = quiet bs

-- what is known of the items among them
abbrev pub AllItems : List Bit → Type 0
AllItems [] = Unit {0}
AllItems (want s ∷ bs) = AllItems bs
AllItems (items r n ∷ bs) = Itemized r × AllItems bs
AllItems (mk r ∷ bs) = AllItems bs

join : (b : Bit) (d : Bool) (u : List Token) (bs : List Bit) (x : List Token) → Bite b d u → Pieces bs x → Pieces (b ∷ bs) (u ++ x)
join b d u [] _ p none = subst (λ z. Pieces (b ∷ []) z) (sym (append-nil u)) (last d u p)
join b d u (c ∷ bs) x p q = next d u x p q

attach : (b : Bit) (bs : List Bit) (ss : List Want) (y : List Token) → ((c : Bool) (y : List Token) → Split (expand bs ++ ss) c y → Cut (λ d u. Pieces (reals bs) u) (Split ss) y) → Cut (Bite b) (Split (expand bs ++ ss)) y → Cut (λ d u. Pieces (b ∷ reals bs) u) (Split ss) y
attach b bs ss y f k = let n = f k.open_end k.there k.more in record { open_end = n.open_end; here = k.here ++ n.here; there = n.there; whole = k.whole ∙ ap (λ z. k.here ++ z) n.whole ∙ sym (append_assoc k.here n.here n.there); is = join b k.open_end k.here (reals bs) n.here k.is n.is; more = n.more }

pub gather : (bs : List Bit) → quiet bs ≡ true → AllItems bs → (ss : List Want) (c : Bool) (y : List Token) → Split (expand bs ++ ss) c y → Cut (λ d u. Pieces (reals bs) u) (Split ss) y
gather [] q w ss c y k = record { open_end = c; here = []; there = y; whole = refl; is = none; more = k }
gather (mk r ∷ bs) q w ss c y k = gather bs q w ss c y k
gather (items r n ∷ bs) q w ss c y k = attach (items r n) bs ss y (λ c y k. gather bs q w.1 ss c y k) (w.0 n (expand bs ++ ss) c y (subst (λ z. Split z c y) (append_assoc (items_wants r n) (expand bs) ss) k))
gather (want (more_arrow n) ∷ bs) q w ss c y k = never q
gather (want (more_or n) ∷ bs) q w ss c y k = never q
gather (want (more_and n) ∷ bs) q w ss c y k = never q
gather (want (make r) ∷ bs) q w ss c y k = never q
gather (want s ∷ bs) q w ss c y k = attach (want s) bs ss y (λ c y k. gather bs q w ss c y k) k

-- the same, as one thing
as_one : (bs : List Bit) → quiet bs ≡ true → AllItems bs → (P : List Token → Type 0) → ((u : List Token) → Pieces (reals bs) u → P u) → (ss : List Want) (c : Bool) (y : List Token) → Split (expand bs ++ ss) c y → Cut (λ d u. P u) (Split ss) y
as_one bs q w P f ss c y k = let g = gather bs q w ss c y k in record { open_end = g.open_end; here = g.here; there = g.there; whole = g.whole; is = f g.here g.is; more = g.more }

-- ---- one of the items
id_is : (k : ℕ) (u : List Token) → Pieces (want (keep kind.Ident k) ∷ []) u → Some_of id u
id_is k _ (last _ _ (one t h)) = record { value = t; is = is_id t h }

var_is : (k : ℕ) (u : List Token) → Pieces (want (keep kind.TypeVar k) ∷ []) u → Some_of var u
var_is k _ (last _ _ (one t h)) = record { value = t; is = is_var t h }

sort_is : (k : ℕ) (u : List Token) → Pieces (want (a_type k) ∷ []) u → Some_of type_level u
sort_is k u (last _ _ p) = p

expr_is : (k : ℕ) (u : List Token) → Pieces (want (an_expr k) ∷ []) u → Some_of expr u
expr_is k u (last _ _ p) = p

typed_is : (k : ℕ) (u : List Token) → Pieces (want (keep kind.Ident k) ∷ want (pass (kind.Sign sign.Colon) k) ∷ want (a_type k) ∷ []) u → Some_of typed_id u
typed_is k _ (next _ _ _ (one m hm) (next _ _ _ (one c hc) (last _ w p))) = record { value = _; is = id_type w m c hm hc p.is }

set_is : (k : ℕ) (u : List Token) → Pieces (want (keep kind.Ident k) ∷ want (pass (kind.Sign sign.Equal) k) ∷ want (an_expr k) ∷ []) u → Some_of set_id u
set_is k _ (next _ _ _ (one m hm) (next _ _ _ (one c hc) (last _ w p))) = record { value = _; is = id_value w m c hm hc p.is }

elemental : (r : Items) → (bs : ℕ → List Bit) → ((n : ℕ) → quiet (bs n) ≡ true) → ((n : ℕ) → AllItems (bs n)) → ((n : ℕ) → expand (bs n) ≡ element_wants r n) → ((n : ℕ) (u : List Token) → Pieces (reals (bs n)) u → Some_of (element r) u) → Elemental r
elemental r bs q w e f n ss c y k = as_one (bs n) (q n) (w n) (Some_of (element r)) (f n) ss c y (subst (λ z. Split (z ++ ss) c y) (sym (e n)) k)

names_itemized : Itemized of_names
names_itemized = itemized of_names (elemental of_names (λ n. want (keep kind.Ident n) ∷ []) (λ n. refl) (λ n. tt) (λ n. refl) id_is)

exprs_itemized : Itemized of_exprs
exprs_itemized = itemized of_exprs (elemental of_exprs (λ n. want (an_expr n) ∷ []) (λ n. refl) (λ n. tt) (λ n. refl) expr_is)

typed_bits : ℕ → List Bit
typed_bits n = want (keep kind.Ident n) ∷ want (pass (kind.Sign sign.Colon) n) ∷ want (a_type n) ∷ mk give_type ∷ []

group_is : (k : ℕ) (u : List Token) → Pieces (items of_names k ∷ want (pass (kind.Sign sign.Colon) k) ∷ want (a_type k) ∷ []) u → Some_of a_group u
group_is k _ (next _ u _ p (next _ _ _ (one c hc) (last _ w q))) = record { value = _; is = group_type u w c p.is hc q.is }

trigger_is : (k : ℕ) (u : List Token) → Pieces (items of_exprs k ∷ []) u → Some_of a_trigger u
trigger_is k u (last _ _ p) = record { value = _; is = trigger_exprs p.is }

-- one of the items
pub element_of : (r : Items) → Elemental r
unfolding typed_bits
element_of of_names = elemental of_names (λ n. want (keep kind.Ident n) ∷ []) (λ n. refl) (λ n. tt) (λ n. refl) id_is
element_of of_constructors = elemental of_constructors (λ n. want (keep kind.Ident n) ∷ []) (λ n. refl) (λ n. tt) (λ n. refl) id_is
element_of of_vars = elemental of_vars (λ n. want (keep kind.TypeVar n) ∷ []) (λ n. refl) (λ n. tt) (λ n. refl) var_is
element_of of_types = elemental of_types (λ n. want (a_type n) ∷ []) (λ n. refl) (λ n. tt) (λ n. refl) sort_is
element_of of_fields = elemental of_fields typed_bits (λ n. refl) (λ n. tt) (λ n. refl) typed_is
element_of of_formals = elemental of_formals typed_bits (λ n. refl) (λ n. tt) (λ n. refl) typed_is
element_of of_groups = elemental of_groups (λ n. items of_names n ∷ want (pass (kind.Sign sign.Colon) n) ∷ want (a_type n) ∷ mk group_names ∷ []) (λ n. refl) (λ n. (names_itemized, tt)) (λ n. refl) group_is
element_of of_exprs = elemental of_exprs (λ n. want (an_expr n) ∷ []) (λ n. refl) (λ n. tt) (λ n. refl) expr_is
element_of of_triggers = elemental of_triggers (λ n. items of_exprs n ∷ mk match_terms ∷ []) (λ n. refl) (λ n. (exprs_itemized, tt)) (λ n. refl) trigger_is
element_of of_settings = elemental of_settings (λ n. want (keep kind.Ident n) ∷ want (pass (kind.Sign sign.Equal) n) ∷ want (an_expr n) ∷ mk set ∷ []) (λ n. refl) (λ n. tt) (λ n. refl) set_is

are_items : (r : Items) → Itemized r
are_items r = itemized r (element_of r)

pub all_items : (bs : List Bit) → AllItems bs
all_items [] = tt
all_items (want s ∷ bs) = all_items bs
all_items (items r n ∷ bs) = (are_items r, all_items bs)
all_items (mk r ∷ bs) = all_items bs

-- a token, and then a sequence, is this piece
pub after_token : (bs : List Bit) → quiet bs ≡ true → (P : Bool → List Token → Type 0) (ss : List Want) (t : Token) (y : List Token) → ((d : Bool) (u : List Token) → Pieces (reals bs) u → P d (t ∷ u)) → Split (expand bs ++ ss) false y → Cut P (Split ss) (t ∷ y)
after_token bs q P ss t y f k = prefixed t y f (gather bs q (all_items bs) ss false y k)
