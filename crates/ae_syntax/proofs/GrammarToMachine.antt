-- What the grammar relates to tokens, the machine reads: its part, whatever follows, with the depth of each token.
use Rattle.std.proofs.Common.{ℕ, suc, ◌<◌, true, List, [], ◌∷◌, ◌++◌, ◌≡◌, Some, refl, sym, ap, ◌∙◌, arith, append_assoc}
use Rattle.std.proofs.lemmas.Option.{same_Some}
use Rattle.ae_base.proofs.Options.{never_some}
use Rattle.ae_lex.specs.declared.kinds.Token.{Token}
use Rattle.ae_lex.specs.declared.kinds.TokenKind.{TokenKind}
use Rattle.ae_lex.specs.declared.kinds.TokenKind.TheVariants as kind
use Rattle.ae_lex.specs.declared.kinds.Reserved.TheVariants as word
use Rattle.ae_lex.specs.declared.kinds.Sign.TheVariants as sign
use Rattle.ae_syntax.specs.declared.exprs.BinaryOp.{BinaryOp}
use Rattle.ae_syntax.specs.declared.exprs.BinaryOp.TheVariants as op
use Rattle.ae_syntax.specs.declared.exprs.Quantifier.{Quantifier}
use Rattle.ae_syntax.specs.declared.exprs.Number.{Number}
use Rattle.ae_syntax.specs.declared.exprs.Number.TheVariants as number
use Rattle.ae_syntax.specs.declared.exprs.Trigger.{Trigger}
use Rattle.ae_syntax.specs.declared.exprs.Group.{Group}
use Rattle.ae_syntax.specs.declared.exprs.Expr.{Expr}
use Rattle.ae_syntax.specs.Kinds.{arrow, relation, additive, multiplicative, quantifies, numeral}
use Rattle.ae_syntax.specs.Parts.{Part, token, tree, triggers, groups, number_at, quantified}
use Rattle.ae_syntax.specs.Grammar.{Level, Is, Items, separator, element, file, a_decl, id, var, ac, params, formals, in_brackets, arguments, in_squares, typed_id, set_id, a_result, a_type, expr, orE, orC, andE, andC, notE, notC, open_expr, a_group, a_trigger, rel, sum, prod, unary, post, atom, some, of_names, of_constructors, of_vars, of_types, of_groups, of_exprs, of_triggers, of_settings, file_none, file_decl, some_one, some_more, decl_type, decl_record, decl_enumeration, decl_logic, decl_function, decl_predicate, decl_axiom, decl_goal, is_id, is_var, ac_none, ac_word, params_none, params_var, params_vars, id_type, formals_none, formals_some, brackets_none, brackets_some, arguments_none, arguments_some, result_type, result_prop, type_int, type_real, type_bool, type_unit, type_var, type_name, type_postfix, type_brackets, expr_arrow, expr_orE, orE_or, orE_andE, orC_or, orC_andC, andE_and, andE_notE, andC_and, andC_notC, notE_not, notE_open, notE_rel, notC_not, notC_rel, open_quantified, open_let, open_if, group_type, squares_none, squares_some, trigger_exprs, rel_two, rel_sum, sum_two, sum_prod, prod_two, prod_unary, unary_minus, unary_post, post_field, post_atom, atom_name, atom_call, atom_numeral, atom_true, atom_false, atom_void, atom_brackets, atom_ascribed, atom_distinct, atom_record, atom_update, id_value}
use Rattle.ae_syntax.specs.Depth.{depths, in_chain}
use Rattle.ae_syntax.specs.Inner.Machine.{begin, add, join, negate, oppose, quantify, bind_name, choose, take_field, call_it, enclose, ascribe, all_differ, set, build, change, match_terms, quantified_by, bracket_sorts, give_type, group_names, apply, Want, an_expr, an_or, an_and, an_not, a_rel, a_sum, a_prod, a_unary, a_post, an_atom, more_arrow, more_or, more_and, more_rel, more_sum, more_prod, more_post, more_type, more, keep, pass, make, call, bracket_end, brace, brace_name, triggers_or_dot, skip, take, opens, act, then_wants, on_post, operand, typed_wants, element_wants, items_wants, block_wants, update_wants, unchained, Outcome, mark, run, a_type as a_type_want}
use Rattle.ae_syntax.proofs.Steps.{run_is, run_act, step_take, step_opens, step_skip, makes, pull_of, pull, pulls, no_arrow, no_or, no_and, no_rel, no_sum, no_prod, no_post, no_type, no_call, no_more_exprs}
use Rattle.ae_syntax.proofs.Levels.{as_post, as_prod, as_sum, as_rel, as_and, as_or, as_expr, as_not, as_unary, starts_atom, starts_rel, atom_begins_rel, BeginsAtom, BeginsRel, begins_atom_more, begins_rel_more, past_chains, deeper_plain}
use Rattle.ae_syntax.proofs.Acts.{plain_post}

-- the depths of tokens that were taken, before what follows
abbrev pub marks : List ℕ → Outcome → Outcome
marks [] o = o
marks (d ∷ ds) o = mark d (marks ds o)

pub marks_append : (a b : List ℕ) (o : Outcome) → marks (a ++ b) o ≡ marks a (marks b o)
marks_append [] b o = refl
marks_append (d ∷ a) b o = ap (mark d) (marks_append a b o)

-- what a level is on the stack, what stays there after its longest part, and how strong the next token may be
abbrev pub wants_of : Level → ℕ → List Want
wants_of id d = keep kind.Ident d ∷ []
wants_of var d = keep kind.TypeVar d ∷ []
wants_of typed_id d = typed_wants d
wants_of set_id d = element_wants of_settings d
wants_of a_group d = element_wants of_groups d
wants_of a_trigger d = element_wants of_triggers d
wants_of a_type d = a_type_want d ∷ []
wants_of expr d = an_expr d ∷ []
wants_of orE d = an_or d ∷ []
wants_of orC d = an_or d ∷ []
wants_of andE d = an_and d ∷ []
wants_of andC d = an_and d ∷ []
wants_of notE d = an_not d ∷ []
wants_of notC d = an_not d ∷ []
wants_of open_expr d = an_not d ∷ []
wants_of rel d = a_rel d ∷ []
wants_of sum d = a_sum d ∷ []
wants_of prod d = a_prod d ∷ []
wants_of unary d = a_unary d ∷ []
wants_of post d = a_post d ∷ []
wants_of atom d = an_atom d ∷ []
wants_of (some r) d = items_wants r d
wants_of _ d = []

abbrev pub left_of : Level → ℕ → ℕ → List Want
left_of orC d n = more_or n ∷ []
left_of andC d n = more_and n ∷ []
left_of sum d n = more_sum n ∷ []
left_of prod d n = more_prod n ∷ []
left_of post d n = more_post n ∷ []
left_of a_type d n = more_type n ∷ []
left_of (some r) d n = more r d ∷ []
left_of _ d n = []

abbrev pub bound_of : Items → ℕ
bound_of of_triggers = 2
bound_of of_exprs = 3
bound_of of_settings = 3
bound_of of_names = 12
bound_of of_constructors = 12
bound_of of_vars = 12
bound_of _ = 10

abbrev pub bound : Level → ℕ
bound id = 12
bound var = 12
bound a_type = 11
bound typed_id = 10
bound a_group = 10
bound a_trigger = 2
bound orC = 5
bound andC = 6
bound notC = 6
bound rel = 6
bound sum = 8
bound prod = 9
bound unary = 9
bound post = 11
bound atom = 11
bound (some r) = bound_of r
bound _ = 3

-- the levels that may stand at any depth
abbrev pub Inner : Level → Type 0
Inner file = ⊥
Inner a_decl = ⊥
Inner ac = ⊥
Inner params = ⊥
Inner formals = ⊥
Inner in_brackets = ⊥
Inner arguments = ⊥
Inner in_squares = ⊥
Inner a_result = ⊥
Inner _ = Unit {0}

pub inner_element : (r : Items) → Inner (element r)
inner_element of_names = tt
inner_element r = tt

-- ---- items
wants_element : (r : Items) (d : ℕ) → wants_of (element r) d ≡ element_wants r d
wants_element of_names d = refl
wants_element r d = refl

bound_element : (r : Items) (n : ℕ) → n < bound_of r → n < bound (element r)
bound_element of_names n l = omega arith
bound_element r n l = omega arith

separator_pulls : (r : Items) → pull_of (kind.Sign (separator r)) < bound_of r
separator_pulls of_names = omega arith
separator_pulls r = omega arith

more_takes : (r : Items) (d : ℕ) (v : List Part) (t : Token) → act (more r d) v t (kind.Sign (separator r)) ≡ take d (element_wants r d ++ make add ∷ more r d ∷ []) v
more_takes of_names d v t = refl
more_takes r d v t = refl

pub drop_left : (r : Items) (d n : ℕ) (rest : List Token) (ss : List Want) (v : List Part) → pull rest < bound_of r → run rest (left_of (element r) d n ++ ss) v ≡ run rest ss v
drop_left of_types d n rest ss v l = no_type n rest ss v (omega arith)
drop_left of_names d n rest ss v l = refl
drop_left r d n rest ss v l = refl

-- ---- operators

arrow_pull : (k : TokenKind) (o : BinaryOp) → arrow k ≡ Some o → pull_of k ≡ 3
arrow_pull (kind.Sign sign.Arrow) o e = refl
arrow_pull (kind.Sign sign.Iff) o e = refl
arrow_pull (kind.Reserved word.Xor) o e = refl
arrow_pull k o e = never_some _ e

relation_pull : (k : TokenKind) (o : BinaryOp) → relation k ≡ Some o → pull_of k ≡ 6
relation_pull (kind.Sign sign.Equal) o e = refl
relation_pull (kind.Sign sign.NotEqual) o e = refl
relation_pull (kind.Sign sign.Less) o e = refl
relation_pull (kind.Sign sign.AtMost) o e = refl
relation_pull (kind.Sign sign.Greater) o e = refl
relation_pull (kind.Sign sign.AtLeast) o e = refl
relation_pull k o e = never_some _ e

additive_pull : (k : TokenKind) (o : BinaryOp) → additive k ≡ Some o → pull_of k ≡ 7
additive_pull (kind.Sign sign.Plus) o e = refl
additive_pull (kind.Sign sign.Minus) o e = refl
additive_pull k o e = never_some _ e

multiplicative_pull : (k : TokenKind) (o : BinaryOp) → multiplicative k ≡ Some o → pull_of k ≡ 8
multiplicative_pull (kind.Sign sign.Star) o e = refl
multiplicative_pull (kind.Sign sign.Slash) o e = refl
multiplicative_pull (kind.Sign sign.Percent) o e = refl
multiplicative_pull k o e = never_some _ e

-- a token whose pull is known
pub pull_is : (t : Token) (ts : List Token) (m n : ℕ) → pull_of t.kind ≡ m → m < n → pull (t ∷ ts) < n
unfolding pull
pull_is t ts m n e l = omega (arith, e, l)

numeral_act : (d : ℕ) (v : List Part) (t : Token) (k : TokenKind) (n : Number) → numeral k ≡ Some n → act (an_atom d) v t k ≡ take d [] (tree (number_at t n) ∷ v)
numeral_act d v t (kind.Whole m) n e = ap (λ z. take d [] (tree (number_at t z) ∷ v)) (same_Some (number.Whole m) n e)
numeral_act d v t (kind.Decimal top bottom) n e = ap (λ z. take d [] (tree (number_at t z) ∷ v)) (same_Some (number.Decimal top bottom) n e)
numeral_act d v t k n e = never_some _ e

quantifier_act : (d : ℕ) (v : List Part) (t : Token) (k : TokenKind) (q : Quantifier) → quantifies k ≡ Some q → act (an_not d) v t k ≡ opens (suc d) (block_wants (suc d)) (token t ∷ v)
quantifier_act d v t (kind.Reserved word.Forall) q e = refl
quantifier_act d v t (kind.Reserved word.Exists) q e = refl
quantifier_act d v t k q e = never_some _ e

numeral_starts : (k : TokenKind) (n : Number) → numeral k ≡ Some n → starts_atom k ≡ true
numeral_starts (kind.Whole m) n e = refl
numeral_starts (kind.Decimal top bottom) n e = refl
numeral_starts k n e = never_some _ e

-- ---- how parts begin
abbrev LikeAtom : Level → Type 0
LikeAtom post = Unit {0}
LikeAtom atom = Unit {0}
LikeAtom _ = ⊥

abbrev LikeRel : Level → Type 0
LikeRel rel = Unit {0}
LikeRel sum = Unit {0}
LikeRel prod = Unit {0}
LikeRel unary = Unit {0}
LikeRel _ = ⊥

begins_atom : {l : Level} {w : List Token} {p : Part} → Is l w p → LikeAtom l → BeginsAtom w
begins_atom (post_field u d n a h g) q = begins_atom_more u (d ∷ n ∷ []) (begins_atom a tt)
begins_atom (post_atom a) q = begins_atom a tt
begins_atom (atom_name n h) q = ap starts_atom h
begins_atom (atom_call w n o c h g a f) q = ap starts_atom h
begins_atom (atom_numeral t n h) q = numeral_starts t.kind n h
begins_atom (atom_true t h) q = ap starts_atom h
begins_atom (atom_false t h) q = ap starts_atom h
begins_atom (atom_void t h) q = ap starts_atom h
begins_atom (atom_brackets w o c h a g) q = ap starts_atom h
begins_atom (atom_ascribed u w o d c h a g b f) q = ap starts_atom h
begins_atom (atom_distinct w t o c h g a f) q = ap starts_atom h
begins_atom (atom_record w o c h a g) q = ap starts_atom h
begins_atom (atom_update u w o e c h a g b f) q = ap starts_atom h
begins_atom _ q = absurd q

as_rel_begin : (w : List Token) → BeginsAtom w → BeginsRel w
as_rel_begin [] b = absurd b
as_rel_begin (t ∷ ts) b = atom_begins_rel t.kind b

begins_rel : {l : Level} {w : List Token} {p : Part} → Is l w p → LikeRel l → BeginsRel w
begins_rel (rel_two u w t o a h b) q = begins_rel_more u (t ∷ w) (begins_rel a tt)
begins_rel (rel_sum a) q = begins_rel a tt
begins_rel (sum_two u w t o a h b) q = begins_rel_more u (t ∷ w) (begins_rel a tt)
begins_rel (sum_prod a) q = begins_rel a tt
begins_rel (prod_two u w t o a h b) q = begins_rel_more u (t ∷ w) (begins_rel a tt)
begins_rel (prod_unary a) q = begins_rel a tt
begins_rel (unary_minus w t h a) q = ap starts_rel h
begins_rel (unary_post {e} {w} a) q = as_rel_begin w (begins_atom a tt)
begins_rel _ q = absurd q

-- ---- lists of tokens and depths
pub flat2 : {A : Type 0} (u y z x : List A) → ((u ++ y) ++ z) ++ x ≡ u ++ (y ++ (z ++ x))
flat2 u y z x = append_assoc (u ++ y) z x ∙ append_assoc u y (z ++ x)

pub flat3 : {A : Type 0} (u y z a x : List A) → (((u ++ y) ++ z) ++ a) ++ x ≡ u ++ (y ++ (z ++ (a ++ x)))
flat3 u y z a x = append_assoc ((u ++ y) ++ z) a x ∙ flat2 u y z (a ++ x)

pub marks2 : (a b c : List ℕ) (o : Outcome) → marks ((a ++ b) ++ c) o ≡ marks a (marks b (marks c o))
marks2 a b c o = marks_append (a ++ b) c o ∙ marks_append a b (marks c o)

pub marks3 : (a b c e : List ℕ) (o : Outcome) → marks (((a ++ b) ++ c) ++ e) o ≡ marks a (marks b (marks c (marks e o)))
marks3 a b c e o = marks_append ((a ++ b) ++ c) e o ∙ marks2 a b c (marks e o)

-- a closing token, or one that begins what follows, lets items end
pub items_ends : (r : Items) (d : ℕ) (t : Token) (ts : List Token) (ss : List Want) (v : List Part) (k : TokenKind) → t.kind ≡ k → act (more r d) v t k ≡ skip v → run (t ∷ ts) (more r d ∷ ss) v ≡ run (t ∷ ts) ss v
items_ends r d t ts ss v k h e = step_skip t ts (more r d) ss v k v h e

squares_pull : {w : List Token} {p : Part} (h : Is in_squares w p) (c : Token) (rest : List Token) → c.kind ≡ (kind.Sign sign.Dot) → pull (w ++ c ∷ rest) < 10
squares_pull squares_none c rest hc = pulls c _ (kind.Sign sign.Dot) _ hc (omega arith)
squares_pull (squares_some w o e ho p he) c rest hc = pulls o _ (kind.Sign sign.OpenBracket) _ ho (omega arith)

squares_end : {w : List Token} {p : Part} (h : Is in_squares w p) (d : ℕ) (c : Token) (rest : List Token) (ss : List Want) (v : List Part) → c.kind ≡ (kind.Sign sign.Dot) → run (w ++ c ∷ rest) (more of_groups d ∷ ss) v ≡ run (w ++ c ∷ rest) ss v
squares_end squares_none d c rest ss v hc = items_ends of_groups d c _ _ _ (kind.Sign sign.Dot) hc refl
squares_end (squares_some w o e ho p he) d c rest ss v hc = items_ends of_groups d o _ _ _ (kind.Sign sign.OpenBracket) ho refl

quantify_is : (t : Token) (q : Quantifier) (gs : List Group) (ts : List Trigger) (e : Expr) (rest : List Token) (ss : List Want) (v : List Part) → quantifies t.kind ≡ Some q → run rest (unchained ss) (apply quantify (tree e ∷ triggers ts ∷ groups gs ∷ token t ∷ v)) ≡ run rest (unchained ss) (tree (quantified t q gs ts e) ∷ v)
quantify_is t q gs ts e rest ss v h = ap (λ o. run rest (unchained ss) (quantified_by t gs ts e v o)) h

-- ---- braces
-- values of fields begin with a name and `=`
record Set (w : List Token) : Type 0 where
  pub name : Token
  pub equal : Token
  pub rest : List Token
  pub whole : w ≡ name ∷ equal ∷ rest
  pub is_name : name.kind ≡ kind.Ident
  pub is_sign : equal.kind ≡ (kind.Sign sign.Equal)

abbrev SetLevel : Level → Type 0
SetLevel set_id = Unit {0}
SetLevel (some of_settings) = Unit {0}
SetLevel _ = ⊥

set_begins : {l : Level} {w : List Token} {p : Part} → Is l w p → SetLevel l → Set w
set_begins (id_value w m q hm hq p) i = record { name = m; equal = q; rest = w; whole = refl; is_name = hm; is_sign = hq }
set_begins (some_one of_settings p) i = set_begins p tt
set_begins (some_more of_settings u w t p h e) i = let s = set_begins p tt in record { name = s.name; equal = s.equal; rest = s.rest ++ t ∷ w; whole = ap (λ z. z ++ t ∷ w) s.whole; is_name = s.is_name; is_sign = s.is_sign }
set_begins _ i = absurd i

as_record : {w : List Token} {p : Part} → Is (some of_settings) w p → (d : ℕ) (rest : List Token) (ss : List Want) (v : List Part) → run (w ++ rest) (brace d ∷ ss) v ≡ run (w ++ rest) (items_wants of_settings (suc d) ++ keep (kind.Sign sign.CloseBrace) d ∷ make build ∷ ss) v
as_record h d rest ss v =
    let s = set_begins h tt in
    ap (λ z. run (z ++ rest) (brace d ∷ ss) v) s.whole
    ∙ step_take s.name _ (brace d) ss v kind.Ident (suc d) _ _ s.is_name refl
    ∙ ap (mark (suc d)) (step_take s.equal _ (brace_name d) ss _ (kind.Sign sign.Equal) (suc d) _ _ s.is_sign refl)
    ∙ sym (step_take s.name _ (keep kind.Ident (suc d)) _ v kind.Ident (suc d) [] _ s.is_name refl ∙ ap (mark (suc d)) (step_take s.equal _ (pass (kind.Sign sign.Equal) (suc d)) _ _ (kind.Sign sign.Equal) (suc d) [] _ s.is_sign refl))
    ∙ ap (λ z. run (z ++ rest) (items_wants of_settings (suc d) ++ keep (kind.Sign sign.CloseBrace) d ∷ make build ∷ ss) v) (sym s.whole)

-- what follows a name that begins a record to be changed
data Follows : List Token → Type 0 where
  nothing : Follows []
  bracket : (t : Token) (ts : List Token) → t.kind ≡ (kind.Sign sign.OpenParen) → Follows (t ∷ ts)
  point : (t : Token) (ts : List Token) → t.kind ≡ (kind.Sign sign.Dot) → Follows (t ∷ ts)

data Opening : List Token → Type 0 where
  by_name : (n : Token) (ts : List Token) → n.kind ≡ kind.Ident → Follows ts → Opening (n ∷ ts)
  otherwise : (t : Token) (ts : List Token) → (t.kind ≡ kind.Ident → ⊥) → Opening (t ∷ ts)

follows_point : (ts : List Token) (d n : Token) → Follows ts → d.kind ≡ (kind.Sign sign.Dot) → Follows (ts ++ d ∷ n ∷ [])
follows_point _ d n nothing h = point d (n ∷ []) h
follows_point _ d n (bracket t ts g) h = bracket t (ts ++ d ∷ n ∷ []) g
follows_point _ d n (point t ts g) h = point t (ts ++ d ∷ n ∷ []) g

opening_point : (w : List Token) (d n : Token) → Opening w → d.kind ≡ (kind.Sign sign.Dot) → Opening (w ++ d ∷ n ∷ [])
opening_point _ d n (by_name m ts hm f) h = by_name m (ts ++ d ∷ n ∷ []) hm (follows_point ts d n f h)
opening_point _ d n (otherwise t ts g) h = otherwise t (ts ++ d ∷ n ∷ []) g

unlike : (t : Token) (k : TokenKind) → t.kind ≡ k → (k ≡ kind.Ident → ⊥) → t.kind ≡ kind.Ident → ⊥
unlike t k h f e = f (sym h ∙ e)

numeral_unlike : (k : TokenKind) (n : Number) → numeral k ≡ Some n → k ≡ kind.Ident → ⊥
numeral_unlike (kind.Whole m) n h e = cc
numeral_unlike (kind.Decimal top bottom) n h e = cc
numeral_unlike k n h e = never_some _ h

opening : {l : Level} {w : List Token} {p : Part} → Is l w p → LikeAtom l → Opening w
opening (post_field u d n a h g) q = opening_point u d n (opening a tt) h
opening (post_atom a) q = opening a tt
opening (atom_name n h) q = by_name n [] h nothing
opening (atom_call w n o c h g a f) q = by_name n _ h (bracket o _ g)
opening (atom_numeral t n h) q = otherwise t [] (numeral_unlike t.kind n h)
opening (atom_true t h) q = otherwise t [] (unlike t _ h (λ e. cc))
opening (atom_false t h) q = otherwise t [] (unlike t _ h (λ e. cc))
opening (atom_void t h) q = otherwise t [] (unlike t _ h (λ e. cc))
opening (atom_brackets w o c h a g) q = otherwise o _ (unlike o _ h (λ e. cc))
opening (atom_ascribed u w o d c h a g b f) q = otherwise o _ (unlike o _ h (λ e. cc))
opening (atom_distinct w t o c h g a f) q = otherwise t _ (unlike t _ h (λ e. cc))
opening (atom_record w o c h a g) q = otherwise o _ (unlike o _ h (λ e. cc))
opening (atom_update u w o e c h a g b f) q = otherwise o _ (unlike o _ h (λ e. cc))
opening _ q = absurd q

brace_act : (d : ℕ) (v : List Part) (t : Token) (k : TokenKind) → (k ≡ kind.Ident → ⊥) → act (brace d) v t k ≡ then_wants (on_post (suc d) v t k) (update_wants d)
brace_act d v t kind.Ident f = absurd (f refl)
brace_act d v t k f = refl

name_bracket : (d : ℕ) (n t : Token) (ts : List Token) (ss : List Want) (v : List Part) → t.kind ≡ (kind.Sign sign.OpenParen) → run (t ∷ ts) (brace_name d ∷ ss) (token n ∷ v) ≡ run (t ∷ ts) (call (suc d) ∷ more_post (suc d) ∷ update_wants d ++ ss) (token n ∷ v)
name_bracket d n t ts ss v h = step_take t ts (brace_name d) ss _ (kind.Sign sign.OpenParen) (suc (suc d)) _ _ h refl ∙ sym (step_take t ts (call (suc d)) _ _ (kind.Sign sign.OpenParen) (suc (suc d)) _ _ h refl)

name_point : (d : ℕ) (n t : Token) (ts : List Token) (ss : List Want) (v : List Part) → t.kind ≡ (kind.Sign sign.Dot) → run (t ∷ ts) (brace_name d ∷ ss) (token n ∷ v) ≡ run (t ∷ ts) (call (suc d) ∷ more_post (suc d) ∷ update_wants d ++ ss) (token n ∷ v)
name_point d n t ts ss v h = step_take t ts (brace_name d) ss _ (kind.Sign sign.Dot) (suc (suc d)) _ _ h refl ∙ sym (step_skip t ts (call (suc d)) _ _ (kind.Sign sign.Dot) _ h refl ∙ step_take t ts (more_post (suc d)) _ _ (kind.Sign sign.Dot) (suc (suc d)) _ _ h refl)

name_with : (d : ℕ) (n t : Token) (ts : List Token) (ss : List Want) (v : List Part) → t.kind ≡ (kind.Reserved word.With) → run (t ∷ ts) (brace_name d ∷ ss) (token n ∷ v) ≡ run (t ∷ ts) (call (suc d) ∷ more_post (suc d) ∷ update_wants d ++ ss) (token n ∷ v)
name_with d n t ts ss v h = step_take t ts (brace_name d) ss _ (kind.Reserved word.With) (suc d) _ _ h refl ∙ sym (step_skip t ts (call (suc d)) _ _ (kind.Reserved word.With) _ h refl ∙ step_skip t ts (more_post (suc d)) _ _ (kind.Reserved word.With) _ h refl ∙ step_take t ts (pass (kind.Reserved word.With) (suc d)) _ _ (kind.Reserved word.With) (suc d) [] _ h refl)

-- after `{` and a name the machine goes on as after a name that begins a `post`, but for `=`
name_goes : (d : ℕ) (n : Token) (ts : List Token) (m : Token) (rest : List Token) (ss : List Want) (v : List Part) → Follows ts → m.kind ≡ (kind.Reserved word.With) → run (ts ++ m ∷ rest) (brace_name d ∷ ss) (token n ∷ v) ≡ run (ts ++ m ∷ rest) (call (suc d) ∷ more_post (suc d) ∷ update_wants d ++ ss) (token n ∷ v)
name_goes d n _ m rest ss v nothing h = name_with d n m rest ss v h
name_goes d n _ m rest ss v (bracket t ts g) h = name_bracket d n t (ts ++ m ∷ rest) ss v g
name_goes d n _ m rest ss v (point t ts g) h = name_point d n t (ts ++ m ∷ rest) ss v g

update_from : (w : List Token) → Opening w → (d : ℕ) (m : Token) (rest : List Token) (ss : List Want) (v : List Part) → m.kind ≡ (kind.Reserved word.With) → run (w ++ m ∷ rest) (brace d ∷ ss) v ≡ run (w ++ m ∷ rest) (a_post (suc d) ∷ update_wants d ++ ss) v
update_from _ (by_name n ts hn f) d m rest ss v hm = step_take n (ts ++ m ∷ rest) (brace d) ss v kind.Ident (suc d) _ _ hn refl
    ∙ ap (mark (suc d)) (name_goes d n ts m rest ss v f hm)
    ∙ sym (step_take n (ts ++ m ∷ rest) (a_post (suc d)) (update_wants d ++ ss) v kind.Ident (suc d) _ _ hn refl)
update_from _ (otherwise t ts g) d m rest ss v hm = run_act t (ts ++ m ∷ rest) (brace d) ss v t.kind _ refl (brace_act d v t t.kind g)
    ∙ deeper_plain (on_post (suc d) v t t.kind) (update_wants d) ss t (ts ++ m ∷ rest) (plain_post (suc d) v t t.kind)
    ∙ sym (run_is t (ts ++ m ∷ rest) (a_post (suc d)) (update_wants d ++ ss) v)

as_update : {w : List Token} {p : Part} → Is post w p → (d : ℕ) (m : Token) (rest : List Token) (ss : List Want) (v : List Part) → m.kind ≡ (kind.Reserved word.With) → run (w ++ m ∷ rest) (brace d ∷ ss) v ≡ run (w ++ m ∷ rest) (a_post (suc d) ∷ update_wants d ++ ss) v
as_update {w} h d m rest ss v hm = update_from w (opening h tt) d m rest ss v hm

mutual
  pub reads : {l : Level} {w : List Token} {p : Part} (h : Is l w p) → Inner l → (d : ℕ) (rest : List Token) (ss : List Want) (v : List Part) → pull rest < bound l → run (w ++ rest) (wants_of l d ++ ss) v ≡ marks (depths h d) (run rest (left_of l d (in_chain h d) ++ ss) (p ∷ v))
  reads (file_none) i d rest ss v n = absurd i
  reads (file_decl u w p q) i d rest ss v n = absurd i
  reads (decl_type w t m ht p hm) i d rest ss v n = absurd i
  reads (decl_record u w t m e o c ht p hm he ho q hc) i d rest ss v n = absurd i
  reads (decl_enumeration w t m e ht hm he p) i d rest ss v n = absurd i
  reads (decl_logic u x w y t c ht p q hc r s) i d rest ss v n = absurd i
  reads (decl_function u x w t m o c f q ht hm ho p hc hf r hq s) i d rest ss v n = absurd i
  reads (decl_predicate u w t m q ht hm p hq r) i d rest ss v n = absurd i
  reads (decl_axiom w t m c ht hm hc p) i d rest ss v n = absurd i
  reads (decl_goal w t m c ht hm hc p) i d rest ss v n = absurd i
  reads (ac_none) i d rest ss v n = absurd i
  reads (ac_word t h) i d rest ss v n = absurd i
  reads (params_none) i d rest ss v n = absurd i
  reads (params_var t h) i d rest ss v n = absurd i
  reads (params_vars w o x m c ho hx hm p hc) i d rest ss v n = absurd i
  reads (formals_none) i d rest ss v n = absurd i
  reads (formals_some p) i d rest ss v n = absurd i
  reads (brackets_none) i d rest ss v n = absurd i
  reads (brackets_some w o c ho p hc) i d rest ss v n = absurd i
  reads (arguments_none) i d rest ss v n = absurd i
  reads (arguments_some w a p h) i d rest ss v n = absurd i
  reads (result_type p) i d rest ss v n = absurd i
  reads (result_prop t h) i d rest ss v n = absurd i
  reads (squares_none) i d rest ss v n = absurd i
  reads (squares_some w o c ho p hc) i d rest ss v n = absurd i
  reads (some_one {p} {w} r h) i d rest ss v n = ap (λ z. run (w ++ rest) z v) (append_assoc (element_wants r d) (make begin ∷ more r d ∷ []) ss ∙ ap (λ z. z ++ make begin ∷ more r d ∷ ss) (sym (wants_element r d)))
      ∙ reads h (inner_element r) d rest (make begin ∷ more r d ∷ ss) v (bound_element r _ n)
      ∙ ap (marks (depths h d)) (drop_left r d _ rest _ _ n ∙ makes begin rest _ _)
  reads (some_more {ps} {p} r u w t h g e) i d rest ss v n = ap (λ z. run z (items_wants r d ++ ss) v) (append_assoc u (t ∷ w) rest)
      ∙ reads h tt d (t ∷ w ++ rest) ss v (pulls t _ (kind.Sign (separator r)) _ g (separator_pulls r))
      ∙ ap (marks (depths h d)) (step_take t (w ++ rest) (more r d) ss (ps ∷ v) (kind.Sign (separator r)) d _ _ g (more_takes r d (ps ∷ v) t)
      ∙ ap (mark d) (ap (λ z. run (w ++ rest) z (ps ∷ v)) (append_assoc (element_wants r d) (make add ∷ more r d ∷ []) ss ∙ ap (λ z. z ++ make add ∷ more r d ∷ ss) (sym (wants_element r d)))
      ∙ reads e (inner_element r) d rest (make add ∷ more r d ∷ ss) (ps ∷ v) (bound_element r _ n)
      ∙ ap (marks (depths e d)) (drop_left r d _ rest _ _ n ∙ makes add rest _ _)))
      ∙ sym (marks_append (depths h d) (d ∷ depths e d) _)
  reads (is_id t h) i d rest ss v n = step_take t rest (keep kind.Ident d) ss v kind.Ident d [] _ h refl
  reads (is_var t h) i d rest ss v n = step_take t rest (keep kind.TypeVar d) ss v kind.TypeVar d [] _ h refl
  reads (id_type w m c hm hc p) i d rest ss v n = step_take m (c ∷ w ++ rest) (keep kind.Ident d) _ v kind.Ident d [] _ hm refl
      ∙ ap (mark d) (step_take c (w ++ rest) (pass (kind.Sign sign.Colon) d) _ _ (kind.Sign sign.Colon) d [] _ hc refl
      ∙ ap (mark d) (reads p tt d rest (make give_type ∷ ss) (token m ∷ v) (omega arith)
      ∙ ap (marks (depths p d)) (no_type _ rest _ _ n ∙ makes give_type rest _ _)))
  reads (type_int t h) i d rest ss v n = step_take t rest (a_type_want d) ss v (kind.Reserved word.Int) d _ _ h refl
  reads (type_real t h) i d rest ss v n = step_take t rest (a_type_want d) ss v (kind.Reserved word.Real) d _ _ h refl
  reads (type_bool t h) i d rest ss v n = step_take t rest (a_type_want d) ss v (kind.Reserved word.Bool) d _ _ h refl
  reads (type_unit t h) i d rest ss v n = step_take t rest (a_type_want d) ss v (kind.Reserved word.Unit) d _ _ h refl
  reads (type_var t h) i d rest ss v n = step_take t rest (a_type_want d) ss v kind.TypeVar d _ _ h refl
  reads (type_name m h) i d rest ss v n = step_take m rest (a_type_want d) ss v kind.Ident d _ _ h refl
  reads (type_postfix u m p h) i d rest ss v n = ap (λ z. run z (a_type_want d ∷ ss) v) (append_assoc u (m ∷ []) rest)
      ∙ reads p tt d (m ∷ rest) ss v (pulls m _ kind.Ident _ h (omega arith))
      ∙ ap (marks (depths p d)) (step_take m rest (more_type (in_chain p d)) ss _ kind.Ident _ _ _ h refl)
      ∙ sym (marks_append (depths p d) (suc (in_chain p d) ∷ []) _)
  reads (type_brackets u w o m c e ho p hm q hc he) i d rest ss v n = ap (λ z. run (o ∷ z) (a_type_want d ∷ ss) v) (flat2 u (m ∷ w) (c ∷ e ∷ []) rest)
      ∙ step_take o _ (a_type_want d) ss v (kind.Sign sign.OpenParen) (suc d) _ _ ho refl
      ∙ ap (mark (suc d)) (reads p tt (suc d) (m ∷ w ++ c ∷ e ∷ rest) _ (token o ∷ v) (pulls m _ (kind.Sign sign.Comma) _ hm (omega arith))
      ∙ ap (marks (depths p (suc d))) (no_type _ _ _ _ (pulls m _ (kind.Sign sign.Comma) _ hm (omega arith))
      ∙ step_take m _ (pass (kind.Sign sign.Comma) (suc d)) _ _ (kind.Sign sign.Comma) (suc d) [] _ hm refl
      ∙ ap (mark (suc d)) (reads q tt (suc d) (c ∷ e ∷ rest) _ _ (pulls c _ (kind.Sign sign.CloseParen) _ hc (omega arith))
      ∙ ap (marks (depths q (suc d))) (items_ends of_types (suc d) c _ _ _ (kind.Sign sign.CloseParen) hc refl
      ∙ step_take c _ (pass (kind.Sign sign.CloseParen) d) _ _ (kind.Sign sign.CloseParen) d [] _ hc refl
      ∙ ap (mark d) (step_take e rest (keep kind.Ident (suc d)) _ _ kind.Ident (suc d) [] _ he refl
      ∙ ap (mark (suc d)) (makes bracket_sorts rest _ _)))))
      ∙ sym (marks2 (depths p (suc d)) (suc d ∷ depths q (suc d)) (d ∷ suc d ∷ []) _))
  reads (expr_arrow {a} {b} u w t o p h q) i d rest ss v n = ap (λ z. run z (an_expr d ∷ ss) v) (append_assoc u (t ∷ w) rest)
      ∙ as_expr d _ ss v
      ∙ reads p tt d (t ∷ w ++ rest) (more_arrow d ∷ ss) v (pull_is t _ 3 _ (arrow_pull t.kind o h) (omega arith))
      ∙ ap (marks (depths p d)) (no_or _ _ _ _ (pull_is t _ 3 _ (arrow_pull t.kind o h) (omega arith))
      ∙ step_take t (w ++ rest) (more_arrow d) ss (tree a ∷ v) t.kind (suc d) (an_expr (suc d) ∷ make (join o) ∷ []) _ refl (ap (λ r. operand (suc d) (tree a ∷ v) an_expr [] r) h)
      ∙ ap (mark (suc d)) (reads q tt (suc d) rest (make (join o) ∷ ss) (tree a ∷ v) n
      ∙ ap (marks (depths q (suc d))) (makes (join o) rest ss _)))
      ∙ sym (marks_append (depths p d) (suc d ∷ depths q (suc d)) _)
  reads (expr_orE p) i d rest ss v n = as_expr d _ ss v ∙ reads p tt d rest (more_arrow d ∷ ss) v n ∙ ap (marks (depths p d)) (no_arrow d rest ss _ n)
  reads (orE_or {a} {b} u w t p h q) i d rest ss v n = ap (λ z. run z (an_or d ∷ ss) v) (append_assoc u (t ∷ w) rest)
      ∙ reads p tt d (t ∷ w ++ rest) ss v (pulls t _ (kind.Reserved word.Or) _ h (omega arith))
      ∙ ap (marks (depths p d)) (step_take t (w ++ rest) (more_or (in_chain p d)) ss (tree a ∷ v) (kind.Reserved word.Or) _ _ _ h refl
      ∙ ap (mark (suc (in_chain p d))) (reads q tt (suc (in_chain p d)) rest (make (join op.Or) ∷ more_or (suc (in_chain p d)) ∷ ss) (tree a ∷ v) (omega arith)
      ∙ ap (marks (depths q (suc (in_chain p d)))) (makes (join op.Or) rest _ _ ∙ no_or _ rest ss _ (omega arith))))
      ∙ sym (marks_append (depths p d) (suc (in_chain p d) ∷ depths q (suc (in_chain p d))) _)
  reads (orE_andE p) i d rest ss v n = as_or d _ ss v ∙ reads p tt d rest (more_or d ∷ ss) v n ∙ ap (marks (depths p d)) (no_or d rest ss _ (omega arith))
  reads (orC_or {a} {b} u w t p h q) i d rest ss v n = ap (λ z. run z (an_or d ∷ ss) v) (append_assoc u (t ∷ w) rest)
      ∙ reads p tt d (t ∷ w ++ rest) ss v (pulls t _ (kind.Reserved word.Or) _ h (omega arith))
      ∙ ap (marks (depths p d)) (step_take t (w ++ rest) (more_or (in_chain p d)) ss (tree a ∷ v) (kind.Reserved word.Or) _ _ _ h refl
      ∙ ap (mark (suc (in_chain p d))) (reads q tt (suc (in_chain p d)) rest (make (join op.Or) ∷ more_or (suc (in_chain p d)) ∷ ss) (tree a ∷ v) (omega arith)
      ∙ ap (marks (depths q (suc (in_chain p d)))) (no_and _ rest _ _ n ∙ makes (join op.Or) rest _ _)))
      ∙ sym (marks_append (depths p d) (suc (in_chain p d) ∷ depths q (suc (in_chain p d))) _)
  reads (orC_andC p) i d rest ss v n = as_or d _ ss v ∙ reads p tt d rest (more_or d ∷ ss) v (omega arith) ∙ ap (marks (depths p d)) (no_and _ rest _ _ n)
  reads (andE_and {a} {b} u w t p h q) i d rest ss v n = ap (λ z. run z (an_and d ∷ ss) v) (append_assoc u (t ∷ w) rest)
      ∙ reads p tt d (t ∷ w ++ rest) ss v (pulls t _ (kind.Reserved word.And) _ h (omega arith))
      ∙ ap (marks (depths p d)) (step_take t (w ++ rest) (more_and (in_chain p d)) ss (tree a ∷ v) (kind.Reserved word.And) _ _ _ h refl
      ∙ ap (mark (suc (in_chain p d))) (reads q tt (suc (in_chain p d)) rest (make (join op.And) ∷ more_and (suc (in_chain p d)) ∷ ss) (tree a ∷ v) (omega arith)
      ∙ ap (marks (depths q (suc (in_chain p d)))) (makes (join op.And) rest _ _ ∙ no_and _ rest ss _ (omega arith))))
      ∙ sym (marks_append (depths p d) (suc (in_chain p d) ∷ depths q (suc (in_chain p d))) _)
  reads (andE_notE p) i d rest ss v n = as_and d _ ss v ∙ reads p tt d rest (more_and d ∷ ss) v n ∙ ap (marks (depths p d)) (no_and d rest ss _ (omega arith))
  reads (andC_and {a} {b} u w t p h q) i d rest ss v n = ap (λ z. run z (an_and d ∷ ss) v) (append_assoc u (t ∷ w) rest)
      ∙ reads p tt d (t ∷ w ++ rest) ss v (pulls t _ (kind.Reserved word.And) _ h (omega arith))
      ∙ ap (marks (depths p d)) (step_take t (w ++ rest) (more_and (in_chain p d)) ss (tree a ∷ v) (kind.Reserved word.And) _ _ _ h refl
      ∙ ap (mark (suc (in_chain p d))) (reads q tt (suc (in_chain p d)) rest (make (join op.And) ∷ more_and (suc (in_chain p d)) ∷ ss) (tree a ∷ v) (omega arith)
      ∙ ap (marks (depths q (suc (in_chain p d)))) (makes (join op.And) rest _ _)))
      ∙ sym (marks_append (depths p d) (suc (in_chain p d) ∷ depths q (suc (in_chain p d))) _)
  reads (andC_notC p) i d rest ss v n = as_and d _ ss v ∙ reads p tt d rest (more_and d ∷ ss) v n
  reads (notE_not w t h p) i d rest ss v n = step_take t (w ++ rest) (an_not d) ss v (kind.Reserved word.Not) (suc d) _ _ h refl ∙ ap (mark (suc d)) (reads p tt (suc d) rest (make negate ∷ ss) (token t ∷ v) n ∙ ap (marks (depths p (suc d))) (makes negate rest ss _))
  reads (notC_not w t h p) i d rest ss v n = step_take t (w ++ rest) (an_not d) ss v (kind.Reserved word.Not) (suc d) _ _ h refl ∙ ap (mark (suc d)) (reads p tt (suc d) rest (make negate ∷ ss) (token t ∷ v) n ∙ ap (marks (depths p (suc d))) (makes negate rest ss _))
  reads (notE_open p) i d rest ss v n = reads p tt d rest ss v n
  reads (notE_rel {e} {w} p) i d rest ss v n = as_not d (w ++ rest) ss v (begins_rel_more w rest (begins_rel p tt)) ∙ reads p tt d rest ss v (omega arith)
  reads (notC_rel {e} {w} p) i d rest ss v n = as_not d (w ++ rest) ss v (begins_rel_more w rest (begins_rel p tt)) ∙ reads p tt d rest ss v n
  reads (open_quantified {gs} {ts} {e} u x w t c q ht p r hc s) i d rest ss v n = ap (λ z. run (t ∷ z) (an_not d ∷ ss) v) (flat2 u x (c ∷ w) rest)
      ∙ step_opens t _ (an_not d) ss v t.kind (suc d) (block_wants (suc d)) _ refl (quantifier_act d v t t.kind q ht)
      ∙ ap (mark (suc d)) (reads p tt (suc d) (x ++ c ∷ (w ++ rest)) _ (token t ∷ v) (squares_pull r c (w ++ rest) hc)
      ∙ ap (marks (depths p (suc d))) (squares_end r (suc d) c (w ++ rest) _ _ hc
      ∙ reads_squares r (suc d) c (w ++ rest) _ _ hc
      ∙ ap (marks (depths r (suc d))) (ap (mark (suc d)) (reads s tt (suc d) rest (make quantify ∷ unchained ss) _ n
      ∙ ap (marks (depths s (suc d))) (makes quantify rest _ _ ∙ quantify_is t q gs ts e rest ss v ht ∙ past_chains rest ss _ n))))
      ∙ sym (marks2 (depths p (suc d)) (depths r (suc d)) (suc d ∷ depths s (suc d)) _))
  reads (open_let u w t m e k ht hm he p hk q) i d rest ss v n = ap (λ z. run (t ∷ m ∷ e ∷ z) (an_not d ∷ ss) v) (append_assoc u (k ∷ w) rest)
      ∙ step_opens t _ (an_not d) ss v (kind.Reserved word.Let) (suc d) _ _ ht refl
      ∙ ap (mark (suc d)) (step_take m _ (keep kind.Ident (suc d)) _ _ kind.Ident (suc d) [] _ hm refl
      ∙ ap (mark (suc d)) (step_take e _ (pass (kind.Sign sign.Equal) (suc d)) _ _ (kind.Sign sign.Equal) (suc d) [] _ he refl
      ∙ ap (mark (suc d)) (reads p tt (suc d) (k ∷ w ++ rest) _ _ (pulls k _ (kind.Reserved word.In) _ hk (omega arith))
      ∙ ap (marks (depths p (suc d))) (step_take k _ (pass (kind.Reserved word.In) (suc d)) _ _ (kind.Reserved word.In) (suc d) [] _ hk refl
      ∙ ap (mark (suc d)) (reads q tt (suc d) rest (make bind_name ∷ unchained ss) _ n
      ∙ ap (marks (depths q (suc d))) (makes bind_name rest _ _ ∙ past_chains rest ss _ n)))
      ∙ sym (marks_append (depths p (suc d)) (suc d ∷ depths q (suc d)) _))))
  reads (open_if u x w t k e ht p hk q he r) i d rest ss v n = ap (λ z. run (t ∷ z) (an_not d ∷ ss) v) (flat2 u (k ∷ x) (e ∷ w) rest)
      ∙ step_opens t _ (an_not d) ss v (kind.Reserved word.If) (suc d) _ _ ht refl
      ∙ ap (mark (suc d)) (reads p tt (suc d) (k ∷ (x ++ e ∷ (w ++ rest))) _ _ (pulls k _ (kind.Reserved word.Then) _ hk (omega arith))
      ∙ ap (marks (depths p (suc d))) (step_take k _ (pass (kind.Reserved word.Then) (suc d)) _ _ (kind.Reserved word.Then) (suc d) [] _ hk refl
      ∙ ap (mark (suc d)) (reads q tt (suc d) (e ∷ w ++ rest) _ _ (pulls e _ (kind.Reserved word.Else) _ he (omega arith))
      ∙ ap (marks (depths q (suc d))) (step_take e _ (pass (kind.Reserved word.Else) (suc d)) _ _ (kind.Reserved word.Else) (suc d) [] _ he refl
      ∙ ap (mark (suc d)) (reads r tt (suc d) rest (make choose ∷ unchained ss) _ n
      ∙ ap (marks (depths r (suc d))) (makes choose rest _ _ ∙ past_chains rest ss _ n)))))
      ∙ sym (marks2 (depths p (suc d)) (suc d ∷ depths q (suc d)) (suc d ∷ depths r (suc d)) _))
  reads (group_type u w c p hc q) i d rest ss v n = ap (λ z. run z (element_wants of_groups d ++ ss) v) (append_assoc u (c ∷ w) rest)
      ∙ reads p tt d (c ∷ w ++ rest) _ v (pulls c _ (kind.Sign sign.Colon) _ hc (omega arith))
      ∙ ap (marks (depths p d)) (items_ends of_names d c _ _ _ (kind.Sign sign.Colon) hc refl
      ∙ step_take c _ (pass (kind.Sign sign.Colon) d) _ _ (kind.Sign sign.Colon) d [] _ hc refl
      ∙ ap (mark d) (reads q tt d rest (make group_names ∷ ss) _ (omega arith)
      ∙ ap (marks (depths q d)) (no_type _ rest _ _ n ∙ makes group_names rest _ _)))
      ∙ sym (marks_append (depths p d) (d ∷ depths q d) _)
  reads (trigger_exprs p) i d rest ss v n = reads p tt d rest (make match_terms ∷ ss) v (omega arith) ∙ ap (marks (depths p d)) (no_more_exprs d rest _ _ n ∙ makes match_terms rest _ _)
  reads (rel_two {a} {b} u w t o p h q) i d rest ss v n = ap (λ z. run z (a_rel d ∷ ss) v) (append_assoc u (t ∷ w) rest)
      ∙ as_rel d _ ss v
      ∙ reads p tt d (t ∷ w ++ rest) (more_rel d ∷ ss) v (pull_is t _ 6 _ (relation_pull t.kind o h) (omega arith))
      ∙ ap (marks (depths p d)) (no_sum _ _ _ _ (pull_is t _ 6 _ (relation_pull t.kind o h) (omega arith))
      ∙ step_take t (w ++ rest) (more_rel d) ss (tree a ∷ v) t.kind d (a_sum d ∷ make (join o) ∷ []) _ refl (ap (λ r. operand d (tree a ∷ v) a_sum [] r) h)
      ∙ ap (mark d) (reads q tt d rest (make (join o) ∷ ss) (tree a ∷ v) (omega arith)
      ∙ ap (marks (depths q d)) (no_sum _ rest _ _ (omega arith) ∙ makes (join o) rest ss _)))
      ∙ sym (marks_append (depths p d) (d ∷ depths q d) _)
  reads (rel_sum p) i d rest ss v n = as_rel d _ ss v ∙ reads p tt d rest (more_rel d ∷ ss) v (omega arith) ∙ ap (marks (depths p d)) (no_sum _ rest _ _ (omega arith) ∙ no_rel d rest ss _ n)
  reads (sum_two {a} {b} u w t o p h q) i d rest ss v n = ap (λ z. run z (a_sum d ∷ ss) v) (append_assoc u (t ∷ w) rest)
      ∙ reads p tt d (t ∷ w ++ rest) ss v (pull_is t _ 7 _ (additive_pull t.kind o h) (omega arith))
      ∙ ap (marks (depths p d)) (step_take t (w ++ rest) (more_sum (in_chain p d)) ss (tree a ∷ v) t.kind (suc (in_chain p d)) (a_prod (suc (in_chain p d)) ∷ make (join o) ∷ more_sum (suc (in_chain p d)) ∷ []) _ refl (ap (λ r. operand (suc (in_chain p d)) (tree a ∷ v) a_prod (more_sum (suc (in_chain p d)) ∷ []) r) h)
      ∙ ap (mark (suc (in_chain p d))) (reads q tt (suc (in_chain p d)) rest (make (join o) ∷ more_sum (suc (in_chain p d)) ∷ ss) (tree a ∷ v) (omega arith)
      ∙ ap (marks (depths q (suc (in_chain p d)))) (no_prod _ rest _ _ n ∙ makes (join o) rest _ _)))
      ∙ sym (marks_append (depths p d) (suc (in_chain p d) ∷ depths q (suc (in_chain p d))) _)
  reads (sum_prod p) i d rest ss v n = as_sum d _ ss v ∙ reads p tt d rest (more_sum d ∷ ss) v (omega arith) ∙ ap (marks (depths p d)) (no_prod _ rest _ _ n)
  reads (prod_two {a} {b} u w t o p h q) i d rest ss v n = ap (λ z. run z (a_prod d ∷ ss) v) (append_assoc u (t ∷ w) rest)
      ∙ reads p tt d (t ∷ w ++ rest) ss v (pull_is t _ 8 _ (multiplicative_pull t.kind o h) (omega arith))
      ∙ ap (marks (depths p d)) (step_take t (w ++ rest) (more_prod (in_chain p d)) ss (tree a ∷ v) t.kind (suc (in_chain p d)) (a_unary (suc (in_chain p d)) ∷ make (join o) ∷ more_prod (suc (in_chain p d)) ∷ []) _ refl (ap (λ r. operand (suc (in_chain p d)) (tree a ∷ v) a_unary (more_prod (suc (in_chain p d)) ∷ []) r) h)
      ∙ ap (mark (suc (in_chain p d))) (reads q tt (suc (in_chain p d)) rest (make (join o) ∷ more_prod (suc (in_chain p d)) ∷ ss) (tree a ∷ v) (omega arith)
      ∙ ap (marks (depths q (suc (in_chain p d)))) (makes (join o) rest _ _)))
      ∙ sym (marks_append (depths p d) (suc (in_chain p d) ∷ depths q (suc (in_chain p d))) _)
  reads (prod_unary p) i d rest ss v n = as_prod d _ ss v ∙ reads p tt d rest (more_prod d ∷ ss) v n
  reads (unary_minus w t h p) i d rest ss v n = step_take t (w ++ rest) (a_unary d) ss v (kind.Sign sign.Minus) (suc d) _ _ h refl ∙ ap (mark (suc d)) (reads p tt (suc d) rest (make oppose ∷ ss) (token t ∷ v) n ∙ ap (marks (depths p (suc d))) (makes oppose rest ss _))
  reads (unary_post {e} {w} p) i d rest ss v n = as_unary d (w ++ rest) ss v (begins_atom_more w rest (begins_atom p tt)) ∙ reads p tt d rest ss v (omega arith) ∙ ap (marks (depths p d)) (no_post _ rest ss _ n)
  reads (post_field {e} u k m p h g) i d rest ss v n = ap (λ z. run z (a_post d ∷ ss) v) (append_assoc u (k ∷ m ∷ []) rest)
      ∙ reads p tt d (k ∷ m ∷ rest) ss v (pulls k _ (kind.Sign sign.Dot) _ h (omega arith))
      ∙ ap (marks (depths p d)) (step_take k (m ∷ rest) (more_post (in_chain p d)) ss (tree e ∷ v) (kind.Sign sign.Dot) _ _ _ h refl
      ∙ ap (mark (suc (in_chain p d))) (step_take m rest (keep kind.Ident (suc (in_chain p d))) _ _ kind.Ident _ [] _ g refl
      ∙ ap (mark (suc (in_chain p d))) (makes take_field rest _ _)))
      ∙ sym (marks_append (depths p d) (suc (in_chain p d) ∷ suc (in_chain p d) ∷ []) _)
  reads (post_atom p) i d rest ss v n = as_post d _ ss v ∙ reads p tt d rest (more_post d ∷ ss) v n
  reads (atom_name m h) i d rest ss v n = step_take m rest (an_atom d) ss v kind.Ident d _ _ h refl ∙ ap (mark d) (no_call d rest ss _ n)
  reads (atom_call w m o c hm ho p hc) i d rest ss v n = ap (λ z. run (m ∷ o ∷ z) (an_atom d ∷ ss) v) (append_assoc w (c ∷ []) rest)
      ∙ step_take m _ (an_atom d) ss v kind.Ident d _ _ hm refl
      ∙ ap (mark d) (step_take o _ (call d) ss _ (kind.Sign sign.OpenParen) (suc d) _ _ ho refl
      ∙ ap (mark (suc d)) (reads p tt (suc d) (c ∷ rest) _ _ (pulls c _ (kind.Sign sign.CloseParen) _ hc (omega arith))
      ∙ ap (marks (depths p (suc d))) (items_ends of_exprs (suc d) c _ _ _ (kind.Sign sign.CloseParen) hc refl
      ∙ step_take c rest (keep (kind.Sign sign.CloseParen) d) _ _ (kind.Sign sign.CloseParen) d [] _ hc refl
      ∙ ap (mark d) (makes call_it rest _ _))
      ∙ sym (marks_append (depths p (suc d)) (d ∷ []) _)))
  reads (atom_numeral t m h) i d rest ss v n = step_take t rest (an_atom d) ss v t.kind d [] _ refl (numeral_act d v t t.kind m h)
  reads (atom_true t h) i d rest ss v n = step_take t rest (an_atom d) ss v (kind.Reserved word.True) d [] _ h refl
  reads (atom_false t h) i d rest ss v n = step_take t rest (an_atom d) ss v (kind.Reserved word.False) d [] _ h refl
  reads (atom_void t h) i d rest ss v n = step_take t rest (an_atom d) ss v (kind.Reserved word.Void) d [] _ h refl
  reads (atom_brackets w o c ho p hc) i d rest ss v n = ap (λ z. run (o ∷ z) (an_atom d ∷ ss) v) (append_assoc w (c ∷ []) rest)
      ∙ step_take o _ (an_atom d) ss v (kind.Sign sign.OpenParen) (suc d) _ _ ho refl
      ∙ ap (mark (suc d)) (reads p tt (suc d) (c ∷ rest) _ _ (pulls c _ (kind.Sign sign.CloseParen) _ hc (omega arith))
      ∙ ap (marks (depths p (suc d))) (step_take c rest (bracket_end d) _ _ (kind.Sign sign.CloseParen) d _ _ hc refl ∙ ap (mark d) (makes enclose rest _ _))
      ∙ sym (marks_append (depths p (suc d)) (d ∷ []) _))
  reads (atom_ascribed u w o m c ho p hm q hc) i d rest ss v n = ap (λ z. run (o ∷ z) (an_atom d ∷ ss) v) (flat2 u (m ∷ w) (c ∷ []) rest)
      ∙ step_take o _ (an_atom d) ss v (kind.Sign sign.OpenParen) (suc d) _ _ ho refl
      ∙ ap (mark (suc d)) (reads p tt (suc d) (m ∷ w ++ c ∷ rest) _ _ (pulls m _ (kind.Sign sign.Colon) _ hm (omega arith))
      ∙ ap (marks (depths p (suc d))) (step_take m _ (bracket_end d) _ _ (kind.Sign sign.Colon) (suc d) _ _ hm refl
      ∙ ap (mark (suc d)) (reads q tt (suc d) (c ∷ rest) _ _ (pulls c _ (kind.Sign sign.CloseParen) _ hc (omega arith))
      ∙ ap (marks (depths q (suc d))) (no_type _ _ _ _ (pulls c _ (kind.Sign sign.CloseParen) _ hc (omega arith))
      ∙ step_take c rest (keep (kind.Sign sign.CloseParen) d) _ _ (kind.Sign sign.CloseParen) d [] _ hc refl
      ∙ ap (mark d) (makes ascribe rest _ _))))
      ∙ sym (marks2 (depths p (suc d)) (suc d ∷ depths q (suc d)) (d ∷ []) _))
  reads (atom_distinct w t o c ht ho p hc) i d rest ss v n = ap (λ z. run (t ∷ o ∷ z) (an_atom d ∷ ss) v) (append_assoc w (c ∷ []) rest)
      ∙ step_take t _ (an_atom d) ss v (kind.Reserved word.Distinct) d _ _ ht refl
      ∙ ap (mark d) (step_take o _ (pass (kind.Sign sign.OpenParen) (suc d)) _ _ (kind.Sign sign.OpenParen) (suc d) [] _ ho refl
      ∙ ap (mark (suc d)) (reads p tt (suc d) (c ∷ rest) _ _ (pulls c _ (kind.Sign sign.CloseParen) _ hc (omega arith))
      ∙ ap (marks (depths p (suc d))) (items_ends of_exprs (suc d) c _ _ _ (kind.Sign sign.CloseParen) hc refl
      ∙ step_take c rest (keep (kind.Sign sign.CloseParen) d) _ _ (kind.Sign sign.CloseParen) d [] _ hc refl
      ∙ ap (mark d) (makes all_differ rest _ _))
      ∙ sym (marks_append (depths p (suc d)) (d ∷ []) _)))
  reads (atom_record w o c ho p hc) i d rest ss v n = ap (λ z. run (o ∷ z) (an_atom d ∷ ss) v) (append_assoc w (c ∷ []) rest)
      ∙ step_take o _ (an_atom d) ss v (kind.Sign sign.OpenBrace) (suc d) _ _ ho refl
      ∙ ap (mark (suc d)) (as_record p d (c ∷ rest) ss (token o ∷ v)
      ∙ reads p tt (suc d) (c ∷ rest) _ _ (pulls c _ (kind.Sign sign.CloseBrace) _ hc (omega arith))
      ∙ ap (marks (depths p (suc d))) (items_ends of_settings (suc d) c _ _ _ (kind.Sign sign.CloseBrace) hc refl
      ∙ step_take c rest (keep (kind.Sign sign.CloseBrace) d) _ _ (kind.Sign sign.CloseBrace) d [] _ hc refl
      ∙ ap (mark d) (makes build rest _ _))
      ∙ sym (marks_append (depths p (suc d)) (d ∷ []) _))
  reads (atom_update u w o m c ho p hm q hc) i d rest ss v n = ap (λ z. run (o ∷ z) (an_atom d ∷ ss) v) (flat2 u (m ∷ w) (c ∷ []) rest)
      ∙ step_take o _ (an_atom d) ss v (kind.Sign sign.OpenBrace) (suc d) _ _ ho refl
      ∙ ap (mark (suc d)) (as_update p d m (w ++ c ∷ rest) ss (token o ∷ v) hm
      ∙ reads p tt (suc d) (m ∷ w ++ c ∷ rest) _ _ (pulls m _ (kind.Reserved word.With) _ hm (omega arith))
      ∙ ap (marks (depths p (suc d))) (no_post _ _ _ _ (pulls m _ (kind.Reserved word.With) _ hm (omega arith))
      ∙ step_take m _ (pass (kind.Reserved word.With) (suc d)) _ _ (kind.Reserved word.With) (suc d) [] _ hm refl
      ∙ ap (mark (suc d)) (reads q tt (suc d) (c ∷ rest) _ _ (pulls c _ (kind.Sign sign.CloseBrace) _ hc (omega arith))
      ∙ ap (marks (depths q (suc d))) (items_ends of_settings (suc d) c _ _ _ (kind.Sign sign.CloseBrace) hc refl
      ∙ step_take c rest (keep (kind.Sign sign.CloseBrace) d) _ _ (kind.Sign sign.CloseBrace) d [] _ hc refl
      ∙ ap (mark d) (makes change rest _ _))))
      ∙ sym (marks2 (depths p (suc d)) (suc d ∷ depths q (suc d)) (d ∷ []) _))
  reads (id_value w m q hm hq p) i d rest ss v n = step_take m (q ∷ w ++ rest) (keep kind.Ident d) _ v kind.Ident d [] _ hm refl
      ∙ ap (mark d) (step_take q (w ++ rest) (pass (kind.Sign sign.Equal) d) _ _ (kind.Sign sign.Equal) d [] _ hq refl
      ∙ ap (mark d) (reads p tt d rest (make set ∷ ss) (token m ∷ v) n
      ∙ ap (marks (depths p d)) (makes set rest _ _)))

  reads_squares : {w : List Token} {ts : List Trigger} (h : Is in_squares w (triggers ts)) (d : ℕ) (c : Token) (rest : List Token) (ss : List Want) (v : List Part) → c.kind ≡ (kind.Sign sign.Dot) → run (w ++ c ∷ rest) (triggers_or_dot d ∷ ss) v ≡ marks (depths h d) (mark d (run rest ss (triggers ts ∷ v)))
  reads_squares squares_none d c rest ss v hc = step_take c rest (triggers_or_dot d) ss v (kind.Sign sign.Dot) d [] _ hc refl
  reads_squares (squares_some w o e ho p he) d c rest ss v hc = ap (λ z. run (o ∷ z) (triggers_or_dot d ∷ ss) v) (append_assoc w (e ∷ []) (c ∷ rest))
      ∙ step_take o _ (triggers_or_dot d) ss v (kind.Sign sign.OpenBracket) (suc d) _ _ ho refl
      ∙ ap (mark (suc d)) (reads p tt (suc d) (e ∷ c ∷ rest) _ _ (pulls e _ (kind.Sign sign.CloseBracket) _ he (omega arith))
      ∙ ap (marks (depths p (suc d))) (items_ends of_triggers (suc d) e _ _ _ (kind.Sign sign.CloseBracket) he refl
      ∙ step_take e _ (pass (kind.Sign sign.CloseBracket) d) _ _ (kind.Sign sign.CloseBracket) d [] _ he refl
      ∙ ap (mark d) (step_take c rest (pass (kind.Sign sign.Dot) d) _ _ (kind.Sign sign.Dot) d [] _ hc refl))
      ∙ sym (marks_append (depths p (suc d)) (d ∷ []) _))
