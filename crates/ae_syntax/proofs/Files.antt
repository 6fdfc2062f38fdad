-- Declarations and files: the machine reads what the grammar relates to tokens.
use Rattle.std.proofs.Common.{ℕ, suc, ◌<◌, Bool, false, cond, List, [], ◌∷◌, ◌++◌, ◌≡◌, refl, sym, ap, ◌∙◌, subst, arith, append_assoc, append-nil}
use Rattle.ae_lex.specs.declared.kinds.Token.{Token}
use Rattle.ae_lex.specs.declared.kinds.TokenKind.{TokenKind}
use Rattle.ae_lex.specs.declared.kinds.TokenKind.TheVariants as kind
use Rattle.ae_lex.specs.declared.kinds.Reserved.TheVariants as word
use Rattle.ae_lex.specs.declared.kinds.Sign.TheVariants as sign
use Rattle.ae_syntax.specs.Parts.{Part, token}
use Rattle.ae_syntax.specs.Grammar.{Level, Is, file, a_decl, id, ac, params, formals, in_brackets, arguments, typed_id, a_result, a_type, some, of_names, of_constructors, of_vars, of_types, of_fields, of_formals, file_none, file_decl, some_one, some_more, decl_type, decl_record, decl_enumeration, decl_logic, decl_function, decl_predicate, decl_axiom, decl_goal, is_id, ac_none, ac_word, params_none, params_var, params_vars, id_type, formals_none, formals_some, brackets_none, brackets_some, arguments_none, arguments_some, result_type, result_prop, type_int, type_real, type_bool, type_unit, type_var, type_name, type_postfix, type_brackets}
use Rattle.ae_syntax.specs.Depth.{depths}
use Rattle.ae_syntax.specs.Inner.Machine.{begin, add, apply, Want, more, keep, pass, make, a_file, type_head, type_body, type_definition, type_end, logic_head, logic_sorts, after_sort, a_result as a_result_want, formals_end, predicate_head, be_abstract, be_record, be_choice, be_symbols, be_function, be_predicate, be_axiom, be_goal, more_params, sort_result, record_wants, on_type, take, then_wants, items_wants, Outcome, mark, run, a_type as a_type_want}
use Rattle.ae_syntax.proofs.Steps.{no_body, no_end, no_after, run_is, run_act, step_take, makes, pull, pulls, no_type}
use Rattle.ae_syntax.proofs.Levels.{deeper_plain}
use Rattle.ae_syntax.specs.declared.spans.Span.{Span}
use Rattle.ae_syntax.specs.declared.types.WrittenType.{WrittenType}
use Rattle.ae_syntax.specs.declared.decls.TypedName.{TypedName}
use Rattle.ae_syntax.specs.declared.decls.SymbolResult.{SymbolResult}
use Rattle.ae_syntax.specs.declared.decls.Decl.{Decl}
use Rattle.ae_syntax.specs.Parts.{names, sorts, typeds, result, decl, decls, flag, prop_at}
use Rattle.ae_syntax.specs.Inner.SameKinds.{same}
use Rattle.std.proofs.Common.{take as front}
use Rattle.std.proofs.Common.{zero, length}
use Rattle.ae_syntax.specs.Inner.Machine.{Fed, fed, unfed, onward, finish, feed, read, stops}
use Rattle.ae_syntax.proofs.Acts.{plain_take, plain_refuse, Plain, plain_cond, plain_some}
use Rattle.ae_syntax.proofs.Steps.{no_more_constructors}
use Rattle.ae_syntax.proofs.GrammarToMachine.{marks, marks_append, marks2, marks3, flat2, flat3, reads, items_ends}

-- ---- the head of a type's declaration
abbrev type_rest : {w : List Token} {p : Part} → Is params w p → Want
type_rest params_none = type_body
type_rest _ = type_end

type_named : {w : List Token} {ps : List Span} (h : Is params w (names ps)) (m : Token) (rest : List Token) (ss : List Want) (v : List Part) → m.kind ≡ kind.Ident → run (w ++ m ∷ rest) (type_head ∷ ss) v ≡ marks (depths h 0) (mark 0 (run rest (type_rest h ∷ ss) (token m ∷ names ps ∷ v)))
type_named params_none m rest ss v hm = step_take m rest type_head ss v kind.Ident 0 _ _ hm refl
type_named (params_var t h) m rest ss v hm = step_take t _ type_head ss v kind.TypeVar 0 _ _ h refl ∙ ap (mark 0) (step_take m rest (keep kind.Ident 0) _ _ kind.Ident 0 [] _ hm refl)
type_named (params_vars w o x e c ho hx he p hc) m rest ss v hm = ap (λ z. run (o ∷ x ∷ e ∷ z) (type_head ∷ ss) v) (append_assoc w (c ∷ []) (m ∷ rest))
    ∙ step_take o _ type_head ss v (kind.Sign sign.OpenParen) 1 _ _ ho refl
    ∙ ap (mark 1) (step_take x _ (keep kind.TypeVar 1) _ _ kind.TypeVar 1 [] _ hx refl
    ∙ ap (mark 1) (step_take e _ (pass (kind.Sign sign.Comma) 1) _ _ (kind.Sign sign.Comma) 1 [] _ he refl
    ∙ ap (mark 1) (reads p tt 1 (c ∷ m ∷ rest) _ _ (pulls c _ (kind.Sign sign.CloseParen) _ hc (omega arith))
    ∙ ap (marks (depths p 1)) (items_ends of_vars 1 c _ _ _ (kind.Sign sign.CloseParen) hc refl
    ∙ step_take c _ (pass (kind.Sign sign.CloseParen) 0) _ _ (kind.Sign sign.CloseParen) 0 [] _ hc refl
    ∙ ap (mark 0) (makes more_params _ _ _ ∙ step_take m rest (keep kind.Ident 0) _ _ kind.Ident 0 [] _ hm refl))
    ∙ sym (marks_append (depths p 1) (0 ∷ []) _))))

type_ends : {w : List Token} {p : Part} (h : Is params w p) (rest : List Token) (ss : List Want) (v : List Part) → pull rest < 6 → run rest (type_rest h ∷ ss) v ≡ run rest ss (apply be_abstract v)
type_ends params_none rest ss v l = no_body rest ss v l
type_ends (params_var t h) rest ss v l = no_end rest ss v l
type_ends (params_vars w o x e c ho hx he p hc) rest ss v l = no_end rest ss v l

type_opens : {w : List Token} {p : Part} (h : Is params w p) (e o : Token) (rest : List Token) (ss : List Want) (v : List Part) → e.kind ≡ (kind.Sign sign.Equal) → o.kind ≡ (kind.Sign sign.OpenBrace) → run (e ∷ o ∷ rest) (type_rest h ∷ ss) v ≡ mark 0 (mark 1 (run rest (record_wants ++ ss) v))
type_opens params_none e o rest ss v he ho = step_take e _ type_body ss v (kind.Sign sign.Equal) 0 _ _ he refl ∙ ap (mark 0) (step_take o rest type_definition ss v (kind.Sign sign.OpenBrace) 1 _ _ ho refl)
type_opens (params_var t h) e o rest ss v he ho = step_take e _ type_end ss v (kind.Sign sign.Equal) 0 _ _ he refl ∙ ap (mark 0) (step_take o rest (pass (kind.Sign sign.OpenBrace) 1) _ v (kind.Sign sign.OpenBrace) 1 [] _ ho refl)
type_opens (params_vars w p x t c hp hx ht q hc) e o rest ss v he ho = step_take e _ type_end ss v (kind.Sign sign.Equal) 0 _ _ he refl ∙ ap (mark 0) (step_take o rest (pass (kind.Sign sign.OpenBrace) 1) _ v (kind.Sign sign.OpenBrace) 1 [] _ ho refl)

-- ---- items that begin with an identifier
record Named (w : List Token) : Type 0 where
  pub name : Token
  pub more_tokens : List Token
  pub whole : w ≡ name ∷ more_tokens
  pub is_name : name.kind ≡ kind.Ident

abbrev NameFirst : Level → Type 0
NameFirst id = Unit {0}
NameFirst typed_id = Unit {0}
NameFirst (some of_names) = Unit {0}
NameFirst (some of_constructors) = Unit {0}
NameFirst (some of_formals) = Unit {0}
NameFirst _ = ⊥

longer : (u x : List Token) → Named u → Named (u ++ x)
longer u x s = record { name = s.name; more_tokens = s.more_tokens ++ x; whole = ap (λ z. z ++ x) s.whole; is_name = s.is_name }

named_first : {l : Level} {w : List Token} {p : Part} → Is l w p → NameFirst l → Named w
named_first (is_id t h) i = record { name = t; more_tokens = []; whole = refl; is_name = h }
named_first (id_type w m c hm hc p) i = record { name = m; more_tokens = c ∷ w; whole = refl; is_name = hm }
named_first (some_one of_names p) i = named_first p tt
named_first (some_one of_constructors p) i = named_first p tt
named_first (some_one of_formals p) i = named_first p tt
named_first (some_more of_names u w t p h e) i = longer u (t ∷ w) (named_first p tt)
named_first (some_more of_constructors u w t p h e) i = longer u (t ∷ w) (named_first p tt)
named_first (some_more of_formals u w t p h e) i = longer u (t ∷ w) (named_first p tt)
named_first _ i = absurd i

as_choices : {w : List Token} {p : Part} → Is (some of_constructors) w p → (rest : List Token) (ss : List Want) (v : List Part) → run (w ++ rest) (type_definition ∷ ss) v ≡ run (w ++ rest) (items_wants of_constructors 0 ++ make be_choice ∷ ss) v
as_choices h rest ss v = let s = named_first h tt in
    ap (λ z. run (z ++ rest) (type_definition ∷ ss) v) s.whole
    ∙ step_take s.name _ type_definition ss v kind.Ident 0 _ _ s.is_name refl
    ∙ sym (step_take s.name _ (keep kind.Ident 0) _ v kind.Ident 0 [] _ s.is_name refl)
    ∙ ap (λ z. run (z ++ rest) (items_wants of_constructors 0 ++ make be_choice ∷ ss) v) (sym s.whole)

as_symbols : {w : List Token} {p : Part} → Is (some of_names) w p → (rest : List Token) (ss : List Want) (v : List Part) → run (w ++ rest) (logic_head ∷ ss) v ≡ run (w ++ rest) (items_wants of_names 0 ++ pass (kind.Sign sign.Colon) 0 ∷ logic_sorts ∷ ss) (flag false ∷ v)
as_symbols h rest ss v = let s = named_first h tt in
    ap (λ z. run (z ++ rest) (logic_head ∷ ss) v) s.whole
    ∙ step_take s.name _ logic_head ss v kind.Ident 0 _ _ s.is_name refl
    ∙ sym (step_take s.name _ (keep kind.Ident 0) _ _ kind.Ident 0 [] _ s.is_name refl)
    ∙ ap (λ z. run (z ++ rest) (items_wants of_names 0 ++ pass (kind.Sign sign.Colon) 0 ∷ logic_sorts ∷ ss) (flag false ∷ v)) (sym s.whole)

as_formals : {w : List Token} {p : Part} → Is (some of_formals) w p → (rest : List Token) (ss : List Want) (v : List Part) → run (w ++ rest) (formals_end ∷ ss) v ≡ run (w ++ rest) (items_wants of_formals 1 ++ pass (kind.Sign sign.CloseParen) 0 ∷ ss) v
as_formals h rest ss v = let s = named_first h tt in
    ap (λ z. run (z ++ rest) (formals_end ∷ ss) v) s.whole
    ∙ step_take s.name _ formals_end ss v kind.Ident 1 _ _ s.is_name refl
    ∙ sym (step_take s.name _ (keep kind.Ident 1) _ v kind.Ident 1 [] _ s.is_name refl)
    ∙ ap (λ z. run (z ++ rest) (items_wants of_formals 1 ++ pass (kind.Sign sign.CloseParen) 0 ∷ ss) v) (sym s.whole)

reads_formals : {w : List Token} {fs : List TypedName} (h : Is formals w (typeds fs)) (c : Token) (rest : List Token) (ss : List Want) (v : List Part) → c.kind ≡ (kind.Sign sign.CloseParen) → run (w ++ c ∷ rest) (formals_end ∷ ss) v ≡ marks (depths h 1) (mark 0 (run rest ss (typeds fs ∷ v)))
reads_formals formals_none c rest ss v hc = step_take c rest formals_end ss v (kind.Sign sign.CloseParen) 0 [] _ hc refl
reads_formals (formals_some p) c rest ss v hc = as_formals p (c ∷ rest) ss v
    ∙ reads p tt 1 (c ∷ rest) _ v (pulls c _ (kind.Sign sign.CloseParen) _ hc (omega arith))
    ∙ ap (marks (depths p 1)) (items_ends of_formals 1 c _ _ _ (kind.Sign sign.CloseParen) hc refl ∙ step_take c rest (pass (kind.Sign sign.CloseParen) 0) _ _ (kind.Sign sign.CloseParen) 0 [] _ hc refl)

reads_brackets : {w : List Token} {fs : List TypedName} (h : Is in_brackets w (typeds fs)) (q : Token) (rest : List Token) (ss : List Want) (v : List Part) → q.kind ≡ (kind.Sign sign.Equal) → run (w ++ q ∷ rest) (predicate_head ∷ ss) v ≡ marks (depths h 0) (mark 0 (run rest ss (typeds fs ∷ v)))
reads_brackets brackets_none q rest ss v hq = step_take q rest predicate_head ss v (kind.Sign sign.Equal) 0 [] _ hq refl
reads_brackets (brackets_some w o c ho p hc) q rest ss v hq = ap (λ z. run (o ∷ z) (predicate_head ∷ ss) v) (append_assoc w (c ∷ []) (q ∷ rest))
    ∙ step_take o _ predicate_head ss v (kind.Sign sign.OpenParen) 1 _ _ ho refl
    ∙ ap (mark 1) (reads_formals p c (q ∷ rest) _ v hc
    ∙ ap (marks (depths p 1)) (ap (mark 0) (step_take q rest (pass (kind.Sign sign.Equal) 0) _ _ (kind.Sign sign.Equal) 0 [] _ hq refl))
    ∙ sym (marks_append (depths p 1) (0 ∷ []) _))

-- ---- the sorts of symbols
-- a type doesn't begin with `prop`
record Sorted (w : List Token) : Type 0 where
  pub first : Token
  pub more_tokens : List Token
  pub whole : w ≡ first ∷ more_tokens
  pub is : same first.kind (kind.Reserved word.Prop) ≡ false

sorted_longer : (u x : List Token) → Sorted u → Sorted (u ++ x)
sorted_longer u x s = record { first = s.first; more_tokens = s.more_tokens ++ x; whole = ap (λ z. z ++ x) s.whole; is = s.is }

sorted_by : (t : Token) (ts : List Token) (k : TokenKind) → t.kind ≡ k → same k (kind.Reserved word.Prop) ≡ false → Sorted (t ∷ ts)
sorted_by t ts k h e = record { first = t; more_tokens = ts; whole = refl; is = ap (λ k. same k (kind.Reserved word.Prop)) h ∙ e }

abbrev SortFirst : Level → Type 0
SortFirst a_type = Unit {0}
SortFirst (some of_types) = Unit {0}
SortFirst _ = ⊥

sorted_first : {l : Level} {w : List Token} {p : Part} → Is l w p → SortFirst l → Sorted w
sorted_first (type_int t h) i = sorted_by t [] _ h refl
sorted_first (type_real t h) i = sorted_by t [] _ h refl
sorted_first (type_bool t h) i = sorted_by t [] _ h refl
sorted_first (type_unit t h) i = sorted_by t [] _ h refl
sorted_first (type_var t h) i = sorted_by t [] _ h refl
sorted_first (type_name t h) i = sorted_by t [] _ h refl
sorted_first (type_postfix u m p h) i = sorted_longer u (m ∷ []) (sorted_first p tt)
sorted_first (type_brackets u w o m c e ho p hm q hc he) i = sorted_by o _ _ ho refl
sorted_first (some_one of_types p) i = sorted_first p tt
sorted_first (some_more of_types u w t p h e) i = sorted_longer u (t ∷ w) (sorted_first p tt)
sorted_first _ i = absurd i

plain_type : (d : ℕ) (v : List Part) (t : Token) (k : TokenKind) → Plain (on_type d v t k)
plain_type d v t k = search (plain_cond, plain_some, plain_take, plain_refuse) depth 12

as_sorts : (w : List Token) → Sorted w → (rest : List Token) (ss : List Want) (v : List Part) → run (w ++ rest) (logic_sorts ∷ ss) v ≡ run (w ++ rest) (a_type_want 0 ∷ after_sort ∷ ss) v
as_sorts w s rest ss v = ap (λ z. run (z ++ rest) (logic_sorts ∷ ss) v) s.whole
    ∙ run_act s.first _ logic_sorts ss v s.first.kind _ refl (ap (λ b. cond b (take 0 (make be_symbols ∷ []) (result (prop_at s.first) ∷ sorts [] ∷ v)) (then_wants (on_type 0 v s.first s.first.kind) (after_sort ∷ []))) s.is)
    ∙ deeper_plain (on_type 0 v s.first s.first.kind) (after_sort ∷ []) ss s.first _ (plain_type 0 v s.first s.first.kind)
    ∙ sym (run_is s.first _ (a_type_want 0) (after_sort ∷ ss) v)
    ∙ ap (λ z. run (z ++ rest) (a_type_want 0 ∷ after_sort ∷ ss) v) (sym s.whole)

as_result : (w : List Token) → Sorted w → (rest : List Token) (ss : List Want) (v : List Part) → run (w ++ rest) (a_result_want ∷ ss) v ≡ run (w ++ rest) (a_type_want 0 ∷ make sort_result ∷ ss) v
as_result w s rest ss v = ap (λ z. run (z ++ rest) (a_result_want ∷ ss) v) s.whole
    ∙ run_act s.first _ a_result_want ss v s.first.kind _ refl (ap (λ b. cond b (take 0 [] (result (prop_at s.first) ∷ v)) (then_wants (on_type 0 v s.first s.first.kind) (make sort_result ∷ []))) s.is)
    ∙ deeper_plain (on_type 0 v s.first s.first.kind) (make sort_result ∷ []) ss s.first _ (plain_type 0 v s.first s.first.kind)
    ∙ sym (run_is s.first _ (a_type_want 0) (make sort_result ∷ ss) v)
    ∙ ap (λ z. run (z ++ rest) (a_type_want 0 ∷ make sort_result ∷ ss) v) (sym s.whole)

reads_result : {w : List Token} {r : SymbolResult} (h : Is a_result w (result r)) (rest : List Token) (ss : List Want) (v : List Part) → pull rest < 10 → run (w ++ rest) (a_result_want ∷ ss) v ≡ marks (depths h 0) (run rest ss (result r ∷ v))
reads_result (result_prop t h) rest ss v l = step_take t rest a_result_want ss v (kind.Reserved word.Prop) 0 [] _ h refl
reads_result (result_type {s} {w} p) rest ss v l = as_result w (sorted_first p tt) rest ss v ∙ reads p tt 0 rest _ v (omega arith) ∙ ap (marks (depths p 0)) (no_type _ rest _ _ l ∙ makes sort_result rest _ _)

symbol_wants : List Want
symbol_wants = pass (kind.Sign sign.Arrow) 0 ∷ a_result_want ∷ make be_symbols ∷ []

after_comma : (t : Token) (ts : List Token) (ss : List Want) (v : List Part) → t.kind ≡ (kind.Sign sign.Comma) → run (t ∷ ts) (after_sort ∷ ss) v ≡ run (t ∷ ts) (make begin ∷ more of_types 0 ∷ pass (kind.Sign sign.Arrow) 0 ∷ a_result_want ∷ make be_symbols ∷ ss) v
after_comma t ts ss v h = step_take t ts after_sort ss v (kind.Sign sign.Comma) 0 _ _ h refl ∙ sym (makes begin _ _ _ ∙ step_take t ts (more of_types 0) _ _ (kind.Sign sign.Comma) 0 _ _ h refl)

after_arrow : (t : Token) (ts : List Token) (ss : List Want) (v : List Part) → t.kind ≡ (kind.Sign sign.Arrow) → run (t ∷ ts) (after_sort ∷ ss) v ≡ run (t ∷ ts) (make begin ∷ more of_types 0 ∷ pass (kind.Sign sign.Arrow) 0 ∷ a_result_want ∷ make be_symbols ∷ ss) v
after_arrow t ts ss v h = step_take t ts after_sort ss v (kind.Sign sign.Arrow) 0 _ _ h refl ∙ sym (makes begin _ _ _ ∙ items_ends of_types 0 t ts _ _ (kind.Sign sign.Arrow) h refl ∙ step_take t ts (pass (kind.Sign sign.Arrow) 0) _ _ (kind.Sign sign.Arrow) 0 [] _ h refl)

-- the first of some types, and then what follows it, are the types
first_of_items : {l : Level} {w : List Token} {p : Part} → Is l w p → l ≡ some of_types → (t : Token) (ts : List Token) (ss : List Want) (v : List Part) → pull (t ∷ ts) < 10 → ((v : List Part) → run (t ∷ ts) (after_sort ∷ ss) v ≡ run (t ∷ ts) (make begin ∷ more of_types 0 ∷ pass (kind.Sign sign.Arrow) 0 ∷ a_result_want ∷ make be_symbols ∷ ss) v) → run (w ++ t ∷ ts) (a_type_want 0 ∷ after_sort ∷ ss) v ≡ run (w ++ t ∷ ts) (items_wants of_types 0 ++ pass (kind.Sign sign.Arrow) 0 ∷ a_result_want ∷ make be_symbols ∷ ss) v
first_of_items (some_one of_types p) e t ts ss v l f = reads p tt 0 (t ∷ ts) (after_sort ∷ ss) v (omega arith)
    ∙ ap (marks (depths p 0)) (no_type _ _ _ _ l ∙ f _ ∙ sym (no_type _ _ _ _ l))
    ∙ sym (reads p tt 0 (t ∷ ts) _ v (omega arith))
first_of_items (some_more of_types u w m p h g) e t ts ss v l f = ap (λ z. run z (a_type_want 0 ∷ after_sort ∷ ss) v) (append_assoc u (m ∷ w) (t ∷ ts))
    ∙ first_of_items p refl m (w ++ t ∷ ts) ss v (pulls m _ (kind.Sign sign.Comma) _ h (omega arith)) (λ v. after_comma m (w ++ t ∷ ts) ss v h)
    ∙ ap (λ z. run z (items_wants of_types 0 ++ pass (kind.Sign sign.Arrow) 0 ∷ a_result_want ∷ make be_symbols ∷ ss) v) (sym (append_assoc u (m ∷ w) (t ∷ ts)))
first_of_items _ e t ts ss v l f = cc

reads_arity : {w x : List Token} {xs : List WrittenType} {r : SymbolResult} (h : Is arguments w (sorts xs)) (k : Is a_result x (result r)) (rest : List Token) (ss : List Want) (v : List Part) → pull rest < 1 → run (w ++ (x ++ rest)) (logic_sorts ∷ ss) v ≡ marks (depths h 0) (marks (depths k 0) (run rest ss (apply be_symbols (result r ∷ sorts xs ∷ v))))
reads_arity arguments_none (result_prop t h) rest ss v l = step_take t rest logic_sorts ss v (kind.Reserved word.Prop) 0 _ _ h refl ∙ ap (mark 0) (makes be_symbols rest ss _)
reads_arity arguments_none (result_type {s} {w} p) rest ss v l = as_sorts w (sorted_first p tt) rest ss v
    ∙ reads p tt 0 rest (after_sort ∷ ss) v (omega arith)
    ∙ ap (marks (depths p 0)) (no_type _ rest _ _ (omega arith) ∙ no_after rest ss _ (omega arith))
reads_arity {x = x} (arguments_some w a p h) k rest ss v l = ap (λ z. run z (logic_sorts ∷ ss) v) (append_assoc w (a ∷ []) (x ++ rest))
    ∙ as_sorts w (sorted_first p tt) (a ∷ (x ++ rest)) ss v
    ∙ first_of_items p refl a (x ++ rest) ss v (pulls a _ (kind.Sign sign.Arrow) _ h (omega arith)) (λ v. after_arrow a (x ++ rest) ss v h)
    ∙ reads p tt 0 (a ∷ (x ++ rest)) _ v (pulls a _ (kind.Sign sign.Arrow) _ h (omega arith))
    ∙ ap (marks (depths p 0)) (items_ends of_types 0 a _ _ _ (kind.Sign sign.Arrow) h refl
    ∙ step_take a _ (pass (kind.Sign sign.Arrow) 0) _ _ (kind.Sign sign.Arrow) 0 [] _ h refl
    ∙ ap (mark 0) (reads_result k rest _ _ (omega arith) ∙ ap (marks (depths k 0)) (makes be_symbols rest ss _)))
    ∙ sym (marks_append (depths p 0) (0 ∷ []) _)

reads_ac : {u x : List Token} {a : Bool} {p : Part} (h : Is ac u (flag a)) → Is (some of_names) x p → (rest : List Token) (ss : List Want) (v : List Part) → run (u ++ (x ++ rest)) (logic_head ∷ ss) v ≡ marks (depths h 0) (run (x ++ rest) (items_wants of_names 0 ++ pass (kind.Sign sign.Colon) 0 ∷ logic_sorts ∷ ss) (flag a ∷ v))
reads_ac ac_none q rest ss v = as_symbols q rest ss v
reads_ac (ac_word t h) q rest ss v = step_take t _ logic_head ss v (kind.Reserved word.Ac) 0 _ _ h refl

-- ---- declarations
reads_decl : {w : List Token} {x : Decl} (h : Is a_decl w (decl x)) (rest : List Token) (ss : List Want) (v : List Part) → pull rest < 1 → run (w ++ rest) (a_file ∷ ss) v ≡ marks (depths h 0) (run rest (make add ∷ a_file ∷ ss) (decl x ∷ v))
reads_decl (decl_type w t m ht p hm) rest ss v l = ap (λ z. run (t ∷ z) (a_file ∷ ss) v) (append_assoc w (m ∷ []) rest)
    ∙ step_take t _ a_file ss v (kind.Reserved word.Type_) 0 _ _ ht refl
    ∙ ap (mark 0) (type_named p m rest _ _ hm ∙ ap (marks (depths p 0)) (ap (mark 0) (type_ends p rest _ _ (omega arith))) ∙ sym (marks_append (depths p 0) (0 ∷ []) _))
reads_decl (decl_record u w t m e o c ht p hm he ho q hc) rest ss v l = ap (λ z. run (t ∷ z) (a_file ∷ ss) v) (flat2 u (m ∷ e ∷ o ∷ w) (c ∷ []) rest)
    ∙ step_take t _ a_file ss v (kind.Reserved word.Type_) 0 _ _ ht refl
    ∙ ap (mark 0) (type_named p m (e ∷ o ∷ (w ++ c ∷ rest)) _ _ hm
    ∙ ap (marks (depths p 0)) (ap (mark 0) (type_opens p e o (w ++ c ∷ rest) _ _ he ho
    ∙ ap (λ z. mark 0 (mark 1 z)) (reads q tt 1 (c ∷ rest) _ _ (pulls c _ (kind.Sign sign.CloseBrace) _ hc (omega arith))
    ∙ ap (marks (depths q 1)) (items_ends of_fields 1 c _ _ _ (kind.Sign sign.CloseBrace) hc refl
    ∙ step_take c rest (keep (kind.Sign sign.CloseBrace) 0) _ _ (kind.Sign sign.CloseBrace) 0 [] _ hc refl
    ∙ ap (mark 0) (makes be_record rest _ _)))))
    ∙ sym (marks2 (depths p 0) (0 ∷ 0 ∷ 1 ∷ depths q 1) (0 ∷ []) _))
reads_decl (decl_enumeration w t m e ht hm he p) rest ss v l = step_take t _ a_file ss v (kind.Reserved word.Type_) 0 _ _ ht refl
    ∙ ap (mark 0) (step_take m _ type_head _ _ kind.Ident 0 _ _ hm refl
    ∙ ap (mark 0) (step_take e _ type_body _ _ (kind.Sign sign.Equal) 0 _ _ he refl
    ∙ ap (mark 0) (as_choices p rest _ _
    ∙ reads p tt 0 rest _ _ (omega arith)
    ∙ ap (marks (depths p 0)) (no_more_constructors 0 rest _ _ l ∙ makes be_choice rest _ _))))
reads_decl (decl_logic u x w y t c ht p q hc g k) rest ss v l = ap (λ z. run (t ∷ z) (a_file ∷ ss) v) (flat3 u x (c ∷ w) y rest)
    ∙ step_take t _ a_file ss v (kind.Reserved word.Logic) 0 _ _ ht refl
    ∙ ap (mark 0) (reads_ac p q (c ∷ (w ++ (y ++ rest))) _ _
    ∙ ap (marks (depths p 0)) (reads q tt 0 (c ∷ (w ++ (y ++ rest))) _ _ (pulls c _ (kind.Sign sign.Colon) _ hc (omega arith))
    ∙ ap (marks (depths q 0)) (items_ends of_names 0 c _ _ _ (kind.Sign sign.Colon) hc refl
    ∙ step_take c _ (pass (kind.Sign sign.Colon) 0) _ _ (kind.Sign sign.Colon) 0 [] _ hc refl
    ∙ ap (mark 0) (reads_arity g k rest _ _ l)))
    ∙ sym (marks3 (depths p 0) (depths q 0) (0 ∷ depths g 0) (depths k 0) _))
reads_decl (decl_function u x w t m o c f q ht hm ho p hc hf r hq k) rest ss v l = ap (λ z. run (t ∷ m ∷ o ∷ z) (a_file ∷ ss) v) (flat2 u (c ∷ f ∷ x) (q ∷ w) rest)
    ∙ step_take t _ a_file ss v (kind.Reserved word.Function) 0 _ _ ht refl
    ∙ ap (mark 0) (step_take m _ (keep kind.Ident 0) _ _ kind.Ident 0 [] _ hm refl
    ∙ ap (mark 0) (step_take o _ (pass (kind.Sign sign.OpenParen) 1) _ _ (kind.Sign sign.OpenParen) 1 [] _ ho refl
    ∙ ap (mark 1) (reads_formals p c (f ∷ (x ++ q ∷ (w ++ rest))) _ _ hc
    ∙ ap (marks (depths p 1)) (ap (mark 0) (step_take f _ (pass (kind.Sign sign.Colon) 0) _ _ (kind.Sign sign.Colon) 0 [] _ hf refl
    ∙ ap (mark 0) (reads r tt 0 (q ∷ (w ++ rest)) _ _ (pulls q _ (kind.Sign sign.Equal) _ hq (omega arith))
    ∙ ap (marks (depths r 0)) (no_type _ _ _ _ (pulls q _ (kind.Sign sign.Equal) _ hq (omega arith))
    ∙ step_take q _ (pass (kind.Sign sign.Equal) 0) _ _ (kind.Sign sign.Equal) 0 [] _ hq refl
    ∙ ap (mark 0) (reads k tt 0 rest _ _ (omega arith) ∙ ap (marks (depths k 0)) (makes be_function rest _ _))))))
    ∙ sym (marks2 (depths p 1) (0 ∷ 0 ∷ depths r 0) (0 ∷ depths k 0) _))))
reads_decl (decl_predicate u w t m q ht hm p hq k) rest ss v l = ap (λ z. run (t ∷ m ∷ z) (a_file ∷ ss) v) (append_assoc u (q ∷ w) rest)
    ∙ step_take t _ a_file ss v (kind.Reserved word.Predicate) 0 _ _ ht refl
    ∙ ap (mark 0) (step_take m _ (keep kind.Ident 0) _ _ kind.Ident 0 [] _ hm refl
    ∙ ap (mark 0) (reads_brackets p q (w ++ rest) _ _ hq
    ∙ ap (marks (depths p 0)) (ap (mark 0) (reads k tt 0 rest _ _ (omega arith) ∙ ap (marks (depths k 0)) (makes be_predicate rest _ _)))
    ∙ sym (marks_append (depths p 0) (0 ∷ depths k 0) _)))
reads_decl (decl_axiom w t m c ht hm hc p) rest ss v l = step_take t _ a_file ss v (kind.Reserved word.Axiom) 0 _ _ ht refl
    ∙ ap (mark 0) (step_take m _ (keep kind.Ident 0) _ _ kind.Ident 0 [] _ hm refl
    ∙ ap (mark 0) (step_take c _ (pass (kind.Sign sign.Colon) 0) _ _ (kind.Sign sign.Colon) 0 [] _ hc refl
    ∙ ap (mark 0) (reads p tt 0 rest _ _ (omega arith) ∙ ap (marks (depths p 0)) (makes be_axiom rest _ _))))
reads_decl (decl_goal w t m c ht hm hc p) rest ss v l = step_take t _ a_file ss v (kind.Reserved word.Goal) 0 _ _ ht refl
    ∙ ap (mark 0) (step_take m _ (keep kind.Ident 0) _ _ kind.Ident 0 [] _ hm refl
    ∙ ap (mark 0) (step_take c _ (pass (kind.Sign sign.Colon) 0) _ _ (kind.Sign sign.Colon) 0 [] _ hc refl
    ∙ ap (mark 0) (reads p tt 0 rest _ _ (omega arith) ∙ ap (marks (depths p 0)) (makes be_goal rest _ _))))

decl_pull : {w : List Token} {x : Decl} → Is a_decl w (decl x) → (rest : List Token) → pull (w ++ rest) < 1
decl_pull (decl_type w t m ht p hm) rest = pulls t _ (kind.Reserved word.Type_) _ ht (omega arith)
decl_pull (decl_record u w t m e o c ht p hm he ho q hc) rest = pulls t _ (kind.Reserved word.Type_) _ ht (omega arith)
decl_pull (decl_enumeration w t m e ht hm he p) rest = pulls t _ (kind.Reserved word.Type_) _ ht (omega arith)
decl_pull (decl_logic u x w y t c ht p q hc g k) rest = pulls t _ (kind.Reserved word.Logic) _ ht (omega arith)
decl_pull (decl_function u x w t m o c f q ht hm ho p hc hf r hq k) rest = pulls t _ (kind.Reserved word.Function) _ ht (omega arith)
decl_pull (decl_predicate u w t m q ht hm p hq k) rest = pulls t _ (kind.Reserved word.Predicate) _ ht (omega arith)
decl_pull (decl_axiom w t m c ht hm hc p) rest = pulls t _ (kind.Reserved word.Axiom) _ ht (omega arith)
decl_pull (decl_goal w t m c ht hm hc p) rest = pulls t _ (kind.Reserved word.Goal) _ ht (omega arith)

pub reads_file : {w : List Token} {ds : List Decl} (h : Is file w (decls ds)) (rest : List Token) → pull rest < 1 → run (w ++ rest) (a_file ∷ []) (decls [] ∷ []) ≡ marks (depths h 0) (run rest (a_file ∷ []) (decls ds ∷ []))
reads_file file_none rest l = refl
reads_file (file_decl {ds} {d} u w p q) rest l = ap (λ z. run z (a_file ∷ []) (decls [] ∷ [])) (append_assoc u w rest)
    ∙ reads_file p (w ++ rest) (decl_pull q rest)
    ∙ ap (marks (depths p 0)) (reads_decl q rest [] (decls ds ∷ []) l ∙ ap (marks (depths q 0)) (makes add rest (a_file ∷ []) (decl d ∷ decls ds ∷ [])))
    ∙ sym (marks_append (depths p 0) (depths q 0) _)

end_pull : pull [] < 1
unfolding pull
end_pull = omega arith

run_end : (v : List Part) → run [] (a_file ∷ []) v ≡ read v
unfolding run finish
run_end v = refl

-- a whole file: its declarations, with the depth of each of its tokens before
pub file_read : {w : List Token} {ds : List Decl} (h : Is file w (decls ds)) → run w (a_file ∷ []) (decls [] ∷ []) ≡ marks (depths h 0) (read (decls ds ∷ []))
file_read {w} {ds} h = ap (λ z. run z (a_file ∷ []) (decls [] ∷ [])) (sym (append-nil w)) ∙ reads_file h [] end_pull ∙ ap (marks (depths h 0)) (run_end (decls ds ∷ []))

-- ---- what an outcome says
pub parts_of : Outcome → List Part
parts_of (read v) = v
parts_of (stops n) = []
parts_of (mark d o) = parts_of o

unfoldable pub log_of : Outcome → List ℕ
log_of (read v) = []
log_of (stops n) = []
log_of (mark d o) = d ∷ log_of o

pub parts_marks : (a : List ℕ) (v : List Part) → parts_of (marks a (read v)) ≡ v
unfolding parts_of
parts_marks [] v = refl
parts_marks (d ∷ a) v = parts_marks a v

pub log_marks : (a : List ℕ) (v : List Part) → log_of (marks a (read v)) ≡ a
unfolding log_of
log_marks [] v = refl
log_marks (d ∷ a) v = ap (λ z. d ∷ z) (log_marks a v)

pub same_decls : (ds es : List Decl) → ◌≡◌ {A = List Part} (decls ds ∷ []) (decls es ∷ []) → ds ≡ es
same_decls ds es e = cc

pub file_once : (w : List Token) (ds es : List Decl) → Is file w (decls ds) → Is file w (decls es) → ds ≡ es
file_once w ds es h k = same_decls ds es (sym (parts_marks (depths h 0) (decls ds ∷ [])) ∙ ap parts_of (sym (file_read h) ∙ file_read k) ∙ parts_marks (depths k 0) (decls es ∷ []))

pub depths_once : (w : List Token) (ds es : List Decl) (h : Is file w (decls ds)) (k : Is file w (decls es)) → depths h 0 ≡ depths k 0
depths_once w ds es h k = sym (log_marks (depths h 0) (decls ds ∷ [])) ∙ ap log_of (sym (file_read h) ∙ file_read k) ∙ log_marks (depths k 0) (decls es ∷ [])

-- ---- what is read of a token doesn't hang on the tokens after it
log_step : (n : ℕ) (t : Token) (ts us : List Token) → ((s : List Want) (v : List Part) → front n (log_of (run ts s v)) ≡ front n (log_of (run us s v))) → (f : Fed) → front (suc n) (log_of (onward f (λ s v. run ts s v) (suc (length ts)))) ≡ front (suc n) (log_of (onward f (λ s v. run us s v) (suc (length us))))
unfolding log_of
log_step n t ts us ih (fed d s v) = ap (λ z. d ∷ z) (ih s v)
log_step n t ts us ih unfed = refl

pub same_log : (n : ℕ) (w x : List Token) (s : List Want) (v : List Part) → front n w ≡ front n x → front n (log_of (run w s v)) ≡ front n (log_of (run x s v))
unfolding run
same_log zero w x s v e = refl
same_log (suc n) [] [] s v e = refl
same_log (suc n) [] (u ∷ us) s v e = absurd (let l : 0 ≡ suc (length (front n us)) = ap length e in omega arith)
same_log (suc n) (t ∷ ts) [] s v e = absurd (let l : suc (length (front n ts)) ≡ 0 = ap length e in omega arith)
same_log (suc n) (t ∷ ts) (u ∷ us) s v e =
    let same_token : t ≡ u = cc in
    let tails : front n ts ≡ front n us = cc in
    subst (λ z. front (suc n) (log_of (onward (feed s v t) (λ s v. run ts s v) (suc (length ts)))) ≡ front (suc n) (log_of (onward (feed s v z) (λ s v. run us s v) (suc (length us))))) same_token
    (log_step n t ts us (λ s v. same_log n ts us s v tails) (feed s v t))

pub depths_begin : (n : ℕ) (w x : List Token) (ds es : List Decl) (h : Is file w (decls ds)) (k : Is file x (decls es)) → front n w ≡ front n x → front n (depths h 0) ≡ front n (depths k 0)
depths_begin n w x ds es h k e = ap (front n) (sym (log_marks (depths h 0) (decls ds ∷ [])) ∙ ap log_of (sym (file_read h)))
    ∙ same_log n w x (a_file ∷ []) (decls [] ∷ []) e
    ∙ ap (front n) (ap log_of (file_read k) ∙ log_marks (depths k 0) (decls es ∷ []))
