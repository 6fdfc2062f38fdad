-- Where the machine reads or stops, the tokens before go on to what the stack wanted.
use Rattle.std.proofs.Common.{ℕ, suc, Bool, true, false, List, [], ◌∷◌, ◌++◌, ◌≡◌, length, refl, sym, ap, ◌∙◌, subst, append-nil}
use Rattle.std.proofs.Common.{take as front}
use Rattle.ae_lex.specs.declared.kinds.Token.{Token}
use Rattle.ae_lex.specs.declared.kinds.TokenKind.{TokenKind}
use Rattle.ae_lex.specs.declared.kinds.TokenKind.TheVariants as kind
use Rattle.ae_lex.specs.declared.kinds.Reserved.TheVariants as word
use Rattle.ae_lex.specs.declared.kinds.Sign.TheVariants as sign
use Rattle.ae_syntax.specs.Parts.{Part}
use Rattle.ae_syntax.specs.Grammar.{of_names, of_constructors, of_settings, file, expr, orC, andC, notC, rel, sum, prod, unary, post, atom, a_type as type_level, a_result as result_level, file_none, decl_type, decl_enumeration, params_none, result_prop, type_name, expr_orE, orC_andC, andC_notC, notC_rel, rel_sum, sum_prod, prod_unary, unary_post, post_atom, atom_name, atom_brackets, atom_record, formals_none, brackets_none, squares_none, id_value, is_id, decl_logic, arguments_none, ac_none}
use Rattle.ae_syntax.specs.Inner.Machine.{Rule, Want, an_expr, an_or, an_and, an_not, a_rel, a_sum, a_prod, a_unary, a_post, an_atom, a_type, more_arrow, more_or, more_and, more_rel, more_sum, more_prod, more_post, more_type, more, keep, pass, make, call, bracket_end, brace, brace_name, triggers_or_dot, a_file, type_head, type_body, type_definition, type_end, logic_head, logic_sorts, after_sort, a_result, formals_end, predicate_head, Act, skip, take, opens, refuse, act, idle, unchained, Outcome, read, stops, mark, ended, finish, feed, run}
use Rattle.ae_syntax.proofs.Steps.{went, run_is, went_take, went_opens, went_skip, went_refuse}
use Rattle.ae_syntax.proofs.GrammarToMachine.{marks}
use Rattle.ae_syntax.proofs.Pieces.{Some_of, one_of, one, closed, lone, Piece, Cut, Split, cut}
use Rattle.ae_syntax.proofs.ViablePrefix.{Good, good, real, whole_cut, to_open, no_arrow, no_or, no_and, no_rel, no_sum, no_prod, no_post, no_type, no_more, no_call, no_file, no_body, no_end, no_after}

-- ---- something that each stack can read
a_token : TokenKind → Token
a_token k = record { kind = k; from = 0; to = 0 }

kind_of : (k : TokenKind) → (let t = a_token k in t.kind) ≡ k
unfolding a_token
kind_of k = refl

name_token : Token
name_token = a_token kind.Ident

name_is : (let t = name_token in t.kind) ≡ kind.Ident
unfolding name_token
name_is = kind_of kind.Ident

an_atom_is : Some_of atom (name_token ∷ [])
an_atom_is = record { value = _; is = atom_name name_token name_is }

a_post_is : Some_of post (name_token ∷ [])
a_post_is = let p = an_atom_is in record { value = _; is = post_atom p.is }

a_unary_is : Some_of unary (name_token ∷ [])
a_unary_is = let p = a_post_is in record { value = _; is = unary_post p.is }

a_prod_is : Some_of prod (name_token ∷ [])
a_prod_is = let p = a_unary_is in record { value = _; is = prod_unary p.is }

a_sum_is : Some_of sum (name_token ∷ [])
a_sum_is = let p = a_prod_is in record { value = _; is = sum_prod p.is }

a_rel_is : Some_of rel (name_token ∷ [])
a_rel_is = let p = a_sum_is in record { value = _; is = rel_sum p.is }

a_not_is : Some_of notC (name_token ∷ [])
a_not_is = let p = a_rel_is in record { value = _; is = notC_rel p.is }

an_and_is : Some_of andC (name_token ∷ [])
an_and_is = let p = a_not_is in record { value = _; is = andC_notC p.is }

an_or_is : Some_of orC (name_token ∷ [])
an_or_is = let p = an_and_is in record { value = _; is = orC_andC p.is }

an_expr_is : Some_of expr (name_token ∷ [])
an_expr_is = let p = an_or_is in record { value = _; is = expr_orE (to_open p.is) }

a_type_is : Some_of type_level (name_token ∷ [])
a_type_is = record { value = _; is = type_name name_token name_is }

prop_token : Token
prop_token = a_token (kind.Reserved word.Prop)

a_result_is : Some_of result_level (prop_token ∷ [])
unfolding prop_token
a_result_is = record { value = _; is = result_prop prop_token (kind_of (kind.Reserved word.Prop)) }

-- tokens that stand for a want
abbrev Default : Want → Type 0
Default s = (u : List Token) × Piece s false u

d_bracket_end : (n : ℕ) → Default (bracket_end n)
d_bracket_end n = (a_token (kind.Sign sign.CloseParen) ∷ [], λ x p o ho. record { value = _; is = atom_brackets x o (a_token (kind.Sign sign.CloseParen)) ho p.is (kind_of (kind.Sign sign.CloseParen)) })

d_brace_name : (n : ℕ) → Default (brace_name n)
d_brace_name n = (
  a_token (kind.Sign sign.Equal) ∷ name_token ∷ a_token (kind.Sign sign.CloseBrace) ∷ [],
  λ o m ho hm.
      let p = an_expr_is in
      let r = one_of of_settings (m ∷ a_token (kind.Sign sign.Equal) ∷ name_token ∷ []) record { value = _; is = id_value (name_token ∷ []) m (a_token (kind.Sign sign.Equal)) hm (kind_of (kind.Sign sign.Equal)) p.is } in
      record { value = _; is = atom_record (m ∷ a_token (kind.Sign sign.Equal) ∷ name_token ∷ []) o (a_token (kind.Sign sign.CloseBrace)) ho r.is (kind_of (kind.Sign sign.CloseBrace)) },
)

d_brace : (n : ℕ) → Default (brace n)
d_brace n = let d = d_brace_name n in (name_token ∷ d.0, λ o ho. d.1 o name_token ho name_is)

d_type_definition : Default type_definition
d_type_definition = (name_token ∷ [], λ t m e h hm he. let p = one_of of_constructors (name_token ∷ []) (record { value = name_token; is = is_id name_token name_is }) in record { value = _; is = decl_enumeration (name_token ∷ []) t m e h hm he p.is })

d_type_head : Default type_head
d_type_head = (name_token ∷ [], λ t h. record { value = _; is = decl_type [] t name_token h params_none name_is })

d_logic_head : Default logic_head
d_logic_head = (
  name_token ∷ a_token (kind.Sign sign.Colon) ∷ prop_token ∷ [],
  λ t h.
      let p = one_of of_names (name_token ∷ []) (record { value = name_token; is = is_id name_token name_is }) in
      let r = a_result_is in
      record { value = _; is = decl_logic [] (name_token ∷ []) [] (prop_token ∷ []) t (a_token (kind.Sign sign.Colon)) h ac_none p.is (kind_of (kind.Sign sign.Colon)) arguments_none r.is },
)

-- the stack can be read to its end
abbrev Readable : List Want → Bool → Type 0
Readable ss c = (x : List Token) × Split ss c x

with_default : (s : Want) (ss : List Want) → Default s → Readable ss false → (x : List Token) × Cut (Piece s) (Split ss) x
with_default s ss p r = (p.0 ++ r.0, cut false p.0 r.0 p.1 r.1)

with_none : (s : Want) (ss : List Want) → Piece s false [] → Readable ss false → (x : List Token) × Cut (Piece s) (Split ss) x
with_none s ss p r = (r.0, cut false [] r.0 p r.1)

readable : (ss : List Want) (c : Bool) → Readable ss c
readable [] c = ([], refl)
readable (make r ∷ ss) c = readable ss c
readable (more_arrow n ∷ ss) true = readable ss true
readable (more_arrow n ∷ ss) false = with_none (more_arrow n) ss (no_arrow n) (readable ss false)
readable (more_or n ∷ ss) true = readable ss true
readable (more_or n ∷ ss) false = with_none (more_or n) ss (no_or n) (readable ss false)
readable (more_and n ∷ ss) true = readable ss true
readable (more_and n ∷ ss) false = with_none (more_and n) ss (no_and n) (readable ss false)
readable (more_rel n ∷ ss) c = with_none (more_rel n) ss (no_rel n) (readable ss false)
readable (more_sum n ∷ ss) c = with_none (more_sum n) ss (no_sum n) (readable ss false)
readable (more_prod n ∷ ss) c = with_none (more_prod n) ss (no_prod n) (readable ss false)
readable (more_post n ∷ ss) c = with_none (more_post n) ss (no_post n) (readable ss false)
readable (more_type n ∷ ss) c = with_none (more_type n) ss (no_type n) (readable ss false)
readable (more r n ∷ ss) c = with_none (more r n) ss (no_more r n) (readable ss false)
readable (an_expr n ∷ ss) c = with_default (an_expr n) ss (name_token ∷ [], an_expr_is) (readable ss false)
readable (an_or n ∷ ss) c = with_default (an_or n) ss (name_token ∷ [], an_or_is) (readable ss false)
readable (an_and n ∷ ss) c = with_default (an_and n) ss (name_token ∷ [], an_and_is) (readable ss false)
readable (an_not n ∷ ss) c = with_default (an_not n) ss (name_token ∷ [], a_not_is) (readable ss false)
readable (a_rel n ∷ ss) c = with_default (a_rel n) ss (name_token ∷ [], a_rel_is) (readable ss false)
readable (a_sum n ∷ ss) c = with_default (a_sum n) ss (name_token ∷ [], a_sum_is) (readable ss false)
readable (a_prod n ∷ ss) c = with_default (a_prod n) ss (name_token ∷ [], a_prod_is) (readable ss false)
readable (a_unary n ∷ ss) c = with_default (a_unary n) ss (name_token ∷ [], a_unary_is) (readable ss false)
readable (a_post n ∷ ss) c = with_default (a_post n) ss (name_token ∷ [], a_post_is) (readable ss false)
readable (an_atom n ∷ ss) c = with_default (an_atom n) ss (name_token ∷ [], an_atom_is) (readable ss false)
readable (a_type n ∷ ss) c = with_default (a_type n) ss (name_token ∷ [], a_type_is) (readable ss false)
readable (keep k n ∷ ss) c = with_default (keep k n) ss (a_token k ∷ [], one (a_token k) (kind_of k)) (readable ss false)
readable (pass k n ∷ ss) c = with_default (pass k n) ss (a_token k ∷ [], one (a_token k) (kind_of k)) (readable ss false)
readable (call n ∷ ss) c = with_none (call n) ss (no_call n) (readable ss false)
readable (bracket_end n ∷ ss) c = with_default (bracket_end n) ss (d_bracket_end n) (readable ss false)
readable (brace n ∷ ss) c = with_default (brace n) ss (d_brace n) (readable ss false)
readable (brace_name n ∷ ss) c = with_default (brace_name n) ss (d_brace_name n) (readable ss false)
readable (triggers_or_dot n ∷ ss) c = with_default (triggers_or_dot n) ss (a_token (kind.Sign sign.Dot) ∷ [], closed [] (a_token (kind.Sign sign.Dot)) record { value = _; is = squares_none } (kind_of (kind.Sign sign.Dot))) (readable ss false)
readable (a_file ∷ ss) c = with_none a_file ss no_file (readable ss false)
readable (type_head ∷ ss) c = with_default type_head ss d_type_head (readable ss false)
readable (type_body ∷ ss) c = with_none type_body ss no_body (readable ss false)
readable (type_definition ∷ ss) c = with_default type_definition ss d_type_definition (readable ss false)
readable (type_end ∷ ss) c = with_none type_end ss no_end (readable ss false)
readable (logic_head ∷ ss) c = with_default logic_head ss d_logic_head (readable ss false)
readable (logic_sorts ∷ ss) c = with_default logic_sorts ss (prop_token ∷ [], lone (prop_token ∷ []) a_result_is) (readable ss false)
readable (after_sort ∷ ss) c = with_none after_sort ss no_after (readable ss false)
readable (a_result ∷ ss) c = with_default a_result ss (prop_token ∷ [], a_result_is) (readable ss false)
readable (formals_end ∷ ss) c = with_default formals_end ss (a_token (kind.Sign sign.CloseParen) ∷ [], closed [] (a_token (kind.Sign sign.CloseParen)) record { value = _; is = formals_none } (kind_of (kind.Sign sign.CloseParen))) (readable ss false)
readable (predicate_head ∷ ss) c = with_default predicate_head ss (a_token (kind.Sign sign.Equal) ∷ [], closed [] (a_token (kind.Sign sign.Equal)) record { value = _; is = brackets_none } (kind_of (kind.Sign sign.Equal))) (readable ss false)

-- ---- where it reads or stops, what stands before goes on to this
abbrev pub Ahead : List Token → (List Token → Type 0) → Outcome → Type 0
Ahead w P (read v) = P w
Ahead w P (stops n) = (x : List Token) × P x
Ahead [] P (mark d o) = ⊥
Ahead (t ∷ w) P (mark d o) = Ahead w (λ y. P (t ∷ y)) o

widen : (w : List Token) (P Q : List Token → Type 0) (o : Outcome) → ((y : List Token) → P y → Q y) → Ahead w P o → Ahead w Q o
widen w P Q (read v) f g = f w g
widen w P Q (stops n) f g = (g.0, f g.0 g.1)
widen [] P Q (mark d o) f g = g
widen (t ∷ w) P Q (mark d o) f g = widen w (λ y. P (t ∷ y)) (λ y. Q (t ∷ y)) o (λ y p. f (t ∷ y) p) g

abbrev GoesOn : List Token → List Want → Outcome → Type 0
GoesOn w ss o = Ahead w (Split ss false) o

-- where tokens end
unfoldable GoodEnd : Want → List Want → Act → Type 0
GoodEnd s ss (skip u) = (y : List Token) → Split ss false y → Split (s ∷ ss) false y
GoodEnd s ss _ = Unit {0}

end_none : (s : Want) → real s ≡ true → (ss : List Want) (u : List Part) → Piece s false [] → GoodEnd s ss (skip u)
unfolding GoodEnd
end_none s r ss u f = λ y p. whole_cut s r ss y (cut false [] y f p)

end_make : (r : Rule) (ss : List Want) (u : List Part) → GoodEnd (make r) ss (skip u)
unfolding GoodEnd
end_make r ss u = λ y p. p

end_refuse : (s : Want) (ss : List Want) → GoodEnd s ss refuse
unfolding GoodEnd
end_refuse s ss = tt

good_end : (s : Want) (v : List Part) (ss : List Want) → GoodEnd s ss (idle s v)
good_end (more_arrow n) v ss = end_none (more_arrow n) refl ss v (no_arrow n)
good_end (more_or n) v ss = end_none (more_or n) refl ss v (no_or n)
good_end (more_and n) v ss = end_none (more_and n) refl ss v (no_and n)
good_end (more_rel n) v ss = end_none (more_rel n) refl ss v (no_rel n)
good_end (more_sum n) v ss = end_none (more_sum n) refl ss v (no_sum n)
good_end (more_prod n) v ss = end_none (more_prod n) refl ss v (no_prod n)
good_end (more_post n) v ss = end_none (more_post n) refl ss v (no_post n)
good_end (more_type n) v ss = end_none (more_type n) refl ss v (no_type n)
good_end (more r n) v ss = end_none (more r n) refl ss v (no_more r n)
good_end (make r) v ss = end_make r ss _
good_end (call n) v ss = end_none (call n) refl ss _ (no_call n)
good_end a_file v ss = end_none a_file refl ss v no_file
good_end type_body v ss = end_none type_body refl ss _ no_body
good_end type_end v ss = end_none type_end refl ss _ no_end
good_end after_sort v ss = end_none after_sort refl ss _ no_after
good_end s v ss = end_refuse s ss

at_nothing : (s : Want) (ss : List Want) (a : Act) (then : List Part → Outcome) → GoodEnd s ss a → ((u : List Part) → GoesOn [] ss (then u)) → GoesOn [] (s ∷ ss) (ended a then)
unfolding GoodEnd
at_nothing s ss (skip u) then g f = widen [] (Split ss false) (Split (s ∷ ss) false) (then u) g (f u)
at_nothing s ss (take d new u) then g f = readable (s ∷ ss) false
at_nothing s ss (opens d new u) then g f = readable (s ∷ ss) false
at_nothing s ss refuse then g f = readable (s ∷ ss) false

goes_on_end : (ss : List Want) (v : List Part) → GoesOn [] ss (finish ss v)
unfolding finish
goes_on_end [] v = refl
goes_on_end (s ∷ ss) v = at_nothing s ss (idle s v) (λ u. finish ss u) (good_end s v ss) (λ u. goes_on_end ss u)

by_act : (t : Token) (ts : List Token) (s : Want) (ss : List Want) → ((ss : List Want) (v : List Part) → GoesOn ts ss (run ts ss v)) → ((u : List Part) → GoesOn (t ∷ ts) ss (run (t ∷ ts) ss u)) → (a : Act) → Good s ss t a → GoesOn (t ∷ ts) (s ∷ ss) (went a ss t ts)
unfolding Good
by_act t ts s ss ih below (skip u) g = subst (λ o. GoesOn (t ∷ ts) (s ∷ ss) o) (sym (went_skip u ss t ts)) (widen (t ∷ ts) (Split ss false) (Split (s ∷ ss) false) (run (t ∷ ts) ss u) g (below u))
by_act t ts s ss ih below (take d new u) g = subst (λ o. GoesOn (t ∷ ts) (s ∷ ss) o) (sym (went_take d new u ss t ts)) (widen ts (Split (new ++ ss) false) (λ y. Split (s ∷ ss) false (t ∷ y)) (run ts (new ++ ss) u) g (ih (new ++ ss) u))
by_act t ts s ss ih below (opens d new u) g = subst (λ o. GoesOn (t ∷ ts) (s ∷ ss) o) (sym (went_opens d new u ss t ts)) (widen ts (Split (new ++ unchained ss) false) (λ y. Split (s ∷ ss) false (t ∷ y)) (run ts (new ++ unchained ss) u) g (ih (new ++ unchained ss) u))
by_act t ts s ss ih below refuse g = subst (λ o. GoesOn (t ∷ ts) (s ∷ ss) o) (sym (went_refuse ss t ts)) (readable (s ∷ ss) false)

run_nothing : (t : Token) (ts : List Token) (v : List Part) → run (t ∷ ts) [] v ≡ stops (suc (length ts))
unfolding run feed
run_nothing t ts v = refl

goes_on_step : (t : Token) (ts : List Token) → ((ss : List Want) (v : List Part) → GoesOn ts ss (run ts ss v)) → (ss : List Want) (v : List Part) → GoesOn (t ∷ ts) ss (run (t ∷ ts) ss v)
goes_on_step t ts ih [] v = subst (λ o. GoesOn (t ∷ ts) [] o) (sym (run_nothing t ts v)) ([], refl)
goes_on_step t ts ih (s ∷ ss) v = subst (λ o. GoesOn (t ∷ ts) (s ∷ ss) o) (sym (run_is t ts s ss v)) (by_act t ts s ss ih (λ u. goes_on_step t ts ih ss u) (act s v t t.kind) (good s v t ss))

run_none : (ss : List Want) (v : List Part) → run [] ss v ≡ finish ss v
unfolding run
run_none ss v = refl

pub goes_on : (w : List Token) (ss : List Want) (v : List Part) → GoesOn w ss (run w ss v)
goes_on [] ss v = subst (λ o. GoesOn [] ss o) (sym (run_none ss v)) (goes_on_end ss v)
goes_on (t ∷ ts) ss v = goes_on_step t ts (λ ss v. goes_on ts ss v) ss v

-- ---- what that says of a file
file_whole : (y : List Token) → Split (a_file ∷ []) false y → Some_of file y
file_whole y c = subst (Some_of file) (sym (c.whole ∙ ap (λ z. c.here ++ z) c.more ∙ append-nil c.here)) (c.is [] record { value = _; is = file_none })

ahead_any : (o : Outcome) (w : List Token) (P : List Token → Type 0) → Ahead w P o → (x : List Token) × P x
ahead_any (read v) w P a = (w, a)
ahead_any (stops n) w P a = a
ahead_any (mark d o) [] P a = absurd a
ahead_any (mark d o) (t ∷ w) P a = let r = ahead_any o w (λ y. P (t ∷ y)) a in (t ∷ r.0, r.1)

ahead_read : (ds : List ℕ) (w : List Token) (P : List Token → Type 0) (v : List Part) → Ahead w P (marks ds (read v)) → P w
ahead_read [] w P v a = a
ahead_read (d ∷ ds) [] P v a = absurd a
ahead_read (d ∷ ds) (t ∷ w) P v a = ahead_read ds w (λ y. P (t ∷ y)) v a

ahead_stops : (ds : List ℕ) (w : List Token) (P : List Token → Type 0) (n : ℕ) → Ahead w P (marks ds (stops n)) → (x : List Token) × P (front (length ds) w ++ x)
ahead_stops [] w P n a = a
ahead_stops (d ∷ ds) [] P n a = absurd a
ahead_stops (d ∷ ds) (t ∷ w) P n a = ahead_stops ds w (λ y. P (t ∷ y)) n a

ahead_mark : (ds : List ℕ) (w : List Token) (P : List Token → Type 0) (d : ℕ) (o : Outcome) → Ahead w P (marks ds (mark d o)) → (x : List Token) × P (front (suc (length ds)) w ++ x)
ahead_mark [] [] P d o a = absurd a
ahead_mark [] (t ∷ w) P d o a = ahead_any o w (λ y. P (t ∷ y)) a
ahead_mark (e ∷ ds) [] P d o a = absurd a
ahead_mark (e ∷ ds) (t ∷ w) P d o a = ahead_mark ds w (λ y. P (t ∷ y)) d o a

-- what is read is a file; where it stops, and where it takes a token, the tokens up to there begin one
pub read_file : (w : List Token) (p v : List Part) (ds : List ℕ) → run w (a_file ∷ []) p ≡ marks ds (read v) → Some_of file w
read_file w p v ds e = file_whole w (ahead_read ds w (Split (a_file ∷ []) false) v (subst (λ o. GoesOn w (a_file ∷ []) o) e (goes_on w (a_file ∷ []) p)))

pub stopped_file : (w : List Token) (p : List Part) (ds : List ℕ) (n : ℕ) → run w (a_file ∷ []) p ≡ marks ds (stops n) → (x : List Token) × Some_of file (front (length ds) w ++ x)
stopped_file w p ds n e = let r = ahead_stops ds w (Split (a_file ∷ []) false) n (subst (λ o. GoesOn w (a_file ∷ []) o) e (goes_on w (a_file ∷ []) p)) in (r.0, file_whole (front (length ds) w ++ r.0) r.1)

pub taken_file : (w : List Token) (p : List Part) (ds : List ℕ) (d : ℕ) (o : Outcome) → run w (a_file ∷ []) p ≡ marks ds (mark d o) → (x : List Token) × Some_of file (front (suc (length ds)) w ++ x)
taken_file w p ds d o e = let r = ahead_mark ds w (Split (a_file ∷ []) false) d o (subst (λ o. GoesOn w (a_file ∷ []) o) e (goes_on w (a_file ∷ []) p)) in (r.0, file_whole (front (suc (length ds)) w ++ r.0) r.1)
