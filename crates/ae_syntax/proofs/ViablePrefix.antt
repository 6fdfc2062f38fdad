-- What an act leaves can be read is read by the want that acts: one lemma for each line of the table.
use Rattle.std.proofs.Common.{ℕ, suc, Bool, true, false, cond, List, [], ◌∷◌, ◌++◌, ◌≡◌, Option, Some, None, refl, sym, ap, ◌∙◌, subst, append_assoc, append-nil}
use Rattle.ae_base.proofs.Options.{never_some}
use Rattle.ae_lex.specs.declared.kinds.Token.{Token}
use Rattle.ae_lex.specs.declared.kinds.TokenKind.{TokenKind}
use Rattle.ae_lex.specs.declared.kinds.TokenKind.TheVariants as kind
use Rattle.ae_lex.specs.declared.kinds.Reserved.TheVariants as word
use Rattle.ae_lex.specs.declared.kinds.Sign.TheVariants as sign
use Rattle.ae_syntax.specs.declared.types.WrittenType.{WrittenType}
use Rattle.ae_syntax.specs.declared.exprs.BinaryOp.{BinaryOp}
use Rattle.ae_syntax.specs.declared.exprs.Quantifier.{Quantifier}
use Rattle.ae_syntax.specs.declared.exprs.Number.TheVariants as number
use Rattle.ae_syntax.specs.declared.exprs.Expr.{Expr}
use Rattle.ae_syntax.specs.Kinds.{arrow, relation, additive, multiplicative, quantifies, numeral}
use Rattle.ae_syntax.specs.Inner.SameKinds.{same}
use Rattle.ae_syntax.specs.Parts.{Part}
use Rattle.ae_syntax.specs.Grammar.{IsWord, IsSign, IsIdent, IsTypeVar, of_names, of_constructors, of_vars, of_types, of_fields, of_formals, of_groups, of_exprs, of_triggers, of_settings, separator, Items, Level, file, a_decl, ac, params, formals, in_squares, a_result as result_level, a_type as type_level, expr, orE, orC, andE, andC, notE, notC, rel, sum, prod, unary, post, atom, some, element, Is, file_decl, decl_type, decl_record, decl_enumeration, decl_logic, decl_function, decl_predicate, decl_axiom, decl_goal, is_id, ac_none, ac_word, params_none, params_var, params_vars, id_type, formals_none, formals_some, brackets_none, brackets_some, arguments_none, arguments_some, result_type, result_prop, type_int, type_real, type_bool, type_unit, type_var, type_name, type_postfix, type_brackets, expr_arrow, expr_orE, orE_or, orE_andE, orC_or, orC_andC, andE_and, andE_notE, andC_and, andC_notC, notE_not, notE_open, notE_rel, notC_not, notC_rel, open_quantified, open_let, open_if, squares_none, squares_some, rel_two, rel_sum, sum_two, sum_prod, prod_two, prod_unary, unary_minus, unary_post, post_field, post_atom, atom_name, atom_call, atom_numeral, atom_true, atom_false, atom_void, atom_brackets, atom_ascribed, atom_distinct, atom_record, atom_update, id_value}
use Rattle.ae_syntax.specs.Inner.Machine.{Rule, begin, add, join, negate, oppose, quantify, bind_name, choose, take_field, call_it, enclose, ascribe, all_differ, set, build, change, bracket_sorts, more_params, give_type, be_record, be_choice, be_symbols, be_function, be_predicate, be_axiom, be_goal, sort_result, Want, an_expr, an_or, an_and, an_not, a_rel, a_sum, a_prod, a_unary, a_post, an_atom, a_type, more_arrow, more_or, more_and, more_rel, more_sum, more_prod, more_post, more_type, more, keep, pass, make, call, bracket_end, brace, brace_name, triggers_or_dot, a_file, type_head, type_body, type_definition, type_end, logic_head, logic_sorts, after_sort, a_result, formals_end, predicate_head, Act, skip, take, opens, refuse, then_wants, if_some, the_word, the_sign, element_wants, constant, base_type, operand, on_atom, on_post, on_unary, on_prod, on_sum, on_rel, on_not, on_and, on_or, on_expr, on_type, on_result, on_brace_name, update_wants, act, unchained}
use Rattle.ae_syntax.proofs.Acts.{Firm, Plain, plain_atom, plain_post, plain_unary, plain_prod, plain_sum, firm_not, firm_and, firm_or, plain_cond, plain_some, plain_take, plain_refuse}
use Rattle.ae_syntax.proofs.SameKinds.{never, same_is}
use Rattle.ae_syntax.proofs.Pieces.{Some_of, one_of, more_of, one, Closed, closed, Arity, lone, full, or_level, and_level, not_level, Piece, Cut, Chain, Split, cut, unchain, sew, prefixed, Bit, want, items, mk, Pieces, last, next, expand, reals, quiet, gather, element_of, all_items}

-- what an act of the top leaves can be read is read by the top too
unfoldable pub Good : Want → List Want → Token → Act → Type 0
Good s ss t (skip u) = (y : List Token) → Split ss false y → Split (s ∷ ss) false y
Good s ss t (take d new u) = (y : List Token) → Split (new ++ ss) false y → Split (s ∷ ss) false (t ∷ y)
Good s ss t (opens d new u) = (y : List Token) → Split (new ++ unchained ss) false y → Split (s ∷ ss) false (t ∷ y)
Good s ss t refuse = Unit {0}

good_skip : (s : Want) (ss : List Want) (t : Token) (u : List Part) → ((y : List Token) → Split ss false y → Split (s ∷ ss) false y) → Good s ss t (skip u)
unfolding Good
good_skip s ss t u f = f

good_take : (s : Want) (ss : List Want) (t : Token) (d : ℕ) (new : List Want) (u : List Part) → ((y : List Token) → Split (new ++ ss) false y → Split (s ∷ ss) false (t ∷ y)) → Good s ss t (take d new u)
unfolding Good
good_take s ss t d new u f = f

good_opens : (s : Want) (ss : List Want) (t : Token) (d : ℕ) (new : List Want) (u : List Part) → ((y : List Token) → Split (new ++ unchained ss) false y → Split (s ∷ ss) false (t ∷ y)) → Good s ss t (opens d new u)
unfolding Good
good_opens s ss t d new u f = f

good_refuse : (s : Want) (ss : List Want) (t : Token) → Good s ss t refuse
unfolding Good
good_refuse s ss t = tt

good_cond : (s : Want) (ss : List Want) (t : Token) (b : Bool) (x y : Act) → (b ≡ true → Good s ss t x) → Good s ss t y → Good s ss t (cond b x y)
good_cond s ss t true x y f g = f refl
good_cond s ss t false x y f g = g

good_kind : (s : Want) (ss : List Want) (t : Token) (j : TokenKind) (x y : Act) → (t.kind ≡ j → Good s ss t x) → Good s ss t y → Good s ss t (cond (same t.kind j) x y)
good_kind s ss t j x y f g = good_cond s ss t (same t.kind j) x y (λ e. f (same_is t.kind j e)) g

good_some : {A : Type 0} (s : Want) (ss : List Want) (t : Token) (o : Option A) (f : A → Act) (y : Act) → ((a : A) → o ≡ Some a → Good s ss t (f a)) → Good s ss t y → Good s ss t (if_some o f y)
good_some s ss t (Some a) f y g h = g a refl
good_some s ss t None f y g h = h

good_operand : (s : Want) (ss : List Want) (t : Token) (d : ℕ) (v : List Part) (w : ℕ → Want) (after : List Want) (o : Option BinaryOp) → ((b : BinaryOp) → o ≡ Some b → Good s ss t (take d (w d ∷ make (join b) ∷ after) v)) → Good s ss t (skip v) → Good s ss t (operand d v w after o)
good_operand s ss t d v w after (Some b) f g = f b refl
good_operand s ss t d v w after None f g = g

good_level : (a : Act) (s m s' : Want) (ss : List Want) (t : Token) → Firm a → unchained (m ∷ ss) ≡ unchained ss → ((y : List Token) → Split (s ∷ m ∷ ss) false y → Split (s' ∷ ss) false y) → Good s (m ∷ ss) t a → Good s' ss t (then_wants a (m ∷ []))
unfolding Good Firm
good_level (skip u) s m s' ss t f e h g = absurd f
good_level (take d new u) s m s' ss t f e h g = λ y p. h (t ∷ y) (g y (subst (λ z. Split z false y) (append_assoc new (m ∷ []) ss) p))
good_level (opens d new u) s m s' ss t f e h g = λ y p. h (t ∷ y) (g y (subst (λ z. Split (new ++ z) false y) (sym e) p))
good_level refuse s m s' ss t f e h g = tt

good_plain : (a : Act) (s : Want) (m : List Want) (s' : Want) (ss : List Want) (t : Token) → Plain a → ((y : List Token) → Split (s ∷ m ++ ss) false y → Split (s' ∷ ss) false y) → Good s (m ++ ss) t a → Good s' ss t (then_wants a m)
unfolding Good Plain
good_plain (take d new u) s m s' ss t f h g = λ y p. h (t ∷ y) (g y (subst (λ z. Split z false y) (append_assoc new m ss) p))
good_plain refuse s m s' ss t f h g = tt
good_plain (skip u) s m s' ss t f h g = absurd f
good_plain (opens d new u) s m s' ss t f h g = absurd f

-- the same act for a looser want
good_looser : (a : Act) (s s' : Want) (ss : List Want) (t : Token) → ((y : List Token) → Split (s ∷ ss) false y → Split (s' ∷ ss) false y) → Good s ss t a → Good s' ss t a
unfolding Good
good_looser (skip u) s s' ss t h g = λ y p. h y (g y p)
good_looser (take d new u) s s' ss t h g = λ y p. h (t ∷ y) (g y p)
good_looser (opens d new u) s s' ss t h g = λ y p. h (t ∷ y) (g y p)
good_looser refuse s s' ss t h g = tt

-- wants that take tokens
abbrev pub real : Want → Bool
real (make r) = false
real s = true

pub whole_cut : (s : Want) → real s ≡ true → (ss : List Want) (y : List Token) → Cut (Piece s) (Split ss) y → Split (s ∷ ss) false y
whole_cut (make r) e ss y k = never e
whole_cut s e ss y k = k

good_bits : (s : Want) → real s ≡ true → (bs : List Bit) → quiet bs ≡ true → (ss : List Want) (t : Token) (d : ℕ) (u : List Part) → ((e : Bool) (w : List Token) → Pieces (reals bs) w → Piece s e (t ∷ w)) → Good s ss t (take d (expand bs) u)
good_bits s r bs q ss t d u f = good_take s ss t d (expand bs) u (λ y p. whole_cut s r ss (t ∷ y) (prefixed t y f (gather bs q (all_items bs) ss false y p)))

good_one : (s : Want) → real s ≡ true → (ss : List Want) (t : Token) (d : ℕ) (u : List Part) → Piece s false (t ∷ []) → Good s ss t (take d [] u)
good_one s r ss t d u f = good_take s ss t d [] u (λ y p. whole_cut s r ss (t ∷ y) (cut false (t ∷ []) y f p))

good_made : (s : Want) → real s ≡ true → (ss : List Want) (t : Token) (d : ℕ) (x : Rule) (u : List Part) → Piece s false (t ∷ []) → Good s ss t (take d (make x ∷ []) u)
good_made s r ss t d x u f = good_take s ss t d (make x ∷ []) u (λ y p. whole_cut s r ss (t ∷ y) (cut false (t ∷ []) y f p))

good_none : (s : Want) → real s ≡ true → (ss : List Want) (t : Token) (u : List Part) → Piece s false [] → Good s ss t (skip u)
good_none s r ss t u f = good_skip s ss t u (λ y p. whole_cut s r ss y (cut false [] y f p))

-- ---- levels
recut : {piece whole after : Bool → List Token → Type 0} (y : List Token) → ((d : Bool) (u : List Token) → piece d u → whole d u) → Cut piece after y → Cut whole after y
recut y f k = record { open_end = k.open_end; here = k.here; there = k.there; whole = k.whole; is = f k.open_end k.here k.is; more = k.more }

-- a closed operand with its chain is the looser level, closed or not
deepens : (s m s' : Want) (ss : List Want) (y : List Token) → ((c : Bool) (u x : List Token) → Piece s false u → Piece m c x → Piece s' c (u ++ x)) → ((u : List Token) → Piece s true u → Piece s' true u) → Cut (Piece s) (λ c w. Chain c (Piece m) (Split ss) w) y → Cut (Piece s') (Split ss) y
deepens s m s' ss y shut wide k = go k.open_end k.is k.more
  where
    go : (d : Bool) → Piece s d k.here → Chain d (Piece m) (Split ss) k.there → Cut (Piece s') (Split ss) y
    go true p n = record { open_end = true; here = k.here; there = k.there; whole = k.whole; is = wide k.here p; more = n }
    go false p n = record { open_end = n.open_end; here = k.here ++ n.here; there = n.there; whole = k.whole ∙ ap (λ z. k.here ++ z) n.whole ∙ sym (append_assoc k.here n.here n.there); is = shut n.open_end k.here n.here p n.is; more = n.more }

-- an operator, its operand, and more of its chain
chained : (s m r : Want) (ss : List Want) (t : Token) (y : List Token) → ((u : List Token) → Piece s true u → Piece r true (t ∷ u)) → ((c : Bool) (u x : List Token) → Piece s false u → Piece m c x → Piece r c (t ∷ u ++ x)) → Cut (Piece s) (λ c w. Chain c (Piece m) (Split ss) w) y → Cut (Piece r) (Split ss) (t ∷ y)
chained s m r ss t y wide shut k = go k.open_end k.is k.more
  where
    go : (d : Bool) → Piece s d k.here → Chain d (Piece m) (Split ss) k.there → Cut (Piece r) (Split ss) (t ∷ y)
    go true p n = record { open_end = true; here = t ∷ k.here; there = k.there; whole = ap (λ z. t ∷ z) k.whole; is = wide k.here p; more = n }
    go false p n = record { open_end = n.open_end; here = t ∷ k.here ++ n.here; there = n.there; whole = ap (λ z. t ∷ z) (k.whole ∙ ap (λ z. k.here ++ z) n.whole ∙ sym (append_assoc k.here n.here n.there)); is = shut n.open_end k.here n.here p n.is; more = n.more }

post_level : (n : ℕ) (ss : List Want) (y : List Token) → Split (an_atom n ∷ more_post n ∷ ss) false y → Split (a_post n ∷ ss) false y
post_level n ss y k = sew y (λ c d u x p m. m u record { value = _; is = post_atom p.is }) k

prod_level : (n : ℕ) (ss : List Want) (y : List Token) → Split (a_unary n ∷ more_prod n ∷ ss) false y → Split (a_prod n ∷ ss) false y
prod_level n ss y k = sew y (λ c d u x p m. m u record { value = _; is = prod_unary p.is }) k

sum_level : (n : ℕ) (ss : List Want) (y : List Token) → Split (a_prod n ∷ more_sum n ∷ ss) false y → Split (a_sum n ∷ ss) false y
sum_level n ss y k = sew y (λ c d u x p m. m u record { value = _; is = sum_prod p.is }) k

rel_level : (n : ℕ) (ss : List Want) (y : List Token) → Split (a_sum n ∷ more_rel n ∷ ss) false y → Split (a_rel n ∷ ss) false y
rel_level n ss y k = sew y (λ c d u x p m. m u p) k

and_level_is : (n : ℕ) (ss : List Want) (y : List Token) → Split (an_not n ∷ more_and n ∷ ss) false y → Split (an_and n ∷ ss) false y
and_level_is n ss y = deepens (an_not n) (more_and n) (an_and n) ss y (λ c u x p m. m u record { value = _; is = andC_notC p.is }) (λ u p. record { value = _; is = andE_notE p.is })

or_level_is : (n : ℕ) (ss : List Want) (y : List Token) → Split (an_and n ∷ more_or n ∷ ss) false y → Split (an_or n ∷ ss) false y
or_level_is n ss y = deepens (an_and n) (more_or n) (an_or n) ss y (λ c u x p m. m u record { value = _; is = orC_andC p.is }) (λ u p. record { value = _; is = orE_andE p.is })

expr_level : (n : ℕ) (ss : List Want) (y : List Token) → Split (an_or n ∷ more_arrow n ∷ ss) false y → Split (an_expr n ∷ ss) false y
expr_level n ss y = deepens (an_or n) (more_arrow n) (an_expr n) ss y (λ c u x p m. m u p) (λ u p. record { value = _; is = expr_orE p.is })

rel_not : (d : Bool) (u : List Token) → Some_of rel u → Some_of (not_level d) u
rel_not true u p = record { value = _; is = notE_rel p.is }
rel_not false u p = record { value = _; is = notC_rel p.is }

not_not : (d : Bool) (u : List Token) (t : Token) → IsWord word.Not t → Some_of (not_level d) u → Some_of (not_level d) (t ∷ u)
not_not true u t h p = record { value = _; is = notE_not u t h p.is }
not_not false u t h p = record { value = _; is = notC_not u t h p.is }

-- a closed tree is also one that may have an open end
abbrev pub opened : Level → Level
opened orC = orE
opened andC = andE
opened notC = notE
opened l = l

pub to_open : {l : Level} {w : List Token} {q : Part} → Is l w q → Is (opened l) w q
to_open (orC_or u w t p h q) = orE_or u w t p h (to_open q)
to_open (orC_andC p) = orE_andE (to_open p)
to_open (andC_and u w t p h q) = andE_and u w t p h (to_open q)
to_open (andC_notC p) = andE_notE (to_open p)
to_open (notC_not w t h p) = notE_not w t h (to_open p)
to_open (notC_rel p) = notE_rel p
to_open p = p

-- ---- what takes no token
unread : (l : Level) (x : List Token) → Some_of l x → Some_of l (x ++ [])
unread l x p = subst (λ z. Some_of l z) (sym (append-nil x)) p

pub no_arrow : (n : ℕ) → Piece (more_arrow n) false []
no_arrow n x q = unread expr x record { value = _; is = expr_orE (to_open q.is) }

pub no_or : (n : ℕ) → Piece (more_or n) false []
no_or n x q = unread orC x q

pub no_and : (n : ℕ) → Piece (more_and n) false []
no_and n x q = unread andC x q

pub no_rel : (n : ℕ) → Piece (more_rel n) false []
no_rel n x q = unread rel x record { value = _; is = rel_sum q.is }

pub no_sum : (n : ℕ) → Piece (more_sum n) false []
no_sum n x q = unread sum x q

pub no_prod : (n : ℕ) → Piece (more_prod n) false []
no_prod n x q = unread prod x q

pub no_post : (n : ℕ) → Piece (more_post n) false []
no_post n x q = unread post x q

pub no_type : (n : ℕ) → Piece (more_type n) false []
no_type n x q = unread type_level x q

pub no_more : (r : Items) (n : ℕ) → Piece (more r n) false []
no_more r n x q = unread (some r) x q

pub no_call : (n : ℕ) → Piece (call n) false []
no_call n m hm = record { value = _; is = atom_name m hm }

pub no_file : Piece a_file false []
no_file x q = unread file x q

pub no_body : Piece type_body false []
no_body t m h hm = record { value = _; is = decl_type [] t m h params_none hm }

pub no_end : Piece type_end false []
no_end t h x p m hm = record { value = _; is = decl_type x t m h p.is hm }

pub no_after : Piece after_sort false []
no_after x p = lone (x ++ []) (unread result_level x record { value = _; is = result_type p.is })

-- ---- atoms
by_call : (n : ℕ) (t : Token) → IsIdent t → (e : Bool) (w : List Token) → Pieces (want (call n) ∷ []) w → Some_of atom (t ∷ w)
by_call n t h e w (last _ _ p) = p t h

by_brackets : (m n : ℕ) (t : Token) → IsSign sign.OpenParen t → (e : Bool) (w : List Token) → Pieces (want (an_expr m) ∷ want (bracket_end n) ∷ []) w → Some_of atom (t ∷ w)
by_brackets m n t h e _ (next _ u x p (last _ _ q)) = q u p t h

by_brace : (n : ℕ) (t : Token) → IsSign sign.OpenBrace t → (e : Bool) (w : List Token) → Pieces (want (brace n) ∷ []) w → Some_of atom (t ∷ w)
by_brace n t h e w (last _ _ p) = p t h

distinct_bits : ℕ → List Bit
distinct_bits n = want (pass (kind.Sign sign.OpenParen) (suc n)) ∷ items of_exprs (suc n) ∷ want (keep (kind.Sign sign.CloseParen) n) ∷ mk all_differ ∷ []

by_distinct : (n : ℕ) (t : Token) → IsWord word.Distinct t → (e : Bool) (w : List Token) → Pieces (want (pass (kind.Sign sign.OpenParen) (suc n)) ∷ items of_exprs (suc n) ∷ want (keep (kind.Sign sign.CloseParen) n) ∷ []) w → Some_of atom (t ∷ w)
by_distinct n t h e _ (next _ _ _ (one o ho) (next _ w _ p (last _ _ (one c hc)))) = record { value = _; is = atom_distinct w t o c h ho p.is hc }

constant_is : (t : Token) (k : TokenKind) (a : Expr) → t.kind ≡ k → constant t k ≡ Some a → Some_of atom (t ∷ [])
constant_is t (kind.Whole m) a h e = record { value = _; is = atom_numeral t (number.Whole m) (ap numeral h) }
constant_is t (kind.Decimal top bottom) a h e = record { value = _; is = atom_numeral t (number.Decimal top bottom) (ap numeral h) }
constant_is t (kind.Reserved word.True) a h e = record { value = _; is = atom_true t h }
constant_is t (kind.Reserved word.False) a h e = record { value = _; is = atom_false t h }
constant_is t (kind.Reserved word.Void) a h e = record { value = _; is = atom_void t h }
constant_is t k a h e = never_some _ e

good_atom : (n : ℕ) (v : List Part) (t : Token) (ss : List Want) → Good (an_atom n) ss t (on_atom n v t t.kind)
unfolding distinct_bits
good_atom n v t ss =
    good_kind (an_atom n) ss t kind.Ident _ _ (λ h. good_bits (an_atom n) refl (want (call n) ∷ []) refl ss t n _ (by_call n t h))
    (good_kind (an_atom n) ss t (the_sign sign.OpenParen) _ _ (λ h. good_bits (an_atom n) refl (want (an_expr (suc n)) ∷ want (bracket_end n) ∷ []) refl ss t (suc n) _ (by_brackets (suc n) n t h))
    (good_kind (an_atom n) ss t (the_sign sign.OpenBrace) _ _ (λ h. good_bits (an_atom n) refl (want (brace n) ∷ []) refl ss t (suc n) _ (by_brace n t h))
    (good_kind (an_atom n) ss t (the_word word.Distinct) _ _ (λ h. good_bits (an_atom n) refl (distinct_bits n) refl ss t n _ (by_distinct n t h))
    (good_some (an_atom n) ss t (constant t t.kind) _ _ (λ a e. good_one (an_atom n) refl ss t n _ (constant_is t t.kind a refl e)) (good_refuse (an_atom n) ss t)))))

good_post : (n : ℕ) (v : List Part) (t : Token) (ss : List Want) → Good (a_post n) ss t (on_post n v t t.kind)
good_post n v t ss = good_plain (on_atom n v t t.kind) (an_atom n) (more_post n ∷ []) (a_post n) ss t (plain_atom n v t t.kind) (post_level n ss) (good_atom n v t (more_post n ∷ ss))

by_minus : (n : ℕ) (t : Token) → IsSign sign.Minus t → (e : Bool) (w : List Token) → Pieces (want (a_unary n) ∷ []) w → Some_of unary (t ∷ w)
by_minus n t h e w (last _ _ p) = record { value = _; is = unary_minus w t h p.is }

good_unary : (n : ℕ) (v : List Part) (t : Token) (ss : List Want) → Good (a_unary n) ss t (on_unary n v t t.kind)
good_unary n v t ss =
    good_kind (a_unary n) ss t (the_sign sign.Minus) _ _ (λ h. good_bits (a_unary n) refl (want (a_unary (suc n)) ∷ mk oppose ∷ []) refl ss t (suc n) _ (by_minus (suc n) t h))
    (good_looser (on_post n v t t.kind) (a_post n) (a_unary n) ss t (λ y k. recut y (λ d u p. record { value = _; is = unary_post p.is }) k) (good_post n v t ss))

good_prod : (n : ℕ) (v : List Part) (t : Token) (ss : List Want) → Good (a_prod n) ss t (on_prod n v t t.kind)
good_prod n v t ss = good_plain (on_unary n v t t.kind) (a_unary n) (more_prod n ∷ []) (a_prod n) ss t (plain_unary n v t t.kind) (prod_level n ss) (good_unary n v t (more_prod n ∷ ss))

good_sum : (n : ℕ) (v : List Part) (t : Token) (ss : List Want) → Good (a_sum n) ss t (on_sum n v t t.kind)
good_sum n v t ss = good_plain (on_prod n v t t.kind) (a_prod n) (more_sum n ∷ []) (a_sum n) ss t (plain_prod n v t t.kind) (sum_level n ss) (good_prod n v t (more_sum n ∷ ss))

good_rel : (n : ℕ) (v : List Part) (t : Token) (ss : List Want) → Good (a_rel n) ss t (on_rel n v t t.kind)
good_rel n v t ss = good_plain (on_sum n v t t.kind) (a_sum n) (more_rel n ∷ []) (a_rel n) ss t (plain_sum n v t t.kind) (rel_level n ss) (good_sum n v t (more_rel n ∷ ss))

-- ---- open forms
good_open : (n : ℕ) (bs : List Bit) → quiet bs ≡ true → (ss : List Want) (t : Token) (d : ℕ) (u : List Part) → ((w : List Token) → Pieces (reals bs) w → Some_of notE (t ∷ w)) → Good (an_not n) ss t (opens d (expand bs) u)
good_open n bs q ss t d u f = good_opens (an_not n) ss t d (expand bs) u (λ y p. go y (gather bs q (all_items bs) (unchained ss) false y p))
  where
    go : (y : List Token) → Cut (λ d u. Pieces (reals bs) u) (Split (unchained ss)) y → Cut (Piece (an_not n)) (Split ss) (t ∷ y)
    go y k = record { open_end = true; here = t ∷ k.here; there = k.there; whole = ap (λ z. t ∷ z) k.whole; is = f k.here k.is; more = unchain ss k.open_end k.there k.more }

let_bits : ℕ → List Bit
let_bits n = want (keep kind.Ident n) ∷ want (pass (kind.Sign sign.Equal) n) ∷ want (an_expr n) ∷ want (pass (kind.Reserved word.In) n) ∷ want (an_expr n) ∷ mk bind_name ∷ []

by_let : (n : ℕ) (t : Token) → IsWord word.Let t → (w : List Token) → Pieces (want (keep kind.Ident n) ∷ want (pass (kind.Sign sign.Equal) n) ∷ want (an_expr n) ∷ want (pass (kind.Reserved word.In) n) ∷ want (an_expr n) ∷ []) w → Some_of notE (t ∷ w)
by_let n t h _ (next _ _ _ (one m hm) (next _ _ _ (one e he) (next _ a _ p (next _ _ _ (one i hi) (last _ b q))))) = record { value = _; is = notE_open (open_let a b t m e i h hm he p.is hi q.is) }

if_bits : ℕ → List Bit
if_bits n = want (an_expr n) ∷ want (pass (kind.Reserved word.Then) n) ∷ want (an_expr n) ∷ want (pass (kind.Reserved word.Else) n) ∷ want (an_expr n) ∷ mk choose ∷ []

by_if : (n : ℕ) (t : Token) → IsWord word.If t → (w : List Token) → Pieces (want (an_expr n) ∷ want (pass (kind.Reserved word.Then) n) ∷ want (an_expr n) ∷ want (pass (kind.Reserved word.Else) n) ∷ want (an_expr n) ∷ []) w → Some_of notE (t ∷ w)
by_if n t h _ (next _ c _ p (next _ _ _ (one m hm) (next _ a _ q (next _ _ _ (one l hl) (last _ b r))))) = subst (λ z. Some_of notE (t ∷ z)) (append_assoc c (m ∷ a) (l ∷ b)) record { value = _; is = notE_open (open_if c a b t m l h p.is hm q.is hl r.is) }

block_bits : ℕ → List Bit
block_bits n = items of_groups n ∷ want (triggers_or_dot n) ∷ want (an_expr n) ∷ mk quantify ∷ []

by_block : (n : ℕ) (t : Token) (b : Quantifier) → quantifies t.kind ≡ Some b → (w : List Token) → Pieces (items of_groups n ∷ want (triggers_or_dot n) ∷ want (an_expr n) ∷ []) w → Some_of notE (t ∷ w)
by_block n t b h _ (next _ u _ p (next _ _ _ (closed x d r hd) (last _ w q))) = subst (λ z. Some_of notE (t ∷ z)) (append_assoc u x (d ∷ w) ∙ ap (λ z. u ++ z) (sym (append_assoc x (d ∷ []) w))) record { value = _; is = notE_open (open_quantified u x w t d b h p.is r.is hd q.is) }

good_not : (n : ℕ) (v : List Part) (t : Token) (ss : List Want) → Good (an_not n) ss t (on_not n v t t.kind)
unfolding let_bits if_bits block_bits
good_not n v t ss =
    good_kind (an_not n) ss t (the_word word.Not) _ _ (λ h. good_take (an_not n) ss t (suc n) (an_not (suc n) ∷ make negate ∷ []) _ (λ y p. prefixed {piece = Piece (an_not (suc n))} {whole = Piece (an_not n)} {after = Split ss} t y (λ d u p. not_not d u t h p) p))
    (good_kind (an_not n) ss t (the_word word.Let) _ _ (λ h. good_open n (let_bits (suc n)) refl ss t (suc n) _ (by_let (suc n) t h))
    (good_kind (an_not n) ss t (the_word word.If) _ _ (λ h. good_open n (if_bits (suc n)) refl ss t (suc n) _ (by_if (suc n) t h))
    (good_some (an_not n) ss t (quantifies t.kind) _ _ (λ b h. good_open n (block_bits (suc n)) refl ss t (suc n) _ (by_block (suc n) t b h))
    (good_looser (on_rel n v t t.kind) (a_rel n) (an_not n) ss t (λ y k. recut y rel_not k) (good_rel n v t ss)))))

good_and : (n : ℕ) (v : List Part) (t : Token) (ss : List Want) → Good (an_and n) ss t (on_and n v t t.kind)
good_and n v t ss = good_level (on_not n v t t.kind) (an_not n) (more_and n) (an_and n) ss t (firm_not n v t t.kind) refl (and_level_is n ss) (good_not n v t (more_and n ∷ ss))

good_or : (n : ℕ) (v : List Part) (t : Token) (ss : List Want) → Good (an_or n) ss t (on_or n v t t.kind)
good_or n v t ss = good_level (on_and n v t t.kind) (an_and n) (more_or n) (an_or n) ss t (firm_and n v t t.kind) refl (or_level_is n ss) (good_and n v t (more_or n ∷ ss))

good_expr : (n : ℕ) (v : List Part) (t : Token) (ss : List Want) → Good (an_expr n) ss t (on_expr n v t t.kind)
good_expr n v t ss = good_level (on_or n v t t.kind) (an_or n) (more_arrow n) (an_expr n) ss t (firm_or n v t t.kind) refl (expr_level n ss) (good_or n v t (more_arrow n ∷ ss))

-- ---- chains
regroup : (l : Level) (z : List Token) (t : Token) (u x : List Token) → Some_of l ((z ++ t ∷ u) ++ x) → Some_of l (z ++ (t ∷ u ++ x))
regroup l z t u x p = subst (λ w. Some_of l w) (append_assoc z (t ∷ u) x) p

by_arrow : (m n : ℕ) (t : Token) (o : BinaryOp) → arrow t.kind ≡ Some o → (e : Bool) (w : List Token) → Pieces (want (an_expr m) ∷ []) w → Piece (more_arrow n) e (t ∷ w)
by_arrow m n t o h e w (last _ _ p) = λ x q. record { value = _; is = expr_arrow x w t o q.is h p.is }

good_arrow : (n : ℕ) (v : List Part) (t : Token) (ss : List Want) → Good (more_arrow n) ss t (act (more_arrow n) v t t.kind)
good_arrow n v t ss = good_operand (more_arrow n) ss t (suc n) v an_expr [] (arrow t.kind) (λ o h. good_bits (more_arrow n) refl (want (an_expr (suc n)) ∷ mk (join o) ∷ []) refl ss t (suc n) v (by_arrow (suc n) n t o h)) (good_none (more_arrow n) refl ss t v (no_arrow n))

good_more_or : (n : ℕ) (v : List Part) (t : Token) (ss : List Want) → Good (more_or n) ss t (act (more_or n) v t t.kind)
good_more_or n v t ss = good_kind (more_or n) ss t (the_word word.Or) _ _
    (λ h. good_take (more_or n) ss t (suc n) _ v (λ y p. chained (an_and (suc n)) (more_or (suc n)) (more_or n) ss t y (λ u p x q. record { value = _; is = orE_or x u t q.is h p.is }) (λ c u x p m z q. regroup (or_level c) z t u x (m (z ++ t ∷ u) record { value = _; is = orC_or z u t q.is h p.is })) p))
    (good_none (more_or n) refl ss t v (no_or n))

good_more_and : (n : ℕ) (v : List Part) (t : Token) (ss : List Want) → Good (more_and n) ss t (act (more_and n) v t t.kind)
good_more_and n v t ss = good_kind (more_and n) ss t (the_word word.And) _ _
    (λ h. good_take (more_and n) ss t (suc n) _ v (λ y p. chained (an_not (suc n)) (more_and (suc n)) (more_and n) ss t y (λ u p x q. record { value = _; is = andE_and x u t q.is h p.is }) (λ c u x p m z q. regroup (and_level c) z t u x (m (z ++ t ∷ u) record { value = _; is = andC_and z u t q.is h p.is })) p))
    (good_none (more_and n) refl ss t v (no_and n))

by_relation : (m n : ℕ) (t : Token) (o : BinaryOp) → relation t.kind ≡ Some o → (e : Bool) (w : List Token) → Pieces (want (a_sum m) ∷ []) w → Piece (more_rel n) e (t ∷ w)
by_relation m n t o h e w (last _ _ p) = λ x q. record { value = _; is = rel_two x w t o q.is h p.is }

good_more_rel : (n : ℕ) (v : List Part) (t : Token) (ss : List Want) → Good (more_rel n) ss t (act (more_rel n) v t t.kind)
good_more_rel n v t ss = good_operand (more_rel n) ss t n v a_sum [] (relation t.kind) (λ o h. good_bits (more_rel n) refl (want (a_sum n) ∷ mk (join o) ∷ []) refl ss t n v (by_relation n n t o h)) (good_none (more_rel n) refl ss t v (no_rel n))

by_plus : (m n : ℕ) (t : Token) (o : BinaryOp) → additive t.kind ≡ Some o → (e : Bool) (w : List Token) → Pieces (want (a_prod m) ∷ want (more_sum m) ∷ []) w → Piece (more_sum n) e (t ∷ w)
by_plus m n t o h e _ (next _ u x p (last _ _ k)) = λ z q. regroup sum z t u x (k (z ++ t ∷ u) record { value = _; is = sum_two z u t o q.is h p.is })

good_more_sum : (n : ℕ) (v : List Part) (t : Token) (ss : List Want) → Good (more_sum n) ss t (act (more_sum n) v t t.kind)
good_more_sum n v t ss = good_operand (more_sum n) ss t (suc n) v a_prod (more_sum (suc n) ∷ []) (additive t.kind) (λ o h. good_bits (more_sum n) refl (want (a_prod (suc n)) ∷ mk (join o) ∷ want (more_sum (suc n)) ∷ []) refl ss t (suc n) v (by_plus (suc n) n t o h)) (good_none (more_sum n) refl ss t v (no_sum n))

by_times : (m n : ℕ) (t : Token) (o : BinaryOp) → multiplicative t.kind ≡ Some o → (e : Bool) (w : List Token) → Pieces (want (a_unary m) ∷ want (more_prod m) ∷ []) w → Piece (more_prod n) e (t ∷ w)
by_times m n t o h e _ (next _ u x p (last _ _ k)) = λ z q. regroup prod z t u x (k (z ++ t ∷ u) record { value = _; is = prod_two z u t o q.is h p.is })

good_more_prod : (n : ℕ) (v : List Part) (t : Token) (ss : List Want) → Good (more_prod n) ss t (act (more_prod n) v t t.kind)
good_more_prod n v t ss = good_operand (more_prod n) ss t (suc n) v a_unary (more_prod (suc n) ∷ []) (multiplicative t.kind) (λ o h. good_bits (more_prod n) refl (want (a_unary (suc n)) ∷ mk (join o) ∷ want (more_prod (suc n)) ∷ []) refl ss t (suc n) v (by_times (suc n) n t o h)) (good_none (more_prod n) refl ss t v (no_prod n))

by_point : (m n : ℕ) (t : Token) → IsSign sign.Dot t → (e : Bool) (w : List Token) → Pieces (want (keep kind.Ident m) ∷ want (more_post m) ∷ []) w → Piece (more_post n) e (t ∷ w)
by_point m n t h e _ (next _ _ x (one i hi) (last _ _ k)) = λ z q. regroup post z t (i ∷ []) x (k (z ++ t ∷ i ∷ []) record { value = _; is = post_field z t i q.is h hi })

good_more_post : (n : ℕ) (v : List Part) (t : Token) (ss : List Want) → Good (more_post n) ss t (act (more_post n) v t t.kind)
good_more_post n v t ss = good_kind (more_post n) ss t (the_sign sign.Dot) _ _ (λ h. good_bits (more_post n) refl (want (keep kind.Ident (suc n)) ∷ mk take_field ∷ want (more_post (suc n)) ∷ []) refl ss t (suc n) v (by_point (suc n) n t h)) (good_none (more_post n) refl ss t v (no_post n))

by_name : (m n : ℕ) (t : Token) → IsIdent t → (e : Bool) (w : List Token) → Pieces (want (more_type m) ∷ []) w → Piece (more_type n) e (t ∷ w)
by_name m n t h e x (last _ _ k) = λ z q. regroup type_level z t [] x (k (z ++ t ∷ []) record { value = _; is = type_postfix z t q.is h })

good_more_type : (n : ℕ) (v : List Part) (t : Token) (ss : List Want) → Good (more_type n) ss t (act (more_type n) v t t.kind)
good_more_type n v t ss = good_kind (more_type n) ss t kind.Ident _ _ (λ h. good_bits (more_type n) refl (want (more_type (suc n)) ∷ []) refl ss t (suc n) _ (by_name (suc n) n t h)) (good_none (more_type n) refl ss t v (no_type n))

good_more : (r : Items) (n : ℕ) (v : List Part) (t : Token) (ss : List Want) → Good (more r n) ss t (act (more r n) v t t.kind)
good_more r n v t ss = good_kind (more r n) ss t (the_sign (separator r)) _ _
    (λ h. good_take (more r n) ss t n _ v (λ y p. prefixed {piece = λ d u. (z : List Token) → Some_of (some r) z → Some_of (some r) (z ++ t ∷ u)} {whole = Piece (more r n)} {after = Split ss} t y (λ d u f. f)
    (sew {first = λ d u. Some_of (element r) u} {second = Piece (more r n)} {both = λ d u. (z : List Token) → Some_of (some r) z → Some_of (some r) (z ++ t ∷ u)} {after = Split ss} y (λ c d u x p k z q. regroup (some r) z t u x (k (z ++ t ∷ u) (more_of r z u t q h p)))
    (element_of r n (make add ∷ more r n ∷ ss) false y (subst (λ z. Split z false y) (append_assoc (element_wants r n) (make add ∷ more r n ∷ []) ss) p)))))
    (good_none (more r n) refl ss t v (no_more r n))

-- ---- single tokens, calls and brackets
good_keep : (j : TokenKind) (n : ℕ) (v : List Part) (t : Token) (ss : List Want) → Good (keep j n) ss t (act (keep j n) v t t.kind)
good_keep j n v t ss = good_kind (keep j n) ss t j _ _ (λ h. good_one (keep j n) refl ss t n _ (one t h)) (good_refuse (keep j n) ss t)

good_pass : (j : TokenKind) (n : ℕ) (v : List Part) (t : Token) (ss : List Want) → Good (pass j n) ss t (act (pass j n) v t t.kind)
good_pass j n v t ss = good_kind (pass j n) ss t j _ _ (λ h. good_one (pass j n) refl ss t n _ (one t h)) (good_refuse (pass j n) ss t)

call_bits : ℕ → List Bit
call_bits n = items of_exprs (suc n) ∷ want (keep (kind.Sign sign.CloseParen) n) ∷ mk call_it ∷ []

by_terms : (n : ℕ) (t : Token) → IsSign sign.OpenParen t → (e : Bool) (w : List Token) → Pieces (items of_exprs (suc n) ∷ want (keep (kind.Sign sign.CloseParen) n) ∷ []) w → Piece (call n) e (t ∷ w)
by_terms n t h e _ (next _ w _ p (last _ _ (one c hc))) = λ m hm. record { value = _; is = atom_call w m t c hm h p.is hc }

good_call : (n : ℕ) (v : List Part) (t : Token) (ss : List Want) → Good (call n) ss t (act (call n) v t t.kind)
unfolding call_bits
good_call n v t ss = good_kind (call n) ss t (the_sign sign.OpenParen) _ _ (λ h. good_bits (call n) refl (call_bits n) refl ss t (suc n) v (by_terms n t h)) (good_none (call n) refl ss t _ (no_call n))

by_sort : (n : ℕ) (t : Token) → IsSign sign.Colon t → (e : Bool) (w : List Token) → Pieces (want (a_type (suc n)) ∷ want (keep (kind.Sign sign.CloseParen) n) ∷ []) w → Piece (bracket_end n) e (t ∷ w)
by_sort n t h e _ (next _ w _ p (last _ _ (one c hc))) = λ x a o ho. subst (λ z. Some_of atom (o ∷ z)) (append_assoc x (t ∷ w) (c ∷ [])) record { value = _; is = atom_ascribed x w o t c ho a.is h p.is hc }

good_bracket_end : (n : ℕ) (v : List Part) (t : Token) (ss : List Want) → Good (bracket_end n) ss t (act (bracket_end n) v t t.kind)
good_bracket_end n v t ss =
    good_kind (bracket_end n) ss t (the_sign sign.CloseParen) _ _ (λ h. good_made (bracket_end n) refl ss t n enclose _ (λ x p o ho. record { value = _; is = atom_brackets x o t ho p.is h }))
    (good_kind (bracket_end n) ss t (the_sign sign.Colon) _ _ (λ h. good_bits (bracket_end n) refl (want (a_type (suc n)) ∷ want (keep (kind.Sign sign.CloseParen) n) ∷ mk ascribe ∷ []) refl ss t (suc n) v (by_sort n t h))
    (good_refuse (bracket_end n) ss t))

-- ---- braces
by_brace_name : (n : ℕ) (t : Token) → IsIdent t → (e : Bool) (w : List Token) → Pieces (want (brace_name n) ∷ []) w → Piece (brace n) e (t ∷ w)
by_brace_name n t h e w (last _ _ p) = λ o ho. p o t ho h

update_is : (n : ℕ) (w : List Token) → Pieces (want (a_post (suc n)) ∷ want (pass (kind.Reserved word.With) (suc n)) ∷ items of_settings (suc n) ∷ want (keep (kind.Sign sign.CloseBrace) n) ∷ []) w → (o : Token) → IsSign sign.OpenBrace o → Some_of atom (o ∷ w)
update_is n _ (next _ u _ p (next _ _ _ (one h hh) (next _ w _ q (last _ _ (one c hc))))) o ho = subst (λ z. Some_of atom (o ∷ z)) (append_assoc u (h ∷ w) (c ∷ [])) record { value = _; is = atom_update u w o h c ho p.is hh q.is hc }

update_bits : ℕ → List Bit
update_bits n = want (pass (kind.Reserved word.With) (suc n)) ∷ items of_settings (suc n) ∷ want (keep (kind.Sign sign.CloseBrace) n) ∷ mk change ∷ []

update_level : (n : ℕ) (ss : List Want) (y : List Token) → Split (a_post (suc n) ∷ update_wants n ++ ss) false y → Split (brace n ∷ ss) false y
update_level n ss y k = recut y (λ d u p. update_is n u p) (gather (want (a_post (suc n)) ∷ want (pass (kind.Reserved word.With) (suc n)) ∷ items of_settings (suc n) ∷ want (keep (kind.Sign sign.CloseBrace) n) ∷ mk change ∷ []) refl (all_items (want (a_post (suc n)) ∷ want (pass (kind.Reserved word.With) (suc n)) ∷ items of_settings (suc n) ∷ want (keep (kind.Sign sign.CloseBrace) n) ∷ mk change ∷ [])) ss false y k)

good_brace : (n : ℕ) (v : List Part) (t : Token) (ss : List Want) → Good (brace n) ss t (act (brace n) v t t.kind)
good_brace n v t ss =
    good_kind (brace n) ss t kind.Ident _ _ (λ h. good_bits (brace n) refl (want (brace_name n) ∷ []) refl ss t (suc n) _ (by_brace_name n t h))
    (good_plain (on_post (suc n) v t t.kind) (a_post (suc n)) (update_wants n) (brace n) ss t (plain_post (suc n) v t t.kind) (update_level n ss) (good_post (suc n) v t (update_wants n ++ ss)))

by_equal : (n : ℕ) (t : Token) → IsSign sign.Equal t → (e : Bool) (w : List Token) → Pieces (want (an_expr (suc n)) ∷ want (more of_settings (suc n)) ∷ want (keep (kind.Sign sign.CloseBrace) n) ∷ []) w → Piece (brace_name n) e (t ∷ w)
by_equal n t h e _ (next _ u _ p (next _ w _ q (last _ _ (one c hc)))) = λ o m ho hm.
    let r = q (m ∷ t ∷ u) (one_of of_settings (m ∷ t ∷ u) record { value = _; is = id_value u m t hm h p.is }) in
    subst (λ z. Some_of atom (o ∷ m ∷ t ∷ z)) (append_assoc u w (c ∷ [])) record { value = _; is = atom_record (m ∷ t ∷ u ++ w) o c ho r.is hc }

record_after : (u w : List Token) (o h c : Token) → IsSign sign.OpenBrace o → Some_of post u → IsWord word.With h → Some_of (some of_settings) w → IsSign sign.CloseBrace c → Some_of atom (o ∷ (u ++ h ∷ (w ++ c ∷ [])))
record_after u w o h c ho p hh q hc = subst (λ z. Some_of atom (o ∷ z)) (append_assoc u (h ∷ w) (c ∷ [])) record { value = _; is = atom_update u w o h c ho p.is hh q.is hc }

by_call_there : (n : ℕ) (t : Token) → IsSign sign.OpenParen t → (e : Bool) (w : List Token) → Pieces (items of_exprs (suc (suc n)) ∷ want (keep (kind.Sign sign.CloseParen) (suc n)) ∷ want (more_post (suc n)) ∷ want (pass (kind.Reserved word.With) (suc n)) ∷ items of_settings (suc n) ∷ want (keep (kind.Sign sign.CloseBrace) n) ∷ []) w → Piece (brace_name n) e (t ∷ w)
by_call_there n t h e _ (next _ a _ p (next _ _ _ (one c hc) (next _ x _ k (next _ _ _ (one g hg) (next _ w _ q (last _ _ (one f hf))))))) = λ o m ho hm.
    let r = k (m ∷ t ∷ (a ++ c ∷ [])) record { value = _; is = post_atom (atom_call a m t c hm h p.is hc) } in
    subst (λ z. Some_of atom (o ∷ m ∷ t ∷ z)) (append_assoc (a ++ c ∷ []) x (g ∷ (w ++ f ∷ [])) ∙ append_assoc a (c ∷ []) (x ++ g ∷ (w ++ f ∷ [])))
    (record_after (m ∷ t ∷ (a ++ c ∷ []) ++ x) w o g f ho r hg q hf)

by_field_there : (n : ℕ) (t : Token) → IsSign sign.Dot t → (e : Bool) (w : List Token) → Pieces (want (keep kind.Ident (suc (suc n))) ∷ want (more_post (suc (suc n))) ∷ want (pass (kind.Reserved word.With) (suc n)) ∷ items of_settings (suc n) ∷ want (keep (kind.Sign sign.CloseBrace) n) ∷ []) w → Piece (brace_name n) e (t ∷ w)
by_field_there n t h e _ (next _ _ _ (one i hi) (next _ x _ k (next _ _ _ (one g hg) (next _ w _ q (last _ _ (one f hf)))))) = λ o m ho hm.
    record_after (m ∷ t ∷ i ∷ x) w o g f ho (k (m ∷ t ∷ i ∷ []) record { value = _; is = post_field (m ∷ []) t i (post_atom (atom_name m hm)) h hi }) hg q hf

by_with : (n : ℕ) (t : Token) → IsWord word.With t → (e : Bool) (w : List Token) → Pieces (items of_settings (suc n) ∷ want (keep (kind.Sign sign.CloseBrace) n) ∷ []) w → Piece (brace_name n) e (t ∷ w)
by_with n t h e _ (next _ w _ q (last _ _ (one f hf))) = λ o m ho hm. record_after (m ∷ []) w o t f ho record { value = _; is = post_atom (atom_name m hm) } h q hf

good_brace_name : (n : ℕ) (v : List Part) (t : Token) (ss : List Want) → Good (brace_name n) ss t (on_brace_name n v t t.kind)
unfolding update_bits
good_brace_name n v t ss =
    good_kind (brace_name n) ss t (the_sign sign.Equal) _ _ (λ h. good_bits (brace_name n) refl (want (an_expr (suc n)) ∷ mk set ∷ mk begin ∷ want (more of_settings (suc n)) ∷ want (keep (kind.Sign sign.CloseBrace) n) ∷ mk build ∷ []) refl ss t (suc n) v (by_equal n t h))
    (good_kind (brace_name n) ss t (the_sign sign.OpenParen) _ _ (λ h. good_bits (brace_name n) refl (items of_exprs (suc (suc n)) ∷ want (keep (kind.Sign sign.CloseParen) (suc n)) ∷ mk call_it ∷ want (more_post (suc n)) ∷ update_bits n) refl ss t (suc (suc n)) v (by_call_there n t h))
    (good_kind (brace_name n) ss t (the_sign sign.Dot) _ _ (λ h. good_bits (brace_name n) refl (want (keep kind.Ident (suc (suc n))) ∷ mk take_field ∷ want (more_post (suc (suc n))) ∷ update_bits n) refl ss t (suc (suc n)) _ (by_field_there n t h))
    (good_kind (brace_name n) ss t (the_word word.With) _ _ (λ h. good_bits (brace_name n) refl (items of_settings (suc n) ∷ want (keep (kind.Sign sign.CloseBrace) n) ∷ mk change ∷ []) refl ss t (suc n) _ (by_with n t h))
    (good_refuse (brace_name n) ss t))))

-- ---- triggers
by_squares : (n : ℕ) (t : Token) → IsSign sign.OpenBracket t → (e : Bool) (w : List Token) → Pieces (items of_triggers (suc n) ∷ want (pass (kind.Sign sign.CloseBracket) n) ∷ want (pass (kind.Sign sign.Dot) n) ∷ []) w → Piece (triggers_or_dot n) e (t ∷ w)
by_squares n t h e _ (next _ w _ p (next _ _ _ (one c hc) (last _ _ (one f hf)))) = subst (λ z. Closed in_squares (kind.Sign sign.Dot) (t ∷ z)) (append_assoc w (c ∷ []) (f ∷ [])) (closed (t ∷ (w ++ c ∷ [])) f record { value = _; is = squares_some w t c h p.is hc } hf)

good_triggers : (n : ℕ) (v : List Part) (t : Token) (ss : List Want) → Good (triggers_or_dot n) ss t (act (triggers_or_dot n) v t t.kind)
good_triggers n v t ss =
    good_kind (triggers_or_dot n) ss t (the_sign sign.Dot) _ _ (λ h. good_one (triggers_or_dot n) refl ss t n _ (closed [] t record { value = _; is = squares_none } h))
    (good_kind (triggers_or_dot n) ss t (the_sign sign.OpenBracket) _ _ (λ h. good_bits (triggers_or_dot n) refl (items of_triggers (suc n) ∷ want (pass (kind.Sign sign.CloseBracket) n) ∷ want (pass (kind.Sign sign.Dot) n) ∷ []) refl ss t (suc n) v (by_squares n t h))
    (good_refuse (triggers_or_dot n) ss t))

-- ---- types
base_is : (t : Token) (k : TokenKind) (a : WrittenType) → t.kind ≡ k → base_type t k ≡ Some a → Some_of type_level (t ∷ [])
base_is t (kind.Reserved word.Int) a h e = record { value = _; is = type_int t h }
base_is t (kind.Reserved word.Real) a h e = record { value = _; is = type_real t h }
base_is t (kind.Reserved word.Bool) a h e = record { value = _; is = type_bool t h }
base_is t (kind.Reserved word.Unit) a h e = record { value = _; is = type_unit t h }
base_is t kind.TypeVar a h e = record { value = _; is = type_var t h }
base_is t kind.Ident a h e = record { value = _; is = type_name t h }
base_is t k a h e = never_some _ e

by_base : (n : ℕ) (t : Token) (a : WrittenType) → base_type t t.kind ≡ Some a → (e : Bool) (w : List Token) → Pieces (want (more_type n) ∷ []) w → Some_of type_level (t ∷ w)
by_base n t a h e x (last _ _ k) = k (t ∷ []) (base_is t t.kind a refl h)

by_sorts : (n : ℕ) (t : Token) → IsSign sign.OpenParen t → (e : Bool) (w : List Token) → Pieces (want (a_type (suc n)) ∷ want (pass (kind.Sign sign.Comma) (suc n)) ∷ items of_types (suc n) ∷ want (pass (kind.Sign sign.CloseParen) n) ∷ want (keep kind.Ident (suc n)) ∷ want (more_type (suc n)) ∷ []) w → Some_of type_level (t ∷ w)
by_sorts n t h e _ (next _ u _ p (next _ _ _ (one m hm) (next _ w _ q (next _ _ _ (one c hc) (next _ _ _ (one i hi) (last _ x k)))))) =
    let r = k (t ∷ ((u ++ m ∷ w) ++ c ∷ i ∷ [])) record { value = _; is = type_brackets u w t m c i h p.is hm q.is hc hi } in
    subst (λ z. Some_of type_level (t ∷ z)) (append_assoc (u ++ m ∷ w) (c ∷ i ∷ []) x ∙ append_assoc u (m ∷ w) (c ∷ i ∷ x)) r

good_type : (n : ℕ) (v : List Part) (t : Token) (ss : List Want) → Good (a_type n) ss t (on_type n v t t.kind)
good_type n v t ss =
    good_some (a_type n) ss t (base_type t t.kind) _ _ (λ a h. good_bits (a_type n) refl (want (more_type n) ∷ []) refl ss t n _ (by_base n t a h))
    (good_kind (a_type n) ss t (the_sign sign.OpenParen) _ _ (λ h. good_bits (a_type n) refl (want (a_type (suc n)) ∷ want (pass (kind.Sign sign.Comma) (suc n)) ∷ items of_types (suc n) ∷ want (pass (kind.Sign sign.CloseParen) n) ∷ want (keep kind.Ident (suc n)) ∷ mk bracket_sorts ∷ want (more_type (suc n)) ∷ []) refl ss t (suc n) _ (by_sorts n t h))
    (good_refuse (a_type n) ss t))

plain_type : (n : ℕ) (v : List Part) (t : Token) (k : TokenKind) → Plain (on_type n v t k)
plain_type n v t k = search (plain_cond, plain_some, plain_take, plain_refuse) depth 12

-- ---- declarations of types
by_type_name : (t : Token) → IsIdent t → (e : Bool) (w : List Token) → Pieces (want type_body ∷ []) w → Piece type_head e (t ∷ w)
by_type_name t h e w (last _ _ p) = λ f hf. p f t hf h

by_type_var : (t : Token) → IsTypeVar t → (e : Bool) (w : List Token) → Pieces (want (keep kind.Ident 0) ∷ want type_end ∷ []) w → Piece type_head e (t ∷ w)
by_type_var t h e _ (next _ _ _ (one m hm) (last _ _ q)) = λ f hf. q f hf (t ∷ []) record { value = _; is = params_var t h } m hm

by_type_vars : (t : Token) → IsSign sign.OpenParen t → (e : Bool) (w : List Token) → Pieces (want (keep kind.TypeVar 1) ∷ want (pass (kind.Sign sign.Comma) 1) ∷ items of_vars 1 ∷ want (pass (kind.Sign sign.CloseParen) 0) ∷ want (keep kind.Ident 0) ∷ want type_end ∷ []) w → Piece type_head e (t ∷ w)
by_type_vars t h e _ (next _ _ _ (one a ha) (next _ _ _ (one k hk) (next _ w _ p (next _ _ _ (one c hc) (next _ _ _ (one m hm) (last _ x q)))))) = λ f hf.
    subst (λ z. Some_of a_decl (f ∷ t ∷ a ∷ k ∷ z)) (append_assoc w (c ∷ []) (m ∷ x)) (q f hf (t ∷ a ∷ k ∷ (w ++ c ∷ [])) record { value = _; is = params_vars w t a k c h ha hk p.is hc } m hm)

good_type_head : (v : List Part) (t : Token) (ss : List Want) → Good type_head ss t (act type_head v t t.kind)
good_type_head v t ss =
    good_kind type_head ss t kind.Ident _ _ (λ h. good_bits type_head refl (want type_body ∷ []) refl ss t 0 _ (by_type_name t h))
    (good_kind type_head ss t kind.TypeVar _ _ (λ h. good_bits type_head refl (want (keep kind.Ident 0) ∷ want type_end ∷ []) refl ss t 0 _ (by_type_var t h))
    (good_kind type_head ss t (the_sign sign.OpenParen) _ _ (λ h. good_bits type_head refl (want (keep kind.TypeVar 1) ∷ want (pass (kind.Sign sign.Comma) 1) ∷ items of_vars 1 ∷ want (pass (kind.Sign sign.CloseParen) 0) ∷ mk more_params ∷ want (keep kind.Ident 0) ∷ want type_end ∷ []) refl ss t 1 v (by_type_vars t h))
    (good_refuse type_head ss t)))

by_body : (t : Token) → IsSign sign.Equal t → (e : Bool) (w : List Token) → Pieces (want type_definition ∷ []) w → Piece type_body e (t ∷ w)
by_body t h e w (last _ _ p) = λ f m hf hm. p f m t hf hm h

good_type_body : (v : List Part) (t : Token) (ss : List Want) → Good type_body ss t (act type_body v t t.kind)
good_type_body v t ss = good_kind type_body ss t (the_sign sign.Equal) _ _ (λ h. good_bits type_body refl (want type_definition ∷ []) refl ss t 0 v (by_body t h)) (good_none type_body refl ss t _ no_body)

record_is : (x w : List Token) (t m e o c : Token) → IsWord word.Type_ t → Some_of params x → IsIdent m → IsSign sign.Equal e → IsSign sign.OpenBrace o → Some_of (some of_fields) w → IsSign sign.CloseBrace c → Some_of a_decl (t ∷ (x ++ m ∷ e ∷ o ∷ (w ++ c ∷ [])))
record_is x w t m e o c h q hm he ho p hc = subst (λ z. Some_of a_decl (t ∷ z)) (append_assoc x (m ∷ e ∷ o ∷ w) (c ∷ [])) record { value = _; is = decl_record x w t m e o c h q.is hm he ho p.is hc }

by_fields : (t : Token) → IsSign sign.OpenBrace t → (e : Bool) (w : List Token) → Pieces (items of_fields 1 ∷ want (keep (kind.Sign sign.CloseBrace) 0) ∷ []) w → Piece type_definition e (t ∷ w)
by_fields t h e _ (next _ w _ p (last _ _ (one c hc))) = λ f m q hf hm hq. record_is [] w f m q t c hf record { value = _; is = params_none } hm hq h p hc

by_constructors : (t : Token) → IsIdent t → (e : Bool) (w : List Token) → Pieces (want (more of_constructors 0) ∷ []) w → Piece type_definition e (t ∷ w)
by_constructors t h e w (last _ _ p) = λ f m q hf hm hq. let r = p (t ∷ []) (one_of of_constructors (t ∷ []) (record { value = t; is = is_id t h })) in record { value = _; is = decl_enumeration (t ∷ w) f m q hf hm hq r.is }

good_type_definition : (v : List Part) (t : Token) (ss : List Want) → Good type_definition ss t (act type_definition v t t.kind)
good_type_definition v t ss =
    good_kind type_definition ss t (the_sign sign.OpenBrace) _ _ (λ h. good_bits type_definition refl (items of_fields 1 ∷ want (keep (kind.Sign sign.CloseBrace) 0) ∷ mk be_record ∷ []) refl ss t 1 v (by_fields t h))
    (good_kind type_definition ss t kind.Ident _ _ (λ h. good_bits type_definition refl (mk begin ∷ want (more of_constructors 0) ∷ mk be_choice ∷ []) refl ss t 0 _ (by_constructors t h))
    (good_refuse type_definition ss t))

by_type_end : (t : Token) → IsSign sign.Equal t → (e : Bool) (w : List Token) → Pieces (want (pass (kind.Sign sign.OpenBrace) 1) ∷ items of_fields 1 ∷ want (keep (kind.Sign sign.CloseBrace) 0) ∷ []) w → Piece type_end e (t ∷ w)
by_type_end t h e _ (next _ _ _ (one o ho) (next _ w _ p (last _ _ (one c hc)))) = λ f hf x q m hm. record_is x w f m t o c hf q hm h ho p hc

good_type_end : (v : List Part) (t : Token) (ss : List Want) → Good type_end ss t (act type_end v t t.kind)
good_type_end v t ss = good_kind type_end ss t (the_sign sign.Equal) _ _ (λ h. good_bits type_end refl (want (pass (kind.Sign sign.OpenBrace) 1) ∷ items of_fields 1 ∷ want (keep (kind.Sign sign.CloseBrace) 0) ∷ mk be_record ∷ []) refl ss t 0 v (by_type_end t h)) (good_none type_end refl ss t _ no_end)

-- ---- declarations of symbols
logic_is : (t : Token) → IsWord word.Logic t → (u : List Token) → Some_of ac u → (x : List Token) → Some_of (some of_names) x → (c : Token) → IsSign sign.Colon c → (z : List Token) → Arity z → Some_of a_decl (t ∷ (u ++ (x ++ c ∷ z)))
logic_is t h u a x p c hc z (lone _ r) = subst (λ z. Some_of a_decl (t ∷ z)) (append_assoc (u ++ x) (c ∷ []) z ∙ append_assoc u x (c ∷ z)) record { value = _; is = decl_logic u x [] z t c h a.is p.is hc arguments_none r.is }
logic_is t h u a x p c hc _ (full w y b q hb r) = subst (λ z. Some_of a_decl (t ∷ z)) (append_assoc (u ++ x) (c ∷ (w ++ b ∷ [])) y ∙ append_assoc u x (c ∷ ((w ++ b ∷ []) ++ y)) ∙ ap (λ z. u ++ (x ++ c ∷ z)) (append_assoc w (b ∷ []) y)) record { value = _; is = decl_logic u x (w ++ b ∷ []) y t c h a.is p.is hc (arguments_some w b q.is hb) r.is }

by_ac : (t : Token) → IsWord word.Ac t → (e : Bool) (w : List Token) → Pieces (items of_names 0 ∷ want (pass (kind.Sign sign.Colon) 0) ∷ want logic_sorts ∷ []) w → Piece logic_head e (t ∷ w)
by_ac t h e _ (next _ x _ p (next _ _ _ (one c hc) (last _ z a))) = λ f hf. logic_is f hf (t ∷ []) record { value = _; is = ac_word t h } x p c hc z a

by_symbols : (t : Token) → IsIdent t → (e : Bool) (w : List Token) → Pieces (want (more of_names 0) ∷ want (pass (kind.Sign sign.Colon) 0) ∷ want logic_sorts ∷ []) w → Piece logic_head e (t ∷ w)
by_symbols t h e _ (next _ x _ p (next _ _ _ (one c hc) (last _ z a))) = λ f hf. logic_is f hf [] record { value = _; is = ac_none } (t ∷ x) (p (t ∷ []) (one_of of_names (t ∷ []) (record { value = t; is = is_id t h }))) c hc z a

good_logic_head : (v : List Part) (t : Token) (ss : List Want) → Good logic_head ss t (act logic_head v t t.kind)
good_logic_head v t ss =
    good_kind logic_head ss t (the_word word.Ac) _ _ (λ h. good_bits logic_head refl (items of_names 0 ∷ want (pass (kind.Sign sign.Colon) 0) ∷ want logic_sorts ∷ []) refl ss t 0 _ (by_ac t h))
    (good_kind logic_head ss t kind.Ident _ _ (λ h. good_bits logic_head refl (mk begin ∷ want (more of_names 0) ∷ want (pass (kind.Sign sign.Colon) 0) ∷ want logic_sorts ∷ []) refl ss t 0 _ (by_symbols t h))
    (good_refuse logic_head ss t))

sorts_level : (ss : List Want) (y : List Token) → Split (a_type 0 ∷ after_sort ∷ ss) false y → Split (logic_sorts ∷ ss) false y
sorts_level ss y k = sew y (λ c d u x p m. m u p) k

good_logic_sorts : (v : List Part) (t : Token) (ss : List Want) → Good logic_sorts ss t (act logic_sorts v t t.kind)
good_logic_sorts v t ss =
    good_kind logic_sorts ss t (the_word word.Prop) _ _ (λ h. good_made logic_sorts refl ss t 0 be_symbols _ (lone (t ∷ []) record { value = _; is = result_prop t h }))
    (good_plain (on_type 0 v t t.kind) (a_type 0) (after_sort ∷ []) logic_sorts ss t (plain_type 0 v t t.kind) (sorts_level ss) (good_type 0 v t (after_sort ∷ ss)))

by_one_sort : (t : Token) → IsSign sign.Arrow t → (e : Bool) (w : List Token) → Pieces (want a_result ∷ []) w → Piece after_sort e (t ∷ w)
by_one_sort t h e w (last _ _ r) = λ x p. full x w t (one_of of_types x p) h r

by_two_sorts : (t : Token) → IsSign sign.Comma t → (e : Bool) (w : List Token) → Pieces (want (a_type 0) ∷ want (more of_types 0) ∷ want (pass (kind.Sign sign.Arrow) 0) ∷ want a_result ∷ []) w → Piece after_sort e (t ∷ w)
by_two_sorts t h e _ (next _ u _ p (next _ x _ k (next _ _ _ (one b hb) (last _ y r)))) = λ z q.
    subst (λ z. Arity z) (append_assoc (z ++ t ∷ u) x (b ∷ y) ∙ append_assoc z (t ∷ u) (x ++ b ∷ y)) (full ((z ++ t ∷ u) ++ x) y b (k (z ++ t ∷ u) (more_of of_types z u t (one_of of_types z q) h p)) hb r)

good_after_sort : (v : List Part) (t : Token) (ss : List Want) → Good after_sort ss t (act after_sort v t t.kind)
good_after_sort v t ss =
    good_kind after_sort ss t (the_sign sign.Arrow) _ _ (λ h. good_bits after_sort refl (want a_result ∷ mk be_symbols ∷ []) refl ss t 0 _ (by_one_sort t h))
    (good_kind after_sort ss t (the_sign sign.Comma) _ _ (λ h. good_bits after_sort refl (want (a_type 0) ∷ mk add ∷ want (more of_types 0) ∷ want (pass (kind.Sign sign.Arrow) 0) ∷ want a_result ∷ mk be_symbols ∷ []) refl ss t 0 _ (by_two_sorts t h))
    (good_none after_sort refl ss t _ no_after))

result_level_is : (ss : List Want) (y : List Token) → Split (a_type 0 ∷ make sort_result ∷ ss) false y → Split (a_result ∷ ss) false y
result_level_is ss y k = recut {piece = Piece (a_type 0)} {whole = Piece a_result} {after = Split ss} y (λ d u p. record { value = _; is = result_type p.is }) k

good_result : (v : List Part) (t : Token) (ss : List Want) → Good a_result ss t (on_result v t t.kind)
good_result v t ss =
    good_kind a_result ss t (the_word word.Prop) _ _ (λ h. good_one a_result refl ss t 0 _ record { value = _; is = result_prop t h })
    (good_plain (on_type 0 v t t.kind) (a_type 0) (make sort_result ∷ []) a_result ss t (plain_type 0 v t t.kind) (result_level_is ss) (good_type 0 v t (make sort_result ∷ ss)))

-- ---- declarations of functions and predicates
by_formals : (t : Token) → IsIdent t → (e : Bool) (w : List Token) → Pieces (want (pass (kind.Sign sign.Colon) 1) ∷ want (a_type 1) ∷ want (more of_formals 1) ∷ want (pass (kind.Sign sign.CloseParen) 0) ∷ []) w → Piece formals_end e (t ∷ w)
by_formals t h e _ (next _ _ _ (one c hc) (next _ w _ p (next _ x _ k (last _ _ (one f hf))))) =
    let r = k (t ∷ c ∷ w) (one_of of_formals (t ∷ c ∷ w) record { value = _; is = id_type w t c h hc p.is }) in
    subst (λ z. Closed formals (kind.Sign sign.CloseParen) (t ∷ c ∷ z)) (append_assoc w x (f ∷ [])) (closed (t ∷ c ∷ w ++ x) f record { value = _; is = formals_some r.is } hf)

good_formals_end : (v : List Part) (t : Token) (ss : List Want) → Good formals_end ss t (act formals_end v t t.kind)
good_formals_end v t ss =
    good_kind formals_end ss t (the_sign sign.CloseParen) _ _ (λ h. good_one formals_end refl ss t 0 _ (closed [] t record { value = _; is = formals_none } h))
    (good_kind formals_end ss t kind.Ident _ _ (λ h. good_bits formals_end refl (want (pass (kind.Sign sign.Colon) 1) ∷ want (a_type 1) ∷ mk give_type ∷ mk begin ∷ want (more of_formals 1) ∷ want (pass (kind.Sign sign.CloseParen) 0) ∷ []) refl ss t 1 _ (by_formals t h))
    (good_refuse formals_end ss t))

by_formals_there : (t : Token) → IsSign sign.OpenParen t → (e : Bool) (w : List Token) → Pieces (want formals_end ∷ want (pass (kind.Sign sign.Equal) 0) ∷ []) w → Piece predicate_head e (t ∷ w)
by_formals_there t h e _ (next _ _ _ (closed w c p hc) (last _ _ (one f hf))) = closed (t ∷ (w ++ c ∷ [])) f record { value = _; is = brackets_some w t c h p.is hc } hf

good_predicate_head : (v : List Part) (t : Token) (ss : List Want) → Good predicate_head ss t (act predicate_head v t t.kind)
good_predicate_head v t ss =
    good_kind predicate_head ss t (the_sign sign.Equal) _ _ (λ h. good_one predicate_head refl ss t 0 _ (closed [] t record { value = _; is = brackets_none } h))
    (good_kind predicate_head ss t (the_sign sign.OpenParen) _ _ (λ h. good_bits predicate_head refl (want formals_end ∷ want (pass (kind.Sign sign.Equal) 0) ∷ []) refl ss t 1 v (by_formals_there t h))
    (good_refuse predicate_head ss t))

-- ---- files
file_items : (bs : List Bit) → quiet bs ≡ true → (ss : List Want) (t : Token) (u : List Part) → ((w : List Token) → Pieces (reals bs) w → Some_of a_decl (t ∷ w)) → Good a_file ss t (take 0 (expand bs ++ make add ∷ a_file ∷ []) u)
file_items bs q ss t u f = good_take a_file ss t 0 (expand bs ++ make add ∷ a_file ∷ []) u (λ y p.
    prefixed {piece = λ d u. (z : List Token) → Some_of file z → Some_of file (z ++ t ∷ u)} {whole = Piece a_file} {after = Split ss} t y (λ d u g. g)
    (sew {first = λ d u. Pieces (reals bs) u} {second = Piece a_file} {both = λ d u. (z : List Token) → Some_of file z → Some_of file (z ++ t ∷ u)} {after = Split ss} y
    (λ c d u x p k z r. let g = f u p in regroup file z t u x (k (z ++ t ∷ u) record { value = _; is = file_decl z (t ∷ u) r.is g.is }))
    (gather bs q (all_items bs) (make add ∷ a_file ∷ ss) false y (subst (λ z. Split z false y) (append_assoc (expand bs) (make add ∷ a_file ∷ []) ss) p))))

by_type_decl : (t : Token) → IsWord word.Type_ t → (w : List Token) → Pieces (want type_head ∷ []) w → Some_of a_decl (t ∷ w)
by_type_decl t h w (last _ _ p) = p t h

by_logic : (t : Token) → IsWord word.Logic t → (w : List Token) → Pieces (want logic_head ∷ []) w → Some_of a_decl (t ∷ w)
by_logic t h w (last _ _ p) = p t h

by_function : (t : Token) → IsWord word.Function t → (w : List Token) → Pieces (want (keep kind.Ident 0) ∷ want (pass (kind.Sign sign.OpenParen) 1) ∷ want formals_end ∷ want (pass (kind.Sign sign.Colon) 0) ∷ want (a_type 0) ∷ want (pass (kind.Sign sign.Equal) 0) ∷ want (an_expr 0) ∷ []) w → Some_of a_decl (t ∷ w)
by_function t h _ (next _ _ _ (one m hm) (next _ _ _ (one o ho) (next _ _ _ (closed u c p hc) (next _ _ _ (one f hf) (next _ x _ r (next _ _ _ (one q hq) (last _ w k))))))) =
    subst (λ z. Some_of a_decl (t ∷ m ∷ o ∷ z)) (append_assoc u (c ∷ f ∷ x) (q ∷ w) ∙ sym (append_assoc u (c ∷ []) (f ∷ (x ++ q ∷ w)))) record { value = _; is = decl_function u x w t m o c f q h hm ho p.is hc hf r.is hq k.is }

by_predicate : (t : Token) → IsWord word.Predicate t → (w : List Token) → Pieces (want (keep kind.Ident 0) ∷ want predicate_head ∷ want (an_expr 0) ∷ []) w → Some_of a_decl (t ∷ w)
by_predicate t h _ (next _ _ _ (one m hm) (next _ _ _ (closed u q p hq) (last _ w k))) = subst (λ z. Some_of a_decl (t ∷ m ∷ z)) (sym (append_assoc u (q ∷ []) w)) record { value = _; is = decl_predicate u w t m q h hm p.is hq k.is }

by_axiom : (t : Token) → IsWord word.Axiom t → (w : List Token) → Pieces (want (keep kind.Ident 0) ∷ want (pass (kind.Sign sign.Colon) 0) ∷ want (an_expr 0) ∷ []) w → Some_of a_decl (t ∷ w)
by_axiom t h _ (next _ _ _ (one m hm) (next _ _ _ (one c hc) (last _ w k))) = record { value = _; is = decl_axiom w t m c h hm hc k.is }

by_goal : (t : Token) → IsWord word.Goal t → (w : List Token) → Pieces (want (keep kind.Ident 0) ∷ want (pass (kind.Sign sign.Colon) 0) ∷ want (an_expr 0) ∷ []) w → Some_of a_decl (t ∷ w)
by_goal t h _ (next _ _ _ (one m hm) (next _ _ _ (one c hc) (last _ w k))) = record { value = _; is = decl_goal w t m c h hm hc k.is }

good_file : (v : List Part) (t : Token) (ss : List Want) (k : TokenKind) → t.kind ≡ k → Good a_file ss t (act a_file v t k)
good_file v t ss (kind.Reserved word.Type_) h = file_items (want type_head ∷ []) refl ss t _ (by_type_decl t h)
good_file v t ss (kind.Reserved word.Logic) h = file_items (want logic_head ∷ []) refl ss t _ (by_logic t h)
good_file v t ss (kind.Reserved word.Function) h = file_items (want (keep kind.Ident 0) ∷ want (pass (kind.Sign sign.OpenParen) 1) ∷ want formals_end ∷ want (pass (kind.Sign sign.Colon) 0) ∷ want (a_type 0) ∷ want (pass (kind.Sign sign.Equal) 0) ∷ want (an_expr 0) ∷ mk be_function ∷ []) refl ss t _ (by_function t h)
good_file v t ss (kind.Reserved word.Predicate) h = file_items (want (keep kind.Ident 0) ∷ want predicate_head ∷ want (an_expr 0) ∷ mk be_predicate ∷ []) refl ss t _ (by_predicate t h)
good_file v t ss (kind.Reserved word.Axiom) h = file_items (want (keep kind.Ident 0) ∷ want (pass (kind.Sign sign.Colon) 0) ∷ want (an_expr 0) ∷ mk be_axiom ∷ []) refl ss t _ (by_axiom t h)
good_file v t ss (kind.Reserved word.Goal) h = file_items (want (keep kind.Ident 0) ∷ want (pass (kind.Sign sign.Colon) 0) ∷ want (an_expr 0) ∷ mk be_goal ∷ []) refl ss t _ (by_goal t h)
good_file v t ss k h = good_none a_file refl ss t v no_file

-- ---- every want
pub good : (s : Want) (v : List Part) (t : Token) (ss : List Want) → Good s ss t (act s v t t.kind)
good (an_expr n) v t ss = good_expr n v t ss
good (an_or n) v t ss = good_or n v t ss
good (an_and n) v t ss = good_and n v t ss
good (an_not n) v t ss = good_not n v t ss
good (a_rel n) v t ss = good_rel n v t ss
good (a_sum n) v t ss = good_sum n v t ss
good (a_prod n) v t ss = good_prod n v t ss
good (a_unary n) v t ss = good_unary n v t ss
good (a_post n) v t ss = good_post n v t ss
good (an_atom n) v t ss = good_atom n v t ss
good (a_type n) v t ss = good_type n v t ss
good (more_arrow n) v t ss = good_arrow n v t ss
good (more_or n) v t ss = good_more_or n v t ss
good (more_and n) v t ss = good_more_and n v t ss
good (more_rel n) v t ss = good_more_rel n v t ss
good (more_sum n) v t ss = good_more_sum n v t ss
good (more_prod n) v t ss = good_more_prod n v t ss
good (more_post n) v t ss = good_more_post n v t ss
good (more_type n) v t ss = good_more_type n v t ss
good (more r n) v t ss = good_more r n v t ss
good (keep j n) v t ss = good_keep j n v t ss
good (pass j n) v t ss = good_pass j n v t ss
good (make r) v t ss = good_skip (make r) ss t _ (λ y p. p)
good (call n) v t ss = good_call n v t ss
good (bracket_end n) v t ss = good_bracket_end n v t ss
good (brace n) v t ss = good_brace n v t ss
good (brace_name n) v t ss = good_brace_name n v t ss
good (triggers_or_dot n) v t ss = good_triggers n v t ss
good a_file v t ss = good_file v t ss t.kind refl
good type_head v t ss = good_type_head v t ss
good type_body v t ss = good_type_body v t ss
good type_definition v t ss = good_type_definition v t ss
good type_end v t ss = good_type_end v t ss
good logic_head v t ss = good_logic_head v t ss
good logic_sorts v t ss = good_logic_sorts v t ss
good after_sort v t ss = good_after_sort v t ss
good a_result v t ss = good_result v t ss
good formals_end v t ss = good_formals_end v t ss
good predicate_head v t ss = good_predicate_head v t ss
