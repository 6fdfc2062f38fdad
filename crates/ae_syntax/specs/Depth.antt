-- The depth of each token.
--
-- The depth at a token is the sum of three counts, each up to the token and with it: the brackets `(`, `{` and `[` that
-- are opened and not closed; the words `forall`, `exists`, `let`, `if`, `not` and the unary minus signs in whose form
-- the token stands; and the operators, the points of field accesses and the postfix type names in whose chain the
-- token stands. A chain is a largest part that is built by the line of `expr`, by the lines of `or`, by the lines of
-- `and`, by `sum`, by `prod`, by `post` or by `type`. A relation counts nothing, nor do the `->` of a `logic` and the
-- point after the variables of a quantifier. The name after types in round brackets counts as a postfix name.
use Rattle.std.specs.Prelude.{ℕ, suc, List, [], ◌∷◌, ◌++◌}
use Rattle.ae_lex.specs.declared.kinds.Token.{Token}
use Rattle.ae_syntax.specs.Parts.{Part}
use Rattle.ae_syntax.specs.Grammar.{Level, Is, file_none, file_decl, some_one, some_more, decl_type, decl_record, decl_enumeration, decl_logic, decl_function, decl_predicate, decl_axiom, decl_goal, is_id, is_var, ac_none, ac_word, params_none, params_var, params_vars, id_type, formals_none, formals_some, brackets_none, brackets_some, arguments_none, arguments_some, result_type, result_prop, type_int, type_real, type_bool, type_unit, type_var, type_name, type_postfix, type_brackets, expr_arrow, expr_orE, orE_or, orE_andE, orC_or, orC_andC, andE_and, andE_notE, andC_and, andC_notC, notE_not, notE_open, notE_rel, notC_not, notC_rel, open_quantified, open_let, open_if, group_type, squares_none, squares_some, trigger_exprs, rel_two, rel_sum, sum_two, sum_prod, prod_two, prod_unary, unary_minus, unary_post, post_field, post_atom, atom_name, atom_call, atom_numeral, atom_true, atom_false, atom_void, atom_brackets, atom_ascribed, atom_distinct, atom_record, atom_update, id_value}

-- what the chain that is read so far adds to this depth: one for each of its operators, points or postfix names
abbrev pub in_chain : {l : Level} {w : List Token} {p : Part} → Is l w p → ℕ → ℕ
in_chain (orC_or u w t p h q) d = suc (in_chain p d)
in_chain (andC_and u w t p h q) d = suc (in_chain p d)
in_chain (sum_two u w t o p h q) d = suc (in_chain p d)
in_chain (prod_two u w t o p h q) d = suc (in_chain p d)
in_chain (post_field u m n p h g) d = suc (in_chain p d)
in_chain (type_postfix u n p h) d = suc (in_chain p d)
in_chain (type_brackets u w o m c n ho p hm q hc hn) d = suc d
in_chain _ d = d

-- the depths of the tokens, where so much is open before them
abbrev pub depths : {l : Level} {w : List Token} {p : Part} → Is l w p → ℕ → List ℕ
depths file_none d = []
depths (file_decl u w p q) d = depths p d ++ depths q d
depths (some_one r p) d = depths p d
depths (some_more r u w t p h q) d = depths p d ++ d ∷ depths q d
depths (decl_type w t n ht p hn) d = d ∷ depths p d ++ d ∷ []
depths (decl_record u w t n e o c ht p hn he ho q hc) d = d ∷ depths p d ++ d ∷ d ∷ suc d ∷ depths q (suc d) ++ d ∷ []
depths (decl_enumeration w t n e ht hn he p) d = d ∷ d ∷ d ∷ depths p d
depths (decl_logic u v w x t c ht p q hc r s) d = d ∷ depths p d ++ depths q d ++ d ∷ depths r d ++ depths s d
depths (decl_function u v w t n o c m q ht hn ho p hc hm r hq s) d = d ∷ d ∷ suc d ∷ depths p (suc d) ++ d ∷ d ∷ depths r d ++ d ∷ depths s d
depths (decl_predicate u w t n q ht hn p hq r) d = d ∷ d ∷ depths p d ++ d ∷ depths r d
depths (decl_axiom w t n c ht hn hc p) d = d ∷ d ∷ d ∷ depths p d
depths (decl_goal w t n c ht hn hc p) d = d ∷ d ∷ d ∷ depths p d
depths (is_id t h) d = d ∷ []
depths (is_var t h) d = d ∷ []
depths ac_none d = []
depths (ac_word t h) d = d ∷ []
depths params_none d = []
depths (params_var t h) d = d ∷ []
depths (params_vars w o v m c ho hv hm p hc) d = suc d ∷ suc d ∷ suc d ∷ depths p (suc d) ++ d ∷ []
depths (id_type w n c hn hc p) d = d ∷ d ∷ depths p d
depths formals_none d = []
depths (formals_some p) d = depths p d
depths brackets_none d = []
depths (brackets_some w o c ho p hc) d = suc d ∷ depths p (suc d) ++ d ∷ []
depths arguments_none d = []
depths (arguments_some w a p h) d = depths p d ++ d ∷ []
depths (result_type p) d = depths p d
depths (result_prop t h) d = d ∷ []
depths (type_int t h) d = d ∷ []
depths (type_real t h) d = d ∷ []
depths (type_bool t h) d = d ∷ []
depths (type_unit t h) d = d ∷ []
depths (type_var t h) d = d ∷ []
depths (type_name n h) d = d ∷ []
depths (type_postfix u n p h) d = depths p d ++ suc (in_chain p d) ∷ []
depths (type_brackets u w o m c n ho p hm q hc hn) d = suc d ∷ depths p (suc d) ++ suc d ∷ depths q (suc d) ++ d ∷ suc d ∷ []
depths (expr_arrow u w t o p h q) d = depths p d ++ suc d ∷ depths q (suc d)
depths (expr_orE p) d = depths p d
depths (orE_or u w t p h q) d = let n = suc (in_chain p d) in depths p d ++ n ∷ depths q n
depths (orE_andE p) d = depths p d
depths (orC_or u w t p h q) d = let n = suc (in_chain p d) in depths p d ++ n ∷ depths q n
depths (orC_andC p) d = depths p d
depths (andE_and u w t p h q) d = let n = suc (in_chain p d) in depths p d ++ n ∷ depths q n
depths (andE_notE p) d = depths p d
depths (andC_and u w t p h q) d = let n = suc (in_chain p d) in depths p d ++ n ∷ depths q n
depths (andC_notC p) d = depths p d
depths (notE_not w t h p) d = suc d ∷ depths p (suc d)
depths (notE_open p) d = depths p d
depths (notE_rel p) d = depths p d
depths (notC_not w t h p) d = suc d ∷ depths p (suc d)
depths (notC_rel p) d = depths p d
depths (open_quantified u v w t c q ht p r hc s) d = suc d ∷ depths p (suc d) ++ depths r (suc d) ++ suc d ∷ depths s (suc d)
depths (open_let u w t n e i ht hn he p hi q) d = suc d ∷ suc d ∷ suc d ∷ depths p (suc d) ++ suc d ∷ depths q (suc d)
depths (open_if u v w t h l ht p hh q hl r) d = suc d ∷ depths p (suc d) ++ suc d ∷ depths q (suc d) ++ suc d ∷ depths r (suc d)
depths (group_type u w c p hc q) d = depths p d ++ d ∷ depths q d
depths squares_none d = []
depths (squares_some w o c ho p hc) d = suc d ∷ depths p (suc d) ++ d ∷ []
depths (trigger_exprs p) d = depths p d
depths (rel_two u w t o p h q) d = depths p d ++ d ∷ depths q d
depths (rel_sum p) d = depths p d
depths (sum_two u w t o p h q) d = let n = suc (in_chain p d) in depths p d ++ n ∷ depths q n
depths (sum_prod p) d = depths p d
depths (prod_two u w t o p h q) d = let n = suc (in_chain p d) in depths p d ++ n ∷ depths q n
depths (prod_unary p) d = depths p d
depths (unary_minus w t h p) d = suc d ∷ depths p (suc d)
depths (unary_post p) d = depths p d
depths (post_field u m n p h g) d = let k = suc (in_chain p d) in depths p d ++ k ∷ k ∷ []
depths (post_atom p) d = depths p d
depths (atom_name n h) d = d ∷ []
depths (atom_call w n o c hn ho p hc) d = d ∷ suc d ∷ depths p (suc d) ++ d ∷ []
depths (atom_numeral t n h) d = d ∷ []
depths (atom_true t h) d = d ∷ []
depths (atom_false t h) d = d ∷ []
depths (atom_void t h) d = d ∷ []
depths (atom_brackets w o c ho p hc) d = suc d ∷ depths p (suc d) ++ d ∷ []
depths (atom_ascribed u w o m c ho p hm q hc) d = suc d ∷ depths p (suc d) ++ suc d ∷ depths q (suc d) ++ d ∷ []
depths (atom_distinct w t o c ht ho p hc) d = d ∷ suc d ∷ depths p (suc d) ++ d ∷ []
depths (atom_record w o c ho p hc) d = suc d ∷ depths p (suc d) ++ d ∷ []
depths (atom_update u w o h c ho p hh q hc) d = suc d ∷ depths p (suc d) ++ suc d ∷ depths q (suc d) ++ d ∷ []
depths (id_value w n q hn hq p) d = d ∷ d ∷ depths p d
