-- Each exit of the functions, by its lemma.
use Rattle.std.proofs.Common.{suc, ◌+◌, [], ◌∷◌, ◌++◌, refl, sym, ap, ◌∙◌, arith, Ok, Err}
use Rattle.std.proofs.lemmas.Result.{err_from_is_err_and}
use Rattle.ae_syntax.specs.declared.exprs.BinaryOp.TheVariants as op
use Rattle.ae_lex.specs.declared.kinds.TokenKind.TheVariants as kind
use Rattle.ae_lex.specs.declared.kinds.Reserved.TheVariants as word
use Rattle.ae_lex.specs.declared.kinds.Sign.TheVariants as sign
use Rattle.ae_syntax.specs.Kinds.{arrow, relation, additive, multiplicative}
use Rattle.ae_syntax.specs.Parts.{token, tree, trees, setting, settings, trigger, triggers, groups, let_in, conditional, setting_of, applied, distinct_of, bracketed, trigger_of, quantified, record_of, update_of}
use Rattle.ae_syntax.specs.Inner.Machine.{join, make, an_expr, an_and, an_not, a_sum, a_prod, a_unary, a_post, an_atom, more_arrow, more_or, more_and, more_rel, more_sum, more_prod, more_post, negate, oppose, keep, pass, bind_name, choose, set, the_sign, the_word, let_wants, if_wants, block_wants, items_wants, element_wants, call, bracket_end, begin, more, call_it, all_differ, match_terms, a_type, triggers_or_dot, quantify, group_names, quantified_by, build, change, brace}
use Rattle.ae_syntax.proofs.ParserMeetsMachine.Steps.{then_reads, fails_on, relay, start, moved, done, then_makes, then_keeps, then_passes, lacks_keep, lacks_pass}
use Rattle.ae_syntax.proofs.ParserMeetsMachine.Levels.{past_rel, opened, opened_deep, small_grip}
use Rattle.ae_syntax.proofs.ParserMeetsMachine.Exprs.{expr_0, and_0, rel_0, sum_0, prod_0, post_0, takes_or, takes_and, takes_arrow, takes_rel, takes_sum, takes_prod, chain_deep, chain_fails, chain_again, chain_once, or_ends, and_ends, arrow_ends, rel_ends, sum_ends, prod_ends, none_at_end, none_here}
use Rattle.ae_syntax.specs.Grammar.{of_exprs, of_settings, of_triggers, of_groups, of_names}
use Rattle.ae_syntax.proofs.ParserMeetsMachine.OpenExprs.{begins_not, begins_minus, begin_deep, not_done, not_fails, minus_done, minus_fails, opens_let, opens_if, opens_block, items_first, items_first_fails, items_more, items_more_fails, items_ends, made, begin_1, begins_name, begins_distinct, begins_paren, begins_brace}
use Rattle.ae_syntax.specs.Inner.Reading.{distinct_wants, record_wants, change_wants}
use Rattle.ae_syntax.proofs.ParserMeetsMachine.Atoms.{at_end, not_0, unary_0, constant_done, constant_fails, call_ends, call_deep, call_1, distinct_deep, distinct_1, then_colon, then_closes, no_close}
use Rattle.ae_syntax.proofs.ParserMeetsMachine.Items.{dot_done, no_squares, squares_deep, squares_1}
use Rattle.ae_syntax.proofs.ParserMeetsMachine.Braces.{record_0, change_0}
use Rattle.ae_syntax.proofs.read_exprs.+expression.Goals as goal

pub read_expr-returns-in_err-left : goal.read_expr-returns-in_err-left
read_expr-returns-in_err-left t c = let p = err_from_is_err_and c.from_residual.result c.from_residual.ensures.1 in rw (p.1, p.2) (fails_on (λ p. tree p) (λ p. tree p) 1 4 (an_not c.args.depth ∷ []) (more_and c.args.depth ∷ more_or c.args.depth ∷ more_arrow c.args.depth ∷ []) [] [] c.in_err-left.field-0.0 (expr_0 c.args.tokens.now c.args.at c.args.depth c.requires.within) c.in_err-left.ensures)

pub read_expr-returns-in_err-left-2 : goal.read_expr-returns-in_err-left-2
read_expr-returns-in_err-left-2 t c = let p = err_from_is_err_and c.from_residual-in_err-left-2.result c.from_residual-in_err-left-2.ensures.1 in rw (p.1, p.2) (fails_on (λ p. tree p) (λ p. tree p) 1 3 (more_and c.args.depth ∷ []) (more_or c.args.depth ∷ more_arrow c.args.depth ∷ []) (tree c.in_ok-left.left ∷ []) [] c.in_err-left-2.field-0.0 (then_reads (an_not c.args.depth ∷ []) (more_and c.args.depth ∷ more_or c.args.depth ∷ more_arrow c.args.depth ∷ []) [] [] (expr_0 c.args.tokens.now c.args.at c.args.depth c.requires.within) c.in_ok-left.ensures) c.in_err-left-2.ensures)

pub read_expr-returns-in_err-left-3 : goal.read_expr-returns-in_err-left-3
read_expr-returns-in_err-left-3 t c = let p = err_from_is_err_and c.from_residual-in_err-left-3.result c.from_residual-in_err-left-3.ensures.1 in rw (p.1, p.2) (fails_on (λ p. tree p) (λ p. tree p) 1 2 (more_or c.args.depth ∷ []) (more_arrow c.args.depth ∷ []) (tree c.in_ok-left-2.left ∷ []) [] c.in_err-left-3.field-0.0 (then_reads (more_and c.args.depth ∷ []) (more_or c.args.depth ∷ more_arrow c.args.depth ∷ []) (tree c.in_ok-left.left ∷ []) [] (then_reads (an_not c.args.depth ∷ []) (more_and c.args.depth ∷ more_or c.args.depth ∷ more_arrow c.args.depth ∷ []) [] [] (expr_0 c.args.tokens.now c.args.at c.args.depth c.requires.within) c.in_ok-left.ensures) c.in_ok-left-2.ensures) c.in_err-left-3.ensures)

pub read_expr-returns : goal.read_expr-returns
read_expr-returns t c = relay (λ p. tree p) 1 c.more_arrow.result (then_reads (more_or c.args.depth ∷ []) (more_arrow c.args.depth ∷ []) (tree c.in_ok-left-2.left ∷ []) [] (then_reads (more_and c.args.depth ∷ []) (more_or c.args.depth ∷ more_arrow c.args.depth ∷ []) (tree c.in_ok-left.left ∷ []) [] (then_reads (an_not c.args.depth ∷ []) (more_and c.args.depth ∷ more_or c.args.depth ∷ more_arrow c.args.depth ∷ []) [] [] (expr_0 c.args.tokens.now c.args.at c.args.depth c.requires.within) c.in_ok-left.ensures) c.in_ok-left-2.ensures) c.in_ok-left-3.ensures) c.more_arrow.ensures

pub more_arrow-returns-in_default : goal.more_arrow-returns-in_default
more_arrow-returns-in_default t c = arrow_ends c.args.tokens.now c.args.at c.args.depth c.args.left c.requires.within (none_at_end arrow c.args.tokens.now c.args.at c.in_default.ensures.none) c.requires.weak

pub more_arrow-returns-in_default-arrow : goal.more_arrow-returns-in_default-arrow
more_arrow-returns-in_default-arrow t c = arrow_ends c.args.tokens.now c.args.at c.args.depth c.args.left c.requires.within (none_here arrow c.args.tokens.now c.args.at c.in-Some.first c.in-Some.ensures.some (sym c.arrow.ensures ∙ c.in_default-arrow.is)) c.requires.weak

pub more_arrow-returns-in_err-inner : goal.more_arrow-returns-in_err-inner
more_arrow-returns-in_err-inner t c = let p = err_from_is_err_and c.from_residual.result c.from_residual.ensures.1 in rw (p.1, p.2) (chain_deep (more_arrow c.args.depth) (suc c.args.depth) (an_expr (suc c.args.depth) ∷ make (join c.in-Some-arrow.op) ∷ []) c.args.tokens.now c.args.at 1 c.args.left c.in_err-inner.field-0.0 (takes_arrow c.args.tokens.now c.args.at c.args.depth (suc c.args.depth) c.in-Some.first c.in-Some-arrow.op c.in-Some.ensures.some (sym c.arrow.ensures ∙ c.in-Some-arrow.is) refl) c.in_err-inner.ensures.full c.in_err-inner.ensures.deep)

pub more_arrow-returns-in_err-right : goal.more_arrow-returns-in_err-right
more_arrow-returns-in_err-right t c = let p = err_from_is_err_and c.from_residual-in_err-right.result c.from_residual-in_err-right.ensures.1 in rw (p.1, p.2) (chain_fails (more_arrow c.args.depth) (an_expr c.in_ok-inner.inner) c.in-Some-arrow.op [] c.in_ok-inner.inner c.args.tokens.now c.args.at 1 1 c.args.left c.in_err-right.field-0.0 (takes_arrow c.args.tokens.now c.args.at c.args.depth c.in_ok-inner.inner c.in-Some.first c.in-Some-arrow.op c.in-Some.ensures.some (sym c.arrow.ensures ∙ c.in-Some-arrow.is) c.in_ok-inner.ensures.more) c.in_ok-inner.ensures.room c.in_err-right.ensures)

pub more_arrow-returns : goal.more_arrow-returns
more_arrow-returns t c = let g = c.in_ok-right.ensures in chain_once (more_arrow c.args.depth) (an_expr c.in_ok-inner.inner) c.in-Some-arrow.op c.in_ok-inner.inner c.args.tokens.now c.args.at _ 1 1 c.args.left _ _ (takes_arrow c.args.tokens.now c.args.at c.args.depth c.in_ok-inner.inner c.in-Some.first c.in-Some-arrow.op c.in-Some.ensures.some (sym c.arrow.ensures ∙ c.in-Some-arrow.is) c.in_ok-inner.ensures.more) c.in_ok-inner.ensures.room g c.in_ok-joined.ensures g.weak

pub more_or-returns-then-not-stands_word : goal.more_or-returns-then-not-stands_word
more_or-returns-then-not-stands_word t c = or_ends c.args.tokens.now c.args.at c.args.depth c.args.left c.requires.within c.if-not-stands_word.ensures c.requires.weak

pub more_or-returns-in_err-inner : goal.more_or-returns-in_err-inner
more_or-returns-in_err-inner t c = let p = err_from_is_err_and c.from_residual.result c.from_residual.ensures.1 in rw (p.1, p.2) (chain_deep (more_or c.args.depth) (suc c.args.depth) (an_and (suc c.args.depth) ∷ make (join op.Or) ∷ more_or (suc c.args.depth) ∷ []) c.args.tokens.now c.args.at 2 c.args.left c.in_err-inner.field-0.0 (takes_or c.args.tokens.now c.args.at c.args.depth (suc c.args.depth) c.if-not-stands_word.ensures refl) c.in_err-inner.ensures.full c.in_err-inner.ensures.deep)

pub more_or-returns-in_err-right : goal.more_or-returns-in_err-right
more_or-returns-in_err-right t c = let p = err_from_is_err_and c.from_residual-in_err-right.result c.from_residual-in_err-right.ensures.1 in rw (p.1, p.2) (chain_fails (more_or c.args.depth) (an_and c.in_ok-inner.inner) op.Or (more_or c.in_ok-inner.inner ∷ []) c.in_ok-inner.inner c.args.tokens.now c.args.at 2 3 c.args.left c.in_err-right.field-0.0 (takes_or c.args.tokens.now c.args.at c.args.depth c.in_ok-inner.inner c.if-not-stands_word.ensures c.in_ok-inner.ensures.more) c.in_ok-inner.ensures.room c.in_err-right.ensures)

pub more_or-returns : goal.more_or-returns
more_or-returns t c = chain_again (more_or c.args.depth) (an_and c.in_ok-inner.inner) (more_or c.in_ok-inner.inner) op.Or c.in_ok-inner.inner c.args.tokens.now c.args.at _ 2 3 c.args.left _ _ c.more_or.result (takes_or c.args.tokens.now c.args.at c.args.depth c.in_ok-inner.inner c.if-not-stands_word.ensures c.in_ok-inner.ensures.more) c.in_ok-inner.ensures.room c.in_ok-right.ensures c.in_ok-joined.ensures c.more_or.ensures

pub read_and-returns-in_err-left : goal.read_and-returns-in_err-left
read_and-returns-in_err-left t c = let p = err_from_is_err_and c.from_residual.result c.from_residual.ensures.1 in rw (p.1, p.2) (fails_on (λ p. tree p) (λ p. tree p) 3 4 (an_not c.args.depth ∷ []) (more_and c.args.depth ∷ []) [] [] c.in_err-left.field-0.0 (and_0 c.args.tokens.now c.args.at c.args.depth c.requires.within) c.in_err-left.ensures)

pub read_and-returns : goal.read_and-returns
read_and-returns t c = relay (λ p. tree p) 3 c.more_and.result (then_reads (an_not c.args.depth ∷ []) (more_and c.args.depth ∷ []) [] [] (and_0 c.args.tokens.now c.args.at c.args.depth c.requires.within) c.in_ok-left.ensures) c.more_and.ensures

pub more_and-returns-then-not-stands_word : goal.more_and-returns-then-not-stands_word
more_and-returns-then-not-stands_word t c = and_ends c.args.tokens.now c.args.at c.args.depth c.args.left c.requires.within c.if-not-stands_word.ensures c.requires.weak

pub more_and-returns-in_err-inner : goal.more_and-returns-in_err-inner
more_and-returns-in_err-inner t c = let p = err_from_is_err_and c.from_residual.result c.from_residual.ensures.1 in rw (p.1, p.2) (chain_deep (more_and c.args.depth) (suc c.args.depth) (an_not (suc c.args.depth) ∷ make (join op.And) ∷ more_and (suc c.args.depth) ∷ []) c.args.tokens.now c.args.at 3 c.args.left c.in_err-inner.field-0.0 (takes_and c.args.tokens.now c.args.at c.args.depth (suc c.args.depth) c.if-not-stands_word.ensures refl) c.in_err-inner.ensures.full c.in_err-inner.ensures.deep)

pub more_and-returns-in_err-right : goal.more_and-returns-in_err-right
more_and-returns-in_err-right t c = let p = err_from_is_err_and c.from_residual-in_err-right.result c.from_residual-in_err-right.ensures.1 in rw (p.1, p.2) (chain_fails (more_and c.args.depth) (an_not c.in_ok-inner.inner) op.And (more_and c.in_ok-inner.inner ∷ []) c.in_ok-inner.inner c.args.tokens.now c.args.at 3 4 c.args.left c.in_err-right.field-0.0 (takes_and c.args.tokens.now c.args.at c.args.depth c.in_ok-inner.inner c.if-not-stands_word.ensures c.in_ok-inner.ensures.more) c.in_ok-inner.ensures.room c.in_err-right.ensures)

pub more_and-returns : goal.more_and-returns
more_and-returns t c = chain_again (more_and c.args.depth) (an_not c.in_ok-inner.inner) (more_and c.in_ok-inner.inner) op.And c.in_ok-inner.inner c.args.tokens.now c.args.at _ 3 4 c.args.left _ _ c.more_and.result (takes_and c.args.tokens.now c.args.at c.args.depth c.in_ok-inner.inner c.if-not-stands_word.ensures c.in_ok-inner.ensures.more) c.in_ok-inner.ensures.room c.in_ok-right.ensures c.in_ok-joined.ensures c.more_and.ensures

pub read_not-returns-in_default : goal.read_not-returns-in_default
read_not-returns-in_default t c = at_end (λ p. tree p) (an_not c.args.depth) c.args.tokens.now c.args.at 4 c.in_default.ensures.none c.requires.within (λ v. refl)

pub read_not-returns : goal.read_not-returns
read_not-returns t c = relay (λ p. tree p) 4 c.read_rel.result (not_0 c.args.tokens.now c.args.at c.args.depth c.in-Some.first c.in-Some.ensures.some (sym c.is_word.ensures ∙ c.if-is_word.false) (sym c.is_word-2.ensures ∙ c.if-is_word-2.false) (sym c.is_word-3.ensures ∙ c.if-is_word-3.false) (sym c.quantifies.ensures ∙ c.in_default-quantifies.is)) c.read_rel.ensures

pub read_negation-returns-in_err-inner : goal.read_negation-returns-in_err-inner
read_negation-returns-in_err-inner t c = let p = err_from_is_err_and c.from_residual.result c.from_residual.ensures.1 in rw (p.1, p.2) (begin_deep (λ p. tree p) (an_not c.args.depth) (suc c.args.depth) (an_not (suc c.args.depth) ∷ make negate ∷ []) c.args.tokens.now c.args.at 4 c.args.first c.in_err-inner.field-0.0 (begins_not c.args.tokens.now c.args.at c.args.depth (suc c.args.depth) c.args.first c.requires.here c.requires.word refl) c.in_err-inner.ensures.full c.in_err-inner.ensures.deep)

pub read_negation-returns-in_err-body : goal.read_negation-returns-in_err-body
read_negation-returns-in_err-body t c = let p = err_from_is_err_and c.from_residual-in_err-body.result c.from_residual-in_err-body.ensures.1 in rw (p.1, p.2) (not_fails c.args.tokens.now c.args.at c.args.depth c.in_ok-inner.inner 4 4 c.args.first c.in_err-body.field-0.0 (begins_not c.args.tokens.now c.args.at c.args.depth c.in_ok-inner.inner c.args.first c.requires.here c.requires.word c.in_ok-inner.ensures.more) c.in_ok-inner.ensures.room c.in_err-body.ensures)

pub read_negation-returns : goal.read_negation-returns
read_negation-returns t c = not_done c.args.tokens.now c.args.at c.args.depth c.in_ok-inner.inner _ 4 c.args.first _ _ (begins_not c.args.tokens.now c.args.at c.args.depth c.in_ok-inner.inner c.args.first c.requires.here c.requires.word c.in_ok-inner.ensures.more) c.in_ok-inner.ensures.room c.in_ok-body.ensures c.in_ok-negated.ensures

pub read_block-returns-in_err-inner : goal.read_block-returns-in_err-inner
read_block-returns-in_err-inner t c = let p = err_from_is_err_and c.from_residual.result c.from_residual.ensures.1 in rw (p.1, p.2) (opened_deep (λ p. tree p) c.args.tokens.now (an_not c.args.depth) c.args.at (suc c.args.depth) c.args.first (block_wants (suc c.args.depth)) c.in_err-inner.field-0.0 c.requires.here c.in_err-inner.ensures.full (opens_block c.args.depth (suc c.args.depth) c.args.first c.args.quantifier c.requires.word refl) c.in_err-inner.ensures.deep)

pub read_block-returns-in_err-groups : goal.read_block-returns-in_err-groups
read_block-returns-in_err-groups t c = let p = err_from_is_err_and c.from_residual-in_err-groups.result c.from_residual-in_err-groups.ensures.1 in rw (p.1, p.2) (opened (λ p. tree p) c.args.tokens.now (an_not c.args.depth) c.args.at c.in_ok-inner.inner c.args.first (block_wants c.in_ok-inner.inner) (Err c.in_err-groups.field-0.0) c.requires.here c.in_ok-inner.ensures.room (opens_block c.args.depth c.in_ok-inner.inner c.args.first c.args.quantifier c.requires.word c.in_ok-inner.ensures.more) (fails_on (λ p. tree p) (λ p. groups p) 1 8 (keep kind.Ident c.in_ok-inner.inner ∷ make begin ∷ more of_names c.in_ok-inner.inner ∷ pass (the_sign sign.Colon) c.in_ok-inner.inner ∷ a_type c.in_ok-inner.inner ∷ make group_names ∷ make begin ∷ more of_groups c.in_ok-inner.inner ∷ []) (triggers_or_dot c.in_ok-inner.inner ∷ an_expr c.in_ok-inner.inner ∷ make quantify ∷ []) [] (token c.args.first ∷ []) c.in_err-groups.field-0.0 (start c.args.tokens.now (block_wants c.in_ok-inner.inner) (token c.args.first ∷ []) (c.args.at + 1) (let i = c.requires.here in omega (arith, i.within))) c.in_err-groups.ensures))

pub read_block-returns-in_err-triggers : goal.read_block-returns-in_err-triggers
read_block-returns-in_err-triggers t c = let p = err_from_is_err_and c.from_residual-in_err-triggers.result c.from_residual-in_err-triggers.ensures.1 in rw (p.1, p.2) (opened (λ p. tree p) c.args.tokens.now (an_not c.args.depth) c.args.at c.in_ok-inner.inner c.args.first (block_wants c.in_ok-inner.inner) (Err c.in_err-triggers.field-0.0) c.requires.here c.in_ok-inner.ensures.room (opens_block c.args.depth c.in_ok-inner.inner c.args.first c.args.quantifier c.requires.word c.in_ok-inner.ensures.more) (fails_on (λ p. tree p) (λ p. triggers p) 1 8 (triggers_or_dot c.in_ok-inner.inner ∷ []) (an_expr c.in_ok-inner.inner ∷ make quantify ∷ []) [] (groups c.in_ok-groups.groups ∷ token c.args.first ∷ []) c.in_err-triggers.field-0.0 (then_reads (keep kind.Ident c.in_ok-inner.inner ∷ make begin ∷ more of_names c.in_ok-inner.inner ∷ pass (the_sign sign.Colon) c.in_ok-inner.inner ∷ a_type c.in_ok-inner.inner ∷ make group_names ∷ make begin ∷ more of_groups c.in_ok-inner.inner ∷ []) (triggers_or_dot c.in_ok-inner.inner ∷ an_expr c.in_ok-inner.inner ∷ make quantify ∷ []) [] (token c.args.first ∷ []) (start c.args.tokens.now (block_wants c.in_ok-inner.inner) (token c.args.first ∷ []) (c.args.at + 1) (let i = c.requires.here in omega (arith, i.within))) c.in_ok-groups.ensures) c.in_err-triggers.ensures))

pub read_block-returns-in_err-body : goal.read_block-returns-in_err-body
read_block-returns-in_err-body t c = let p = err_from_is_err_and c.from_residual-in_err-body.result c.from_residual-in_err-body.ensures.1 in rw (p.1, p.2) (opened (λ p. tree p) c.args.tokens.now (an_not c.args.depth) c.args.at c.in_ok-inner.inner c.args.first (block_wants c.in_ok-inner.inner) (Err c.in_err-body.field-0.0) c.requires.here c.in_ok-inner.ensures.room (opens_block c.args.depth c.in_ok-inner.inner c.args.first c.args.quantifier c.requires.word c.in_ok-inner.ensures.more) (fails_on (λ p. tree p) (λ p. tree p) 1 1 (an_expr c.in_ok-inner.inner ∷ []) (make quantify ∷ []) [] (triggers c.in_ok-triggers.triggers ∷ groups c.in_ok-groups.groups ∷ token c.args.first ∷ []) c.in_err-body.field-0.0 (then_reads (triggers_or_dot c.in_ok-inner.inner ∷ []) (an_expr c.in_ok-inner.inner ∷ make quantify ∷ []) [] (groups c.in_ok-groups.groups ∷ token c.args.first ∷ []) (then_reads (keep kind.Ident c.in_ok-inner.inner ∷ make begin ∷ more of_names c.in_ok-inner.inner ∷ pass (the_sign sign.Colon) c.in_ok-inner.inner ∷ a_type c.in_ok-inner.inner ∷ make group_names ∷ make begin ∷ more of_groups c.in_ok-inner.inner ∷ []) (triggers_or_dot c.in_ok-inner.inner ∷ an_expr c.in_ok-inner.inner ∷ make quantify ∷ []) [] (token c.args.first ∷ []) (start c.args.tokens.now (block_wants c.in_ok-inner.inner) (token c.args.first ∷ []) (c.args.at + 1) (let i = c.requires.here in omega (arith, i.within))) c.in_ok-groups.ensures) c.in_ok-triggers.ensures) c.in_err-body.ensures))

pub read_block-returns : goal.read_block-returns
read_block-returns t c = let g = c.in_ok-body.ensures in opened (λ p. tree p) c.args.tokens.now (an_not c.args.depth) c.args.at c.in_ok-inner.inner c.args.first (block_wants c.in_ok-inner.inner) (Ok (c.in_ok-block.block, c.in_ok-body.to)) c.requires.here c.in_ok-inner.ensures.room (opens_block c.args.depth c.in_ok-inner.inner c.args.first c.args.quantifier c.requires.word c.in_ok-inner.ensures.more) (made 1 (quantified c.args.first c.args.quantifier c.in_ok-groups.groups c.in_ok-triggers.triggers c.in_ok-body.body) _ (then_reads (an_expr c.in_ok-inner.inner ∷ []) (make quantify ∷ []) [] (triggers c.in_ok-triggers.triggers ∷ groups c.in_ok-groups.groups ∷ token c.args.first ∷ []) (then_reads (triggers_or_dot c.in_ok-inner.inner ∷ []) (an_expr c.in_ok-inner.inner ∷ make quantify ∷ []) [] (groups c.in_ok-groups.groups ∷ token c.args.first ∷ []) (then_reads (keep kind.Ident c.in_ok-inner.inner ∷ make begin ∷ more of_names c.in_ok-inner.inner ∷ pass (the_sign sign.Colon) c.in_ok-inner.inner ∷ a_type c.in_ok-inner.inner ∷ make group_names ∷ make begin ∷ more of_groups c.in_ok-inner.inner ∷ []) (triggers_or_dot c.in_ok-inner.inner ∷ an_expr c.in_ok-inner.inner ∷ make quantify ∷ []) [] (token c.args.first ∷ []) (start c.args.tokens.now (block_wants c.in_ok-inner.inner) (token c.args.first ∷ []) (c.args.at + 1) (let i = c.requires.here in omega (arith, i.within))) c.in_ok-groups.ensures) c.in_ok-triggers.ensures) c.in_ok-body.ensures) (λ v. ap (λ q. quantified_by c.args.first c.in_ok-groups.groups c.in_ok-triggers.triggers c.in_ok-body.body v q) c.requires.word) c.in_ok-block.ensures g.weak)

pub read_triggers-returns-then-stands_sign : goal.read_triggers-returns-then-stands_sign
read_triggers-returns-then-stands_sign t c = dot_done c.args.tokens.now c.args.at c.args.depth _ c.requires.within c.requires.shallow c.if-stands_sign.ensures c.new.ensures

pub read_triggers-returns-in_err-take_sign : goal.read_triggers-returns-in_err-take_sign
read_triggers-returns-in_err-take_sign t c = let p = err_from_is_err_and c.from_residual.result c.from_residual.ensures.1 in rw (p.1, p.2) (no_squares (λ p. triggers p) c.args.tokens.now c.args.at c.args.depth 8 c.in_err-take_sign.field-0.0 c.requires.within c.if-stands_sign.ensures c.in_err-take_sign.ensures.lacks c.in_err-take_sign.ensures.wrong)

pub read_triggers-returns-in_err-inner : goal.read_triggers-returns-in_err-inner
read_triggers-returns-in_err-inner t c = let p = err_from_is_err_and c.from_residual-in_err-inner.result c.from_residual-in_err-inner.ensures.1 in rw (p.1, p.2) (squares_deep (λ p. triggers p) c.args.tokens.now c.args.at c.args.depth 8 _ c.in_err-inner.field-0.0 c.requires.within c.in_ok-take_sign.ensures.is c.in_ok-take_sign.ensures.kind c.in_err-inner.ensures.full c.in_err-inner.ensures.deep)

pub read_triggers-returns-in_err-found : goal.read_triggers-returns-in_err-found
read_triggers-returns-in_err-found t c = let p = err_from_is_err_and c.from_residual-in_err-found.result c.from_residual-in_err-found.ensures.1 in rw (p.1, p.2) (fails_on (λ p. triggers p) (λ p. triggers p) 8 1 (an_expr c.in_ok-inner.inner ∷ make begin ∷ more of_exprs c.in_ok-inner.inner ∷ make match_terms ∷ make begin ∷ more of_triggers c.in_ok-inner.inner ∷ []) (pass (the_sign sign.CloseBracket) c.args.depth ∷ pass (the_sign sign.Dot) c.args.depth ∷ []) [] [] c.in_err-found.field-0.0 (squares_1 c.args.tokens.now c.args.at c.args.depth c.in_ok-inner.inner _ c.requires.within c.in_ok-take_sign.ensures.is c.in_ok-take_sign.ensures.kind c.in_ok-inner.ensures.more c.in_ok-inner.ensures.room) c.in_err-found.ensures)

pub read_triggers-returns-in_err-take_sign-2 : goal.read_triggers-returns-in_err-take_sign-2
read_triggers-returns-in_err-take_sign-2 t c = let p = err_from_is_err_and c.from_residual-in_err-take_sign-2.result c.from_residual-in_err-take_sign-2.ensures.1 in rw (p.1, p.2) (lacks_pass (λ p. triggers p) 8 c.in_err-take_sign-2.field-0.0 (then_reads (an_expr c.in_ok-inner.inner ∷ make begin ∷ more of_exprs c.in_ok-inner.inner ∷ make match_terms ∷ make begin ∷ more of_triggers c.in_ok-inner.inner ∷ []) (pass (the_sign sign.CloseBracket) c.args.depth ∷ pass (the_sign sign.Dot) c.args.depth ∷ []) [] [] (squares_1 c.args.tokens.now c.args.at c.args.depth c.in_ok-inner.inner _ c.requires.within c.in_ok-take_sign.ensures.is c.in_ok-take_sign.ensures.kind c.in_ok-inner.ensures.more c.in_ok-inner.ensures.room) c.in_ok-found.ensures) c.in_err-take_sign-2.ensures.lacks c.in_err-take_sign-2.ensures.wrong)

pub read_triggers-returns-in_err-take_sign-3 : goal.read_triggers-returns-in_err-take_sign-3
read_triggers-returns-in_err-take_sign-3 t c = let p = err_from_is_err_and c.from_residual-in_err-take_sign-3.result c.from_residual-in_err-take_sign-3.ensures.1 in rw (p.1, p.2) (lacks_pass (λ p. triggers p) 8 c.in_err-take_sign-3.field-0.0 (then_passes _ (then_reads (an_expr c.in_ok-inner.inner ∷ make begin ∷ more of_exprs c.in_ok-inner.inner ∷ make match_terms ∷ make begin ∷ more of_triggers c.in_ok-inner.inner ∷ []) (pass (the_sign sign.CloseBracket) c.args.depth ∷ pass (the_sign sign.Dot) c.args.depth ∷ []) [] [] (squares_1 c.args.tokens.now c.args.at c.args.depth c.in_ok-inner.inner _ c.requires.within c.in_ok-take_sign.ensures.is c.in_ok-take_sign.ensures.kind c.in_ok-inner.ensures.more c.in_ok-inner.ensures.room) c.in_ok-found.ensures) c.in_ok-take_sign-2.ensures.is c.in_ok-take_sign-2.ensures.kind c.requires.shallow) c.in_err-take_sign-3.ensures.lacks c.in_err-take_sign-3.ensures.wrong)

pub read_triggers-returns : goal.read_triggers-returns
read_triggers-returns t c = done (moved (c.in_ok-found.to + 2) (omega arith) (then_passes _ (then_passes _ (then_reads (an_expr c.in_ok-inner.inner ∷ make begin ∷ more of_exprs c.in_ok-inner.inner ∷ make match_terms ∷ make begin ∷ more of_triggers c.in_ok-inner.inner ∷ []) (pass (the_sign sign.CloseBracket) c.args.depth ∷ pass (the_sign sign.Dot) c.args.depth ∷ []) [] [] (squares_1 c.args.tokens.now c.args.at c.args.depth c.in_ok-inner.inner _ c.requires.within c.in_ok-take_sign.ensures.is c.in_ok-take_sign.ensures.kind c.in_ok-inner.ensures.more c.in_ok-inner.ensures.room) c.in_ok-found.ensures) c.in_ok-take_sign-2.ensures.is c.in_ok-take_sign-2.ensures.kind c.requires.shallow) c.in_ok-take_sign-3.ensures.is c.in_ok-take_sign-3.ensures.kind c.requires.shallow)) (small_grip _)

pub read_trigger_items-returns-in_err-first : goal.read_trigger_items-returns-in_err-first
read_trigger_items-returns-in_err-first t c = let p = err_from_is_err_and c.from_residual.result c.from_residual.ensures.1 in rw (p.1, p.2) (items_first_fails (λ p. triggers p) (λ p. trigger p) of_triggers c.args.tokens.now c.args.at c.args.depth 1 1 c.in_err-first.field-0.0 c.requires.within c.in_err-first.ensures)

pub read_trigger_items-loop-alloc-init : goal.read_trigger_items-loop-alloc-init
read_trigger_items-loop-alloc-init t c = record { runs = items_first of_triggers c.args.tokens.now c.args.at c.args.depth c.in_ok-first.to 1 (trigger c.in_ok-first.first) _ c.requires.within c.in_ok-first.ensures (ap (λ z. triggers z) (c.in_ok-push.ensures.ok ∙ ap (λ z. z ++ c.in_ok-first.first ∷ []) c.new-found.ensures)); weak = (let g = c.in_ok-first.ensures in g.weak) }

pub read_trigger_items-returns-in_err-trigger : goal.read_trigger_items-returns-in_err-trigger
read_trigger_items-returns-in_err-trigger t c = let p = err_from_is_err_and c.from_residual-in_err-trigger.result c.from_residual-in_err-trigger.ensures.1 in rw (p.1, p.2) (items_more_fails (λ p. triggers p) (λ p. trigger p) of_triggers c.args.tokens.now c.args.at c.loop-alloc.end c.args.depth 1 1 (triggers c.loop-alloc.found) c.in_err-trigger.field-0.0 (let i = c.loop-alloc.invariant in i.runs) c.loop-alloc-test.ensures c.requires.shallow c.in_err-trigger.ensures)

pub read_trigger_items-loop-alloc-preserved : goal.read_trigger_items-loop-alloc-preserved
read_trigger_items-loop-alloc-preserved t c = let i = c.loop-alloc.invariant in record { runs = items_more of_triggers c.args.tokens.now c.args.at c.loop-alloc.end c.args.depth c.in_ok-trigger.to 1 (triggers c.loop-alloc.found) (trigger c.in_ok-trigger.trigger) _ i.runs c.loop-alloc-test.ensures c.requires.shallow c.in_ok-trigger.ensures (ap (λ z. triggers z) c.in_ok-push-2.ensures.ok); weak = (let g = c.in_ok-trigger.ensures in g.weak) }

pub read_trigger_items-returns : goal.read_trigger_items-returns
read_trigger_items-returns t c = let i = c.loop-alloc.invariant in items_ends of_triggers c.args.tokens.now c.args.at c.loop-alloc.end c.args.depth 1 (triggers c.loop-alloc.found) i.runs c.loop-alloc-test.ensures i.weak

pub read_trigger-returns-in_err-terms : goal.read_trigger-returns-in_err-terms
read_trigger-returns-in_err-terms t c = let p = err_from_is_err_and c.from_residual.result c.from_residual.ensures.1 in rw (p.1, p.2) (fails_on (λ p. trigger p) (λ p. trees p) 1 1 (items_wants of_exprs c.args.depth) (make match_terms ∷ []) [] [] c.in_err-terms.field-0.0 (start c.args.tokens.now (element_wants of_triggers c.args.depth) [] c.args.at c.requires.within) c.in_err-terms.ensures)

pub read_trigger-returns : goal.read_trigger-returns
read_trigger-returns t c = let g = c.in_ok-terms.ensures in rw c.trigger_of.ensures (done (then_makes (trigger (trigger_of c.in_ok-terms.terms) ∷ []) (then_reads (items_wants of_exprs c.args.depth) (make match_terms ∷ []) [] [] (start c.args.tokens.now (element_wants of_triggers c.args.depth) [] c.args.at c.requires.within) g) (λ v. refl)) g.weak)

pub read_let-returns-in_err-inner : goal.read_let-returns-in_err-inner
read_let-returns-in_err-inner t c = let p = err_from_is_err_and c.from_residual.result c.from_residual.ensures.1 in rw (p.1, p.2) (opened_deep (λ p. tree p) c.args.tokens.now (an_not c.args.depth) c.args.at (suc c.args.depth) c.args.first (let_wants (suc c.args.depth)) c.in_err-inner.field-0.0 c.requires.here c.in_err-inner.ensures.full (opens_let c.args.depth (suc c.args.depth) c.args.first c.requires.word refl) c.in_err-inner.ensures.deep)

pub read_let-returns-in_err-name : goal.read_let-returns-in_err-name
read_let-returns-in_err-name t c = let p = err_from_is_err_and c.from_residual-in_err-name.result c.from_residual-in_err-name.ensures.1 in rw (p.1, p.2) (opened (λ p. tree p) c.args.tokens.now (an_not c.args.depth) c.args.at c.in_ok-inner.inner c.args.first (let_wants c.in_ok-inner.inner) (Err c.in_err-name.field-0.0) c.requires.here c.in_ok-inner.ensures.room (opens_let c.args.depth c.in_ok-inner.inner c.args.first c.requires.word c.in_ok-inner.ensures.more) (lacks_keep (λ p. tree p) 1 c.in_err-name.field-0.0 (start c.args.tokens.now (let_wants c.in_ok-inner.inner) (token c.args.first ∷ []) (c.args.at + 1) (let i = c.requires.here in omega (arith, i.within))) c.in_err-name.ensures.lacks c.in_err-name.ensures.wrong))

pub read_let-returns-in_err-take_sign : goal.read_let-returns-in_err-take_sign
read_let-returns-in_err-take_sign t c = let p = err_from_is_err_and c.from_residual-in_err-take_sign.result c.from_residual-in_err-take_sign.ensures.1 in rw (p.1, p.2) (opened (λ p. tree p) c.args.tokens.now (an_not c.args.depth) c.args.at c.in_ok-inner.inner c.args.first (let_wants c.in_ok-inner.inner) (Err c.in_err-take_sign.field-0.0) c.requires.here c.in_ok-inner.ensures.room (opens_let c.args.depth c.in_ok-inner.inner c.args.first c.requires.word c.in_ok-inner.ensures.more) (lacks_pass (λ p. tree p) 1 c.in_err-take_sign.field-0.0 (moved (c.args.at + 2) (omega arith) (then_keeps c.in_ok-name.name (start c.args.tokens.now (let_wants c.in_ok-inner.inner) (token c.args.first ∷ []) (c.args.at + 1) (let i = c.requires.here in omega (arith, i.within))) c.in_ok-name.ensures.is c.in_ok-name.ensures.kind c.in_ok-inner.ensures.room)) c.in_err-take_sign.ensures.lacks c.in_err-take_sign.ensures.wrong))

pub read_let-returns-in_err-value : goal.read_let-returns-in_err-value
read_let-returns-in_err-value t c = let p = err_from_is_err_and c.from_residual-in_err-value.result c.from_residual-in_err-value.ensures.1 in rw (p.1, p.2) (opened (λ p. tree p) c.args.tokens.now (an_not c.args.depth) c.args.at c.in_ok-inner.inner c.args.first (let_wants c.in_ok-inner.inner) (Err c.in_err-value.field-0.0) c.requires.here c.in_ok-inner.ensures.room (opens_let c.args.depth c.in_ok-inner.inner c.args.first c.requires.word c.in_ok-inner.ensures.more) (fails_on (λ p. tree p) (λ p. tree p) 1 1 (an_expr c.in_ok-inner.inner ∷ []) (pass (the_word word.In) c.in_ok-inner.inner ∷ an_expr c.in_ok-inner.inner ∷ make bind_name ∷ []) [] (token c.in_ok-name.name ∷ token c.args.first ∷ []) c.in_err-value.field-0.0 (moved (c.args.at + 3) (omega arith) (then_passes _ (moved (c.args.at + 2) (omega arith) (then_keeps c.in_ok-name.name (start c.args.tokens.now (let_wants c.in_ok-inner.inner) (token c.args.first ∷ []) (c.args.at + 1) (let i = c.requires.here in omega (arith, i.within))) c.in_ok-name.ensures.is c.in_ok-name.ensures.kind c.in_ok-inner.ensures.room)) c.in_ok-take_sign.ensures.is c.in_ok-take_sign.ensures.kind c.in_ok-inner.ensures.room)) c.in_err-value.ensures))

pub read_let-returns-in_err-take_word : goal.read_let-returns-in_err-take_word
read_let-returns-in_err-take_word t c = let p = err_from_is_err_and c.from_residual-in_err-take_word.result c.from_residual-in_err-take_word.ensures.1 in rw (p.1, p.2) (opened (λ p. tree p) c.args.tokens.now (an_not c.args.depth) c.args.at c.in_ok-inner.inner c.args.first (let_wants c.in_ok-inner.inner) (Err c.in_err-take_word.field-0.0) c.requires.here c.in_ok-inner.ensures.room (opens_let c.args.depth c.in_ok-inner.inner c.args.first c.requires.word c.in_ok-inner.ensures.more) (lacks_pass (λ p. tree p) 1 c.in_err-take_word.field-0.0 (then_reads (an_expr c.in_ok-inner.inner ∷ []) (pass (the_word word.In) c.in_ok-inner.inner ∷ an_expr c.in_ok-inner.inner ∷ make bind_name ∷ []) [] (token c.in_ok-name.name ∷ token c.args.first ∷ []) (moved (c.args.at + 3) (omega arith) (then_passes _ (moved (c.args.at + 2) (omega arith) (then_keeps c.in_ok-name.name (start c.args.tokens.now (let_wants c.in_ok-inner.inner) (token c.args.first ∷ []) (c.args.at + 1) (let i = c.requires.here in omega (arith, i.within))) c.in_ok-name.ensures.is c.in_ok-name.ensures.kind c.in_ok-inner.ensures.room)) c.in_ok-take_sign.ensures.is c.in_ok-take_sign.ensures.kind c.in_ok-inner.ensures.room)) c.in_ok-value.ensures) c.in_err-take_word.ensures.lacks c.in_err-take_word.ensures.wrong))

pub read_let-returns-in_err-body : goal.read_let-returns-in_err-body
read_let-returns-in_err-body t c = let p = err_from_is_err_and c.from_residual-in_err-body.result c.from_residual-in_err-body.ensures.1 in rw (p.1, p.2) (opened (λ p. tree p) c.args.tokens.now (an_not c.args.depth) c.args.at c.in_ok-inner.inner c.args.first (let_wants c.in_ok-inner.inner) (Err c.in_err-body.field-0.0) c.requires.here c.in_ok-inner.ensures.room (opens_let c.args.depth c.in_ok-inner.inner c.args.first c.requires.word c.in_ok-inner.ensures.more) (fails_on (λ p. tree p) (λ p. tree p) 1 1 (an_expr c.in_ok-inner.inner ∷ []) (make bind_name ∷ []) [] (tree c.in_ok-value.value ∷ token c.in_ok-name.name ∷ token c.args.first ∷ []) c.in_err-body.field-0.0 (then_passes _ (then_reads (an_expr c.in_ok-inner.inner ∷ []) (pass (the_word word.In) c.in_ok-inner.inner ∷ an_expr c.in_ok-inner.inner ∷ make bind_name ∷ []) [] (token c.in_ok-name.name ∷ token c.args.first ∷ []) (moved (c.args.at + 3) (omega arith) (then_passes _ (moved (c.args.at + 2) (omega arith) (then_keeps c.in_ok-name.name (start c.args.tokens.now (let_wants c.in_ok-inner.inner) (token c.args.first ∷ []) (c.args.at + 1) (let i = c.requires.here in omega (arith, i.within))) c.in_ok-name.ensures.is c.in_ok-name.ensures.kind c.in_ok-inner.ensures.room)) c.in_ok-take_sign.ensures.is c.in_ok-take_sign.ensures.kind c.in_ok-inner.ensures.room)) c.in_ok-value.ensures) c.in_ok-take_word.ensures.is c.in_ok-take_word.ensures.kind c.in_ok-inner.ensures.room) c.in_err-body.ensures))

pub read_let-returns : goal.read_let-returns
read_let-returns t c = let g = c.in_ok-body.ensures in opened (λ p. tree p) c.args.tokens.now (an_not c.args.depth) c.args.at c.in_ok-inner.inner c.args.first (let_wants c.in_ok-inner.inner) (Ok (c.in_ok-bound.bound, c.in_ok-body.to)) c.requires.here c.in_ok-inner.ensures.room (opens_let c.args.depth c.in_ok-inner.inner c.args.first c.requires.word c.in_ok-inner.ensures.more) (made 1 (let_in c.args.first c.in_ok-name.name c.in_ok-value.value c.in_ok-body.body) _ (then_reads (an_expr c.in_ok-inner.inner ∷ []) (make bind_name ∷ []) [] (tree c.in_ok-value.value ∷ token c.in_ok-name.name ∷ token c.args.first ∷ []) (then_passes _ (then_reads (an_expr c.in_ok-inner.inner ∷ []) (pass (the_word word.In) c.in_ok-inner.inner ∷ an_expr c.in_ok-inner.inner ∷ make bind_name ∷ []) [] (token c.in_ok-name.name ∷ token c.args.first ∷ []) (moved (c.args.at + 3) (omega arith) (then_passes _ (moved (c.args.at + 2) (omega arith) (then_keeps c.in_ok-name.name (start c.args.tokens.now (let_wants c.in_ok-inner.inner) (token c.args.first ∷ []) (c.args.at + 1) (let i = c.requires.here in omega (arith, i.within))) c.in_ok-name.ensures.is c.in_ok-name.ensures.kind c.in_ok-inner.ensures.room)) c.in_ok-take_sign.ensures.is c.in_ok-take_sign.ensures.kind c.in_ok-inner.ensures.room)) c.in_ok-value.ensures) c.in_ok-take_word.ensures.is c.in_ok-take_word.ensures.kind c.in_ok-inner.ensures.room) c.in_ok-body.ensures) (λ v. refl) c.in_ok-bound.ensures g.weak)

pub read_if-returns-in_err-inner : goal.read_if-returns-in_err-inner
read_if-returns-in_err-inner t c = let p = err_from_is_err_and c.from_residual.result c.from_residual.ensures.1 in rw (p.1, p.2) (opened_deep (λ p. tree p) c.args.tokens.now (an_not c.args.depth) c.args.at (suc c.args.depth) c.args.first (if_wants (suc c.args.depth)) c.in_err-inner.field-0.0 c.requires.here c.in_err-inner.ensures.full (opens_if c.args.depth (suc c.args.depth) c.args.first c.requires.word refl) c.in_err-inner.ensures.deep)

pub read_if-returns-in_err-condition : goal.read_if-returns-in_err-condition
read_if-returns-in_err-condition t c = let p = err_from_is_err_and c.from_residual-in_err-condition.result c.from_residual-in_err-condition.ensures.1 in rw (p.1, p.2) (opened (λ p. tree p) c.args.tokens.now (an_not c.args.depth) c.args.at c.in_ok-inner.inner c.args.first (if_wants c.in_ok-inner.inner) (Err c.in_err-condition.field-0.0) c.requires.here c.in_ok-inner.ensures.room (opens_if c.args.depth c.in_ok-inner.inner c.args.first c.requires.word c.in_ok-inner.ensures.more) (fails_on (λ p. tree p) (λ p. tree p) 1 1 (an_expr c.in_ok-inner.inner ∷ []) (pass (the_word word.Then) c.in_ok-inner.inner ∷ an_expr c.in_ok-inner.inner ∷ pass (the_word word.Else) c.in_ok-inner.inner ∷ an_expr c.in_ok-inner.inner ∷ make choose ∷ []) [] (token c.args.first ∷ []) c.in_err-condition.field-0.0 (start c.args.tokens.now (if_wants c.in_ok-inner.inner) (token c.args.first ∷ []) (c.args.at + 1) (let i = c.requires.here in omega (arith, i.within))) c.in_err-condition.ensures))

pub read_if-returns-in_err-take_word : goal.read_if-returns-in_err-take_word
read_if-returns-in_err-take_word t c = let p = err_from_is_err_and c.from_residual-in_err-take_word.result c.from_residual-in_err-take_word.ensures.1 in rw (p.1, p.2) (opened (λ p. tree p) c.args.tokens.now (an_not c.args.depth) c.args.at c.in_ok-inner.inner c.args.first (if_wants c.in_ok-inner.inner) (Err c.in_err-take_word.field-0.0) c.requires.here c.in_ok-inner.ensures.room (opens_if c.args.depth c.in_ok-inner.inner c.args.first c.requires.word c.in_ok-inner.ensures.more) (lacks_pass (λ p. tree p) 1 c.in_err-take_word.field-0.0 (then_reads (an_expr c.in_ok-inner.inner ∷ []) (pass (the_word word.Then) c.in_ok-inner.inner ∷ an_expr c.in_ok-inner.inner ∷ pass (the_word word.Else) c.in_ok-inner.inner ∷ an_expr c.in_ok-inner.inner ∷ make choose ∷ []) [] (token c.args.first ∷ []) (start c.args.tokens.now (if_wants c.in_ok-inner.inner) (token c.args.first ∷ []) (c.args.at + 1) (let i = c.requires.here in omega (arith, i.within))) c.in_ok-condition.ensures) c.in_err-take_word.ensures.lacks c.in_err-take_word.ensures.wrong))

pub read_if-returns-in_err-positive : goal.read_if-returns-in_err-positive
read_if-returns-in_err-positive t c = let p = err_from_is_err_and c.from_residual-in_err-positive.result c.from_residual-in_err-positive.ensures.1 in rw (p.1, p.2) (opened (λ p. tree p) c.args.tokens.now (an_not c.args.depth) c.args.at c.in_ok-inner.inner c.args.first (if_wants c.in_ok-inner.inner) (Err c.in_err-positive.field-0.0) c.requires.here c.in_ok-inner.ensures.room (opens_if c.args.depth c.in_ok-inner.inner c.args.first c.requires.word c.in_ok-inner.ensures.more) (fails_on (λ p. tree p) (λ p. tree p) 1 1 (an_expr c.in_ok-inner.inner ∷ []) (pass (the_word word.Else) c.in_ok-inner.inner ∷ an_expr c.in_ok-inner.inner ∷ make choose ∷ []) [] (tree c.in_ok-condition.condition ∷ token c.args.first ∷ []) c.in_err-positive.field-0.0 (then_passes _ (then_reads (an_expr c.in_ok-inner.inner ∷ []) (pass (the_word word.Then) c.in_ok-inner.inner ∷ an_expr c.in_ok-inner.inner ∷ pass (the_word word.Else) c.in_ok-inner.inner ∷ an_expr c.in_ok-inner.inner ∷ make choose ∷ []) [] (token c.args.first ∷ []) (start c.args.tokens.now (if_wants c.in_ok-inner.inner) (token c.args.first ∷ []) (c.args.at + 1) (let i = c.requires.here in omega (arith, i.within))) c.in_ok-condition.ensures) c.in_ok-take_word.ensures.is c.in_ok-take_word.ensures.kind c.in_ok-inner.ensures.room) c.in_err-positive.ensures))

pub read_if-returns-in_err-take_word-2 : goal.read_if-returns-in_err-take_word-2
read_if-returns-in_err-take_word-2 t c = let p = err_from_is_err_and c.from_residual-in_err-take_word-2.result c.from_residual-in_err-take_word-2.ensures.1 in rw (p.1, p.2) (opened (λ p. tree p) c.args.tokens.now (an_not c.args.depth) c.args.at c.in_ok-inner.inner c.args.first (if_wants c.in_ok-inner.inner) (Err c.in_err-take_word-2.field-0.0) c.requires.here c.in_ok-inner.ensures.room (opens_if c.args.depth c.in_ok-inner.inner c.args.first c.requires.word c.in_ok-inner.ensures.more) (lacks_pass (λ p. tree p) 1 c.in_err-take_word-2.field-0.0 (then_reads (an_expr c.in_ok-inner.inner ∷ []) (pass (the_word word.Else) c.in_ok-inner.inner ∷ an_expr c.in_ok-inner.inner ∷ make choose ∷ []) [] (tree c.in_ok-condition.condition ∷ token c.args.first ∷ []) (then_passes _ (then_reads (an_expr c.in_ok-inner.inner ∷ []) (pass (the_word word.Then) c.in_ok-inner.inner ∷ an_expr c.in_ok-inner.inner ∷ pass (the_word word.Else) c.in_ok-inner.inner ∷ an_expr c.in_ok-inner.inner ∷ make choose ∷ []) [] (token c.args.first ∷ []) (start c.args.tokens.now (if_wants c.in_ok-inner.inner) (token c.args.first ∷ []) (c.args.at + 1) (let i = c.requires.here in omega (arith, i.within))) c.in_ok-condition.ensures) c.in_ok-take_word.ensures.is c.in_ok-take_word.ensures.kind c.in_ok-inner.ensures.room) c.in_ok-positive.ensures) c.in_err-take_word-2.ensures.lacks c.in_err-take_word-2.ensures.wrong))

pub read_if-returns-in_err-negative : goal.read_if-returns-in_err-negative
read_if-returns-in_err-negative t c = let p = err_from_is_err_and c.from_residual-in_err-negative.result c.from_residual-in_err-negative.ensures.1 in rw (p.1, p.2) (opened (λ p. tree p) c.args.tokens.now (an_not c.args.depth) c.args.at c.in_ok-inner.inner c.args.first (if_wants c.in_ok-inner.inner) (Err c.in_err-negative.field-0.0) c.requires.here c.in_ok-inner.ensures.room (opens_if c.args.depth c.in_ok-inner.inner c.args.first c.requires.word c.in_ok-inner.ensures.more) (fails_on (λ p. tree p) (λ p. tree p) 1 1 (an_expr c.in_ok-inner.inner ∷ []) (make choose ∷ []) [] (tree c.in_ok-positive.positive ∷ tree c.in_ok-condition.condition ∷ token c.args.first ∷ []) c.in_err-negative.field-0.0 (then_passes _ (then_reads (an_expr c.in_ok-inner.inner ∷ []) (pass (the_word word.Else) c.in_ok-inner.inner ∷ an_expr c.in_ok-inner.inner ∷ make choose ∷ []) [] (tree c.in_ok-condition.condition ∷ token c.args.first ∷ []) (then_passes _ (then_reads (an_expr c.in_ok-inner.inner ∷ []) (pass (the_word word.Then) c.in_ok-inner.inner ∷ an_expr c.in_ok-inner.inner ∷ pass (the_word word.Else) c.in_ok-inner.inner ∷ an_expr c.in_ok-inner.inner ∷ make choose ∷ []) [] (token c.args.first ∷ []) (start c.args.tokens.now (if_wants c.in_ok-inner.inner) (token c.args.first ∷ []) (c.args.at + 1) (let i = c.requires.here in omega (arith, i.within))) c.in_ok-condition.ensures) c.in_ok-take_word.ensures.is c.in_ok-take_word.ensures.kind c.in_ok-inner.ensures.room) c.in_ok-positive.ensures) c.in_ok-take_word-2.ensures.is c.in_ok-take_word-2.ensures.kind c.in_ok-inner.ensures.room) c.in_err-negative.ensures))

pub read_if-returns : goal.read_if-returns
read_if-returns t c = let g = c.in_ok-negative.ensures in opened (λ p. tree p) c.args.tokens.now (an_not c.args.depth) c.args.at c.in_ok-inner.inner c.args.first (if_wants c.in_ok-inner.inner) (Ok (c.in_ok-choice.choice, c.in_ok-negative.to)) c.requires.here c.in_ok-inner.ensures.room (opens_if c.args.depth c.in_ok-inner.inner c.args.first c.requires.word c.in_ok-inner.ensures.more) (made 1 (conditional c.args.first c.in_ok-condition.condition c.in_ok-positive.positive c.in_ok-negative.negative) _ (then_reads (an_expr c.in_ok-inner.inner ∷ []) (make choose ∷ []) [] (tree c.in_ok-positive.positive ∷ tree c.in_ok-condition.condition ∷ token c.args.first ∷ []) (then_passes _ (then_reads (an_expr c.in_ok-inner.inner ∷ []) (pass (the_word word.Else) c.in_ok-inner.inner ∷ an_expr c.in_ok-inner.inner ∷ make choose ∷ []) [] (tree c.in_ok-condition.condition ∷ token c.args.first ∷ []) (then_passes _ (then_reads (an_expr c.in_ok-inner.inner ∷ []) (pass (the_word word.Then) c.in_ok-inner.inner ∷ an_expr c.in_ok-inner.inner ∷ pass (the_word word.Else) c.in_ok-inner.inner ∷ an_expr c.in_ok-inner.inner ∷ make choose ∷ []) [] (token c.args.first ∷ []) (start c.args.tokens.now (if_wants c.in_ok-inner.inner) (token c.args.first ∷ []) (c.args.at + 1) (let i = c.requires.here in omega (arith, i.within))) c.in_ok-condition.ensures) c.in_ok-take_word.ensures.is c.in_ok-take_word.ensures.kind c.in_ok-inner.ensures.room) c.in_ok-positive.ensures) c.in_ok-take_word-2.ensures.is c.in_ok-take_word-2.ensures.kind c.in_ok-inner.ensures.room) c.in_ok-negative.ensures) (λ v. refl) c.in_ok-choice.ensures g.weak)

pub read_rel-returns-in_err-left : goal.read_rel-returns-in_err-left
read_rel-returns-in_err-left t c = let p = err_from_is_err_and c.from_residual.result c.from_residual.ensures.1 in rw (p.1, p.2) (fails_on (λ p. tree p) (λ p. tree p) 4 7 (a_unary c.args.depth ∷ []) (more_prod c.args.depth ∷ more_sum c.args.depth ∷ more_rel c.args.depth ∷ []) [] [] c.in_err-left.field-0.0 (rel_0 c.args.tokens.now c.args.at c.args.depth c.requires.within) c.in_err-left.ensures)

pub read_rel-returns-in_err-left-2 : goal.read_rel-returns-in_err-left-2
read_rel-returns-in_err-left-2 t c = let p = err_from_is_err_and c.from_residual-in_err-left-2.result c.from_residual-in_err-left-2.ensures.1 in rw (p.1, p.2) (fails_on (λ p. tree p) (λ p. tree p) 4 6 (more_prod c.args.depth ∷ []) (more_sum c.args.depth ∷ more_rel c.args.depth ∷ []) (tree c.in_ok-left.left ∷ []) [] c.in_err-left-2.field-0.0 (then_reads (a_unary c.args.depth ∷ []) (more_prod c.args.depth ∷ more_sum c.args.depth ∷ more_rel c.args.depth ∷ []) [] [] (rel_0 c.args.tokens.now c.args.at c.args.depth c.requires.within) c.in_ok-left.ensures) c.in_err-left-2.ensures)

pub read_rel-returns-in_err-left-3 : goal.read_rel-returns-in_err-left-3
read_rel-returns-in_err-left-3 t c = let p = err_from_is_err_and c.from_residual-in_err-left-3.result c.from_residual-in_err-left-3.ensures.1 in rw (p.1, p.2) (fails_on (λ p. tree p) (λ p. tree p) 4 5 (more_sum c.args.depth ∷ []) (more_rel c.args.depth ∷ []) (tree c.in_ok-left-2.left ∷ []) [] c.in_err-left-3.field-0.0 (then_reads (more_prod c.args.depth ∷ []) (more_sum c.args.depth ∷ more_rel c.args.depth ∷ []) (tree c.in_ok-left.left ∷ []) [] (then_reads (a_unary c.args.depth ∷ []) (more_prod c.args.depth ∷ more_sum c.args.depth ∷ more_rel c.args.depth ∷ []) [] [] (rel_0 c.args.tokens.now c.args.at c.args.depth c.requires.within) c.in_ok-left.ensures) c.in_ok-left-2.ensures) c.in_err-left-3.ensures)

pub read_rel-returns : goal.read_rel-returns
read_rel-returns t c = relay (λ p. tree p) 4 c.more_rel.result (then_reads (more_sum c.args.depth ∷ []) (more_rel c.args.depth ∷ []) (tree c.in_ok-left-2.left ∷ []) [] (then_reads (more_prod c.args.depth ∷ []) (more_sum c.args.depth ∷ more_rel c.args.depth ∷ []) (tree c.in_ok-left.left ∷ []) [] (then_reads (a_unary c.args.depth ∷ []) (more_prod c.args.depth ∷ more_sum c.args.depth ∷ more_rel c.args.depth ∷ []) [] [] (rel_0 c.args.tokens.now c.args.at c.args.depth c.requires.within) c.in_ok-left.ensures) c.in_ok-left-2.ensures) c.in_ok-left-3.ensures) c.more_rel.ensures

pub more_rel-returns-in_default : goal.more_rel-returns-in_default
more_rel-returns-in_default t c = rel_ends c.args.tokens.now c.args.at c.args.depth c.args.left c.requires.within (none_at_end relation c.args.tokens.now c.args.at c.in_default.ensures.none) c.requires.weak

pub more_rel-returns-in_default-relation : goal.more_rel-returns-in_default-relation
more_rel-returns-in_default-relation t c = rel_ends c.args.tokens.now c.args.at c.args.depth c.args.left c.requires.within (none_here relation c.args.tokens.now c.args.at c.in-Some.first c.in-Some.ensures.some (sym c.relation.ensures ∙ c.in_default-relation.is)) c.requires.weak

pub more_rel-returns-in_err-right : goal.more_rel-returns-in_err-right
more_rel-returns-in_err-right t c = let p = err_from_is_err_and c.from_residual.result c.from_residual.ensures.1 in rw (p.1, p.2) (chain_fails (more_rel c.args.depth) (a_sum c.args.depth) c.in-Some-relation.op [] c.args.depth c.args.tokens.now c.args.at 4 5 c.args.left c.in_err-right.field-0.0 (takes_rel c.args.tokens.now c.args.at c.args.depth c.in-Some.first c.in-Some-relation.op c.in-Some.ensures.some (sym c.relation.ensures ∙ c.in-Some-relation.is)) c.requires.shallow c.in_err-right.ensures)

pub more_rel-returns : goal.more_rel-returns
more_rel-returns t c = let g = c.in_ok-right.ensures in chain_once (more_rel c.args.depth) (a_sum c.args.depth) c.in-Some-relation.op c.args.depth c.args.tokens.now c.args.at _ 4 5 c.args.left _ _ (takes_rel c.args.tokens.now c.args.at c.args.depth c.in-Some.first c.in-Some-relation.op c.in-Some.ensures.some (sym c.relation.ensures ∙ c.in-Some-relation.is)) c.requires.shallow g c.in_ok-joined.ensures (past_rel c.args.tokens.now _ g.weak)

pub read_sum-returns-in_err-left : goal.read_sum-returns-in_err-left
read_sum-returns-in_err-left t c = let p = err_from_is_err_and c.from_residual.result c.from_residual.ensures.1 in rw (p.1, p.2) (fails_on (λ p. tree p) (λ p. tree p) 5 7 (a_unary c.args.depth ∷ []) (more_prod c.args.depth ∷ more_sum c.args.depth ∷ []) [] [] c.in_err-left.field-0.0 (sum_0 c.args.tokens.now c.args.at c.args.depth c.requires.within) c.in_err-left.ensures)

pub read_sum-returns-in_err-left-2 : goal.read_sum-returns-in_err-left-2
read_sum-returns-in_err-left-2 t c = let p = err_from_is_err_and c.from_residual-in_err-left-2.result c.from_residual-in_err-left-2.ensures.1 in rw (p.1, p.2) (fails_on (λ p. tree p) (λ p. tree p) 5 6 (more_prod c.args.depth ∷ []) (more_sum c.args.depth ∷ []) (tree c.in_ok-left.left ∷ []) [] c.in_err-left-2.field-0.0 (then_reads (a_unary c.args.depth ∷ []) (more_prod c.args.depth ∷ more_sum c.args.depth ∷ []) [] [] (sum_0 c.args.tokens.now c.args.at c.args.depth c.requires.within) c.in_ok-left.ensures) c.in_err-left-2.ensures)

pub read_sum-returns : goal.read_sum-returns
read_sum-returns t c = relay (λ p. tree p) 5 c.more_sum.result (then_reads (more_prod c.args.depth ∷ []) (more_sum c.args.depth ∷ []) (tree c.in_ok-left.left ∷ []) [] (then_reads (a_unary c.args.depth ∷ []) (more_prod c.args.depth ∷ more_sum c.args.depth ∷ []) [] [] (sum_0 c.args.tokens.now c.args.at c.args.depth c.requires.within) c.in_ok-left.ensures) c.in_ok-left-2.ensures) c.more_sum.ensures

pub more_sum-returns-in_default : goal.more_sum-returns-in_default
more_sum-returns-in_default t c = sum_ends c.args.tokens.now c.args.at c.args.depth c.args.left c.requires.within (none_at_end additive c.args.tokens.now c.args.at c.in_default.ensures.none) c.requires.weak

pub more_sum-returns-in_default-additive : goal.more_sum-returns-in_default-additive
more_sum-returns-in_default-additive t c = sum_ends c.args.tokens.now c.args.at c.args.depth c.args.left c.requires.within (none_here additive c.args.tokens.now c.args.at c.in-Some.first c.in-Some.ensures.some (sym c.additive.ensures ∙ c.in_default-additive.is)) c.requires.weak

pub more_sum-returns-in_err-inner : goal.more_sum-returns-in_err-inner
more_sum-returns-in_err-inner t c = let p = err_from_is_err_and c.from_residual.result c.from_residual.ensures.1 in rw (p.1, p.2) (chain_deep (more_sum c.args.depth) (suc c.args.depth) (a_prod (suc c.args.depth) ∷ make (join c.in-Some-additive.op) ∷ more_sum (suc c.args.depth) ∷ []) c.args.tokens.now c.args.at 5 c.args.left c.in_err-inner.field-0.0 (takes_sum c.args.tokens.now c.args.at c.args.depth (suc c.args.depth) c.in-Some.first c.in-Some-additive.op c.in-Some.ensures.some (sym c.additive.ensures ∙ c.in-Some-additive.is) refl) c.in_err-inner.ensures.full c.in_err-inner.ensures.deep)

pub more_sum-returns-in_err-right : goal.more_sum-returns-in_err-right
more_sum-returns-in_err-right t c = let p = err_from_is_err_and c.from_residual-in_err-right.result c.from_residual-in_err-right.ensures.1 in rw (p.1, p.2) (chain_fails (more_sum c.args.depth) (a_prod c.in_ok-inner.inner) c.in-Some-additive.op (more_sum c.in_ok-inner.inner ∷ []) c.in_ok-inner.inner c.args.tokens.now c.args.at 5 6 c.args.left c.in_err-right.field-0.0 (takes_sum c.args.tokens.now c.args.at c.args.depth c.in_ok-inner.inner c.in-Some.first c.in-Some-additive.op c.in-Some.ensures.some (sym c.additive.ensures ∙ c.in-Some-additive.is) c.in_ok-inner.ensures.more) c.in_ok-inner.ensures.room c.in_err-right.ensures)

pub more_sum-returns : goal.more_sum-returns
more_sum-returns t c = chain_again (more_sum c.args.depth) (a_prod c.in_ok-inner.inner) (more_sum c.in_ok-inner.inner) c.in-Some-additive.op c.in_ok-inner.inner c.args.tokens.now c.args.at _ 5 6 c.args.left _ _ c.more_sum.result (takes_sum c.args.tokens.now c.args.at c.args.depth c.in_ok-inner.inner c.in-Some.first c.in-Some-additive.op c.in-Some.ensures.some (sym c.additive.ensures ∙ c.in-Some-additive.is) c.in_ok-inner.ensures.more) c.in_ok-inner.ensures.room c.in_ok-right.ensures c.in_ok-joined.ensures c.more_sum.ensures

pub read_prod-returns-in_err-left : goal.read_prod-returns-in_err-left
read_prod-returns-in_err-left t c = let p = err_from_is_err_and c.from_residual.result c.from_residual.ensures.1 in rw (p.1, p.2) (fails_on (λ p. tree p) (λ p. tree p) 6 7 (a_unary c.args.depth ∷ []) (more_prod c.args.depth ∷ []) [] [] c.in_err-left.field-0.0 (prod_0 c.args.tokens.now c.args.at c.args.depth c.requires.within) c.in_err-left.ensures)

pub read_prod-returns : goal.read_prod-returns
read_prod-returns t c = relay (λ p. tree p) 6 c.more_prod.result (then_reads (a_unary c.args.depth ∷ []) (more_prod c.args.depth ∷ []) [] [] (prod_0 c.args.tokens.now c.args.at c.args.depth c.requires.within) c.in_ok-left.ensures) c.more_prod.ensures

pub more_prod-returns-in_default : goal.more_prod-returns-in_default
more_prod-returns-in_default t c = prod_ends c.args.tokens.now c.args.at c.args.depth c.args.left c.requires.within (none_at_end multiplicative c.args.tokens.now c.args.at c.in_default.ensures.none) c.requires.weak

pub more_prod-returns-in_default-multiplicative : goal.more_prod-returns-in_default-multiplicative
more_prod-returns-in_default-multiplicative t c = prod_ends c.args.tokens.now c.args.at c.args.depth c.args.left c.requires.within (none_here multiplicative c.args.tokens.now c.args.at c.in-Some.first c.in-Some.ensures.some (sym c.multiplicative.ensures ∙ c.in_default-multiplicative.is)) c.requires.weak

pub more_prod-returns-in_err-inner : goal.more_prod-returns-in_err-inner
more_prod-returns-in_err-inner t c = let p = err_from_is_err_and c.from_residual.result c.from_residual.ensures.1 in rw (p.1, p.2) (chain_deep (more_prod c.args.depth) (suc c.args.depth) (a_unary (suc c.args.depth) ∷ make (join c.in-Some-multiplicative.op) ∷ more_prod (suc c.args.depth) ∷ []) c.args.tokens.now c.args.at 6 c.args.left c.in_err-inner.field-0.0 (takes_prod c.args.tokens.now c.args.at c.args.depth (suc c.args.depth) c.in-Some.first c.in-Some-multiplicative.op c.in-Some.ensures.some (sym c.multiplicative.ensures ∙ c.in-Some-multiplicative.is) refl) c.in_err-inner.ensures.full c.in_err-inner.ensures.deep)

pub more_prod-returns-in_err-right : goal.more_prod-returns-in_err-right
more_prod-returns-in_err-right t c = let p = err_from_is_err_and c.from_residual-in_err-right.result c.from_residual-in_err-right.ensures.1 in rw (p.1, p.2) (chain_fails (more_prod c.args.depth) (a_unary c.in_ok-inner.inner) c.in-Some-multiplicative.op (more_prod c.in_ok-inner.inner ∷ []) c.in_ok-inner.inner c.args.tokens.now c.args.at 6 7 c.args.left c.in_err-right.field-0.0 (takes_prod c.args.tokens.now c.args.at c.args.depth c.in_ok-inner.inner c.in-Some.first c.in-Some-multiplicative.op c.in-Some.ensures.some (sym c.multiplicative.ensures ∙ c.in-Some-multiplicative.is) c.in_ok-inner.ensures.more) c.in_ok-inner.ensures.room c.in_err-right.ensures)

pub more_prod-returns : goal.more_prod-returns
more_prod-returns t c = chain_again (more_prod c.args.depth) (a_unary c.in_ok-inner.inner) (more_prod c.in_ok-inner.inner) c.in-Some-multiplicative.op c.in_ok-inner.inner c.args.tokens.now c.args.at _ 6 7 c.args.left _ _ c.more_prod.result (takes_prod c.args.tokens.now c.args.at c.args.depth c.in_ok-inner.inner c.in-Some.first c.in-Some-multiplicative.op c.in-Some.ensures.some (sym c.multiplicative.ensures ∙ c.in-Some-multiplicative.is) c.in_ok-inner.ensures.more) c.in_ok-inner.ensures.room c.in_ok-right.ensures c.in_ok-joined.ensures c.more_prod.ensures

pub read_unary-returns-in_default : goal.read_unary-returns-in_default
read_unary-returns-in_default t c = at_end (λ p. tree p) (a_unary c.args.depth) c.args.tokens.now c.args.at 7 c.in_default.ensures.none c.requires.within (λ v. refl)

pub read_unary-returns-in_err-left : goal.read_unary-returns-in_err-left
read_unary-returns-in_err-left t c = let p = err_from_is_err_and c.from_residual.result c.from_residual.ensures.1 in rw (p.1, p.2) (fails_on (λ p. tree p) (λ p. tree p) 7 8 (an_atom c.args.depth ∷ []) (more_post c.args.depth ∷ []) [] [] c.in_err-left.field-0.0 (unary_0 c.args.tokens.now c.args.at c.args.depth c.in-Some.first c.in-Some.ensures.some (sym c.is_sign.ensures ∙ c.if-is_sign.false)) c.in_err-left.ensures)

pub read_unary-returns : goal.read_unary-returns
read_unary-returns t c = relay (λ p. tree p) 7 c.more_post.result (then_reads (an_atom c.args.depth ∷ []) (more_post c.args.depth ∷ []) [] [] (unary_0 c.args.tokens.now c.args.at c.args.depth c.in-Some.first c.in-Some.ensures.some (sym c.is_sign.ensures ∙ c.if-is_sign.false)) c.in_ok-left.ensures) c.more_post.ensures

pub read_negative-returns-in_err-inner : goal.read_negative-returns-in_err-inner
read_negative-returns-in_err-inner t c = let p = err_from_is_err_and c.from_residual.result c.from_residual.ensures.1 in rw (p.1, p.2) (begin_deep (λ p. tree p) (a_unary c.args.depth) (suc c.args.depth) (a_unary (suc c.args.depth) ∷ make oppose ∷ []) c.args.tokens.now c.args.at 7 c.args.first c.in_err-inner.field-0.0 (begins_minus c.args.tokens.now c.args.at c.args.depth (suc c.args.depth) c.args.first c.requires.here c.requires.sign refl) c.in_err-inner.ensures.full c.in_err-inner.ensures.deep)

pub read_negative-returns-in_err-body : goal.read_negative-returns-in_err-body
read_negative-returns-in_err-body t c = let p = err_from_is_err_and c.from_residual-in_err-body.result c.from_residual-in_err-body.ensures.1 in rw (p.1, p.2) (minus_fails c.args.tokens.now c.args.at c.args.depth c.in_ok-inner.inner 7 7 c.args.first c.in_err-body.field-0.0 (begins_minus c.args.tokens.now c.args.at c.args.depth c.in_ok-inner.inner c.args.first c.requires.here c.requires.sign c.in_ok-inner.ensures.more) c.in_ok-inner.ensures.room c.in_err-body.ensures)

pub read_negative-returns : goal.read_negative-returns
read_negative-returns t c = minus_done c.args.tokens.now c.args.at c.args.depth c.in_ok-inner.inner _ 7 c.args.first _ _ (begins_minus c.args.tokens.now c.args.at c.args.depth c.in_ok-inner.inner c.args.first c.requires.here c.requires.sign c.in_ok-inner.ensures.more) c.in_ok-inner.ensures.room c.in_ok-body.ensures c.in_ok-opposed.ensures

pub read_post-returns-in_err-left : goal.read_post-returns-in_err-left
read_post-returns-in_err-left t c = let p = err_from_is_err_and c.from_residual.result c.from_residual.ensures.1 in rw (p.1, p.2) (fails_on (λ p. tree p) (λ p. tree p) 7 8 (an_atom c.args.depth ∷ []) (more_post c.args.depth ∷ []) [] [] c.in_err-left.field-0.0 (post_0 c.args.tokens.now c.args.at c.args.depth c.requires.within) c.in_err-left.ensures)

pub read_post-returns : goal.read_post-returns
read_post-returns t c = relay (λ p. tree p) 7 c.more_post.result (then_reads (an_atom c.args.depth ∷ []) (more_post c.args.depth ∷ []) [] [] (post_0 c.args.tokens.now c.args.at c.args.depth c.requires.within) c.in_ok-left.ensures) c.more_post.ensures

pub read_atom-returns-in_default : goal.read_atom-returns-in_default
read_atom-returns-in_default t c = at_end (λ p. tree p) (an_atom c.args.depth) c.args.tokens.now c.args.at 8 c.in_default.ensures.none c.requires.within (λ v. refl)

pub read_atom-returns-then-same : goal.read_atom-returns-then-same
read_atom-returns-then-same t c = relay (λ p. tree p) 8 c.read_call.result (begin_1 (an_atom c.args.depth) c.args.depth (call c.args.depth ∷ []) c.args.tokens.now c.args.at c.in-Some.first (begins_name c.args.tokens.now c.args.at c.args.depth c.in-Some.first c.in-Some.ensures.some (sym c.same.ensures ∙ c.if-same.true)) c.requires.shallow) c.read_call.ensures

pub read_atom-returns-then-is_word : goal.read_atom-returns-then-is_word
read_atom-returns-then-is_word t c = relay (λ p. tree p) 8 c.read_distinct.result (begin_1 (an_atom c.args.depth) c.args.depth (distinct_wants c.args.depth) c.args.tokens.now c.args.at c.in-Some.first (begins_distinct c.args.tokens.now c.args.at c.args.depth c.in-Some.first c.in-Some.ensures.some (sym c.is_word.ensures ∙ c.if-is_word.true)) c.requires.shallow) c.read_distinct.ensures

pub read_atom-returns-in_err-atom : goal.read_atom-returns-in_err-atom
read_atom-returns-in_err-atom t c = let p = err_from_is_err_and c.from_residual.result c.from_residual.ensures.1 in rw (p.1, p.2) (constant_fails c.args.tokens.now c.args.at c.args.depth c.in-Some.first c.in_err-atom.field-0.0 (record { here = c.in-Some.ensures.some; name = (sym c.same.ensures ∙ c.if-same.false); paren = (sym c.is_sign.ensures ∙ c.if-is_sign.false); brace = (sym c.is_sign-2.ensures ∙ c.if-is_sign-2.false); distinct = (sym c.is_word.ensures ∙ c.if-is_word.false) }) c.in_err-atom.ensures)

pub read_atom-returns : goal.read_atom-returns
read_atom-returns t c = constant_done c.args.tokens.now c.args.at c.args.depth c.in-Some.first c.in_ok-atom.atom (record { here = c.in-Some.ensures.some; name = (sym c.same.ensures ∙ c.if-same.false); paren = (sym c.is_sign.ensures ∙ c.if-is_sign.false); brace = (sym c.is_sign-2.ensures ∙ c.if-is_sign-2.false); distinct = (sym c.is_word.ensures ∙ c.if-is_word.false) }) c.requires.shallow c.in_ok-atom.ensures

pub read_call-returns-then-not-stands_sign : goal.read_call-returns-then-not-stands_sign
read_call-returns-then-not-stands_sign t c = call_ends c.args.tokens.now c.args.at c.args.depth c.args.name _ c.requires.within c.if-not-stands_sign.ensures c.in_ok-named.ensures

pub read_call-returns-in_err-inner : goal.read_call-returns-in_err-inner
read_call-returns-in_err-inner t c = let p = err_from_is_err_and c.from_residual-in_err-inner.result c.from_residual-in_err-inner.ensures.1 in rw (p.1, p.2) (call_deep c.args.tokens.now c.args.at c.args.depth c.args.name c.in_err-inner.field-0.0 c.requires.within c.if-not-stands_sign.ensures c.in_err-inner.ensures.full c.in_err-inner.ensures.deep)

pub read_call-returns-in_err-args : goal.read_call-returns-in_err-args
read_call-returns-in_err-args t c = let p = err_from_is_err_and c.from_residual-in_err-args.result c.from_residual-in_err-args.ensures.1 in rw (p.1, p.2) (fails_on (λ p. tree p) (λ p. trees p) 8 1 (an_expr c.in_ok-inner.inner ∷ make begin ∷ more of_exprs c.in_ok-inner.inner ∷ []) (keep (the_sign sign.CloseParen) c.args.depth ∷ make call_it ∷ []) [] (token c.args.name ∷ []) c.in_err-args.field-0.0 (call_1 c.args.tokens.now c.args.at c.args.depth c.in_ok-inner.inner c.args.name c.requires.within c.if-not-stands_sign.ensures c.in_ok-inner.ensures.more c.in_ok-inner.ensures.room) c.in_err-args.ensures)

pub read_call-returns-in_err-close : goal.read_call-returns-in_err-close
read_call-returns-in_err-close t c = let p = err_from_is_err_and c.from_residual-in_err-close.result c.from_residual-in_err-close.ensures.1 in rw (p.1, p.2) (lacks_keep (λ p. tree p) 8 c.in_err-close.field-0.0 (then_reads (an_expr c.in_ok-inner.inner ∷ make begin ∷ more of_exprs c.in_ok-inner.inner ∷ []) (keep (the_sign sign.CloseParen) c.args.depth ∷ make call_it ∷ []) [] (token c.args.name ∷ []) (call_1 c.args.tokens.now c.args.at c.args.depth c.in_ok-inner.inner c.args.name c.requires.within c.if-not-stands_sign.ensures c.in_ok-inner.ensures.more c.in_ok-inner.ensures.room) c.in_ok-args.ensures) c.in_err-close.ensures.lacks c.in_err-close.ensures.wrong)

pub read_call-returns : goal.read_call-returns
read_call-returns t c = made 8 (applied c.args.name c.in_ok-args.args c.in_ok-close.close) _ (then_keeps c.in_ok-close.close (then_reads (an_expr c.in_ok-inner.inner ∷ make begin ∷ more of_exprs c.in_ok-inner.inner ∷ []) (keep (the_sign sign.CloseParen) c.args.depth ∷ make call_it ∷ []) [] (token c.args.name ∷ []) (call_1 c.args.tokens.now c.args.at c.args.depth c.in_ok-inner.inner c.args.name c.requires.within c.if-not-stands_sign.ensures c.in_ok-inner.ensures.more c.in_ok-inner.ensures.room) c.in_ok-args.ensures) c.in_ok-close.ensures.is c.in_ok-close.ensures.kind c.requires.shallow) (λ v. refl) c.in_ok-call.ensures (small_grip _)

pub read_terms-returns-in_err-first : goal.read_terms-returns-in_err-first
read_terms-returns-in_err-first t c = let p = err_from_is_err_and c.from_residual.result c.from_residual.ensures.1 in rw (p.1, p.2) (items_first_fails (λ p. trees p) (λ p. tree p) of_exprs c.args.tokens.now c.args.at c.args.depth 1 1 c.in_err-first.field-0.0 c.requires.within c.in_err-first.ensures)

pub read_terms-loop-alloc-init : goal.read_terms-loop-alloc-init
read_terms-loop-alloc-init t c = record { runs = items_first of_exprs c.args.tokens.now c.args.at c.args.depth c.in_ok-first.to 1 (tree c.in_ok-first.first) _ c.requires.within c.in_ok-first.ensures (ap (λ z. trees z) (c.in_ok-push.ensures.ok ∙ ap (λ z. z ++ c.in_ok-first.first ∷ []) c.new-found.ensures)); weak = (let g = c.in_ok-first.ensures in g.weak) }

pub read_terms-returns-in_err-term : goal.read_terms-returns-in_err-term
read_terms-returns-in_err-term t c = let p = err_from_is_err_and c.from_residual-in_err-term.result c.from_residual-in_err-term.ensures.1 in rw (p.1, p.2) (items_more_fails (λ p. trees p) (λ p. tree p) of_exprs c.args.tokens.now c.args.at c.loop-alloc.end c.args.depth 1 1 (trees c.loop-alloc.found) c.in_err-term.field-0.0 (let i = c.loop-alloc.invariant in i.runs) c.loop-alloc-test.ensures c.requires.shallow c.in_err-term.ensures)

pub read_terms-loop-alloc-preserved : goal.read_terms-loop-alloc-preserved
read_terms-loop-alloc-preserved t c = let i = c.loop-alloc.invariant in record { runs = items_more of_exprs c.args.tokens.now c.args.at c.loop-alloc.end c.args.depth c.in_ok-term.to 1 (trees c.loop-alloc.found) (tree c.in_ok-term.term) _ i.runs c.loop-alloc-test.ensures c.requires.shallow c.in_ok-term.ensures (ap (λ z. trees z) c.in_ok-push-2.ensures.ok); weak = (let g = c.in_ok-term.ensures in g.weak) }

pub read_terms-returns : goal.read_terms-returns
read_terms-returns t c = let i = c.loop-alloc.invariant in items_ends of_exprs c.args.tokens.now c.args.at c.loop-alloc.end c.args.depth 1 (trees c.loop-alloc.found) i.runs c.loop-alloc-test.ensures i.weak

pub read_brackets-returns-in_err-inner : goal.read_brackets-returns-in_err-inner
read_brackets-returns-in_err-inner t c = let p = err_from_is_err_and c.from_residual.result c.from_residual.ensures.1 in rw (p.1, p.2) (begin_deep (λ p. tree p) (an_atom c.args.depth) (suc c.args.depth) (an_expr (suc c.args.depth) ∷ bracket_end c.args.depth ∷ []) c.args.tokens.now c.args.at 8 c.args.opener c.in_err-inner.field-0.0 (begins_paren c.args.tokens.now c.args.at c.args.depth (suc c.args.depth) c.args.opener c.requires.here c.requires.sign refl) c.in_err-inner.ensures.full c.in_err-inner.ensures.deep)

pub read_brackets-returns-in_err-body : goal.read_brackets-returns-in_err-body
read_brackets-returns-in_err-body t c = let p = err_from_is_err_and c.from_residual-in_err-body.result c.from_residual-in_err-body.ensures.1 in rw (p.1, p.2) (fails_on (λ p. tree p) (λ p. tree p) 8 1 (an_expr c.in_ok-inner.inner ∷ []) (bracket_end c.args.depth ∷ []) [] (token c.args.opener ∷ []) c.in_err-body.field-0.0 (begin_1 (an_atom c.args.depth) c.in_ok-inner.inner (an_expr c.in_ok-inner.inner ∷ bracket_end c.args.depth ∷ []) c.args.tokens.now c.args.at c.args.opener (begins_paren c.args.tokens.now c.args.at c.args.depth c.in_ok-inner.inner c.args.opener c.requires.here c.requires.sign c.in_ok-inner.ensures.more) c.in_ok-inner.ensures.room) c.in_err-body.ensures)

pub read_brackets-returns-then-stands_sign : goal.read_brackets-returns-then-stands_sign
read_brackets-returns-then-stands_sign t c = relay (λ p. tree p) 8 c.read_ascribed.result (then_colon c.args.tokens.now (an_atom c.args.depth ∷ []) [] (tree c.in_ok-body.body ∷ token c.args.opener ∷ []) c.args.at c.in_ok-body.to c.args.depth c.in_ok-inner.inner (then_reads (an_expr c.in_ok-inner.inner ∷ []) (bracket_end c.args.depth ∷ []) [] (token c.args.opener ∷ []) (begin_1 (an_atom c.args.depth) c.in_ok-inner.inner (an_expr c.in_ok-inner.inner ∷ bracket_end c.args.depth ∷ []) c.args.tokens.now c.args.at c.args.opener (begins_paren c.args.tokens.now c.args.at c.args.depth c.in_ok-inner.inner c.args.opener c.requires.here c.requires.sign c.in_ok-inner.ensures.more) c.in_ok-inner.ensures.room) c.in_ok-body.ensures) c.if-stands_sign.ensures c.in_ok-inner.ensures.more c.in_ok-inner.ensures.room) (c.read_ascribed.ensures c.args.depth c.requires.shallow)

pub read_brackets-returns-in_err-close : goal.read_brackets-returns-in_err-close
read_brackets-returns-in_err-close t c = let p = err_from_is_err_and c.from_residual-in_err-close.result c.from_residual-in_err-close.ensures.1 in rw (p.1, p.2) (no_close (λ p. tree p) c.args.tokens.now (an_atom c.args.depth ∷ []) [] (tree c.in_ok-body.body ∷ token c.args.opener ∷ []) c.args.at c.in_ok-body.to c.args.depth 8 c.in_err-close.field-0.0 (then_reads (an_expr c.in_ok-inner.inner ∷ []) (bracket_end c.args.depth ∷ []) [] (token c.args.opener ∷ []) (begin_1 (an_atom c.args.depth) c.in_ok-inner.inner (an_expr c.in_ok-inner.inner ∷ bracket_end c.args.depth ∷ []) c.args.tokens.now c.args.at c.args.opener (begins_paren c.args.tokens.now c.args.at c.args.depth c.in_ok-inner.inner c.args.opener c.requires.here c.requires.sign c.in_ok-inner.ensures.more) c.in_ok-inner.ensures.room) c.in_ok-body.ensures) c.in_err-close.ensures.lacks c.if-stands_sign.ensures c.in_err-close.ensures.wrong)

pub read_brackets-returns : goal.read_brackets-returns
read_brackets-returns t c = made 8 (bracketed c.args.opener c.in_ok-body.body c.in_ok-close.close) _ (then_closes c.args.tokens.now (an_atom c.args.depth ∷ []) [] (tree c.in_ok-body.body ∷ token c.args.opener ∷ []) c.args.at c.in_ok-body.to c.args.depth c.in_ok-close.close (then_reads (an_expr c.in_ok-inner.inner ∷ []) (bracket_end c.args.depth ∷ []) [] (token c.args.opener ∷ []) (begin_1 (an_atom c.args.depth) c.in_ok-inner.inner (an_expr c.in_ok-inner.inner ∷ bracket_end c.args.depth ∷ []) c.args.tokens.now c.args.at c.args.opener (begins_paren c.args.tokens.now c.args.at c.args.depth c.in_ok-inner.inner c.args.opener c.requires.here c.requires.sign c.in_ok-inner.ensures.more) c.in_ok-inner.ensures.room) c.in_ok-body.ensures) c.in_ok-close.ensures.is c.in_ok-close.ensures.kind c.requires.shallow) (λ v. refl) c.in_ok-inside.ensures (small_grip _)

pub read_distinct-returns-in_err-take_sign : goal.read_distinct-returns-in_err-take_sign
read_distinct-returns-in_err-take_sign t c = let p = err_from_is_err_and c.from_residual.result c.from_residual.ensures.1 in rw (p.1, p.2) (lacks_pass (λ p. tree p) 8 c.in_err-take_sign.field-0.0 (start c.args.tokens.now (distinct_wants c.args.depth) (token c.args.first ∷ []) c.args.at c.requires.within) c.in_err-take_sign.ensures.lacks c.in_err-take_sign.ensures.wrong)

pub read_distinct-returns-in_err-inner : goal.read_distinct-returns-in_err-inner
read_distinct-returns-in_err-inner t c = let p = err_from_is_err_and c.from_residual-in_err-inner.result c.from_residual-in_err-inner.ensures.1 in rw (p.1, p.2) (distinct_deep c.args.tokens.now c.args.at c.args.depth c.args.first _ c.in_err-inner.field-0.0 c.requires.within c.in_ok-take_sign.ensures.is c.in_ok-take_sign.ensures.kind c.in_err-inner.ensures.full c.in_err-inner.ensures.deep)

pub read_distinct-returns-in_err-terms : goal.read_distinct-returns-in_err-terms
read_distinct-returns-in_err-terms t c = let p = err_from_is_err_and c.from_residual-in_err-terms.result c.from_residual-in_err-terms.ensures.1 in rw (p.1, p.2) (fails_on (λ p. tree p) (λ p. trees p) 8 1 (an_expr c.in_ok-inner.inner ∷ make begin ∷ more of_exprs c.in_ok-inner.inner ∷ []) (keep (the_sign sign.CloseParen) c.args.depth ∷ make all_differ ∷ []) [] (token c.args.first ∷ []) c.in_err-terms.field-0.0 (distinct_1 c.args.tokens.now c.args.at c.args.depth c.in_ok-inner.inner c.args.first _ c.requires.within c.in_ok-take_sign.ensures.is c.in_ok-take_sign.ensures.kind c.in_ok-inner.ensures.more c.in_ok-inner.ensures.room) c.in_err-terms.ensures)

pub read_distinct-returns-in_err-close : goal.read_distinct-returns-in_err-close
read_distinct-returns-in_err-close t c = let p = err_from_is_err_and c.from_residual-in_err-close.result c.from_residual-in_err-close.ensures.1 in rw (p.1, p.2) (lacks_keep (λ p. tree p) 8 c.in_err-close.field-0.0 (then_reads (an_expr c.in_ok-inner.inner ∷ make begin ∷ more of_exprs c.in_ok-inner.inner ∷ []) (keep (the_sign sign.CloseParen) c.args.depth ∷ make all_differ ∷ []) [] (token c.args.first ∷ []) (distinct_1 c.args.tokens.now c.args.at c.args.depth c.in_ok-inner.inner c.args.first _ c.requires.within c.in_ok-take_sign.ensures.is c.in_ok-take_sign.ensures.kind c.in_ok-inner.ensures.more c.in_ok-inner.ensures.room) c.in_ok-terms.ensures) c.in_err-close.ensures.lacks c.in_err-close.ensures.wrong)

pub read_distinct-returns : goal.read_distinct-returns
read_distinct-returns t c = made 8 (distinct_of c.args.first c.in_ok-terms.terms c.in_ok-close.close) _ (then_keeps c.in_ok-close.close (then_reads (an_expr c.in_ok-inner.inner ∷ make begin ∷ more of_exprs c.in_ok-inner.inner ∷ []) (keep (the_sign sign.CloseParen) c.args.depth ∷ make all_differ ∷ []) [] (token c.args.first ∷ []) (distinct_1 c.args.tokens.now c.args.at c.args.depth c.in_ok-inner.inner c.args.first _ c.requires.within c.in_ok-take_sign.ensures.is c.in_ok-take_sign.ensures.kind c.in_ok-inner.ensures.more c.in_ok-inner.ensures.room) c.in_ok-terms.ensures) c.in_ok-close.ensures.is c.in_ok-close.ensures.kind c.requires.shallow) (λ v. refl) c.in_ok-all_differ.ensures (small_grip _)

pub read_braces-returns-in_err-inner : goal.read_braces-returns-in_err-inner
read_braces-returns-in_err-inner t c = let p = err_from_is_err_and c.from_residual.result c.from_residual.ensures.1 in rw (p.1, p.2) (begin_deep (λ p. tree p) (an_atom c.args.depth) (suc c.args.depth) (brace c.args.depth ∷ []) c.args.tokens.now c.args.at 8 c.args.opener c.in_err-inner.field-0.0 (begins_brace c.args.tokens.now c.args.at c.args.depth (suc c.args.depth) c.args.opener c.requires.here c.requires.sign refl) c.in_err-inner.ensures.full c.in_err-inner.ensures.deep)

pub read_braces-returns-then-sets : goal.read_braces-returns-then-sets
read_braces-returns-then-sets t c = relay (λ p. tree p) 8 c.read_record.result (record_0 c.args.tokens.now c.args.at c.args.depth c.in_ok-inner.inner c.args.opener c.requires.here c.requires.sign c.in_ok-inner.ensures.more c.in_ok-inner.ensures.room c.if-sets.ensures) (c.read_record.ensures c.args.depth c.requires.shallow)

pub read_braces-returns : goal.read_braces-returns
read_braces-returns t c = relay (λ p. tree p) 8 c.read_update.result (change_0 c.args.tokens.now c.args.at c.args.depth c.in_ok-inner.inner c.args.opener c.requires.here c.requires.sign c.in_ok-inner.ensures.more c.in_ok-inner.ensures.room c.if-sets.ensures) (c.read_update.ensures c.args.depth c.requires.shallow)

pub read_record-returns-in_err-settings : goal.read_record-returns-in_err-settings
read_record-returns-in_err-settings t c = let p = err_from_is_err_and c.from_residual.result c.from_residual.ensures.1 in rw (p.1, p.2) (λ m l. fails_on (λ p. tree p) (λ p. settings p) 8 1 (keep kind.Ident c.args.depth ∷ pass (the_sign sign.Equal) c.args.depth ∷ an_expr c.args.depth ∷ make set ∷ make begin ∷ more of_settings c.args.depth ∷ []) (keep (the_sign sign.CloseBrace) m ∷ make build ∷ []) [] (token c.args.opener ∷ []) c.in_err-settings.field-0.0 (start c.args.tokens.now (record_wants c.args.depth m) (token c.args.opener ∷ []) c.args.at c.requires.within) c.in_err-settings.ensures)

pub read_record-returns-in_err-close : goal.read_record-returns-in_err-close
read_record-returns-in_err-close t c = let p = err_from_is_err_and c.from_residual-in_err-close.result c.from_residual-in_err-close.ensures.1 in rw (p.1, p.2) (λ m l. lacks_keep (λ p. tree p) 8 c.in_err-close.field-0.0 (then_reads (keep kind.Ident c.args.depth ∷ pass (the_sign sign.Equal) c.args.depth ∷ an_expr c.args.depth ∷ make set ∷ make begin ∷ more of_settings c.args.depth ∷ []) (keep (the_sign sign.CloseBrace) m ∷ make build ∷ []) [] (token c.args.opener ∷ []) (start c.args.tokens.now (record_wants c.args.depth m) (token c.args.opener ∷ []) c.args.at c.requires.within) c.in_ok-settings.ensures) c.in_err-close.ensures.lacks c.in_err-close.ensures.wrong)

pub read_record-returns : goal.read_record-returns
read_record-returns t c = λ m l. made 8 (record_of c.args.opener c.in_ok-settings.settings c.in_ok-close.close) _ (then_keeps c.in_ok-close.close (then_reads (keep kind.Ident c.args.depth ∷ pass (the_sign sign.Equal) c.args.depth ∷ an_expr c.args.depth ∷ make set ∷ make begin ∷ more of_settings c.args.depth ∷ []) (keep (the_sign sign.CloseBrace) m ∷ make build ∷ []) [] (token c.args.opener ∷ []) (start c.args.tokens.now (record_wants c.args.depth m) (token c.args.opener ∷ []) c.args.at c.requires.within) c.in_ok-settings.ensures) c.in_ok-close.ensures.is c.in_ok-close.ensures.kind l) (λ v. refl) c.in_ok-built.ensures (small_grip _)

pub read_update-returns-in_err-base : goal.read_update-returns-in_err-base
read_update-returns-in_err-base t c = let p = err_from_is_err_and c.from_residual.result c.from_residual.ensures.1 in rw (p.1, p.2) (λ m l. fails_on (λ p. tree p) (λ p. tree p) 8 7 (a_post c.args.depth ∷ []) (pass (the_word word.With) c.args.depth ∷ keep kind.Ident c.args.depth ∷ pass (the_sign sign.Equal) c.args.depth ∷ an_expr c.args.depth ∷ make set ∷ make begin ∷ more of_settings c.args.depth ∷ keep (the_sign sign.CloseBrace) m ∷ make change ∷ []) [] (token c.args.opener ∷ []) c.in_err-base.field-0.0 (start c.args.tokens.now (change_wants c.args.depth m) (token c.args.opener ∷ []) c.args.at c.requires.within) c.in_err-base.ensures)

pub read_update-returns-in_err-take_word : goal.read_update-returns-in_err-take_word
read_update-returns-in_err-take_word t c = let p = err_from_is_err_and c.from_residual-in_err-take_word.result c.from_residual-in_err-take_word.ensures.1 in rw (p.1, p.2) (λ m l. lacks_pass (λ p. tree p) 8 c.in_err-take_word.field-0.0 (then_reads (a_post c.args.depth ∷ []) (pass (the_word word.With) c.args.depth ∷ keep kind.Ident c.args.depth ∷ pass (the_sign sign.Equal) c.args.depth ∷ an_expr c.args.depth ∷ make set ∷ make begin ∷ more of_settings c.args.depth ∷ keep (the_sign sign.CloseBrace) m ∷ make change ∷ []) [] (token c.args.opener ∷ []) (start c.args.tokens.now (change_wants c.args.depth m) (token c.args.opener ∷ []) c.args.at c.requires.within) c.in_ok-base.ensures) c.in_err-take_word.ensures.lacks c.in_err-take_word.ensures.wrong)

pub read_update-returns-in_err-settings : goal.read_update-returns-in_err-settings
read_update-returns-in_err-settings t c = let p = err_from_is_err_and c.from_residual-in_err-settings.result c.from_residual-in_err-settings.ensures.1 in rw (p.1, p.2) (λ m l. fails_on (λ p. tree p) (λ p. settings p) 8 1 (keep kind.Ident c.args.depth ∷ pass (the_sign sign.Equal) c.args.depth ∷ an_expr c.args.depth ∷ make set ∷ make begin ∷ more of_settings c.args.depth ∷ []) (keep (the_sign sign.CloseBrace) m ∷ make change ∷ []) [] (tree c.in_ok-base.base ∷ token c.args.opener ∷ []) c.in_err-settings.field-0.0 (then_passes _ (then_reads (a_post c.args.depth ∷ []) (pass (the_word word.With) c.args.depth ∷ keep kind.Ident c.args.depth ∷ pass (the_sign sign.Equal) c.args.depth ∷ an_expr c.args.depth ∷ make set ∷ make begin ∷ more of_settings c.args.depth ∷ keep (the_sign sign.CloseBrace) m ∷ make change ∷ []) [] (token c.args.opener ∷ []) (start c.args.tokens.now (change_wants c.args.depth m) (token c.args.opener ∷ []) c.args.at c.requires.within) c.in_ok-base.ensures) c.in_ok-take_word.ensures.is c.in_ok-take_word.ensures.kind c.requires.shallow) c.in_err-settings.ensures)

pub read_update-returns-in_err-close : goal.read_update-returns-in_err-close
read_update-returns-in_err-close t c = let p = err_from_is_err_and c.from_residual-in_err-close.result c.from_residual-in_err-close.ensures.1 in rw (p.1, p.2) (λ m l. lacks_keep (λ p. tree p) 8 c.in_err-close.field-0.0 (then_reads (keep kind.Ident c.args.depth ∷ pass (the_sign sign.Equal) c.args.depth ∷ an_expr c.args.depth ∷ make set ∷ make begin ∷ more of_settings c.args.depth ∷ []) (keep (the_sign sign.CloseBrace) m ∷ make change ∷ []) [] (tree c.in_ok-base.base ∷ token c.args.opener ∷ []) (then_passes _ (then_reads (a_post c.args.depth ∷ []) (pass (the_word word.With) c.args.depth ∷ keep kind.Ident c.args.depth ∷ pass (the_sign sign.Equal) c.args.depth ∷ an_expr c.args.depth ∷ make set ∷ make begin ∷ more of_settings c.args.depth ∷ keep (the_sign sign.CloseBrace) m ∷ make change ∷ []) [] (token c.args.opener ∷ []) (start c.args.tokens.now (change_wants c.args.depth m) (token c.args.opener ∷ []) c.args.at c.requires.within) c.in_ok-base.ensures) c.in_ok-take_word.ensures.is c.in_ok-take_word.ensures.kind c.requires.shallow) c.in_ok-settings.ensures) c.in_err-close.ensures.lacks c.in_err-close.ensures.wrong)

pub read_update-returns : goal.read_update-returns
read_update-returns t c = λ m l. made 8 (update_of c.args.opener c.in_ok-base.base c.in_ok-settings.settings c.in_ok-close.close) _ (then_keeps c.in_ok-close.close (then_reads (keep kind.Ident c.args.depth ∷ pass (the_sign sign.Equal) c.args.depth ∷ an_expr c.args.depth ∷ make set ∷ make begin ∷ more of_settings c.args.depth ∷ []) (keep (the_sign sign.CloseBrace) m ∷ make change ∷ []) [] (tree c.in_ok-base.base ∷ token c.args.opener ∷ []) (then_passes _ (then_reads (a_post c.args.depth ∷ []) (pass (the_word word.With) c.args.depth ∷ keep kind.Ident c.args.depth ∷ pass (the_sign sign.Equal) c.args.depth ∷ an_expr c.args.depth ∷ make set ∷ make begin ∷ more of_settings c.args.depth ∷ keep (the_sign sign.CloseBrace) m ∷ make change ∷ []) [] (token c.args.opener ∷ []) (start c.args.tokens.now (change_wants c.args.depth m) (token c.args.opener ∷ []) c.args.at c.requires.within) c.in_ok-base.ensures) c.in_ok-take_word.ensures.is c.in_ok-take_word.ensures.kind c.requires.shallow) c.in_ok-settings.ensures) c.in_ok-close.ensures.is c.in_ok-close.ensures.kind l) (λ v. refl) c.in_ok-changed.ensures (small_grip _)

pub read_settings-returns-in_err-first : goal.read_settings-returns-in_err-first
read_settings-returns-in_err-first t c = let p = err_from_is_err_and c.from_residual.result c.from_residual.ensures.1 in rw (p.1, p.2) (items_first_fails (λ p. settings p) (λ p. setting p) of_settings c.args.tokens.now c.args.at c.args.depth 1 1 c.in_err-first.field-0.0 c.requires.within c.in_err-first.ensures)

pub read_settings-loop-alloc-init : goal.read_settings-loop-alloc-init
read_settings-loop-alloc-init t c = record { runs = items_first of_settings c.args.tokens.now c.args.at c.args.depth c.in_ok-first.to 1 (setting c.in_ok-first.first) _ c.requires.within c.in_ok-first.ensures (ap (λ z. settings z) (c.in_ok-push.ensures.ok ∙ ap (λ z. z ++ c.in_ok-first.first ∷ []) c.new-found.ensures)); weak = (let g = c.in_ok-first.ensures in g.weak) }

pub read_settings-returns-in_err-setting : goal.read_settings-returns-in_err-setting
read_settings-returns-in_err-setting t c = let p = err_from_is_err_and c.from_residual-in_err-setting.result c.from_residual-in_err-setting.ensures.1 in rw (p.1, p.2) (items_more_fails (λ p. settings p) (λ p. setting p) of_settings c.args.tokens.now c.args.at c.loop-alloc.end c.args.depth 1 1 (settings c.loop-alloc.found) c.in_err-setting.field-0.0 (let i = c.loop-alloc.invariant in i.runs) c.loop-alloc-test.ensures c.requires.shallow c.in_err-setting.ensures)

pub read_settings-loop-alloc-preserved : goal.read_settings-loop-alloc-preserved
read_settings-loop-alloc-preserved t c = let i = c.loop-alloc.invariant in record { runs = items_more of_settings c.args.tokens.now c.args.at c.loop-alloc.end c.args.depth c.in_ok-setting.to 1 (settings c.loop-alloc.found) (setting c.in_ok-setting.setting) _ i.runs c.loop-alloc-test.ensures c.requires.shallow c.in_ok-setting.ensures (ap (λ z. settings z) c.in_ok-push-2.ensures.ok); weak = (let g = c.in_ok-setting.ensures in g.weak) }

pub read_settings-returns : goal.read_settings-returns
read_settings-returns t c = let i = c.loop-alloc.invariant in items_ends of_settings c.args.tokens.now c.args.at c.loop-alloc.end c.args.depth 1 (settings c.loop-alloc.found) i.runs c.loop-alloc-test.ensures i.weak

pub read_setting-returns-in_err-name : goal.read_setting-returns-in_err-name
read_setting-returns-in_err-name t c = let p = err_from_is_err_and c.from_residual.result c.from_residual.ensures.1 in rw (p.1, p.2) (lacks_keep (λ p. setting p) 1 c.in_err-name.field-0.0 (start c.args.tokens.now (element_wants of_settings c.args.depth) [] c.args.at c.requires.within) c.in_err-name.ensures.lacks c.in_err-name.ensures.wrong)

pub read_setting-returns-in_err-take_sign : goal.read_setting-returns-in_err-take_sign
read_setting-returns-in_err-take_sign t c = let p = err_from_is_err_and c.from_residual-in_err-take_sign.result c.from_residual-in_err-take_sign.ensures.1 in rw (p.1, p.2) (lacks_pass (λ p. setting p) 1 c.in_err-take_sign.field-0.0 (then_keeps c.in_ok-name.name (start c.args.tokens.now (element_wants of_settings c.args.depth) [] c.args.at c.requires.within) c.in_ok-name.ensures.is c.in_ok-name.ensures.kind c.requires.shallow) c.in_err-take_sign.ensures.lacks c.in_err-take_sign.ensures.wrong)

pub read_setting-returns-in_err-value : goal.read_setting-returns-in_err-value
read_setting-returns-in_err-value t c = let p = err_from_is_err_and c.from_residual-in_err-value.result c.from_residual-in_err-value.ensures.1 in rw (p.1, p.2) (fails_on (λ p. setting p) (λ p. tree p) 1 1 (an_expr c.args.depth ∷ []) (make set ∷ []) [] (token c.in_ok-name.name ∷ []) c.in_err-value.field-0.0 (moved (c.args.at + 2) (omega arith) (then_passes _ (then_keeps c.in_ok-name.name (start c.args.tokens.now (element_wants of_settings c.args.depth) [] c.args.at c.requires.within) c.in_ok-name.ensures.is c.in_ok-name.ensures.kind c.requires.shallow) c.in_ok-take_sign.ensures.is c.in_ok-take_sign.ensures.kind c.requires.shallow)) c.in_err-value.ensures)

pub read_setting-returns : goal.read_setting-returns
read_setting-returns t c = let g = c.in_ok-value.ensures in rw c.setting_of.ensures (done (then_makes (setting (setting_of c.in_ok-name.name c.in_ok-value.value) ∷ []) (then_reads (an_expr c.args.depth ∷ []) (make set ∷ []) [] (token c.in_ok-name.name ∷ []) (moved (c.args.at + 2) (omega arith) (then_passes _ (then_keeps c.in_ok-name.name (start c.args.tokens.now (element_wants of_settings c.args.depth) [] c.args.at c.requires.within) c.in_ok-name.ensures.is c.in_ok-name.ensures.kind c.requires.shallow) c.in_ok-take_sign.ensures.is c.in_ok-take_sign.ensures.kind c.requires.shallow)) c.in_ok-value.ensures) (λ v. refl)) g.weak)
