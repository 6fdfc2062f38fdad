use Rattle.std.proofs.Common.{ap, ◌∙◌, sym, refl, arith, [], ◌∷◌, ◌++◌}
use Rattle.std.proofs.lemmas.Result.{err_from_is_err_and}
use Rattle.ae_syntax.specs.Parts.{token, sort, sorts, span, named_after}
use Rattle.ae_syntax.proofs.ParserMeetsMachine.Decls.{type_missing, base_reads, no_type, open_bracket, bracket_sinks, sorts_start, sorts_step, sorts_end, sorts_fail, then_sorts, stop_sorts, then_keep, stop_keep, then_pass, stop_pass, then_read, stop_read, then_make, halts_answer, relays_as}
use Rattle.ae_syntax.proofs.read_types.+sort.Goals as goal

pub bracket_sorts-returns-in_err-inner : goal.bracket_sorts-returns-in_err-inner
bracket_sorts-returns-in_err-inner t c = let p = err_from_is_err_and c.from_residual.result c.from_residual.ensures.1 in rw (p.1, p.2) (bracket_sinks c.args.tokens.now c.args.at c.args.depth c.args.open c.in_err-inner.field-0.0 c.requires.here c.requires.base c.requires.kind c.in_err-inner.ensures.full c.in_err-inner.ensures.deep)

pub bracket_sorts-returns-in_err-first : goal.bracket_sorts-returns-in_err-first
bracket_sorts-returns-in_err-first t c = let p = err_from_is_err_and c.from_residual-in_err-first.result c.from_residual-in_err-first.ensures.1 in rw (p.1, p.2) (let l1 = open_bracket c.requires.here c.requires.base c.requires.kind c.in_ok-inner.ensures.more c.in_ok-inner.ensures.room in halts_answer (λ s. sort s) 8 (stop_read (λ s. sort s) 8 c.in_err-first.field-0.0 l1 c.in_err-first.ensures))

pub bracket_sorts-returns-in_err-take_sign : goal.bracket_sorts-returns-in_err-take_sign
bracket_sorts-returns-in_err-take_sign t c = let p = err_from_is_err_and c.from_residual-in_err-take_sign.result c.from_residual-in_err-take_sign.ensures.1 in rw (p.1, p.2) (let l1 = open_bracket c.requires.here c.requires.base c.requires.kind c.in_ok-inner.ensures.more c.in_ok-inner.ensures.room in let l2 = then_read l1 c.in_ok-first.ensures in halts_answer (λ s. sort s) 8 (stop_pass l2 c.in_err-take_sign.ensures.lacks c.in_err-take_sign.ensures.wrong))

pub bracket_sorts-returns-in_err-second : goal.bracket_sorts-returns-in_err-second
bracket_sorts-returns-in_err-second t c = let p = err_from_is_err_and c.from_residual-in_err-second.result c.from_residual-in_err-second.ensures.1 in rw (p.1, p.2) (let l1 = open_bracket c.requires.here c.requires.base c.requires.kind c.in_ok-inner.ensures.more c.in_ok-inner.ensures.room in let l2 = then_read l1 c.in_ok-first.ensures in let l3 = then_pass l2 c.in_ok-take_sign.ensures.is c.in_ok-take_sign.ensures.kind c.in_ok-inner.ensures.room in halts_answer (λ s. sort s) 8 (stop_read (λ s. sort s) 8 c.in_err-second.field-0.0 l3 c.in_err-second.ensures))

pub bracket_sorts-returns-in_err-args : goal.bracket_sorts-returns-in_err-args
bracket_sorts-returns-in_err-args t c = let p = err_from_is_err_and c.from_residual-in_err-args.result c.from_residual-in_err-args.ensures.1 in rw (p.1, p.2) (let l1 = open_bracket c.requires.here c.requires.base c.requires.kind c.in_ok-inner.ensures.more c.in_ok-inner.ensures.room in let l2 = then_read l1 c.in_ok-first.ensures in let l3 = then_pass l2 c.in_ok-take_sign.ensures.is c.in_ok-take_sign.ensures.kind c.in_ok-inner.ensures.room in let l4 = then_make (sorts (c.in_ok-second.second ∷ []) ∷ sort c.in_ok-first.first ∷ token c.args.open ∷ []) (then_read l3 c.in_ok-second.ensures) (λ v. refl) in halts_answer (λ s. sort s) 8 (stop_sorts (c.in_ok-second.second ∷ []) l4 c.in_err-args.ensures))

pub bracket_sorts-returns-in_err-take_sign-2 : goal.bracket_sorts-returns-in_err-take_sign-2
bracket_sorts-returns-in_err-take_sign-2 t c = let p = err_from_is_err_and c.from_residual-in_err-take_sign-2.result c.from_residual-in_err-take_sign-2.ensures.1 in rw (p.1, p.2) (let l1 = open_bracket c.requires.here c.requires.base c.requires.kind c.in_ok-inner.ensures.more c.in_ok-inner.ensures.room in let l2 = then_read l1 c.in_ok-first.ensures in let l3 = then_pass l2 c.in_ok-take_sign.ensures.is c.in_ok-take_sign.ensures.kind c.in_ok-inner.ensures.room in let l4 = then_make (sorts (c.in_ok-second.second ∷ []) ∷ sort c.in_ok-first.first ∷ token c.args.open ∷ []) (then_read l3 c.in_ok-second.ensures) (λ v. refl) in let l5 = then_sorts (c.in_ok-second.second ∷ []) l4 c.in_ok-args.ensures in halts_answer (λ s. sort s) 8 (stop_pass l5 c.in_err-take_sign-2.ensures.lacks c.in_err-take_sign-2.ensures.wrong))

pub bracket_sorts-returns-in_err-name : goal.bracket_sorts-returns-in_err-name
bracket_sorts-returns-in_err-name t c = let p = err_from_is_err_and c.from_residual-in_err-name.result c.from_residual-in_err-name.ensures.1 in rw (p.1, p.2) (let l1 = open_bracket c.requires.here c.requires.base c.requires.kind c.in_ok-inner.ensures.more c.in_ok-inner.ensures.room in let l2 = then_read l1 c.in_ok-first.ensures in let l3 = then_pass l2 c.in_ok-take_sign.ensures.is c.in_ok-take_sign.ensures.kind c.in_ok-inner.ensures.room in let l4 = then_make (sorts (c.in_ok-second.second ∷ []) ∷ sort c.in_ok-first.first ∷ token c.args.open ∷ []) (then_read l3 c.in_ok-second.ensures) (λ v. refl) in let l5 = then_sorts (c.in_ok-second.second ∷ []) l4 c.in_ok-args.ensures in let l6 = then_pass l5 c.in_ok-take_sign-2.ensures.is c.in_ok-take_sign-2.ensures.kind c.requires.shallow in halts_answer (λ s. sort s) 8 (stop_keep l6 c.in_err-name.ensures.lacks c.in_err-name.ensures.wrong))

pub bracket_sorts-returns : goal.bracket_sorts-returns
bracket_sorts-returns t c = let l1 = open_bracket c.requires.here c.requires.base c.requires.kind c.in_ok-inner.ensures.more c.in_ok-inner.ensures.room in let l2 = then_read l1 c.in_ok-first.ensures in let l3 = then_pass l2 c.in_ok-take_sign.ensures.is c.in_ok-take_sign.ensures.kind c.in_ok-inner.ensures.room in let l4 = then_make (sorts (c.in_ok-second.second ∷ []) ∷ sort c.in_ok-first.first ∷ token c.args.open ∷ []) (then_read l3 c.in_ok-second.ensures) (λ v. refl) in let l5 = then_sorts (c.in_ok-second.second ∷ []) l4 c.in_ok-args.ensures in let l6 = then_pass l5 c.in_ok-take_sign-2.ensures.is c.in_ok-take_sign-2.ensures.kind c.requires.shallow in let l7 = then_keep l6 c.in_ok-name.ensures.is c.in_ok-name.ensures.kind c.in_ok-inner.ensures.room in let l8 = then_make (sort (named_after (span c.args.open) (c.in_ok-first.first ∷ ((c.in_ok-second.second ∷ []) ++ (let g = c.in_ok-args.ensures in g.new))) c.in_ok-name.name) ∷ []) l7 (λ v. refl) in relays_as (λ s. sort s) 8 c.more_type.result l8 (omega arith) (ap (λ z. sort z ∷ []) (c.named_after.ensures ∙ ap (λ z. named_after z c.in_ok-args.args c.in_ok-name.name) c.span.ensures ∙ ap (λ z. named_after (span c.args.open) z c.in_ok-name.name) ((let g = c.in_ok-args.ensures in g.is) ∙ ap (λ z. z ++ (let g = c.in_ok-args.ensures in g.new)) (c.in_ok-push-2.ensures.ok ∙ ap (λ z. z ++ c.in_ok-second.second ∷ []) (c.in_ok-push.ensures.ok ∙ ap (λ z. z ++ c.in_ok-first.first ∷ []) c.new-args.ensures))))) c.more_type.ensures

pub more_types-loop-alloc-init : goal.more_types-loop-alloc-init
more_types-loop-alloc-init t c = sorts_start c.args.before c.args.depth c.args.tokens.now c.args.at c.requires.within

pub more_types-returns-in_err-sort : goal.more_types-returns-in_err-sort
more_types-returns-in_err-sort t c = let p = err_from_is_err_and c.from_residual.result c.from_residual.ensures.1 in rw (p.1, p.2) (sorts_fail c.args.before c.loop-alloc.found c.args.depth c.args.tokens.now c.args.at c.loop-alloc.at c.in_err-sort.field-0.0 c.loop-alloc.invariant c.loop-alloc-test.ensures c.requires.shallow c.in_err-sort.ensures)

pub more_types-loop-alloc-preserved : goal.more_types-loop-alloc-preserved
more_types-loop-alloc-preserved t c = sorts_step c.args.before c.loop-alloc.found _ c.args.depth c.args.tokens.now c.args.at c.loop-alloc.at c.in_ok-sort.to c.in_ok-sort.sort c.loop-alloc.invariant c.loop-alloc-test.ensures c.requires.shallow c.in_ok-sort.ensures c.in_ok-push.ensures.ok

pub more_types-returns : goal.more_types-returns
more_types-returns t c = sorts_end c.args.before c.loop-alloc.found c.args.depth c.args.tokens.now c.args.at c.loop-alloc.at c.loop-alloc.invariant c.loop-alloc-test.ensures

pub read_type-returns-in_default : goal.read_type-returns-in_default
read_type-returns-in_default t c = type_missing c.args.tokens.now c.args.at c.args.depth _ c.requires.within c.in_default.ensures.none refl

pub read_type-returns-in-Some-base_type : goal.read_type-returns-in-Some-base_type
read_type-returns-in-Some-base_type t c = base_reads c.args.tokens.now c.args.at c.args.depth c.in-Some.first c.in-Some-base_type.base c.more_type.result c.in-Some.ensures.some (sym c.base_type.ensures ∙ c.in-Some-base_type.is) c.requires.shallow c.more_type.ensures

pub read_type-returns : goal.read_type-returns
read_type-returns t c = no_type c.args.tokens.now c.args.at c.args.depth c.in-Some.first _ c.in-Some.ensures.some (sym c.base_type.ensures ∙ c.in_default-base_type.is) (sym c.if-is_sign.ensures) refl
