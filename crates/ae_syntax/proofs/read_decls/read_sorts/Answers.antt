use Rattle.std.proofs.Common.{ap, ◌∙◌, refl, [], ◌∷◌, ◌++◌}
use Rattle.std.proofs.lemmas.Result.{err_from_is_err_and}
use Rattle.ae_syntax.specs.Parts as part
use Rattle.ae_syntax.proofs.ParserMeetsMachine.Decls.{halts_answer, then_read, stop_read, finish, relays_as, prop_sorts, type_sorts, lone_sort, one_argument, more_arguments}
use Rattle.ae_syntax.proofs.read_decls.read_sorts.Goals as goal

pub returns-in-Ok : goal.returns-in-Ok
returns-in-Ok c = finish (part.decl c.logic_of.result) (prop_sorts c.args.first c.args.ac c.args.names c.in-Ok.ensures.is c.in-Ok.ensures.kind) (ap (λ z. part.decl z) (c.logic_of.ensures ∙ ap (λ z. part.logic_of c.args.first c.args.ac c.args.names z c.prop_result.result) c.new-args.ensures ∙ ap (λ z. part.logic_of c.args.first c.args.ac c.args.names [] z) c.prop_result.ensures))

pub returns-in_err-sort : goal.returns-in_err-sort
returns-in_err-sort c = let p = err_from_is_err_and c.from_residual.result c.from_residual.ensures.1 in rw (p.1, p.2) (let l0 = type_sorts (part.names c.args.names ∷ part.flag c.args.ac ∷ part.token c.args.first ∷ []) c.requires.within c.in_default.ensures.lacks in halts_answer (λ d. part.decl d) 8 (stop_read (λ s. part.sort s) 8 c.in_err-sort.field-0.0 l0 c.in_err-sort.ensures))

pub returns-then-stands_sign : goal.returns-then-stands_sign
returns-then-stands_sign c = let l0 = type_sorts (part.names c.args.names ∷ part.flag c.args.ac ∷ part.token c.args.first ∷ []) c.requires.within c.in_default.ensures.lacks in let l1 = then_read l0 c.in_ok-sort.ensures in relays_as (λ d. part.decl d) 8 c.read_range.result (one_argument c.in_ok-sort.sort l1 c.if-stands_sign.ensures) refl (ap (λ z. part.sorts z ∷ part.names c.args.names ∷ part.flag c.args.ac ∷ part.token c.args.first ∷ []) (c.in_ok-push.ensures.ok ∙ ap (λ z. z ++ c.in_ok-sort.sort ∷ []) c.new-args.ensures)) c.read_range.ensures

pub returns-then-not-stands_sign : goal.returns-then-not-stands_sign
returns-then-not-stands_sign c = let l0 = type_sorts (part.names c.args.names ∷ part.flag c.args.ac ∷ part.token c.args.first ∷ []) c.requires.within c.in_default.ensures.lacks in let l1 = then_read l0 c.in_ok-sort.ensures in finish (part.decl c.logic_of-then-not-stands_sign.result) (lone_sort c.args.first c.args.ac c.args.names c.in_ok-sort.sort l1 c.if-stands_sign.ensures c.if-not-stands_sign.ensures) (ap (λ z. part.decl z) (c.logic_of-then-not-stands_sign.ensures ∙ ap (λ z. part.logic_of c.args.first c.args.ac c.args.names z c.sort_result.result) c.new-args.ensures ∙ ap (λ z. part.logic_of c.args.first c.args.ac c.args.names [] z) c.sort_result.ensures))

pub returns : goal.returns
returns c = let l0 = type_sorts (part.names c.args.names ∷ part.flag c.args.ac ∷ part.token c.args.first ∷ []) c.requires.within c.in_default.ensures.lacks in let l1 = then_read l0 c.in_ok-sort.ensures in relays_as (λ d. part.decl d) 8 c.read_arguments.result (more_arguments c.in_ok-sort.sort l1 c.if-stands_sign.ensures c.if-not-stands_sign.ensures) refl (ap (λ z. part.sorts z ∷ part.names c.args.names ∷ part.flag c.args.ac ∷ part.token c.args.first ∷ []) (c.in_ok-push-2.ensures.ok ∙ ap (λ z. z ++ c.in_ok-sort.sort ∷ []) c.new-args.ensures)) c.read_arguments.ensures
