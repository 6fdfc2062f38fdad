use Rattle.std.proofs.Common.{[], ◌∷◌, ◌++◌, ap, ◌∙◌}
use Rattle.std.proofs.lemmas.Result.{err_from_is_err_and}
use Rattle.ae_syntax.specs.Parts.{group, groups}
use Rattle.ae_syntax.specs.Grammar.{of_groups}
use Rattle.ae_syntax.proofs.ParserMeetsMachine.OpenExprs.{items_first, items_first_fails, items_more, items_more_fails, items_ends}
use Rattle.ae_syntax.proofs.read_groups.read_groups.Goals as goal

pub returns-in_err-first : goal.returns-in_err-first
returns-in_err-first c = let p = err_from_is_err_and c.from_residual.result c.from_residual.ensures.1 in rw (p.1, p.2) (items_first_fails (λ p. groups p) (λ p. group p) of_groups c.args.tokens.now c.args.at c.args.depth 8 8 c.in_err-first.field-0.0 c.requires.within c.in_err-first.ensures)

pub loop-alloc-init : goal.loop-alloc-init
loop-alloc-init c = record { runs = items_first of_groups c.args.tokens.now c.args.at c.args.depth c.in_ok-first.to 8 (group c.in_ok-first.first) _ c.requires.within c.in_ok-first.ensures (ap (λ z. groups z) (c.in_ok-push.ensures.ok ∙ ap (λ z. z ++ c.in_ok-first.first ∷ []) c.new-found.ensures)); weak = (let g = c.in_ok-first.ensures in g.weak) }

pub returns-in_err-group : goal.returns-in_err-group
returns-in_err-group c = let p = err_from_is_err_and c.from_residual-in_err-group.result c.from_residual-in_err-group.ensures.1 in rw (p.1, p.2) (items_more_fails (λ p. groups p) (λ p. group p) of_groups c.args.tokens.now c.args.at c.loop-alloc.end c.args.depth 8 8 (groups c.loop-alloc.found) c.in_err-group.field-0.0 (let i = c.loop-alloc.invariant in i.runs) c.loop-alloc-test.ensures c.requires.shallow c.in_err-group.ensures)

pub loop-alloc-preserved : goal.loop-alloc-preserved
loop-alloc-preserved c = let i = c.loop-alloc.invariant in record { runs = items_more of_groups c.args.tokens.now c.args.at c.loop-alloc.end c.args.depth c.in_ok-group.to 8 (groups c.loop-alloc.found) (group c.in_ok-group.group) _ i.runs c.loop-alloc-test.ensures c.requires.shallow c.in_ok-group.ensures (ap (λ z. groups z) c.in_ok-push-2.ensures.ok); weak = (let g = c.in_ok-group.ensures in g.weak) }

pub returns : goal.returns
returns c = let i = c.loop-alloc.invariant in items_ends of_groups c.args.tokens.now c.args.at c.loop-alloc.end c.args.depth 8 (groups c.loop-alloc.found) i.runs c.loop-alloc-test.ensures i.weak
