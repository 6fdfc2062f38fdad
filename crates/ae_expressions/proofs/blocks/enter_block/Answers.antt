use Rattle.std.proofs.Common.{◌∙◌, Some, sym, ap}
use Rattle.std.proofs.lemmas.Option.{slice_get-get_or}
use Rattle.ae_base.proofs.AllOf.{all_at}
use Rattle.ae_elab.specs.Environments.{locals}
use Rattle.ae_elab.specs.Names.{IsName}
use Rattle.ae_expressions.proofs.BlockLaws.{block_next, block_whole}
use Rattle.ae_expressions.proofs.blocks.enter_block.Goals as goal

pub name_at-requires : goal.name_at-requires
name_at-requires c =
    let bs = c.args.bounds.now in
    let b = c.bound-item.result in
    let i = c.loop-bound.bound-index in
    all_at (λ z. IsName c.args.context.now.text.now z.name) bs i b c.requires.names (slice_get-get_or bs i b c.loop-bound-test.true ∙ ap Some (sym c.bound-item.is))

pub loop-bound-preserved : goal.loop-bound-preserved
loop-bound-preserved c = record {
  nodes = c.in_ok-enter.ensures.nodes ∙ c.loop-bound.invariant.nodes;
  locals = block_next c.args.context.now.text.now (locals c.args.environment.now) c.args.bounds.now c.loop-bound.bound-index c.bound-item.result c.in_ok-sort.sort c.name_at.result.now (locals c.loop-bound.environment) (locals c.enter.new.self)
      c.loop-bound-test.true c.bound-item.is c.in_ok-sort.ensures c.name_at.ensures c.in_ok-enter.ensures.locals c.loop-bound.invariant.locals;
}

pub returns-clause-locals : goal.returns-clause-locals
returns-clause-locals c =
    block_whole c.args.context.now.text.now (locals c.args.environment.now) c.args.bounds.now c.loop-bound.bound-index (locals c.loop-bound.environment) c.loop-bound-test.false c.loop-bound.invariant.locals
