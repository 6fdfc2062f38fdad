use Rattle.ae_store.specs.Shapes.{shapes}
use Rattle.ae_store.specs.Terms.{terms}
use Rattle.ae_store.proofs.EnterLaws.{front_then}
use Rattle.ae_strips.proofs.Freedom.{said_kept}
use Rattle.ae_strips.proofs.stripping.through.Goals as goal

pub said_through-requires-2-clause-second : goal.said_through-requires-2-clause-second
said_through-requires-2-clause-second c =
    let s = c.args.store.now in
    said_kept s.signature (terms (shapes s.nodes)) c.args.justs.now c.said_through.new.justs c.said_through.ensures.fits c.said_through.ensures.front c.args.argument c.args.end.name c.args.end.step c.requires.end

pub returns-in_err-whole-clause-front : goal.returns-in_err-whole-clause-front
returns-in_err-whole-clause-front c = front_then c.args.justs.now c.said_through.new.justs c.said_through-2.new.justs c.said_through.ensures.front c.said_through-2.ensures.front

pub returns-clause-front : goal.returns-clause-front
returns-clause-front c = front_then c.args.justs.now c.said_through.new.justs c.said_through-2.new.justs c.said_through.ensures.front c.said_through-2.ensures.front
