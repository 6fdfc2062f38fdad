use Rattle.ae_declaration_typing.specs.Inner.Additions.{own_args}
use Rattle.ae_elab.specs.Declarations.{rigids}
use Rattle.ae_declaration_typing.proofs.AdditionLaws.{application_adds}
use Rattle.ae_declaration_typing.proofs.defining.application.Goals as goal

pub returns : goal.returns
returns c =
    application_adds c.args.environment.now c.formal_nodes.new.environment c.push.new.self (own_args c.args.bounds.now) c.in_ok-args.args c.in_ok-args.ensures c.in_ok-place.place c.args.symbol
    c.in_ok-sorts.sorts (rigids 0 c.args.vars) c.in_ok-sorts.ensures c.in_ok-place.ensures.place c.push.ensures.locals c.in_ok-place.ensures.nodes
