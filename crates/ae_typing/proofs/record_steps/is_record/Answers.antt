use Rattle.std.proofs.Common.{List, subst}
use Rattle.ae_core.specs.declared.terms.Sort.{Sort, Named}
use Rattle.ae_types.specs.Bound.{bound}
use Rattle.ae_elab.specs.Conditions.{has_sort}
use Rattle.ae_elab.specs.Steps.{IsMet}
use Rattle.ae_typing.proofs.record_steps.is_record.Goals as goal

pub returns-in-Ok-clause-met : goal.returns-in-Ok-clause-met
returns-in-Ok-clause-met c =
    subst (λ (ss : List Sort). IsMet (has_sort c.args.place (Named c.args.of ss) c.args.found.now) (bound c.args.bindings.now) (bound c.has_sort.new.bindings)) c.in_ok-copies.ensures c.in-Ok.ensures.met
