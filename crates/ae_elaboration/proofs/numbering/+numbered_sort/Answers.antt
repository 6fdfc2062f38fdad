use Rattle.std.proofs.Common.{arith, ◌≡◌, ap, sym, ◌∙◌, map, take}
use Rattle.std.proofs.lemmas.List.{take_all}
use Rattle.ae_core.specs.declared.terms.Sort.{Named}
use Rattle.ae_elab.specs.Numbering.{numbered_sort}
use Rattle.ae_elab.proofs.NumberRules.{number_named}
use Rattle.ae_elaboration.proofs.numbering.+numbered_sort.Goals as goal

pub returns-after-loop-arg : goal.returns-after-loop-arg
returns-after-loop-arg t c =
    let r = numbered_sort c.args.is_goal c.args.variables.now in
    let e : take c.loop-arg.arg-index c.as_slice-arg-items.result.now ≡ c.in-Named.args =
    take_all c.loop-arg.arg-index c.as_slice-arg-items.result.now (omega arith) ∙ c.as_slice-arg-items.ensures in
    ap (Named c.in-Named.head) (c.loop-arg.invariant ∙ ap (map r) e) ∙ sym (number_named c.args.is_goal c.args.variables.now c.in-Named.head c.in-Named.args) ∙ ap r (sym c.in-Named.is)
