use Rattle.std.proofs.Common.{arith, ◌≡◌, ap, sym, ◌∙◌, map, take}
use Rattle.std.proofs.lemmas.List.{take_all}
use Rattle.ae_core.specs.declared.terms.Sort.{Named}
use Rattle.ae_elab.specs.Declarations.{generalize}
use Rattle.ae_elab.proofs.EntryLaws.{general_named}
use Rattle.ae_elab.proofs.sort_entries.+generalize.Goals as goal

pub returns-after-loop-arg : goal.returns-after-loop-arg
returns-after-loop-arg t c =
    let e : take c.loop-arg.arg-index c.as_slice-arg-items.result.now ≡ c.in-Named.args =
    take_all c.loop-arg.arg-index c.as_slice-arg-items.result.now (omega arith) ∙ c.as_slice-arg-items.ensures in
    ap (Named c.in-Named.head) (c.loop-arg.invariant ∙ ap (map generalize) e)
    ∙ sym (general_named c.in-Named.head c.in-Named.args)
    ∙ ap generalize (sym c.in-Named.is)
