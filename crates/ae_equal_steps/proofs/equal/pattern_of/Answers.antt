use Rattle.std.proofs.Common.{sym, ap, ◌∙◌}
use Rattle.std.proofs.lemmas.Option.{same_Some, slice_get_within}
use Rattle.ae_base.proofs.ListFacts.{get_front}
use Rattle.ae_value_table.specs.declared.patterns.Entry.{Entry}
use Rattle.ae_equal_steps.proofs.equal.pattern_of.Goals as goal

pub entry-requires : goal.entry-requires
entry-requires c =
    let v = c.args.values.now in
    slice_get_within v.entries c.args.name (c.requires).0 (get_front v.entries v.taken c.args.name (c.requires).0 (c.requires).1).0

pub returns : goal.returns
returns c = λ entry at.
    let v = c.args.values.now in
    ap (λ (e : Entry). e.pattern) (same_Some entry c.entry.result.now (sym (get_front v.entries v.taken c.args.name entry at).0 ∙ c.entry.ensures))
