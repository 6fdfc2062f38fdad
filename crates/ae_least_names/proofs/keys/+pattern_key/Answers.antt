use Rattle.std.proofs.Common.{sym, ◌∙◌}
use Rattle.ae_least_names.proofs.KeyLaws.{key_empty, key_first}
use Rattle.ae_least_names.proofs.keys.+pattern_key.Goals as goal

pub returns-then-is_empty : goal.returns-then-is_empty
returns-then-is_empty t c =
    key_empty c.args.values.now c.in-Fields.name c.in-Fields.fields c.as_slice-fields.result.now c.args.pattern.now c.in-Fields.is c.as_slice-fields.ensures (sym c.is_empty.ensures ∙ c.if-is_empty.true)

pub returns-else-is_empty : goal.returns-else-is_empty
returns-else-is_empty t c =
    c.pattern_key.ensures
    ∙ key_first c.args.values.now c.in-Fields.name c.in-Fields.fields c.as_slice-fields.result.now c.args.pattern.now c.index-fields-0.result c.index-fields-0.result c.in-Fields.is c.as_slice-fields.ensures
    (sym c.is_empty.ensures ∙ c.if-is_empty.false) c.index-fields-0.is
