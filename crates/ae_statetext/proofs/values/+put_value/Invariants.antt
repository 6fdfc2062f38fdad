use Rattle.std.proofs.Common.{◌≡◌, ◌++◌, drop, codes}
use Rattle.std.specs.List.{flat_map}
use Rattle.ae_valuetext.specs.Texts.{value_text}
use Rattle.ae_statetext.proofs.values.+put_value.Given as goal

abbrev pub invariant-put_values-loop-value : goal.invariant-put_values-loop-value
invariant-put_values-loop-value l = l.out.items ++ flat_map (λ v. codes " " ++ value_text v) (drop l.value-index l.values) ≡ l.fn.out.items ++ flat_map (λ v. codes " " ++ value_text v) l.values
