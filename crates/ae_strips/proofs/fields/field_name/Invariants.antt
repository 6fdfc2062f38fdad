use Rattle.std.specs.Prelude.{ℕ, ◌<◌}
use Rattle.ae_strips.specs.Applied.{IsAppliedTo}
use Rattle.ae_strips.proofs.fields.field_name.Given as goal

abbrev pub invariant-loop-name : goal.invariant-loop-name
invariant-loop-name l = (n : ℕ) → n < l.name → IsAppliedTo l.store.nodes n l.head l.sorts l.of → ⊥
