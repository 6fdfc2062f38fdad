-- The fields of a record type, as they are declared.
use Rattle.std.specs.Prelude.{ℕ, List, [], ◌∷◌}
use Rattle.ae_core.specs.declared.problems.FieldEntry.{FieldEntry}
use Rattle.ae_core.specs.declared.problems.Kind.TheVariants.{Fields}
use Rattle.ae_core.specs.declared.problems.Signature.{Signature}
use Rattle.ae_core.specs.declared.problems.TypeEntry.{TypeEntry}
use Rattle.ae_syntax.specs.declared.decls.TypedName.{TypedName}
use Rattle.ae_elab.specs.declared.grounds.Ground.{Ground}
use Rattle.ae_elab.specs.Declarations.{Declared, declared, with_types, type_entry, fields_rule}
use Rattle.ae_elab.specs.Rules.{Rule, ◌>>◌}

abbrev pub record_entry : List ℕ → ℕ → List FieldEntry → TypeEntry
record_entry own arity fs = type_entry own arity (Fields fs)

-- a record type behind others, still without fields
abbrev pub no_fields : Signature → List ℕ → ℕ → Signature
no_fields before own arity = with_types before (record_entry own arity [] ∷ [])

-- its fields, and then the whole type
abbrev pub declares_fields : List ℕ → Signature → Ground → List ℕ → ℕ → List TypedName → Rule Declared
declares_fields text before g own arity fields =
    fields_rule text before g (record_entry own arity) [] fields >> λ fs. declared (with_types before (record_entry own arity fs ∷ []))
