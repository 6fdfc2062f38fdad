use Rattle.std.proofs.Common.{sym, subst}
use Rattle.std.specs.Prelude.{List}
use Rattle.ae_store.specs.declared.nodes.Node.{Node}
use Rattle.ae_core.specs.Signatures.{IsLawful}
use Rattle.ae_store.specs.Shapes.{shapes}
use Rattle.ae_store.specs.Terms.{IsSound}
use Rattle.ae_store.proofs.TermLaws.{sound_none}
use Rattle.ae_store.specs.Fields.{HasFields}
use Rattle.ae_store.proofs.FieldLaws.{fields_none}
use Rattle.ae_store.proofs.NestLaws.{none_nested}
use Rattle.ae_store.proofs.store.Store.new.Goals as goal

pub invariant_of-result : goal.invariant_of-result
invariant_of-result c =
    let sig = c.in_ok-signature.signature in (
      subst (λ (ns : List Node). IsSound sig (shapes ns)) (sym c.new.ensures) (sound_none sig),
      subst IsLawful (sym c.in_ok-signature.ensures) c.requires,
      subst (λ (ns : List Node). HasFields sig (shapes ns)) (sym c.new.ensures) (fields_none sig),
      none_nested sig c.new.result c.new.ensures,
    )
