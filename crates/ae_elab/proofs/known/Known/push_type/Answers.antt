use Rattle.std.proofs.Common.{◌∙◌, ℕ, List, [], ◌∷◌, ◌++◌, map, sym, ap, subst}
use Rattle.std.proofs.lemmas.List.{map_push}
use Rattle.ae_core.specs.declared.problems.TypeEntry.{TypeEntry}
use Rattle.ae_elab.specs.Inner.Index.{IsFieldIndex}
use Rattle.ae_elab.proofs.FieldRules.{index_type}
use Rattle.ae_elab.proofs.known.Known.push_type.Goals as goal

pub invariant_of-self-in-Ok : goal.invariant_of-self-in-Ok
invariant_of-self-in-Ok c =
    let ts = c.self.inside.signature.types in
    let pushed = c.in_ok-push.ensures.ok in (
      ap (λ (es : List TypeEntry). map (λ e. e.name) es) pushed
          ∙ map_push (λ (e : TypeEntry). e.name) ts c.args.entry
          ∙ ap (λ (ns : List (List ℕ)). ns ++ c.args.entry.name ∷ []) c.self.invariant.0
          ∙ ap (λ (n : List ℕ). c.self.inside.types ++ n ∷ []) c.requires.name
          ∙ sym c.in-Ok.ensures.names,
      c.self.invariant.1,
      subst (λ (es : List TypeEntry). IsFieldIndex es c.self.inside.fields c.self.inside.places) (sym pushed)
          (index_type ts c.args.entry c.self.inside.fields c.self.inside.places c.requires.fields c.self.invariant.2),
    )
