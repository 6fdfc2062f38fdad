use Rattle.std.proofs.Common.{◌≡◌, ◌∙◌, ℕ, List, [], ◌∷◌, ◌++◌, length, sym, ap, subst}
use Rattle.std.proofs.lemmas.Result.{on_ok_weaker}
use Rattle.ae_core.specs.declared.problems.Kind.{Kind}
use Rattle.ae_core.specs.declared.problems.Kind.TheVariants.{Fields}
use Rattle.ae_core.specs.declared.problems.TypeEntry.{TypeEntry}
use Rattle.ae_core.specs.Signatures.{fields_of}
use Rattle.ae_elab.specs.declared.fields.FieldPlace.{FieldPlace}
use Rattle.ae_elab.specs.Inner.Index.{IsFieldIndex}
use Rattle.ae_elab.proofs.FieldRules.{index_field}
use Rattle.ae_elab.proofs.known.add_field.Goals as goal

pub returns-in_ok-push-in-Fields-3-clause-index : goal.returns-in_ok-push-in-Fields-3-clause-index
returns-in_ok-push-in-Fields-3-clause-index c =
    let es = c.pop.new.self in
    let e = c.in-Some.entry in
    let fs = c.in-Fields.fields in
    let gs = c.push-in-Fields-2.new.self in
    let f = c.args.field in
    let d : TypeEntry = record { name = e.name; arity = e.arity; kind = Fields gs } in
    let here = λ (n k : ℕ). (let p : FieldPlace = record { of = n; place = k } in p) in
    let old : fields_of e ≡ fs = ap (λ (k : Kind). fields_of (record { name = e.name; arity = e.arity; kind = k })) c.in-Fields.is in
    let index : IsFieldIndex (es ++ e ∷ []) c.args.names.now c.args.places.now =
    subst (λ (ts : List TypeEntry). IsFieldIndex ts c.args.names.now c.args.places.now) c.in-Some.ensures c.requires.index in
    let grown = index_field es e d fs f c.args.names.now c.args.places.now old c.in_ok-push-in-Fields-3.ensures.ok index in
    let names : c.push-in-Fields.new.self ≡ c.args.names.now ++ f.name ∷ [] =
    c.in_ok-push-in-Fields-2.ensures.names ∙ ap (λ (n : List ℕ). c.args.names.now ++ n ∷ []) (sym c.requires.name) in
    let places : c.push.new.self ≡ c.args.places.now ++ record { of = length es; place = length fs } ∷ [] =
    c.in_ok-push-in-Fields.ensures.ok
    ∙ ap (λ (n : ℕ). c.args.places.now ++ here n c.len.result ∷ []) c.len-of.ensures
    ∙ ap (λ (n : ℕ). c.args.places.now ++ here (length es) n ∷ []) c.len.ensures in
    on_ok_weaker c.push-in-Fields-3.result
    (λ h. subst (λ (ts : List TypeEntry). IsFieldIndex ts c.push-in-Fields.new.self c.push.new.self) (sym h)
    (subst (λ (ns : List (List ℕ)). IsFieldIndex (es ++ d ∷ []) ns c.push.new.self) (sym names)
    (subst (λ (ps : List FieldPlace). IsFieldIndex (es ++ d ∷ []) (c.args.names.now ++ f.name ∷ []) ps) (sym places) grown)))
    c.push-in-Fields-3.ensures.ok
