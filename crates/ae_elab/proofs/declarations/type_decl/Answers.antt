use Rattle.std.proofs.Common.{◌≡◌, ◌∙◌, ℕ, List, [], ◌∷◌, length, refl, sym, ap, true≢false}
use Rattle.ae_core.specs.declared.problems.FieldEntry.{FieldEntry}
use Rattle.ae_core.specs.declared.problems.Kind.TheVariants.{Abstract, Fields}
use Rattle.ae_elab.specs.Declarations.{only_declared, with_types, type_entry}
use Rattle.ae_elab.specs.Inner.Fields.{no_fields}
use Rattle.ae_elab.specs.Scope.{name_in}
use Rattle.ae_elab.proofs.RecordRules.{params_fail, type_name_fails, type_fields_fail, type_declares, abstract_taken, record_taken, record_halts}
use Rattle.ae_elab.proofs.declarations.type_decl.Goals as goal

pub returns-in-Err-clause-fault : goal.returns-in-Err-clause-fault
returns-in-Err-clause-fault c =
    params_fail c.args.text.now c.args.known.now c.args.params.now c.args.name c.args.passing.now c.args.fields.now c.in-Err.fault c.in-Err.ensures.fault

pub returns-in-Err-new_type-clause-fault : goal.returns-in-Err-new_type-clause-fault
returns-in-Err-new_type-clause-fault c =
    type_name_fails c.args.text.now c.args.known.now c.args.params.now c.args.name c.args.passing.now c.args.fields.now c.in-Ok.ensures.met c.in-Err-new_type.fault c.in-Err-new_type.ensures.fault

pub returns-in-Ok-push_type-clause-declared : goal.returns-in-Ok-push_type-clause-declared
returns-in-Ok-push_type-clause-declared c =
    let text = c.args.text.now in
    let sig = c.args.known.now in
    let params = c.args.params.now in
    let p = c.args.passing.now in
    let xs = c.args.fields.now in
    let new = c.push_type.new.self in
    let word_is : c.in_ok-word-in-Ok.word ≡ name_in text c.args.name = c.in_ok-word-in-Ok.ensures ∙ c.name_at-own.ensures in
    let entry : new ≡ with_types sig (type_entry (name_in text c.args.name) (length params) Abstract ∷ []) =
    c.in-Ok-push_type.ensures.types
    ∙ ap (λ (n : List ℕ). with_types sig (type_entry n c.len-arity.result Abstract ∷ [])) word_is
    ∙ ap (λ (k : ℕ). with_types sig (type_entry (name_in text c.args.name) k Abstract ∷ [])) c.len-arity.ensures in
    type_declares text sig params c.args.name p xs c.in-Ok.ensures.met c.in-Ok-new_type.ensures.met p (only_declared new)
    (abstract_taken text sig params c.args.name p xs new (c.if-is_empty.ensures.0 refl) entry)

pub returns-in-Ok-add_fields-clause-declared : goal.returns-in-Ok-add_fields-clause-declared
returns-in-Ok-add_fields-clause-declared c =
    let text = c.args.text.now in
    let sig = c.args.known.now in
    let params = c.args.params.now in
    let p = c.args.passing.now in
    let xs = c.args.fields.now in
    let number_is : c.len-number.result ≡ length sig.types = cc in
    let word_is : c.in_ok-word-in-Ok.word ≡ name_in text c.args.name = c.in_ok-word-in-Ok.ensures ∙ c.name_at-own.ensures in
    let entry : c.push_type-else-is_empty.new.self ≡ no_fields sig (name_in text c.args.name) (length params) =
    c.in_ok-push_type-in-Ok.ensures.types
    ∙ ap (λ (fs : List FieldEntry). with_types sig (type_entry c.in_ok-word-in-Ok.word c.len-arity.result (Fields fs) ∷ [])) c.new.ensures
    ∙ ap (λ (n : List ℕ). with_types sig (type_entry n c.len-arity.result (Fields []) ∷ [])) word_is
    ∙ ap (λ (k : ℕ). with_types sig (type_entry (name_in text c.args.name) k (Fields []) ∷ [])) c.len-arity.ensures in
    type_declares text sig params c.args.name p xs c.in-Ok.ensures.met c.in-Ok-new_type.ensures.met c.add_fields.new.passing (only_declared c.add_fields.new.known)
    (record_taken text sig params c.args.name p c.in-Ok.parameters c.len-number.result c.in-Ok.ensures.names number_is xs c.add_fields.new.passing (only_declared c.add_fields.new.known)
    (λ e. true≢false (sym (c.if-is_empty.ensures.1 e))) (c.in-Ok-add_fields.ensures.declared sig (name_in text c.args.name) (length params) entry))

pub returns-in-Err-add_fields-clause-fault : goal.returns-in-Err-add_fields-clause-fault
returns-in-Err-add_fields-clause-fault c =
    let text = c.args.text.now in
    let sig = c.args.known.now in
    let params = c.args.params.now in
    let p = c.args.passing.now in
    let xs = c.args.fields.now in
    let number_is : c.len-number.result ≡ length sig.types = cc in
    let word_is : c.in_ok-word-in-Ok.word ≡ name_in text c.args.name = c.in_ok-word-in-Ok.ensures ∙ c.name_at-own.ensures in
    let entry : c.push_type-else-is_empty.new.self ≡ no_fields sig (name_in text c.args.name) (length params) =
    c.in_ok-push_type-in-Ok.ensures.types
    ∙ ap (λ (fs : List FieldEntry). with_types sig (type_entry c.in_ok-word-in-Ok.word c.len-arity.result (Fields fs) ∷ [])) c.new.ensures
    ∙ ap (λ (n : List ℕ). with_types sig (type_entry n c.len-arity.result (Fields []) ∷ [])) word_is
    ∙ ap (λ (k : ℕ). with_types sig (type_entry (name_in text c.args.name) k (Fields []) ∷ [])) c.len-arity.ensures in
    type_fields_fail text sig params c.args.name p xs c.in-Ok.ensures.met c.in-Ok-new_type.ensures.met c.in-Err-add_fields.fault
    (record_halts text sig params c.args.name p c.in-Ok.parameters c.len-number.result c.in-Ok.ensures.names number_is xs c.in-Err-add_fields.fault
    (λ e. true≢false (sym (c.if-is_empty.ensures.1 e))) (c.in-Err-add_fields.ensures.fault sig (name_in text c.args.name) (length params) entry))
