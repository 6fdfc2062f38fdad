use Rattle.std.proofs.Common.{◌≡◌, ◌∙◌, ℕ, length, List, [], ◌∷◌, ap}
use Rattle.ae_core.specs.declared.problems.Signature.{Signature}
use Rattle.ae_core.specs.declared.problems.Kind.TheVariants.{Choices}
use Rattle.ae_elab.specs.Declarations.{with_types, with_symbols, type_entry, count_from, constructors_from}
use Rattle.ae_elab.specs.Scope.{name_in}
use Rattle.ae_elab.proofs.DeclRules.{whole, type_fails, constructors_fail, enumeration_declares}
use Rattle.ae_elab.proofs.declarations.enumeration.Goals as goal

pub returns-in-Err-clause-fault : goal.returns-in-Err-clause-fault
returns-in-Err-clause-fault c p = type_fails c.args.text.now c.args.known.now c.args.name c.args.constructors.now p c.in-Err.fault c.in-Err.ensures.fault

pub returns-in-Err-new_symbols-clause-fault : goal.returns-in-Err-new_symbols-clause-fault
returns-in-Err-new_symbols-clause-fault c p =
    constructors_fail c.args.text.now c.args.known.now c.args.name c.args.constructors.now p c.in-Ok.ensures.met c.in-Err-new_symbols.fault c.in-Err-new_symbols.ensures.fault

pub returns-in-Ok-push_constructors-clause-declared : goal.returns-in-Ok-push_constructors-clause-declared
returns-in-Ok-push_constructors-clause-declared c p =
    let text = c.args.text.now in
    let sig = c.args.known.now in
    let cs = c.args.constructors.now in
    let of_is : c.len-of.result ≡ length sig.types = cc in
    let first_is : c.len-first.result ≡ length sig.symbols = cc in
    let word_is : c.in_ok-word.word ≡ name_in text c.args.name = c.in_ok-word.ensures ∙ c.name_at-own.ensures in
    let numbers_are : c.in_ok-numbers.numbers ≡ count_from (length sig.symbols) cs = c.in_ok-numbers.ensures ∙ ap (λ (n : ℕ). count_from n cs) first_is in
    let typed : c.push_type.new.self ≡ with_types sig (type_entry (name_in text c.args.name) 0 (Choices (count_from (length sig.symbols) cs)) ∷ []) =
    c.in_ok-push_type.ensures.types
    ∙ ap (λ (n : List ℕ). with_types sig (type_entry n 0 (Choices c.in_ok-numbers.numbers) ∷ [])) word_is
    ∙ ap (λ (ns : List ℕ). with_types sig (type_entry (name_in text c.args.name) 0 (Choices ns) ∷ [])) numbers_are in
    let all : c.push_constructors.new.known ≡ whole text sig c.args.name cs p =
    c.in-Ok-push_constructors.ensures.symbols
    ∙ ap (λ (k : Signature). with_symbols k (constructors_from text c.len-of.result 0 cs)) typed
    ∙ ap (λ (n : ℕ). with_symbols (with_types sig (type_entry (name_in text c.args.name) 0 (Choices (count_from (length sig.symbols) cs)) ∷ [])) (constructors_from text n 0 cs)) of_is in
    enumeration_declares text sig c.args.name cs p c.in-Ok.ensures.met c.in-Ok-new_symbols.ensures.met c.push_constructors.new.known all
