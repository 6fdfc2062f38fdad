use Rattle.std.proofs.Common.{◌≡◌, ◌∙◌, false, true, List, [], map, sym, ap}
use Rattle.ae_core.specs.declared.terms.Sort.{Sort}
use Rattle.ae_core.specs.declared.problems.Nature.{Nature}
use Rattle.ae_syntax.specs.declared.spans.Span.{Span}
use Rattle.ae_elab.specs.Declarations.{may_be_ac, symbol_entry, nature_of, with_symbols}
use Rattle.ae_elab.specs.Scope.{name_in}
use Rattle.ae_elab.proofs.DeclRules.{names_fail, args_fail, value_fails, ac_fails, logic_declares}
use Rattle.ae_elab.proofs.declarations.logic.Goals as goal

pub returns-in-Err-clause-fault : goal.returns-in-Err-clause-fault
returns-in-Err-clause-fault c =
    names_fail c.args.text.now c.args.known.now c.args.place c.args.ac c.args.names.now c.args.args.now c.args.value.now c.args.passing.now c.in-Err.fault c.in-Err.ensures.fault

pub returns-in-Err-sorts_of-clause-fault : goal.returns-in-Err-sorts_of-clause-fault
returns-in-Err-sorts_of-clause-fault c =
    args_fail c.args.text.now c.args.known.now c.args.place c.args.ac c.args.names.now c.args.args.now c.args.value.now c.args.passing.now c.in-Ok.ensures.met
    c.in-Err-sorts_of.fault (c.in-Err-sorts_of.ensures.fault [])

pub returns-in-Err-result_of-clause-fault : goal.returns-in-Err-result_of-clause-fault
returns-in-Err-result_of-clause-fault c =
    value_fails c.args.text.now c.args.known.now c.args.place c.args.ac c.args.names.now c.args.args.now c.args.value.now c.args.passing.now c.in-Ok.ensures.met
    c.sorts_of.new.passing c.in-Ok-sorts_of.sorts (c.in-Ok-sorts_of.ensures.sorts []) c.in-Err-result_of.fault c.in-Err-result_of.ensures.fault

pub returns-then-not-may_be_ac-clause-fault : goal.returns-then-not-may_be_ac-clause-fault
returns-then-not-may_be_ac-clause-fault c =
    let test : may_be_ac c.args.ac c.in-Ok-sorts_of.sorts c.in-Ok-result_of.result ≡ false =
    ap (λ (ss : List Sort). may_be_ac c.args.ac ss c.in-Ok-result_of.result) (sym c.as_slice-own.ensures) ∙ sym c.if-not-may_be_ac.ensures in
    ac_fails c.args.text.now c.args.known.now c.args.place c.args.ac c.args.names.now c.args.args.now c.args.value.now c.args.passing.now c.in-Ok.ensures.met
    c.sorts_of.new.passing c.in-Ok-sorts_of.sorts (c.in-Ok-sorts_of.ensures.sorts []) c.result_of.new.passing c.in-Ok-result_of.result c.in-Ok-result_of.ensures.sort test

pub returns-in-Ok-push_symbols-clause-declared : goal.returns-in-Ok-push_symbols-clause-declared
returns-in-Ok-push_symbols-clause-declared c =
    let sorts = c.in-Ok-sorts_of.sorts in
    let result = c.in-Ok-result_of.result in
    let test : may_be_ac c.args.ac sorts result ≡ true =
    ap (λ (ss : List Sort). may_be_ac c.args.ac ss result) (sym c.as_slice-own.ensures) ∙ sym c.if-not-may_be_ac.ensures in
    let n = c.count_written-vars.result in
    let entries : c.push_symbols.new.known ≡ with_symbols c.args.known.now (map (λ (x : Span). symbol_entry (name_in c.args.text.now x) n sorts result (nature_of c.args.ac)) c.args.names.now) =
    c.in-Ok-push_symbols.ensures.symbols
    ∙ ap (λ (ss : List Sort). with_symbols c.args.known.now (map (λ (x : Span). symbol_entry (name_in c.args.text.now x) n ss result c.nature_of-nature.result) c.args.names.now)) c.as_slice-own.ensures
    ∙ ap (λ (k : Nature). with_symbols c.args.known.now (map (λ (x : Span). symbol_entry (name_in c.args.text.now x) n sorts result k) c.args.names.now)) c.nature_of-nature.ensures in
    logic_declares c.args.text.now c.args.known.now c.args.place c.args.ac c.args.names.now c.args.args.now c.args.value.now c.args.passing.now c.in-Ok.ensures.met
    c.sorts_of.new.passing sorts (c.in-Ok-sorts_of.ensures.sorts []) c.result_of.new.passing result c.in-Ok-result_of.ensures.sort test n c.count_written-vars.ensures
    c.push_symbols.new.known entries
