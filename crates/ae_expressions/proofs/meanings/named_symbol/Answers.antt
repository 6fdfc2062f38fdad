use Rattle.std.proofs.Common.{arith, ◌≡◌, ◌∙◌, ◌+◌, Option, Some, None, slice_get, sym, ap}
use Rattle.ae_core.specs.declared.problems.Signature.{Signature}
use Rattle.ae_core.specs.declared.terms.Sort.{Sort}
use Rattle.ae_elab.specs.Scope.{by_result, function, predicate}
use Rattle.ae_expressions.proofs.SymbolLaws.{symbol_none, symbol_some, symbol_there}
use Rattle.ae_expressions.proofs.meanings.named_symbol.Goals as goal

pub returns-in-Some-result : goal.returns-in-Some-result
returns-in-Some-result c es =
    let name = c.args.name.now in
    let symbols = c.args.known.now.symbols in
    let k = c.in-Some.number in
    let e = c.in-Some-get.entry.now in
    let r = c.in-Some-result.field-0 in
    let there : slice_get symbols k ≡ Some e = sym (c.in-Some-get.ensures.value ∙ ap (λ (g : Signature). slice_get g.symbols k) c.signature.ensures) in
    let at : 0 + k ≡ k = omega arith in
    (e, r, there, c.in-Some-result.is, symbol_some name 0 symbols k e (sym c.symbol_number.ensures ∙ c.in-Some.is) there ∙ ap (λ (o : Option Sort). by_result (0 + k) e o) c.in-Some-result.is ∙ ap (λ n. function n e r) at)

pub returns-in-None-result : goal.returns-in-None-result
returns-in-None-result c es =
    let name = c.args.name.now in
    let symbols = c.args.known.now.symbols in
    let k = c.in-Some.number in
    let e = c.in-Some-get.entry.now in
    let there : slice_get symbols k ≡ Some e = sym (c.in-Some-get.ensures.value ∙ ap (λ (g : Signature). slice_get g.symbols k) c.signature.ensures) in
    let at : 0 + k ≡ k = omega arith in
    (e, there, symbol_some name 0 symbols k e (sym c.symbol_number.ensures ∙ c.in-Some.is) there ∙ ap (λ (o : Option Sort). by_result (0 + k) e o) c.in-None-result.is ∙ ap (λ n. predicate n e) at)

pub returns-in-None-get : goal.returns-in-None-get
returns-in-None-get c es =
    let symbols = c.args.known.now.symbols in
    let k = c.in-Some.number in
    let none : slice_get symbols k ≡ None = sym (c.in-None-get.ensures.value ∙ ap (λ (g : Signature). slice_get g.symbols k) c.signature.ensures) in
    absurd (symbol_there c.args.name.now symbols k (sym c.symbol_number.ensures ∙ c.in-Some.is) none)

pub returns-in-None : goal.returns-in-None
returns-in-None c es = symbol_none c.args.name.now 0 c.args.known.now.symbols (sym c.symbol_number.ensures ∙ c.in-None.is)
