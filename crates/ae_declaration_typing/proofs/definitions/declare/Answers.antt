use Rattle.std.proofs.Common.{◌≡◌, ◌∙◌, ◌∷◌, [], ℕ, List, map, sym, ap}
use Rattle.ae_core.specs.declared.problems.Nature.TheVariants.{Free}
use Rattle.ae_core.specs.declared.terms.Sort.{Sort}
use Rattle.ae_elab.specs.Declarations.{sorts_of, symbol_entry, with_symbols}
use Rattle.ae_elab.specs.Scope.{name_in}
use Rattle.ae_elab.specs.Typings.{bound_in}
use Rattle.ae_declaration_typing.proofs.AdditionLaws.{sorts_are}
use Rattle.ae_declaration_typing.proofs.definitions.declare.Goals as goal

pub returns : goal.returns
returns c =
    let text = c.args.text.now in
    let sig = c.args.known.now in
    let bs = c.args.bounds.now in
    let sorts : c.as_slice.result.now ≡ sorts_of (map (bound_in text) bs) = c.as_slice.ensures ∙ c.in_ok-sorts.ensures ∙ sym (sorts_are text bs) in
    c.in_ok-push_symbol.ensures.symbols
    ∙ ap (λ e. with_symbols sig (e ∷ [])) c.in_ok-entry.ensures
    ∙ ap (λ (n : List ℕ). with_symbols sig (symbol_entry n c.args.vars c.as_slice.result.now c.args.value.now Free ∷ [])) c.name_at-own.ensures
    ∙ ap (λ (ss : List Sort). with_symbols sig (symbol_entry (name_in text c.args.name) c.args.vars ss c.args.value.now Free ∷ [])) sorts
