use Rattle.std.proofs.Common.{arith, ◌≡◌, ◌∙◌, ℕ, ◌+◌, Some, List, [], ◌∷◌, get_or, sym, ap, subst}
use Rattle.std.specs.List.{AllByRecursion}
use Rattle.std.proofs.lemmas.List.{take_all}
use Rattle.std.proofs.lemmas.Option.{slice_get-get_or}
use Rattle.ae_base.proofs.AllOf.{all_at}
use Rattle.ae_core.specs.declared.terms.Sort.{Sort, Named}
use Rattle.ae_core.specs.declared.problems.SymbolEntry.{SymbolEntry}
use Rattle.ae_core.specs.declared.problems.Nature.TheVariants.{Choice}
use Rattle.ae_syntax.specs.declared.spans.Span.{Span}
use Rattle.ae_elab.specs.Declarations.{symbol_entry, constructors_from, with_symbols}
use Rattle.ae_elab.specs.Names.{IsName}
use Rattle.ae_elab.specs.Scope.{name_in}
use Rattle.ae_elab.proofs.DeclRules.{constructor_next}
use Rattle.ae_elab.proofs.declarations.push_constructors.Goals as goal

abbrev nowhere : Span
nowhere = record { from = 0; to = 0 }

pub name_at-name-requires : goal.name_at-name-requires
name_at-name-requires c =
    let xs = c.as_slice-constructor-items.result.now in
    let i = c.loop-constructor.constructor-index in
    all_at (IsName c.args.text.now) xs i (get_or xs i nowhere) (subst (AllByRecursion (IsName c.args.text.now)) (sym c.as_slice-constructor-items.ensures) c.requires.names)
    (slice_get-get_or xs i nowhere c.loop-constructor-test.true)

pub loop-constructor-preserved : goal.loop-constructor-preserved
loop-constructor-preserved c =
    let xs = c.as_slice-constructor-items.result.now in
    let i = c.loop-constructor.constructor-index in
    let known = c.loop-constructor.known in
    let text = c.args.text.now in
    let of = c.args.of in
    let entry : c.in_ok-entry.entry ≡ symbol_entry (name_in text (get_or xs i nowhere)) 0 [] (Some (Named of [])) (Choice of i) =
    c.in_ok-entry.ensures
    ∙ ap (λ (ss : List Sort). symbol_entry c.name_at-name.result.now 0 [] (Some (Named of ss)) (Choice of c.loop-constructor.place)) c.new.ensures
    ∙ ap (λ (n : List ℕ). symbol_entry n 0 [] (Some (Named of [])) (Choice of c.loop-constructor.place)) c.name_at-name.ensures
    ∙ ap (λ (k : ℕ). symbol_entry (name_in text (get_or xs i nowhere)) 0 [] (Some (Named of [])) (Choice of k)) c.loop-constructor.invariant.place in
    record {
      symbols = constructor_next text of c.args.known.now known c.push_symbol.new.self xs i nowhere c.loop-constructor-test.true c.loop-constructor.invariant.symbols
          (c.in_ok-push_symbol.ensures.symbols ∙ ap (λ (e : SymbolEntry). with_symbols known (e ∷ [])) entry);
      place = ap (λ (k : ℕ). k + 1) c.loop-constructor.invariant.place;
    }

pub returns : goal.returns
returns c = record {
  symbols = c.loop-constructor.invariant.symbols
      ∙ ap (λ (xs : List Span). with_symbols c.args.known.now (constructors_from c.args.text.now c.args.of 0 xs))
      (take_all c.loop-constructor.constructor-index c.as_slice-constructor-items.result.now (omega (arith, c.loop-constructor-test.false)) ∙ c.as_slice-constructor-items.ensures);
}
