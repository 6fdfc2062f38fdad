use Rattle.std.proofs.Common.{arith, ◌≡◌, ◌∙◌, ℕ, List, [], ◌∷◌, map, get_or, sym, ap, subst}
use Rattle.std.specs.List.{AllByRecursion}
use Rattle.std.proofs.lemmas.List.{take_all}
use Rattle.std.proofs.lemmas.Option.{slice_get-get_or}
use Rattle.ae_base.proofs.AllOf.{all_at}
use Rattle.ae_core.specs.declared.problems.SymbolEntry.{SymbolEntry}
use Rattle.ae_syntax.specs.declared.spans.Span.{Span}
use Rattle.ae_elab.specs.Declarations.{symbol_entry, with_symbols}
use Rattle.ae_elab.specs.Names.{IsName}
use Rattle.ae_elab.specs.Scope.{name_in}
use Rattle.ae_elab.proofs.DeclRules.{symbol_next}
use Rattle.ae_elab.proofs.declarations.push_symbols.Goals as goal

abbrev nowhere : Span
nowhere = record { from = 0; to = 0 }

pub name_at-name-requires : goal.name_at-name-requires
name_at-name-requires c =
    let xs = c.as_slice-place-items.result.now in
    let i = c.loop-place.place-index in
    all_at (IsName c.args.text.now) xs i (get_or xs i nowhere) (subst (AllByRecursion (IsName c.args.text.now)) (sym c.as_slice-place-items.ensures) c.requires.names)
    (slice_get-get_or xs i nowhere c.loop-place-test.true)

pub loop-place-preserved : goal.loop-place-preserved
loop-place-preserved c =
    let xs = c.as_slice-place-items.result.now in
    let i = c.loop-place.place-index in
    let f = λ (x : Span). symbol_entry (name_in c.args.text.now x) c.args.vars c.args.args.now c.args.value.now c.args.nature in
    let known = c.loop-place.known in
    let entry : c.in_ok-entry.entry ≡ f (get_or xs i nowhere) =
    c.in_ok-entry.ensures ∙ ap (λ (n : List ℕ). symbol_entry n c.args.vars c.args.args.now c.args.value.now c.args.nature) c.name_at-name.ensures in
    symbol_next f c.args.known.now known c.push_symbol.new.self xs i nowhere c.loop-place-test.true c.loop-place.invariant
    (c.in_ok-push_symbol.ensures.symbols ∙ ap (λ (e : SymbolEntry). with_symbols known (e ∷ [])) entry)

pub returns : goal.returns
returns c =
    let f = λ (x : Span). symbol_entry (name_in c.args.text.now x) c.args.vars c.args.args.now c.args.value.now c.args.nature in
    record {
      symbols = c.loop-place.invariant
          ∙ ap (λ (xs : List Span). with_symbols c.args.known.now (map f xs))
          (take_all c.loop-place.place-index c.as_slice-place-items.result.now (omega (arith, c.loop-place-test.false)) ∙ c.as_slice-place-items.ensures);
    }
