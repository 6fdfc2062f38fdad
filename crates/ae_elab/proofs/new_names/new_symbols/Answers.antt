use Rattle.std.proofs.Common.{arith, ◌≡◌, ◌∙◌, ℕ, ◌+◌, List, [], reverse, drop, get_or, refl, sym, ap, subst}
use Rattle.std.specs.List.{AllByRecursion}
use Rattle.std.proofs.lemmas.Option.{slice_get-get_or}
use Rattle.ae_base.proofs.AllOf.{all_at}
use Rattle.ae_syntax.specs.declared.spans.Span.{Span}
use Rattle.ae_elab.specs.declared.faults.TypeFault.{TypeFault}
use Rattle.ae_elab.specs.declared.faults.TypeFault.TheVariants as fault
use Rattle.ae_elab.specs.Declarations.{new_symbols, twice}
use Rattle.ae_elab.specs.Names.{IsName}
use Rattle.ae_elab.specs.Steps.{AreMet, AreNotMet}
use Rattle.ae_elab.proofs.NameRules.{Follows, names_next, names_stop, names_end, of_symbols, symbols_ask}
use Rattle.ae_elab.proofs.new_names.new_symbols.Goals as goal

abbrev nowhere : Span
nowhere = record { from = 0; to = 0 }

pub name_at-name-requires : goal.name_at-name-requires
name_at-name-requires c =
    let xs = c.as_slice-place-items.result.now in
    let i = c.loop-place.place-index in
    all_at (IsName c.args.text.now) xs i (get_or xs i nowhere) (subst (AllByRecursion (IsName c.args.text.now)) (sym c.as_slice-place-items.ensures) c.requires.names)
    (slice_get-get_or xs i nowhere c.loop-place-test.true)

pub returns-then-is_taken-clause-fault : goal.returns-then-is_taken-clause-fault
returns-then-is_taken-clause-fault c m =
    let text = c.args.text.now in
    let xs = c.as_slice-place-items.result.now in
    let i = c.loop-place.place-index in
    let x = get_or xs i nowhere in
    let name = c.name_at-name.ensures in
    let shows : c.in_ok-twice.field-0 ≡ twice text x = c.in_ok-twice.ensures ∙ ap (λ (n : List ℕ). fault.Twice n x.from x.to) name in
    subst (λ (ys : List Span). AreNotMet (new_symbols text c.args.known.now [] ys) m c.in_ok-twice.field-0) c.as_slice-place-items.ensures
    (subst (λ (e : TypeFault). AreNotMet (new_symbols text c.args.known.now [] xs) m e) (sym shows)
    (names_stop text (of_symbols c.args.known.now) (new_symbols text c.args.known.now) (symbols_ask text c.args.known.now) c.loop-place.seen x c.name_at-name.result.now name (new_symbols text c.args.known.now [] xs) xs i nowhere m c.loop-place-test.true refl
    (c.loop-place.invariant m) (sym c.if-is_taken.ensures)))

pub loop-place-preserved : goal.loop-place-preserved
loop-place-preserved c m =
    let text = c.args.text.now in
    let xs = c.as_slice-place-items.result.now in
    let i = c.loop-place.place-index in
    let x = get_or xs i nowhere in
    let whole = new_symbols text c.args.known.now [] xs in
    subst (λ (ns : List (List ℕ)). Follows whole (new_symbols text c.args.known.now (reverse ns) (drop (i + 1) xs)) m) (sym c.in_ok-push.ensures.names)
    (names_next text (of_symbols c.args.known.now) (new_symbols text c.args.known.now) (symbols_ask text c.args.known.now) c.loop-place.seen x c.name_at-name.result.now c.name_at-name.ensures whole xs i nowhere m c.loop-place-test.true refl
    (c.loop-place.invariant m) (sym c.if-is_taken.ensures))

pub returns-clause-met : goal.returns-clause-met
returns-clause-met c m =
    let text = c.args.text.now in
    let xs = c.as_slice-place-items.result.now in
    let whole = new_symbols text c.args.known.now [] xs in
    subst (λ (ys : List Span). AreMet (new_symbols text c.args.known.now [] ys) m m) c.as_slice-place-items.ensures
    (names_end text (of_symbols c.args.known.now) (new_symbols text c.args.known.now) (λ seen. refl) (reverse c.loop-place.seen) whole xs c.loop-place.place-index m (omega (arith, c.loop-place-test.false)) (c.loop-place.invariant m))
