use Rattle.std.proofs.Common.{◌≡◌, ◌∙◌, ℕ, List, [], ◌∷◌, sym, ap, subst}
use Rattle.ae_elab.specs.declared.faults.TypeFault.{TypeFault}
use Rattle.ae_elab.specs.declared.faults.TypeFault.TheVariants as fault
use Rattle.ae_elab.specs.Declarations.{new_symbol, twice}
use Rattle.ae_elab.specs.Steps.{AreNotMet}
use Rattle.ae_elab.proofs.NameRules.{symbol_held, symbol_failed}
use Rattle.ae_elab.proofs.new_names.new_symbol.Goals as goal

pub returns-in_ok-twice-in-Some-clause-fault : goal.returns-in_ok-twice-in-Some-clause-fault
returns-in_ok-twice-in-Some-clause-fault c m =
    let text = c.args.text.now in
    let x = c.args.place in
    let name = c.name_at-name.ensures in
    let shows : c.in_ok-twice-in-Some.field-0 ≡ twice text x = c.in_ok-twice-in-Some.ensures ∙ ap (λ (n : List ℕ). fault.Twice n x.from x.to) name in
    subst (λ (e : TypeFault). AreNotMet (new_symbol text c.args.known.now x ∷ []) m e) (sym shows)
    (symbol_failed text c.args.known.now x c.name_at-name.result.now name _ (sym c.symbol_number.ensures ∙ c.in-Some.is) m)

pub returns-in-None-clause-met : goal.returns-in-None-clause-met
returns-in-None-clause-met c m =
    symbol_held c.args.text.now c.args.known.now c.args.place c.name_at-name.result.now c.name_at-name.ensures (sym c.symbol_number.ensures ∙ c.in-None.is) m
