use Rattle.std.proofs.Common.{List, ℕ, sym, subst}
use Rattle.ae_elab.specs.Environments.{Finds, entries, locals}
use Rattle.ae_elab.specs.Scope.{scope_with, meaning_of, symbol_from}
use Rattle.ae_expressions.specs.Named.{IsNamed}
use Rattle.ae_expressions.proofs.meanings.stands_for.Goals as goal

pub returns-in-None : goal.returns-in-None
returns-in-None c =
    let env = c.args.environment.now in
    let known = c.args.context.now.known in
    let sc = scope_with c.args.context.now.text.now known (locals env) in
    let name = c.name_at-name.result.now in
    let es = entries env in
    let found = c.named_symbol.result in
    let outside = subst (λ o. Finds env name o) c.in-None.is c.in_ok-meaning.ensures in
    subst (λ (n : List ℕ). IsNamed es known (meaning_of sc n) found) c.name_at-name.ensures
    (subst (λ s. IsNamed es known s found) (sym (outside (symbol_from 0 known.symbols name))) (c.named_symbol.ensures es))
