use Rattle.std.specs.Prelude.{ℕ, [], ◌≡◌, List, slice_get, Some}
use Rattle.std.proofs.Common.{sym, ◌∙◌, subst}
use Rattle.std.proofs.lemmas.Option.{same_Some, none-some}
use Rattle.ae_core.specs.declared.terms.Term.{Term}
use Rattle.ae_decide.specs.Values.{place_from}
use Rattle.ae_decide.proofs.ValueTests.{place_is}
use Rattle.ae_store.specs.Terms.{HasOneName}
use Rattle.ae_literal_rows.proofs.naming.name_in.Goals as goal

place : (ts : List Term) → HasOneName ts → (n : ℕ) (t : Term) → slice_get ts n ≡ Some t → place_from 0 ts t ≡ Some n
place ts one n t at = place_is (record { names = ts; values = []; rules = [] }) (λ i j u a b. one i j u a b) n t at

pub unreachable-requires : goal.unreachable-requires
unreachable-requires c =
    let w = c.requires.there in
    none-some w.0 (c.in-None.ensures ∙ place c.args.names.now c.requires.apart w.0 c.args.term.now w.1)

pub returns : goal.returns
returns c =
    let w = c.requires.there in
    subst (λ (n : ℕ). slice_get c.args.names.now n ≡ Some c.args.term.now)
    (same_Some w.0 c.in-Some.name (sym (place c.args.names.now c.requires.apart w.0 c.args.term.now w.1) ∙ sym c.in-Some.ensures)) w.1
