use Rattle.std.specs.Prelude.{◌≡◌, ◌↔◌, IsTrue}
use Rattle.std.proofs.Common.{sym, ◌∙◌, subst}
use Rattle.std.proofs.lemmas.Option.{same_Some}
use Rattle.ae_core.specs.declared.terms.Sort.{Real}
use Rattle.ae_value_table.specs.declared.patterns.Entry.{Entry}
use Rattle.ae_equal_steps.proofs.numbers.is_real.Goals as goal

pub returns : goal.returns
returns c = λ entry at. subst (λ (e : Entry). IsTrue c.same_sort.result ↔ (e.sort ≡ Real)) (same_Some c.entry.result.now entry (sym c.entry.ensures ∙ at)) c.same_sort.ensures
