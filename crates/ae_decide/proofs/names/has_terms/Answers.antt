use Rattle.std.proofs.Common.{rules, ◌≡◌, false, sym, ap, ◌∙◌}
use Rattle.ae_base.proofs.Tests.{false_true}
use Rattle.ae_decide.specs.Names.{are_apart}
use Rattle.ae_decide.proofs.NameTests.{terms_apart}
use Rattle.ae_decide.proofs.names.has_terms.Goals as goal

pub returns-then-not-are_apart : goal.returns-then-not-are_apart
returns-then-not-are_apart c =
    let no : c.are_apart.result ≡ false = search rules in (
      λ e. false_true e,
      λ h. sym no ∙ c.are_apart.ensures ∙ ap are_apart c.as_slice-names.ensures ∙ terms_apart c.args.signature.now c.args.system.now h,
    )
