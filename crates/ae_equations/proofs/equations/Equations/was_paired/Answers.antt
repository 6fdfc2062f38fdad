use Rattle.std.specs.Prelude.{◌⊎◌, ◌↔◌, true, IsTrue}
use Rattle.std.specs.List.{Contains}
use Rattle.std.proofs.Common.{refl, sym, ◌∙◌, subst, inl, inr}
use Rattle.std.proofs.lemmas.Bool.{false≢true}
use Rattle.ae_equations.specs.Held.{Contents}
use Rattle.ae_equations.specs.Paired.{partners}
use Rattle.ae_equations.proofs.equations.Equations.was_paired.Goals as goal

pub returns-then-is_noted : goal.returns-then-is_noted
returns-then-is_noted c =
    subst (λ (r : Contents). IsTrue true ↔ (Contains (partners r.pairs c.args.first) c.args.second ⊎ Contains (partners r.pairs c.args.second) c.args.first)) c.self.view_is
    (λ _. inl (c.is_noted.ensures.0 c.if-is_noted.true), λ _. refl)

pub returns : goal.returns
returns c =
    subst (λ (r : Contents). IsTrue c.is_noted-2.result ↔ (Contains (partners r.pairs c.args.first) c.args.second ⊎ Contains (partners r.pairs c.args.second) c.args.first)) c.self.view_is (
      λ t. inr (c.is_noted-2.ensures.0 t),
      λ e. elim e [ inl a ↦ absurd (false≢true (sym c.if-is_noted.false ∙ c.is_noted.ensures.1 a)) | inr b ↦ c.is_noted-2.ensures.1 b ],
    )
