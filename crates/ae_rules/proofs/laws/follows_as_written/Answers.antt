use Rattle.std.proofs.Common.{[], ◌≡◌, Option, None, Some}
use Rattle.ae_rules.proofs.Written.{written}
use Rattle.ae_rules.proofs.Bridge.{all_follow}
use Rattle.ae_rules.specs.Lines.{Fact}
use Rattle.ae_rules.proofs.laws.follows_as_written.Goals as goal

nothing : (f : Fact) → ◌≡◌ {A = Option Fact} None (Some f) → ⊥
nothing f e = cc

pub returns : goal.returns
returns c sig ok hyps f = (written sig ok hyps, λ s. all_follow sig ok hyps [] s.lines (λ k g e. absurd (nothing g e)) s.all s.at f s.is)
