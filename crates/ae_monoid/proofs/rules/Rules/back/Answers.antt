use Rattle.std.specs.Prelude.{ℕ, List}
use Rattle.std.proofs.Common.{subst, ap, sym, ◌∙◌}
use Rattle.ae_pmap.specs.Pairs.{found}
use Rattle.ae_monoid.specs.declared.rules.Kept.{Kept}
use Rattle.ae_monoid.specs.Rules.{Contents}
use Rattle.ae_monoid.specs.Versions.{Fits, StandsFor, Lasts}
use Rattle.ae_monoid.proofs.VersionLaws.{indexed_same, versions_last}
use Rattle.ae_monoid.proofs.ChainLaws.{grows_same}
use Rattle.ae_monoid.proofs.rules.Rules.back.Goals as goal

pub invariant_of-self : goal.invariant_of-self
invariant_of-self g c =
    let f = subst (λ (r : Contents). Fits r c.args.shared.now) (sym c.self.view_is) c.requires.fits in
    indexed_same _ _ c.args.shared.now.next _ _ _ _ c.self.inside.links.items c.back.ensures.map c.back-2.ensures.map c.back-3.ensures.map f.indexed

pub returns-clause-rules : goal.returns-clause-rules
returns-clause-rules g c = λ rules len s n.
    ap (λ (ps : List (ℕ × Kept)). found ps n) c.back.ensures.map ∙ (subst (λ (r : Contents). StandsFor r c.args.shared.now rules len) (sym c.self.view_is) s).is n

pub returns-clause-len : goal.returns-clause-len
returns-clause-len g c = λ rules len s. s.len_is

pub returns-clause-lasts : goal.returns-clause-lasts
returns-clause-lasts g c =
    subst (λ (r : Contents). Lasts r (record { kept = c.back.new.self; next = c.args.shared.now.next; largest = c.back-2.new.self; elements = c.back-3.new.self; links = c.self.inside.links.items })) c.self.view_is
    (versions_last c.self.inside.kept c.back.new.self c.self.inside.next c.args.shared.now.next c.self.inside.largest c.back-2.new.self c.self.inside.elements c.back-3.new.self c.self.inside.links.items c.self.inside.links.items
    c.back.ensures.lasts c.back-2.ensures.lasts c.back-3.ensures.lasts (grows_same c.self.inside.links.items) c.self.invariant.are_linked)
