use Rattle.std.specs.Prelude.{[]}
use Rattle.std.proofs.Common.{sym, ◌∙◌, subst}
use Rattle.std.proofs.lemmas.List.{append-nil}
use Rattle.ae_monoid.specs.Rules.{rule_at}
use Rattle.ae_equations.specs.Held.{Contents}
use Rattle.ae_equations.specs.Versions.{StandsFor, Lasts}
use Rattle.ae_equations.proofs.Lasting.{lasts_by, held_again, holding_again}
use Rattle.ae_equations.proofs.equations.Equations.back.Goals as goal

pub back-requires : goal.back-requires
back-requires g c = record { fits = (subst (λ (r : Contents). StandsFor r c.args.shared.now c.requires.stands.0) (sym c.self.view_is) c.requires.stands.1).rules.fits }

pub back-requires-2 : goal.back-requires-2
back-requires-2 g c = (subst (λ (r : Contents). StandsFor r c.args.shared.now c.requires.stands.0) (sym c.self.view_is) c.requires.stands.1).heads.fits

pub back-requires-3 : goal.back-requires-3
back-requires-3 g c = (subst (λ (r : Contents). StandsFor r c.args.shared.now c.requires.stands.0) (sym c.self.view_is) c.requires.stands.1).places.fits

pub invariant_of-self : goal.invariant_of-self
invariant_of-self g c =
    let before = c.requires.stands.0 in
    let s = subst (λ (r : Contents). StandsFor r c.args.shared.now before) (sym c.self.view_is) c.requires.stands.1 in
    let now : Contents = record { rules = c.back.new.self; pairs = record { heads = c.back-2.new.self; links = c.self.inside.pairs.links }; queue = record { places = c.back-3.new.self; next = c.args.shared.now.next } } in
    holding_again before now s.links.0 s.held s.links.1 (c.back-2.ensures.map ∙ s.heads.is) (c.back.ensures.len (λ n. rule_at before.rules n) before.rules.next s.rules)
    (c.back-3.ensures.map ∙ s.places.is) s.next c.self.invariant.noted.chained

pub returns-clause-held : goal.returns-clause-held
returns-clause-held g c = λ before h.
    let s = subst (λ (r : Contents). StandsFor r c.args.shared.now before) (sym c.self.view_is) h in
    let now : Contents = record { rules = c.back.new.self; pairs = record { heads = c.back-2.new.self; links = c.self.inside.pairs.links }; queue = record { places = c.back-3.new.self; next = c.args.shared.now.next } } in
    held_again before now s.links.0 s.held s.links.1 (c.back-2.ensures.map ∙ s.heads.is) (c.back.ensures.len (λ n. rule_at before.rules n) before.rules.next s.rules) (c.back-3.ensures.map ∙ s.places.is) s.next
    (c.back.ensures.rules (λ n. rule_at before.rules n) before.rules.next s.rules)

pub returns-clause-lasts : goal.returns-clause-lasts
returns-clause-lasts g c =
    let start : Contents = record { rules = c.self.inside.rules; pairs = c.self.inside.pairs; queue = c.self.inside.queue } in
    let now : Contents = record { rules = c.back.new.self; pairs = record { heads = c.back-2.new.self; links = c.self.inside.pairs.links }; queue = record { places = c.back-3.new.self; next = c.args.shared.now.next } } in
    subst (λ (r : Contents). Lasts r now) c.self.view_is
    (lasts_by start now c.back.ensures.lasts c.back-2.ensures.lasts [] (sym (append-nil c.self.inside.pairs.links)) c.back-3.ensures.lasts)
