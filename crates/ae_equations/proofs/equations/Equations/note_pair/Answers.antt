use Rattle.std.specs.Prelude.{◌≡◌, None}
use Rattle.std.proofs.Common.{sym, subst}
use Rattle.ae_monoid.specs.Rules.{rule_at}
use Rattle.ae_equations.specs.Held.{Contents}
use Rattle.ae_equations.specs.Versions.{Lasts}
use Rattle.ae_equations.proofs.TakenOut.{number_given}
use Rattle.ae_equations.proofs.Lasting.{lasts_by, given_of_note}
use Rattle.ae_equations.proofs.equations.Equations.note_pair.Goals as goal

pub invariant_of-self : goal.invariant_of-self
invariant_of-self c =
    let next = c.self.inside.rules.next in
    let first = number_given (λ n. rule_at c.self.inside.rules n) next c.rule-rule.ensures.rules c.args.first (subst (λ (r : Contents). rule_at r.rules c.args.first ≡ None → ⊥) (sym c.self.view_is) c.requires.first) in
    let second = number_given (λ n. rule_at c.self.inside.rules n) next c.rule-rule.ensures.rules c.args.second (subst (λ (r : Contents). rule_at r.rules c.args.second ≡ None → ⊥) (sym c.self.view_is) c.requires.second) in
    record {
      noted = c.note.ensures.noted;
      given = given_of_note c.self.inside.pairs c.note.new.pairs next c.args.first c.args.second c.self.invariant.given first second c.note.result c.note.ensures.ok c.note.ensures.others c.note.ensures.err;
      placed = c.self.invariant.placed;
    }

pub returns-clause-lasts : goal.returns-clause-lasts
returns-clause-lasts c =
    let start : Contents = record { rules = c.self.inside.rules; pairs = c.self.inside.pairs; queue = c.self.inside.queue } in
    let now : Contents = record { rules = c.self.inside.rules; pairs = c.note.new.pairs; queue = c.self.inside.queue } in
    subst (λ (r : Contents). Lasts r now) c.self.view_is
    (lasts_by start now (λ shared rules len s. s) c.note.ensures.lasts c.note.ensures.grows.0 c.note.ensures.grows.1 (λ root map s. s))
