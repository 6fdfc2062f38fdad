use Rattle.std.specs.Prelude.{[], ◌≡◌, None, Some}
use Rattle.std.proofs.Common.{sym, subst}
use Rattle.std.proofs.lemmas.List.{append-nil}
use Rattle.ae_multiset.specs.Multisets.{IsLess}
use Rattle.ae_monoid.specs.declared.rules.Kept.{Kept}
use Rattle.ae_monoid.specs.Rules.{rule_at}
use Rattle.ae_equations.specs.Held.{Contents}
use Rattle.ae_equations.specs.Versions.{Lasts}
use Rattle.ae_equations.proofs.Lasting.{lasts_by, given_same}
use Rattle.ae_equations.proofs.equations.Equations.compose.Goals as goal

pub compose-requires-clause-stands : goal.compose-requires-clause-stands
compose-requires-clause-stands c = subst (λ (r : Contents). rule_at r.rules c.args.number ≡ None → ⊥) (sym c.self.view_is) c.requires.stands

pub compose-requires-clause-smaller : goal.compose-requires-clause-smaller
compose-requires-clause-smaller c =
    subst (λ (r : Contents). (rule : Kept) → rule_at r.rules c.args.number ≡ Some rule → IsLess c.args.right.now rule.entry.left) (sym c.self.view_is) c.requires.smaller

pub invariant_of-self : goal.invariant_of-self
invariant_of-self c =
    record { noted = c.self.invariant.noted; given = given_same c.self.inside.pairs c.self.inside.rules.next c.compose.new.self.next c.self.invariant.given c.compose.ensures.len; placed = c.self.invariant.placed }

pub returns-clause-lasts : goal.returns-clause-lasts
returns-clause-lasts c =
    let start : Contents = record { rules = c.self.inside.rules; pairs = c.self.inside.pairs; queue = c.self.inside.queue } in
    let now : Contents = record { rules = c.compose.new.self; pairs = c.self.inside.pairs; queue = c.self.inside.queue } in
    subst (λ (r : Contents). Lasts r now) c.self.view_is
    (lasts_by start now c.compose.ensures.lasts (λ root map s. s) [] (sym (append-nil c.self.inside.pairs.links)) (λ root map s. s))
