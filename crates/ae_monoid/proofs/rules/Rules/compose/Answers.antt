use Rattle.std.specs.Prelude.{◌≡◌, Some}
use Rattle.std.proofs.Common.{refl, sym, subst}
use Rattle.ae_pmap.specs.Forest.{present}
use Rattle.ae_pmap.specs.Pairs.{found}
use Rattle.ae_monoid.specs.Rules.{Contents, rule_at}
use Rattle.ae_monoid.specs.Versions.{Lasts}
use Rattle.ae_monoid.proofs.ChainLaws.{grows_same}
use Rattle.ae_monoid.proofs.Recomposing.{indexed_composed}
use Rattle.ae_monoid.proofs.VersionLaws.{indexed_same, versions_last, same_last}
use Rattle.ae_monoid.proofs.rules.Rules.compose.Goals as goal

pub invariant_of-self : goal.invariant_of-self
invariant_of-self c =
    indexed_same (present c.self.inside.kept) (present c.insert.new.self) c.self.inside.next (present c.self.inside.largest) (present c.self.inside.largest) (present c.self.inside.elements) (present c.self.inside.elements)
    c.self.inside.links.items
    c.in_err-insert.ensures.err refl refl c.self.invariant

pub returns-in_err-insert-clause-lasts : goal.returns-in_err-insert-clause-lasts
returns-in_err-insert-clause-lasts c =
    subst (λ (r : Contents). Lasts r (record { kept = c.insert.new.self; next = c.self.inside.next; largest = c.self.inside.largest; elements = c.self.inside.elements; links = c.self.inside.links.items })) c.self.view_is
    (versions_last c.self.inside.kept c.insert.new.self c.self.inside.next c.self.inside.next c.self.inside.largest c.self.inside.largest c.self.inside.elements c.self.inside.elements c.self.inside.links.items c.self.inside.links.items
    c.in_err-insert.ensures.lasts (same_last c.self.inside.largest) (same_last c.self.inside.elements) (grows_same c.self.inside.links.items) c.self.invariant.are_linked)

pub invariant_of-self-2 : goal.invariant_of-self-2
invariant_of-self-2 c =
    indexed_composed (λ n. found (present c.self.inside.kept) n) (λ n. found (present c.insert.new.self) n) c.args.number c.in-Some.rule.now c.in_ok-new-in-Some.new c.args.right.now c.args.just (sym c.in-Some.ensures.value)
    c.in_ok-new-in-Some.ensures c.requires.some (c.requires.smaller c.in-Some.rule.now (subst (λ (r : Contents). rule_at r c.args.number ≡ Some c.in-Some.rule.now) c.self.view_is (sym c.in-Some.ensures.value))) c.in_ok-insert.ensures.at
    c.self.inside.next (λ n. found (present c.self.inside.largest) n) (λ n. found (present c.self.inside.elements) n) c.self.inside.links.items c.self.invariant

pub returns-clause-lasts : goal.returns-clause-lasts
returns-clause-lasts c =
    subst (λ (r : Contents). Lasts r (record { kept = c.insert.new.self; next = c.self.inside.next; largest = c.self.inside.largest; elements = c.self.inside.elements; links = c.self.inside.links.items })) c.self.view_is
    (versions_last c.self.inside.kept c.insert.new.self c.self.inside.next c.self.inside.next c.self.inside.largest c.self.inside.largest c.self.inside.elements c.self.inside.elements c.self.inside.links.items c.self.inside.links.items
    c.in_ok-insert.ensures.lasts (same_last c.self.inside.largest) (same_last c.self.inside.elements) (grows_same c.self.inside.links.items) c.self.invariant.are_linked)
