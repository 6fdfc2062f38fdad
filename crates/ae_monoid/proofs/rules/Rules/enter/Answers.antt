use Rattle.std.specs.Prelude.{◌+◌}
use Rattle.std.proofs.Common.{◌∙◌, subst}
use Rattle.ae_pmap.specs.Forest.{present}
use Rattle.ae_pmap.specs.Pairs.{found}
use Rattle.ae_monoid.specs.Rules.{Contents}
use Rattle.ae_monoid.specs.Versions.{Lasts}
use Rattle.ae_monoid.proofs.Grown.{indexed_grows}
use Rattle.ae_monoid.proofs.VersionLaws.{indexed_same, versions_last, map_lasts}
use Rattle.ae_monoid.proofs.rules.Rules.enter.Goals as goal

pub back-requires : goal.back-requires
back-requires g c = (map_lasts c.self.inside.largest c.enter_in.new.largest c.share-largest.result c.enter_in.ensures.largest_lasts c.share-largest.ensures.version.fits).0

pub back-requires-in-Err : goal.back-requires-in-Err
back-requires-in-Err g c = (map_lasts c.self.inside.elements c.enter_in.new.elements c.share-elements.result c.enter_in.ensures.elements_lasts c.share-elements.ensures.version.fits).0

pub invariant_of-self-in-Err : goal.invariant_of-self-in-Err
invariant_of-self-in-Err g c =
    indexed_same (present c.self.inside.kept) (present c.enter_in.new.kept) c.self.inside.next (present c.self.inside.largest) (present c.back.new.self) (present c.self.inside.elements) (present c.back-in-Err.new.self)
    c.enter_in.new.links.items
    c.in-Err.ensures.err
    (c.back.ensures.map ∙ (map_lasts c.self.inside.largest c.enter_in.new.largest c.share-largest.result c.enter_in.ensures.largest_lasts c.share-largest.ensures.version.fits).1 ∙ c.share-largest.ensures.version.is)
    (c.back-in-Err.ensures.map ∙ (map_lasts c.self.inside.elements c.enter_in.new.elements c.share-elements.result c.enter_in.ensures.elements_lasts c.share-elements.ensures.version.fits).1 ∙ c.share-elements.ensures.version.is)
    (indexed_grows (λ n. found (present c.self.inside.kept) n) c.self.inside.next (λ n. found (present c.self.inside.largest) n) (λ n. found (present c.self.inside.elements) n) c.self.inside.links.items c.enter_in.new.links.items
    c.enter_in.ensures.grows c.enter_in.ensures.linked c.self.invariant)

pub returns-in-Ok-clause-lasts : goal.returns-in-Ok-clause-lasts
returns-in-Ok-clause-lasts g c =
    subst (λ (r : Contents). Lasts r (record { kept = c.enter_in.new.kept; next = c.self.inside.next + 1; largest = c.enter_in.new.largest; elements = c.enter_in.new.elements; links = c.enter_in.new.links.items })) c.self.view_is
    (versions_last c.self.inside.kept c.enter_in.new.kept c.self.inside.next (c.self.inside.next + 1) c.self.inside.largest c.enter_in.new.largest c.self.inside.elements c.enter_in.new.elements c.self.inside.links.items
    c.enter_in.new.links.items
    c.enter_in.ensures.kept_lasts c.enter_in.ensures.largest_lasts c.enter_in.ensures.elements_lasts c.enter_in.ensures.grows c.enter_in.ensures.linked)

pub returns-clause-lasts : goal.returns-clause-lasts
returns-clause-lasts g c =
    subst (λ (r : Contents). Lasts r (record { kept = c.enter_in.new.kept; next = c.self.inside.next; largest = c.back.new.self; elements = c.back-in-Err.new.self; links = c.enter_in.new.links.items })) c.self.view_is
    (versions_last c.self.inside.kept c.enter_in.new.kept c.self.inside.next c.self.inside.next c.self.inside.largest c.back.new.self c.self.inside.elements c.back-in-Err.new.self c.self.inside.links.items c.enter_in.new.links.items
    c.enter_in.ensures.kept_lasts (λ root map s. c.back.ensures.lasts root map (c.enter_in.ensures.largest_lasts root map s)) (λ root map s. c.back-in-Err.ensures.lasts root map (c.enter_in.ensures.elements_lasts root map s))
    c.enter_in.ensures.grows c.enter_in.ensures.linked)
