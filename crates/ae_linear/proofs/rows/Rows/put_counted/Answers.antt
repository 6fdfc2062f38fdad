use Rattle.std.proofs.Common.{◌∙◌, subst}
use Rattle.ae_pmap.specs.Forest.{present}
use Rattle.ae_pmap.specs.Pairs.{found}
use Rattle.ae_linear.specs.Rows.{Contents, Lasts}
use Rattle.ae_linear.proofs.Versions.{indexed_same, indexed_grows, versions_last, map_lasts}
use Rattle.ae_linear.proofs.rows.Rows.put_counted.Goals as goal

pub returns-in-Ok-clause-lasts : goal.returns-in-Ok-clause-lasts
returns-in-Ok-clause-lasts g c =
    subst (λ (r : Contents). Lasts r (record { rows = c.put_in.new.rows; heads = c.put_in.new.heads; links = c.put_in.new.links.items })) c.self.view_is
    (versions_last c.self.inside.rows c.put_in.new.rows c.self.inside.heads c.put_in.new.heads c.self.inside.links.items c.put_in.new.links.items c.put_in.ensures.rows_last c.put_in.ensures.heads_last c.put_in.ensures.grows c.put_in.ensures.linked)

pub back-requires : goal.back-requires
back-requires g c = (map_lasts c.self.inside.rows c.put_in.new.rows c.share-rows.result c.put_in.ensures.rows_last c.share-rows.ensures.version.fits).0

pub back-requires-in-Err : goal.back-requires-in-Err
back-requires-in-Err g c = (map_lasts c.self.inside.heads c.put_in.new.heads c.share-heads.result c.put_in.ensures.heads_last c.share-heads.ensures.version.fits).0

pub invariant_of-self-in-Err : goal.invariant_of-self-in-Err
invariant_of-self-in-Err g c =
    indexed_same (present c.self.inside.rows) (present c.back.new.self) (present c.self.inside.heads) (present c.back-in-Err.new.self) c.put_in.new.links.items
    (c.back.ensures.map ∙ (map_lasts c.self.inside.rows c.put_in.new.rows c.share-rows.result c.put_in.ensures.rows_last c.share-rows.ensures.version.fits).1 ∙ c.share-rows.ensures.version.is)
    (c.back-in-Err.ensures.map ∙ (map_lasts c.self.inside.heads c.put_in.new.heads c.share-heads.result c.put_in.ensures.heads_last c.share-heads.ensures.version.fits).1 ∙ c.share-heads.ensures.version.is)
    (indexed_grows (λ n. found (present c.self.inside.rows) n) (λ n. found (present c.self.inside.heads) n) c.self.inside.links.items c.put_in.new.links.items c.put_in.ensures.grows c.put_in.ensures.linked c.self.invariant)

pub returns-clause-lasts : goal.returns-clause-lasts
returns-clause-lasts g c =
    subst (λ (r : Contents). Lasts r (record { rows = c.back.new.self; heads = c.back-in-Err.new.self; links = c.put_in.new.links.items })) c.self.view_is
    (versions_last c.self.inside.rows c.back.new.self c.self.inside.heads c.back-in-Err.new.self c.self.inside.links.items c.put_in.new.links.items
    (λ root map s. c.back.ensures.lasts root map (c.put_in.ensures.rows_last root map s)) (λ root map s. c.back-in-Err.ensures.lasts root map (c.put_in.ensures.heads_last root map s)) c.put_in.ensures.grows c.put_in.ensures.linked)
