use Rattle.std.proofs.Common.{sym, ap, ◌∙◌, length, slice_get}
use Rattle.ae_matches.proofs.ClassLaws.{first_least}
use Rattle.ae_matches.proofs.classes.least.Goals as goal

pub returns-in-Some : goal.returns-in-Some
returns-in-Some g c =
    let alike = g.E.Equalities.alike c.args.equalities.now in
    first_least alike (length c.args.store.now.nodes)
    (record { reflexive = λ n. g.met.E.Equalities.reflexive c.args.equalities.now n; symmetric = λ m n. g.met.E.Equalities.symmetric c.args.equalities.now m n; transitive = λ l m n. g.met.E.Equalities.transitive c.args.equalities.now l m n })
    c.in_ok-names.names c.args.name c.requires.within c.in_ok-names.ensures.all c.in_ok-names.ensures.rising c.in-Some.first.now (ap (λ l. slice_get l 0) (sym c.as_slice.ensures) ∙ sym c.in-Some.ensures)
