use Rattle.std.proofs.Common.{map, ap, ◌∙◌}
use Rattle.std.proofs.lemmas.Result.{IfOk-weaker}
use Rattle.ae_core.specs.declared.problems.Signature.{Signature}
use Rattle.ae_match.specs.Seen.{seen}
use Rattle.ae_matches.specs.Candidates.{is_match}
use Rattle.ae_matches.proofs.Matched.{told, test_sound, passes_itself}
use Rattle.ae_matches.proofs.one_match.is_match_of.Goals as goal
use Rattle.ae_store.specs.Shapes.{shapes}
use Rattle.ae_store.specs.Terms.{terms, named}

pub returns : goal.returns
returns g c =
    let alike = g.E.Equalities.alike c.args.equalities.now in
    let sig = c.args.store.now.signature in
    let ns = c.args.store.now.nodes in
    let test = λ (z : Signature). is_match z (seen sig ns) alike c.args.below c.args.known.now c.args.pattern.now (map (named (terms (shapes ns))) c.args.subst.now.terms) c.args.subst.now in
    record {
      exact = IfOk-weaker c.is_match.result _ _
          (λ b e.
          told b (test sig) (e ∙ ap test c.requires.same)
          (test_sound sig ns c.len-names.ensures.store c.args.below alike
          (record { reflexive = λ n. g.met.E.Equalities.reflexive c.args.equalities.now n; symmetric = λ m n. g.met.E.Equalities.symmetric c.args.equalities.now m n; transitive = λ l m n. g.met.E.Equalities.transitive c.args.equalities.now l m n })
          (λ m n. g.met.E.Equalities.sorted c.args.equalities.now c.args.store.now c.requires.fits m n) c.args.known.now c.requires.entered c.args.pattern.now c.requires.constants c.args.subst.now)
          (λ is. passes_itself sig ns c.len-names.ensures.store c.args.below alike
          (record { reflexive = λ n. g.met.E.Equalities.reflexive c.args.equalities.now n; symmetric = λ m n. g.met.E.Equalities.symmetric c.args.equalities.now m n; transitive = λ l m n. g.met.E.Equalities.transitive c.args.equalities.now l m n })
          (λ m n. g.met.E.Equalities.sorted c.args.equalities.now c.args.store.now c.requires.fits m n) c.args.known.now c.requires.entered c.args.pattern.now c.requires.constants c.args.subst.now is))
          c.is_match.ensures;
    }
