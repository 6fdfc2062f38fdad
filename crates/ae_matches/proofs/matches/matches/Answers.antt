use Rattle.std.proofs.Common.{sym, subst, ap, ◌∙◌}
use Rattle.std.proofs.lemmas.Result.{IfOk-weaker}
use Rattle.ae_matches.specs.Answers.{AreMatches}
use Rattle.ae_matches.specs.Candidates.{kept_of}
use Rattle.ae_matches.proofs.Matched.{are_matches}
use Rattle.ae_matches.proofs.matches.matches.Goals as goal

pub returns : goal.returns
returns g c =
    let alike = g.E.Equalities.alike c.args.equalities.now in
    record {
      matches = IfOk-weaker c.kept_of.result _ _
          (λ ms e.
          subst (AreMatches c.args.store.now alike c.args.below c.args.pattern.now)
          (sym (e ∙ ap (kept_of c.args.store.now.signature c.args.store.now.nodes alike c.args.below c.args.known.now c.args.pattern.now) c.as_slice.ensures))
          (are_matches c.args.store.now.signature c.args.store.now.nodes c.len-names.ensures.store c.args.below alike
          (record { reflexive = λ n. g.met.E.Equalities.reflexive c.args.equalities.now n; symmetric = λ m n. g.met.E.Equalities.symmetric c.args.equalities.now m n; transitive = λ l m n. g.met.E.Equalities.transitive c.args.equalities.now l m n })
          (λ m n. g.met.E.Equalities.sorted c.args.equalities.now c.args.store.now c.requires.fits m n) c.args.known.now c.requires.entered c.args.pattern.now c.requires.constants c.in_ok-all.all c.in_ok-all.ensures))
          c.kept_of.ensures;
    }
