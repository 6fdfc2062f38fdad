use Rattle.std.proofs.Common.{sym, ap, ◌∙◌, length}
use Rattle.std.specs.List.{list_any}
use Rattle.indexmap.specs.IndexSet.{contains}
use Rattle.ae_store.specs.Keys.{is_same}
use Rattle.ae_matches.specs.Answers.{is_same_match}
use Rattle.ae_matches.proofs.CandidateRules.{match_within}
use Rattle.ae_matches.proofs.ClassLaws.{indexed_more}
use Rattle.ae_matches.proofs.matches.keep.Goals as goal

pub class_of-requires-clause-within : goal.class_of-requires-clause-within
class_of-requires-clause-within g c =
    match_within c.args.signature.now c.args.store.now.signature c.args.store.now.nodes (g.E.Equalities.alike c.args.equalities.now) c.args.below c.args.known.now c.args.pattern.now _ c.args.subst
    (sym c.in_ok-matching.ensures ∙ c.if-not-matching.false)

pub returns-clause-indexed : goal.returns-clause-indexed
returns-clause-indexed g c m x d =
    let alike = g.E.Equalities.alike c.args.equalities.now in
    indexed_more alike (length c.args.store.now.nodes)
    (record { reflexive = λ n. g.met.E.Equalities.reflexive c.args.equalities.now n; symmetric = λ m n. g.met.E.Equalities.symmetric c.args.equalities.now m n; transitive = λ l m n. g.met.E.Equalities.transitive c.args.equalities.now l m n })
    (contains is_same c.args.classes.now) (contains is_same c.insert.new.self) c.args.found.now c.args.subst c.in_ok-class.class c.in_ok-class.ensures c.in_ok-insert.ensures.updates.0 c.requires.indexed m x d
    ∙ ap (list_any (is_same_match alike m)) (sym c.in_ok-push.ensures.ok)
