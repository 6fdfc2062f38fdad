use Rattle.std.proofs.Common.{sym, ◌∙◌, subst, length}
use Rattle.ae_store.specs.Names.{AreWithin}
use Rattle.ae_matches.proofs.CandidateRules.{known_within}
use Rattle.ae_matches.proofs.testing.is_match.Goals as goal

pub terms_at-requires : goal.terms_at-requires
terms_at-requires g c = record {
  within = subst (AreWithin (length c.args.store.now.nodes)) (c.as_slice-4.ensures ∙ sym c.as_slice-5.ensures)
      (known_within c.args.store.now.signature c.args.store.now.nodes c.args.below c.as_slice-4.result.now (sym c.are_known.ensures ∙ c.if-not-are_known.false));
}
