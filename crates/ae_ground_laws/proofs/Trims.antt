-- A trimmed ground proof is one: each of its lines is one of the proof's, with other numbers.
use Rattle.std.specs.Prelude.{ℕ, ◌<◌, ◌≡◌, length, slice_get, Some}
use Rattle.std.proofs.Common.{sym, ◌∙◌, subst, arith}
use Rattle.std.proofs.lemmas.Option.{same_Some, slice_get_within}
use Rattle.ae_base.proofs.AllOf.{all_at, all_from_places}
use Rattle.ae_base.proofs.ListFacts.{value_at}
use Rattle.ae_core.specs.declared.problems.Problem.{Problem}
use Rattle.ae_core.specs.declared.proofs.ClauseLine.{ClauseLine}
use Rattle.ae_core.specs.declared.proofs.ClauseLine.TheVariants.{Hyp, Goal, Def, Inst, Fresh, Exh, Tri, Block, Rup}
use Rattle.ae_core.specs.declared.proofs.Proof.{Proof}
use Rattle.ae_journal.specs.Ground.{IsGroundLine, IsGroundProof}
use Rattle.ae_trim.specs.Used.{HintEarlier}
use Rattle.ae_trim.specs.Trimmed.{place_in, renumbered, IsTrimmed}
use Rattle.ae_trim.proofs.Deriving.{derivation_trims, trimmed_derives}
use Rattle.ae_trim.proofs.Keeping.{used_within}
use Rattle.ae_trim.proofs.Rising.{at_contains}

module _ (p : Problem) (g : ℕ) where
  renumbered_ground : (f : ℕ → ℕ) (l : ClauseLine) → IsGroundLine p g l → IsGroundLine p g (renumbered f l)
  renumbered_ground f (Hyp k ss) i = i
  renumbered_ground f Goal i = i
  renumbered_ground f (Def r h) i = i
  renumbered_ground f (Inst h ts) i = i
  renumbered_ground f (Fresh h m) i = i
  renumbered_ground f (Exh t) i = i
  renumbered_ground f (Tri s t) i = i
  renumbered_ground f (Block b) i = i
  renumbered_ground f (Rup c ks) i = i

  pub trimmed_ground : (proof trimmed : Proof) → IsGroundProof p g proof → IsTrimmed proof trimmed → IsGroundProof p g trimmed
  trimmed_ground proof trimmed i t = record {
    derives = trimmed_derives proof trimmed d.0 d.1 t p g i.derives;
    lines = all_from_places (IsGroundLine p g) trimmed.lines each;
  }
    where
      d : HintEarlier proof.lines × (0 < length proof.lines)
      d = derivation_trims p g proof i.derives

      each : (k : ℕ) (l : ClauseLine) → slice_get trimmed.lines k ≡ Some l → IsGroundLine p g l
      each k l e =
          let here = slice_get_within trimmed.lines k l e in
          let many = t.kept.count in
          let m = value_at t.places k (omega (arith, here, many)) in
          let old = value_at proof.lines m.0 (used_within proof.lines d.0 m.0 (t.are_used.used m.0 (at_contains t.places k m.0 m.1))) in
          subst (IsGroundLine p g) (same_Some (renumbered (place_in t.places) old.0) l (sym (t.kept.each k m.0 old.0 m.1 old.1) ∙ e))
          (renumbered_ground (place_in t.places) old.0 (all_at (IsGroundLine p g) proof.lines m.0 old.0 i.lines old.1))
