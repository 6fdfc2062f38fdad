use Rattle.std.proofs.Common.{sym, subst}
use Rattle.std.proofs.lemmas.Bool.Decides.{Decides-eqb}
use Rattle.std.proofs.lemmas.Slice.Eq.{slice_eq-Decides}
use Rattle.ae_trim.specs.Axioms.{AreAxioms}
use Rattle.ae_verdicts.proofs.SameLists.{are_axioms_where}
use Rattle.ae_verdicts.proofs.checking.are_its_axioms.Goals as goal

pub returns : goal.returns
returns c =
    are_axioms_where c.args.proof.now c.as_slice.result.now c.args.places.now c.eq.result (subst (AreAxioms c.args.proof.now) (sym c.as_slice.ensures) c.in_ok-own.ensures)
    (slice_eq-Decides Decides-eqb c.as_slice.result.now c.args.places.now c.eq.result c.eq.ensures)
