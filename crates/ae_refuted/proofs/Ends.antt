-- Lines that end with the empty clause are a derivation.
use Rattle.std.specs.Prelude.{ℕ, List, [], ◌∷◌, ◌++◌, ◌≡◌, slice_get, Option, Some}
use Rattle.std.proofs.Common.{sym, ap, ◌∙◌, subst}
use Rattle.std.proofs.lemmas.List.{reverse-append}
use Rattle.ae_base.specs.Options.{◌>>=◌}
use Rattle.ae_core.specs.declared.problems.Problem.{Problem}
use Rattle.ae_core.specs.declared.proofs.ClauseLine.{ClauseLine}
use Rattle.ae_core.specs.declared.proofs.ClauseLine.TheVariants.{Rup}
use Rattle.ae_core.specs.declared.proofs.Proof.{Proof}
use Rattle.ae_rules.specs.Derivations.{AreAllowed, Derives, last_of, conclusion}
use Rattle.ae_sat.specs.Search.{EndsEmpty}

last_is : (before : List ClauseLine) (l : ClauseLine) → last_of (before ++ l ∷ []) ≡ Some l
last_is before l = ap (λ (ls : List ClauseLine). slice_get ls 0) (reverse-append before (l ∷ []))

pub derives_so : (p : Problem) (g : ℕ) (proof : Proof) (ls : List ClauseLine) → proof.lines ≡ ls → AreAllowed p g [] ls → EndsEmpty ls → Derives p g proof
derives_so p g proof ls is a e = record {
  allowed = subst (AreAllowed p g []) (sym is) a;
  empty = ap (λ (zs : List ClauseLine). last_of zs >>= conclusion p g) (is ∙ e.2) ∙ ap (λ (o : Option ClauseLine). o >>= conclusion p g) (last_is e.0 (Rup [] e.1));
}
