-- Hypotheses with their tags, one list after another.
use Rattle.std.specs.Prelude.{ℕ, List, [], ◌∷◌, ◌++◌}
use Rattle.ae_core.specs.declared.formulas.Lit.{Lit}
use Rattle.ae_theory.specs.Tagged.{Tagged}
use Rattle.ae_theory.specs.Noting.{IsBlockOf}

pub both_blocks : (assumed : List Tagged) (ls : List Lit) (ks : List ℕ) (ms : List Lit) (ns : List ℕ) → IsBlockOf assumed ls ks → IsBlockOf assumed ms ns → IsBlockOf assumed (ls ++ ms) (ks ++ ns)
both_blocks assumed [] [] ms ns a b = b
both_blocks assumed [] (k ∷ ks) ms ns a b = absurd a
both_blocks assumed (l ∷ ls) [] ms ns a b = absurd a
both_blocks assumed (l ∷ ls) (k ∷ ks) ms ns a b = (a.0, both_blocks assumed ls ks ms ns a.1 b)
