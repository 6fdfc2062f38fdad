-- What the lines of a derivation state is closed and well sorted.
use Rattle.std.specs.Prelude.{ℕ, ◌≡◌, Bool, true, ◌&&◌, List, [], ◌∷◌, ◌++◌}
use Rattle.std.specs.List.{list_all}
use Rattle.std.proofs.Common.{refl, sym, ap, ◌∙◌}
use Rattle.std.proofs.lemmas.Bool.{and_parts, and_from}
use Rattle.ae_base.specs.Options.{known}
use Rattle.ae_base.proofs.Options.{only_some}
use Rattle.ae_core.specs.Sorts.{is_closed_sort, sort_of, term_ok, same_known, same_numeric}
use Rattle.ae_core.proofs.SortFacts.{same_known_is, numeric_known}
use Rattle.ae_rules.specs.Derivations.{clause_ok, formula_stands, clause_stands, clause_of, line_ok, Meets, AreAllowed, Derives}
use Rattle.ae_rules.specs.Instances.{hypothesis, exhaustion}
use Rattle.ae_rules.specs.Lines.{Fact, fact_ok, states, AllAllowed}
use Rattle.ae_core.specs.declared.formulas.Lit.{Lit}
use Rattle.ae_core.specs.declared.problems.Problem.{Problem}
use Rattle.ae_core.specs.declared.problems.Signature.{Signature}
use Rattle.ae_core.specs.declared.proofs.EqLine.{EqLine}
use Rattle.ae_core.specs.declared.proofs.ClauseLine.{ClauseLine}
use Rattle.ae_core.specs.declared.proofs.ClauseLine.TheVariants.{Hyp, Goal, Def, Inst, Fresh, Exh, Tri, Block, Rup}
use Rattle.ae_core.specs.declared.proofs.Proof.{Proof}
use Rattle.ae_core.specs.declared.proofs.Relation.{Relation}
use Rattle.ae_core.specs.declared.proofs.Relation.TheVariants.{Equal, AtMost, Below}
use Rattle.ae_legal_texts.specs.Writable.{derived_sorted, line_sorted}

module _ (sig : Signature) where
  same_sorted : (f : Fact) → same_known (sort_of sig f.left) (sort_of sig f.right) ≡ true → term_ok sig f.left && term_ok sig f.right ≡ true
  same_sorted f h = let s = same_known_is (sort_of sig f.left) (sort_of sig f.right) h in and_from (term_ok sig f.left) (term_ok sig f.right) s.0 (ap known (sym s.1) ∙ s.0)

  abbrev tested : Fact → Relation → Bool
  tested f r =
      elim r [
        | Equal ↦ same_known (sort_of sig f.left) (sort_of sig f.right)
        | AtMost ↦ same_numeric (sort_of sig f.left) (sort_of sig f.right)
        | Below ↦ same_numeric (sort_of sig f.left) (sort_of sig f.right)
      ]

  by_relation : (f : Fact) (r : Relation) → f.relation ≡ r → fact_ok sig f ≡ true → term_ok sig f.left && term_ok sig f.right ≡ true
  by_relation f Equal q h = same_sorted f (sym (ap (tested f) q) ∙ h)
  by_relation f AtMost q h = same_sorted f (numeric_known (sort_of sig f.left) (sort_of sig f.right) (sym (ap (tested f) q) ∙ h))
  by_relation f Below q h = same_sorted f (numeric_known (sort_of sig f.left) (sort_of sig f.right) (sym (ap (tested f) q) ∙ h))

  facts_sorted : (hyps : List Lit) (earlier ls : List EqLine) → AllAllowed sig (fact_ok sig) hyps earlier ls → list_all (derived_sorted sig) ls ≡ true
  facts_sorted hyps earlier [] h = refl
  facts_sorted hyps earlier (l ∷ ls) h =
      and_from (derived_sorted sig l) (list_all (derived_sorted sig) ls) (by_relation (states l) (states l).relation refl h.0.0) (facts_sorted hyps (earlier ++ l ∷ []) ls h.1)

module _ (p : Problem) (g : ℕ) where
  allowed_sorted : (earlier : List ClauseLine) (l : ClauseLine) → line_ok p g l ≡ true → Meets p g earlier l → line_sorted p.signature l ≡ true
  allowed_sorted earlier (Hyp k ss) o m = (and_parts (list_all (is_closed_sort p.signature) ss) (formula_stands p.signature (hypothesis p g k ss)) o).0
  allowed_sorted earlier Goal o m = refl
  allowed_sorted earlier (Def r f) o m = o
  allowed_sorted earlier (Inst f ts) o m = o
  allowed_sorted earlier (Fresh f n) o m = o
  allowed_sorted earlier (Exh t) o m = (and_parts (term_ok p.signature t) (clause_stands p.signature (exhaustion p.signature t)) o).0
  allowed_sorted earlier (Tri s t) o m = o
  allowed_sorted earlier (Block b) o m = and_from (clause_ok p.signature b.deriv.hyps) (list_all (derived_sorted p.signature) b.deriv.lines) o (facts_sorted p.signature b.deriv.hyps [] b.deriv.lines m.0)
  allowed_sorted earlier (Rup c ks) o m = o

  lines_sorted : (earlier ls : List ClauseLine) → AreAllowed p g earlier ls → list_all (line_sorted p.signature) ls ≡ true
  lines_sorted earlier [] h = refl
  lines_sorted earlier (l ∷ ls) h =
      let a = h.0 in
      and_from (line_sorted p.signature l) (list_all (line_sorted p.signature) ls) (allowed_sorted earlier l (only_some (line_ok p g l) (clause_of p g l) (a.0).0 (a.0).1).0 a.1) (lines_sorted (earlier ++ l ∷ []) ls h.1)

pub derivation_sorted : (p : Problem) (g : ℕ) (proof : Proof) → Derives p g proof → list_all (line_sorted p.signature) proof.lines ≡ true
derivation_sorted p g proof d = lines_sorted p g [] proof.lines d.allowed
