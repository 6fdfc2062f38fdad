-- The lines of a derivation that goes on from the first lines by lines over their formulas and over the names are lines of a ground proof.
use Rattle.std.specs.Prelude.{ℕ, List, [], ◌∷◌, ◌++◌, ◌≡◌, map, Some}
use Rattle.std.specs.List.{AllByRecursion, Contains}
use Rattle.std.proofs.Common.{sym, subst}
use Rattle.ae_base.specs.Options.{◌>>=◌}
use Rattle.ae_base.specs.Relations.{Pairwise}
use Rattle.ae_base.proofs.AllOf.{all_append, all_back, all_both, all_weaker}
use Rattle.ae_base.proofs.Options.{bind_some}
use Rattle.ae_core.specs.Signatures.{IsLawful}
use Rattle.ae_core.specs.Sorts.{sort_of}
use Rattle.ae_core.specs.declared.formulas.Formula.{Formula}
use Rattle.ae_core.specs.declared.formulas.Lit.{Lit}
use Rattle.ae_core.specs.declared.problems.Signature.{Signature}
use Rattle.ae_core.specs.declared.problems.Problem.{Problem}
use Rattle.ae_core.specs.declared.proofs.EqLine.{EqLine}
use Rattle.ae_core.specs.declared.proofs.Relation.TheVariants.{Equal}
use Rattle.ae_core.specs.declared.proofs.ClauseLine.{ClauseLine}
use Rattle.ae_core.specs.declared.proofs.ClauseLine.TheVariants.{Hyp, Goal, Def, Inst, Fresh as FreshLine, Exh, Tri, Block, Rup}
use Rattle.ae_core.specs.declared.proofs.Proof.{Proof}
use Rattle.ae_core.specs.declared.terms.Sort.{out-Sort}
use Rattle.ae_core.specs.declared.terms.Term.{Term}
use Rattle.ae_rules.specs.Built.{IsBuiltEquation}
use Rattle.ae_rules.specs.Clauses.{Clause}
use Rattle.ae_rules.specs.Derivations.{IsAllowed, AreAllowed, Derives}
use Rattle.ae_rules.specs.Instances.{choices_of}
use Rattle.ae_rules.specs.Lines.{AllAllowed, fact_ok, states}
use Rattle.ae_rules.proofs.SortedLines.{states_clause}
use Rattle.ae_journal.specs.Ground.{IsGround, MayStand, IsGroundEquation, IsGroundLine, IsGroundProof}
use Rattle.ae_journal.proofs.Splits.{all_contained}
use Rattle.ae_store.specs.Stores.{Stored}
use Rattle.ae_theory.specs.Names.{terms_in}
use Rattle.ae_sat.specs.Lines.{AddsEquationsOver, IsBuiltLine, IsLineOver, StatesEquations}
use Rattle.ae_first_clauses.specs.First.{IsFirstLine, a_hypothesis, the_goal, the_block, States}
use Rattle.ae_open_states.proofs.Choices.{choice}
use Rattle.ae_choice_clauses.specs.Choices.{IsChoiceLine, a_choice, StatesChoice}
use Rattle.ae_ground_laws.specs.Terms.{AreGroundNames}
use Rattle.ae_ground_laws.proofs.Built.{line_ground}
use Rattle.ae_ground_laws.proofs.Fragment.{row_ground}

module _ (p : Problem) (g : ℕ) where
  -- ---- the first lines
  first_line : (l : ClauseLine) (c : Clause) → IsFirstLine p g l c → IsGroundLine p g l
  first_line _ _ (a_hypothesis k f e) = tt
  first_line _ _ (the_goal f e) = tt
  first_line _ _ (the_block q e) = e

  pub first_lines : (ls : List ClauseLine) (cs : List Clause) → Pairwise (States p g) ls cs → AllByRecursion (IsGroundLine p g) ls
  first_lines [] [] h = tt
  first_lines (l ∷ ls) (c ∷ cs) h = (first_line l c h.0.0, first_lines ls cs h.1)
  first_lines [] (c ∷ cs) h = absurd h
  first_lines (l ∷ ls) [] h = absurd h

  -- the lines of enumerations, of names of the fragment
  choice_line : (ts : List Term) → AreGroundNames p.signature ts → (l : ClauseLine) (c : Clause) → IsChoiceLine p.signature ts l c → IsGroundLine p g l
  choice_line ts names _ _ (a_choice t c h e) =
      let s = bind_some (sort_of p.signature t) (λ s. choices_of p.signature (out-Sort s) >>= λ hs. Some (map (choice t) hs)) c e in
      (names t h).1 s.0 s.1

  pub choice_lines : (ts : List Term) → AreGroundNames p.signature ts → (ls : List ClauseLine) (cs : List Clause) → Pairwise (StatesChoice p g ts) ls cs → AllByRecursion (IsGroundLine p g) ls
  choice_lines ts names [] [] h = tt
  choice_lines ts names (l ∷ ls) (c ∷ cs) h = (choice_line ts names l c h.0.0, choice_lines ts names ls cs h.1)
  choice_lines ts names [] (c ∷ cs) h = absurd h
  choice_lines ts names (l ∷ ls) [] h = absurd h

  -- ---- each line of a derivation is allowed after some lines
  abbrev IsAllowedSomewhere : ClauseLine → Type 0
  IsAllowedSomewhere l = (earlier : List ClauseLine) × IsAllowed p g earlier l

  each_allowed : (earlier ls : List ClauseLine) → AreAllowed p g earlier ls → AllByRecursion IsAllowedSomewhere ls
  each_allowed earlier [] a = tt
  each_allowed earlier (l ∷ ls) a = ((earlier, a.0), each_allowed (earlier ++ l ∷ []) ls a.1)

  -- ---- lines over formulas that may stand, and over names of the fragment
  module _ (law : IsLawful p.signature) (ground : IsGround p g) (s : Stored) (same : s.signature ≡ p.signature) (names : AreGroundNames p.signature (terms_in s))
      (fs : List Formula) (stand : AllByRecursion (MayStand p g) fs) where
    stands : (f : Formula) → Contains fs f → MayStand p g f
    stands f h = all_contained (MayStand p g) fs f stand h

    literals_stand : (c : Clause) → AllByRecursion (λ (l : Lit). Contains fs l.formula) c → AllByRecursion (λ (l : Lit). MayStand p g l.formula) c
    literals_stand c a = all_weaker (λ (l : Lit). Contains fs l.formula) (λ (l : Lit). MayStand p g l.formula) (λ l h. stands l.formula h) c a

    equations_ground : (hyps : List Lit) (earlier ls : List EqLine) → AllAllowed p.signature (fact_ok p.signature) hyps earlier ls → AllByRecursion (IsBuiltLine s.signature (terms_in s)) ls
        → AllByRecursion (λ (l : EqLine). (states l).relation ≡ Equal) ls → AllByRecursion (IsGroundEquation p.signature) ls
    equations_ground hyps earlier [] a b e = tt
    equations_ground hyps earlier (l ∷ ls) a b e =
        let one : IsBuiltEquation s.signature (terms_in s) l = record { equation = e.0; left = b.0.left; right = b.0.right; factors = b.0.factors } in (
          line_ground p.signature law (terms_in s) names l a.0.0 (subst (λ (sig : Signature). IsBuiltEquation sig (terms_in s) l) same one),
          equations_ground hyps (earlier ++ l ∷ []) ls a.1 b.1 e.1,
        )

    over_ground : (l : ClauseLine) → IsLineOver s fs l × StatesEquations l → IsAllowedSomewhere l → IsGroundLine p g l
    over_ground (Def r f) i a = let c = a.1.0 in row_ground p g ground r f c.0 (stands f i.0) (states_clause p g (Def r f) c.0 c.1).1
    over_ground (Block b) i a = record {
      hyps = literals_stand b.deriv.hyps i.0.hyps;
      lines = equations_ground b.deriv.hyps [] b.deriv.lines a.1.1.0 i.0.lines i.1;
    }
    over_ground (Rup c ks) i a = literals_stand c i.0
    over_ground (Hyp k ss) i a = tt
    over_ground Goal i a = tt
    over_ground (Inst f ts) i a = absurd i.0
    over_ground (FreshLine f m) i a = absurd i.0
    over_ground (Exh t) i a = absurd i.0
    over_ground (Tri u t) i a = absurd i.0

    pub derived_ground : (firsts : List ClauseLine) (proof : Proof) → AllByRecursion (IsGroundLine p g) firsts → AddsEquationsOver s fs firsts proof.lines → Derives p g proof → IsGroundProof p g proof
    derived_ground firsts proof first (added, is, over) d = record {
      derives = d;
      lines = subst (AllByRecursion (IsGroundLine p g)) (sym is)
          (all_append (IsGroundLine p g) firsts added first
          (all_both (λ (l : ClauseLine). IsLineOver s fs l × StatesEquations l) IsAllowedSomewhere (IsGroundLine p g) over_ground added over
          (all_back IsAllowedSomewhere firsts added (subst (AllByRecursion IsAllowedSomewhere) is (each_allowed [] proof.lines d.allowed)))));
    }
