-- In a model the clause of each allowed block holds: its hypotheses can't all hold.
use Rattle.std.specs.Prelude.{ℕ, Bool, true, false, not, List, [], ◌∷◌, ◌≡◌, map}
use Rattle.std.specs.List.{list_all}
use Rattle.std.proofs.Common.{refl, sym, ap, ◌∙◌, true≢false, ⊎_elim}
use Rattle.std.proofs.lemmas.Bool.{not-true}
use Rattle.std.proofs.lemmas.Option.{none-some}
use Rattle.ae_rules.specs.Lines.{Fact, equal, fact_ok, Among, Stated, Equated, AllAllowed, Follows}
use Rattle.ae_rules.specs.Clauses.{opposite}
use Rattle.ae_rules.specs.Derivations.{Ends, IsContradictory}
use Rattle.ae_rules.specs.Valuations.{literal_holds, clause_holds, Means, Respects, IsModel}
use Rattle.ae_core.specs.declared.terms.Term.{Term, Apply}
use Rattle.ae_core.specs.declared.formulas.Formula.{Formula, Eq, Lt, Le, Pred}
use Rattle.ae_core.specs.declared.formulas.Lit.{Lit}
use Rattle.ae_core.specs.declared.problems.Signature.{Signature}
use Rattle.ae_core.specs.declared.proofs.EqLine.{EqLine}
use Rattle.ae_core.specs.declared.proofs.Ending.{Ending}
use Rattle.ae_core.specs.declared.proofs.Ending.TheVariants as ending
use Rattle.ae_core.specs.declared.proofs.Block.{Block as BlockOf}
use Rattle.ae_rules.proofs.Bridge.{all_follow}
use Rattle.ae_core.proofs.SortFacts.{numeric_turned}
use Rattle.ae_rules.proofs.Respects.{follows_ok, respects}
use Rattle.ae_rules.proofs.Propagation.{opposites_deny}
use Rattle.ae_base.proofs.Tests.{turned, not_where}
use Rattle.ae_base.proofs.ListFacts.{list_all_at}

module _ {V : Type 0} (sig : Signature) (v : Formula → Bool) (ev : Term → V) (le lt : V → V → Bool) (model : IsModel sig v ev le lt) (hyps : List Lit) (all : list_all (literal_holds v) hyps ≡ true) where
  holds : (sign : Bool) (f : Formula) → Among hyps (record { positive = sign; formula = f }) → literal_holds v (record { positive = sign; formula = f }) ≡ true
  holds sign f h = list_all_at (literal_holds v) hyps h.0 _ all h.1

  -- a model respects hypotheses that hold
  respects_hyps : Respects sig (fact_ok sig) (Among hyps) ev le lt
  respects_hyps =
      record {
        hyp = λ s t h o. model.equal_if s t o (holds true (Eq s t) h);
        le_hyp = λ s t h o. ⊎_elim (λ a. sym (model.at_most_is s t o) ∙ holds true (Le s t) a) (λ a. turned _ _ (model.total s t o) (sym (model.below_is t s (numeric_turned sig s t o)) ∙ not-true _ (holds false (Lt t s) a))) h;
        lt_hyp = λ s t h o. ⊎_elim (λ a. sym (model.below_is s t o) ∙ holds true (Lt s t) a) (λ a. model.total t s (numeric_turned sig s t o) ∙ ap not (sym (model.at_most_is t s (numeric_turned sig s t o))) ∙ holds false (Le t s) a) h;
        rules = model.rules;
      }

  module _ (lines : List EqLine) (allowed : AllAllowed sig (fact_ok sig) hyps [] lines) where
    known : (k : ℕ) (f : Fact) → Stated lines k f → Follows sig (fact_ok sig) (Among hyps) f
    known k f at = all_follow sig (fact_ok sig) hyps [] lines (λ j g e. absurd (none-some g e)) allowed k f at

    meant : (k : ℕ) (f : Fact) → Stated lines k f → Means ev le lt f
    meant k f at = respects sig (fact_ok sig) (Among hyps) ev le lt respects_hyps (known k f at)

    equated : (ks : List ℕ) (us ws : List Term) → Equated lines ks us ws → map ev us ≡ map ev ws
    equated [] [] [] e = refl
    equated (k ∷ ks) (u ∷ us) (w ∷ ws) e = λ i. meant k (equal u w) e.0 i ∷ equated ks us ws e.1 i
    equated [] [] (w ∷ ws) e = absurd e
    equated [] (u ∷ us) ws e = absurd e
    equated (k ∷ ks) [] ws e = absurd e
    equated (k ∷ ks) (u ∷ us) [] e = absurd e

    no_end : (e : Ending) → Ends sig hyps lines e → ⊥
    no_end (ending.Neq k i) (s, t, at, given) =
        true≢false (sym (model.if_equal s t (follows_ok (known k (equal s t) at)) (meant k (equal s t) at)) ∙ not-true _ (holds false (Eq s t) (i, given)))
    no_end (ending.Const k) (s, t, at, o, c, n) = model.const s t o c n (meant k (equal s t) at)
    no_end (ending.Clash k) (h, i, at, x, y, n) =
        let f = equal (Apply h [] []) (Apply i [] []) in
        model.clash h i (follows_ok (known k f at)) x y n (meant k f at)
    no_end (ending.Pred i j ks) (p, ss, us, ws, a, b, e) =
        true≢false (sym (holds true (Pred p ss us) (i, a)) ∙ model.pred p ss us ws (equated ks us ws e) ∙ not-true _ (holds false (Pred p ss ws) (j, b)))
    no_end (ending.Zero k) (f, at, o, c, n) = model.zero f o c n (meant k f at)
    no_end (ending.Gcd k) (s, t, at, a, n) = model.gcd s t a n (meant k (equal s t) at)

-- the clause of an allowed block holds in each model
pub block_holds : {V : Type 0} (sig : Signature) (v : Formula → Bool) (ev : Term → V) (le lt : V → V → Bool) → IsModel sig v ev le lt → (b : BlockOf) → IsContradictory sig b → clause_holds v (map opposite b.deriv.hyps) ≡ true
block_holds sig v ev le lt model b k =
    opposites_deny v b.deriv.hyps ∙ not_where (list_all (literal_holds v) b.deriv.hyps) (λ all. no_end sig v ev le lt model b.deriv.hyps all b.deriv.lines k.0 b.ending k.1)
