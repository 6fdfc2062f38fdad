use Rattle.std.proofs.Common.{◌≡◌, ◌∙◌, ◌-◌, ◌++◌, ◌∷◌, [], ℕ, List, length, map, true, false, sym, subst}
use Rattle.ae_core.specs.declared.formulas.Lit.{Lit}
use Rattle.ae_core.specs.declared.proofs.Ending.TheVariants.{Neq}
use Rattle.std.specs.List.{AllByRecursion}
use Rattle.ae_rules.specs.Built.{IsBuiltEquation}
use Rattle.ae_rules.specs.Derivations.{IsContradictory, clause_ok}
use Rattle.ae_theory.specs.Noting.{IsBlockOf}
use Rattle.ae_theory.specs.Names.{terms_in}
use Rattle.ae_theory.specs.Classes.{tagged}
use Rattle.ae_theory.specs.Inner.Hops.{AreHypotheses, lit_of, tag_of, Shows}
use Rattle.ae_theory.proofs.Ways.{block_shows}
use Rattle.ae_theory.proofs.explaining.block_of.Goals as goal

pub returns : goal.returns
returns c xs x n at stands edge path =
    let sig = c.args.store.now.signature in
    let names = terms_in c.args.store.now in
    let nodes = c.args.nodes.now in
    let hops = c.args.hops.now in
    let lines = c.in_ok-lines.lines in
    let hs : List Lit = map (lit_of nodes) hops ++ lit_of nodes (record { node = c.args.number; turned = false }) ∷ [] in
    let ts : List ℕ = map (tag_of nodes) hops ++ tag_of nodes (record { node = c.args.number; turned = false }) ∷ [] in
    let given : c.as_slice.result.now ≡ hs = c.as_slice.ensures ∙ c.in_ok-hyps.ensures in
    let b = block_shows c.args.store.now nodes xs c.args.from n c.args.number hops x lines c.requires.fits at stands edge path (λ sort s t g p q r.
    subst (λ (w : List Lit). Shows sig names w lines s t) given (c.in_ok-lines.ensures.shows xs n sort s t path (subst (AreHypotheses nodes hops) (sym given) g) p q r)) in
    subst (λ (k : ℕ). IsContradictory sig (record { deriv = record { hyps = c.in_ok-hyps.hyps; lines = lines }; ending = Neq (k - 1) (length hops) }) × (clause_ok sig c.in_ok-hyps.hyps ≡ true)
    × IsBlockOf (map tagged xs) c.in_ok-hyps.hyps c.in_ok-tags.tags × AllByRecursion (IsBuiltEquation sig names) lines) (sym c.len-count.ensures)
    (subst (λ (h : List Lit). IsContradictory sig (record { deriv = record { hyps = h; lines = lines }; ending = Neq (length lines - 1) (length hops) }) × (clause_ok sig h ≡ true) × IsBlockOf (map tagged xs) h c.in_ok-tags.tags × AllByRecursion (IsBuiltEquation sig names) lines)
    (sym c.in_ok-hyps.ensures)
    (subst (λ (w : List ℕ). IsContradictory sig (record { deriv = record { hyps = hs; lines = lines }; ending = Neq (length lines - 1) (length hops) }) × (clause_ok sig hs ≡ true) × IsBlockOf (map tagged xs) hs w × AllByRecursion (IsBuiltEquation sig names) lines)
    (sym c.in_ok-tags.ensures) b))
