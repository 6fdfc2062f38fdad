-- A clause without blocks leaves as many quantifiers to open.
use Rattle.std.specs.Prelude.{◌≡◌, List, [], ◌∷◌, ◌++◌, map}
use Rattle.std.specs.List.{Contains}
use Rattle.std.proofs.Common.{refl, sym, ap, ◌∙◌, append-nil}
use Rattle.std.proofs.lemmas.List.Concat.{flat_map-append}
use Rattle.ae_block_constants.specs.declared.opened.Opened.{Opened}
use Rattle.ae_block_counts.proofs.Blocks.{clause_blocks}
use Rattle.ae_block_counts.specs.Counts.{blocks_in, blocks_of, blocks_step, quantifiers_left, unseen_quantifiers}
use Rattle.ae_core.specs.declared.formulas.Formula.{Formula, Eq, Lt, para-roll-Formula}
use Rattle.ae_core.specs.declared.formulas.Formula.TheOpen as layer
use Rattle.ae_core.specs.declared.formulas.Formula.TheVariants.{rolls-Eq, rolls-Lt}
use Rattle.ae_core.specs.declared.formulas.Lit.{Lit}
use Rattle.ae_core.specs.declared.terms.Term.{Term}
use Rattle.ae_journal.proofs.Splits.{contains_here, contains_later}
use Rattle.ae_rules.specs.Clauses.{Clause}

-- an equation has no block
pub equation_blocks : (s t : Term) → blocks_of (Eq s t) ≡ []
unfolding blocks_of
equation_blocks s t = ap blocks_of (sym (rolls-Eq s t)) ∙ para-roll-Formula (List Formula) (Unit {0}) blocks_step (λ q. tt) (layer.Eq s t)

-- nor has an inequality
pub less_blocks : (s t : Term) → blocks_of (Lt s t) ≡ []
unfolding blocks_of
less_blocks s t = ap blocks_of (sym (rolls-Lt s t)) ∙ para-roll-Formula (List Formula) (Unit {0}) blocks_step (λ q. tt) (layer.Lt s t)

none_of_clause : (c : Clause) → ((l : Lit) → Contains c l → blocks_of l.formula ≡ []) → clause_blocks c ≡ []
none_of_clause [] h = refl
none_of_clause (l ∷ c) h = ap (λ (w : List Formula). w ++ clause_blocks c) (h l (contains_here l c)) ∙ none_of_clause c (λ m i. h m (contains_later l c m i))

module _ (clauses : List Clause) (c : Clause) (none : (l : Lit) → Contains c l → blocks_of l.formula ≡ []) where
  same_blocks : blocks_in (clauses ++ c ∷ []) ≡ blocks_in clauses
  same_blocks =
      flat_map-append clause_blocks clauses (c ∷ []) ∙ ap (λ (w : List Formula). blocks_in clauses ++ (w ++ [])) (none_of_clause c none) ∙ append-nil (blocks_in clauses)

  pub same_quantifiers : (opened : List Opened) → quantifiers_left opened (clauses ++ c ∷ []) ≡ quantifiers_left opened clauses
  same_quantifiers opened = ap (unseen_quantifiers (map (λ (o : Opened). o.formula) opened)) same_blocks
