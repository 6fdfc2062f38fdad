-- The blocks of formulas, and how many quantifiers those have that weren't opened.
use Rattle.std.specs.Prelude.{ℕ, suc, ◌+◌, Bool, cond, List, [], ◌∷◌, ◌++◌, map}
use Rattle.std.specs.List.{flat_map, list_any}
use Rattle.ae_base.specs.Decided.{decided}
use Rattle.ae_block_constants.specs.declared.opened.Opened.{Opened}
use Rattle.ae_core.specs.Decided.{Formula_discrete}
use Rattle.ae_core.specs.declared.formulas.Formula.{Formula, Formula-F, All, Ex, fold-Formula, para-Formula}
use Rattle.ae_core.specs.declared.formulas.Formula.TheOpen as layer
use Rattle.ae_core.specs.declared.formulas.Lit.{Lit}
use Rattle.ae_core.specs.declared.formulas.Quant.{Quant}
use Rattle.ae_rules.specs.Clauses.{Clause}

-- the quantifiers of a formula, those inside others included
abbrev pub quantifiers_step : Formula-F ℕ ℕ → ℕ
quantifiers_step layer.True = 0
quantifiers_step layer.False = 0
quantifiers_step (layer.Eq s t) = 0
quantifiers_step (layer.Lt s t) = 0
quantifiers_step (layer.Le s t) = 0
quantifiers_step (layer.Pred p ss us) = 0
quantifiers_step (layer.Not a) = a
quantifiers_step (layer.And a b) = a + b
quantifiers_step (layer.Or a b) = a + b
quantifiers_step (layer.Xor a b) = a + b
quantifiers_step (layer.Iff a b) = a + b
quantifiers_step (layer.All q) = q
quantifiers_step (layer.Ex q) = q

unfoldable pub quantifiers : Formula → ℕ
quantifiers = fold-Formula ℕ ℕ quantifiers_step (λ q. suc q.body)

-- the blocks of a formula, those inside others left out
abbrev pub blocks_step : Formula-F (Formula × List Formula) (Quant × Unit {0}) → List Formula
blocks_step layer.True = []
blocks_step layer.False = []
blocks_step (layer.Eq s t) = []
blocks_step (layer.Lt s t) = []
blocks_step (layer.Le s t) = []
blocks_step (layer.Pred p ss us) = []
blocks_step (layer.Not a) = a.1
blocks_step (layer.And a b) = a.1 ++ b.1
blocks_step (layer.Or a b) = a.1 ++ b.1
blocks_step (layer.Xor a b) = a.1 ++ b.1
blocks_step (layer.Iff a b) = a.1 ++ b.1
blocks_step (layer.All q) = All q.0 ∷ []
blocks_step (layer.Ex q) = Ex q.0 ∷ []

unfoldable pub blocks_of : Formula → List Formula
blocks_of = para-Formula (List Formula) (Unit {0}) blocks_step (λ q. tt)

-- those of the literals of clauses
abbrev pub blocks_in : List Clause → List Formula
blocks_in cs = flat_map (λ c. flat_map (λ (l : Lit). blocks_of l.formula) c) cs

-- one of the formulas
abbrev pub is_among : List Formula → Formula → Bool
is_among hs f = list_any (λ h. decided (Formula_discrete h f)) hs

-- the quantifiers of the different formulas of a list that aren't among those that were seen
abbrev pub unseen_quantifiers : List Formula → List Formula → ℕ
unseen_quantifiers seen [] = 0
unseen_quantifiers seen (f ∷ fs) = cond (is_among seen f) (unseen_quantifiers seen fs) (quantifiers f + unseen_quantifiers (f ∷ seen) fs)

-- those of the different blocks of the clauses that weren't opened
abbrev pub quantifiers_left : List Opened → List Clause → ℕ
quantifiers_left opened clauses = unseen_quantifiers (map (λ (o : Opened). o.formula) opened) (blocks_in clauses)
