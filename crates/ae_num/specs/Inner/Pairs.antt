-- The parts of two forms key by key, and the parts that are made of them.
use Rattle.std.specs.Prelude.{ℕ, ℤ, pos, ◌*ℤ◌, ◌+ℤ◌, List, [], ◌∷◌, ◌++◌, map}
use lib.IntN.{ℤ_discrete}
use Rattle.ae_base.specs.Decided.{pick}
use Rattle.ae_num.specs.declared.forms.Part.{Part}
use Rattle.ae_num.specs.declared.pairs.Pair.{Pair}
use Rattle.ae_num.specs.declared.sums.Combination.{Combination}
use Rattle.ae_num.specs.declared.sums.Combination.TheVariants.{Sum as SumRule, Substitution, Multiple}
use Rattle.ae_num.specs.Forms.{Step, Product, crossed, factor_of, keys_of}

-- a key with its factors in two forms
abbrev pub pair_at : List Part → List Part → ℕ → Pair
pair_at ps qs key = record { key = key; left = factor_of ps key; right = factor_of qs key }

abbrev pub pairs_of : List Part → List Part → List Pair
pairs_of ps qs = map (pair_at ps qs) (keys_of ps qs)

-- a part before others, where its factor isn't 0
abbrev pub kept : Part → List Part → List Part
kept p ps = pick (ℤ_discrete p.factor (pos 0)) ps (p ∷ ps)

-- the parts whose factors a function makes of two factors
abbrev pub combined : (ℤ → ℤ → ℤ) → List Pair → List Part
combined f [] = []
combined f (r ∷ rs) = kept (record { key = r.key; factor = f r.left r.right }) (combined f rs)

-- the number that a rule makes of two
abbrev pub outcome_of : Combination → ℤ → ℤ → ℤ
outcome_of (SumRule by other) a b = a *ℤ by +ℤ b *ℤ other
outcome_of (Substitution by factor) a b = a *ℤ by +ℤ factor *ℤ b
outcome_of (Multiple by) a b = a *ℤ by

-- the products and the sum that it states
abbrev pub steps_of : Combination → ℤ → ℤ → List Step
steps_of (SumRule by other) a b = crossed a by b other
steps_of (Substitution by factor) a b = crossed a by factor b
steps_of (Multiple by) a b = Product a by ∷ []

abbrev pub all_steps : Combination → List Pair → List Step
all_steps m [] = []
all_steps m (r ∷ rs) = steps_of m r.left r.right ++ all_steps m rs
