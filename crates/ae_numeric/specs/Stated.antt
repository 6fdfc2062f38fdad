-- The products and sums of whole numbers that the checker states for a derived line and for an ending, of any size, in their order.
-- The keys of its forms are the numbers of opaque terms, in the order in which these first become keys.
use Rattle.std.specs.Prelude.{ℕ, zero, suc, ℤ, pos, neg_ℤ, Bool, true, false, cond, ◌&&◌, int_lt, unsigned_abs, List, [], ◌∷◌, ◌++◌, map, slice_get, Option, Some}
use Rattle.std.specs.List.{list_all}
use Rattle.std.specs.Ordering.{int_eq}
use Rattle.ae_base.specs.Decided.{pick}
use Rattle.ae_num.specs.Forms.{Step, plus_steps, scale_steps, sum_of, multiple_of, lowest}
use Rattle.ae_num.specs.declared.forms.Lin.{Lin}
use Rattle.ae_core.specs.Decided.{Term_discrete}
use Rattle.ae_core.specs.Sorts.{sort_of, same_numeric}
use Rattle.ae_base.specs.Options.{all_known, ◌>>=◌, or_else, when}
use Rattle.ae_rules.specs.Linear.{Rule, rule_of, opaque_term, sum_of as sum_rule, difference_of as difference_rule, negation_of as negation_rule, product_of as product_rule, quotient_of as quotient_rule}
use Rattle.ae_rules.specs.Lines.{Fact, equal, at_most, below, states}
use Rattle.ae_core.specs.declared.terms.Term.{Term, Term-F, Bound, Num, Fresh, Apply, para-Term}
use Rattle.ae_core.specs.declared.terms.Term.TheOpen as layer
use Rattle.ae_core.specs.declared.terms.Head.{Head}
use Rattle.ae_core.specs.declared.problems.Signature.{Signature}
use Rattle.ae_core.specs.declared.proofs.EqLine.{EqLine}
use Rattle.ae_core.specs.declared.proofs.EqLine.TheVariants.{EqLin, LeSum, LtSum, LeRound}
use Rattle.ae_core.specs.declared.proofs.Scaled.{Scaled}
use Rattle.ae_core.specs.declared.proofs.Relation.{Relation}
use Rattle.ae_core.specs.declared.proofs.Relation.TheVariants.{Equal, AtMost, Below}
use Rattle.ae_core.specs.declared.proofs.Ending.{Ending}
use Rattle.ae_core.specs.declared.proofs.Ending.TheVariants as ending

-- ---- keys
-- the place of a term among the keys; that of a new one is behind them
abbrev pub place_of : List Term → Term → ℕ
place_of [] t = zero
place_of (k ∷ ks) t = pick (Term_discrete k t) zero (suc (place_of ks t))

-- the keys with a term, a new one behind the others
abbrev pub with_key : List Term → Term → List Term
with_key [] t = t ∷ []
with_key (k ∷ ks) t = pick (Term_discrete k t) (k ∷ ks) (k ∷ with_key ks t)

-- ---- computations
-- the keys after a computation, the form that it gives, and what it stated
pub record Computed : Type 0 where
  pub keys : List Term
  pub form : Lin
  pub steps : List Step

-- from the keys before it
abbrev pub Computation : Type 0
Computation = List Term → Computed

-- a form that is known states nothing
abbrev pub known : Lin → Computation
known f ks = record { keys = ks; form = f; steps = [] }

-- the number 0
abbrev pub nought : Lin
nought = record { den = pos 1; parts = []; constant = pos 0 }

-- the number -1
abbrev pub minus_one : Lin
minus_one = record { den = pos 1; parts = []; constant = neg_ℤ (pos 1) }

-- the form that is one key
abbrev pub key_form : ℕ → Lin
key_form k = record { den = pos 1; parts = record { key = k; factor = pos 1 } ∷ []; constant = pos 0 }

-- an opaque term
abbrev pub opaque : Term → Computation
opaque t ks = record { keys = with_key ks t; form = key_form (place_of ks t); steps = [] }

-- a / b in lowest terms
abbrev pub numeral : ℤ → ℤ → Lin
numeral a b = lowest (record { den = b; parts = []; constant = a })

abbrev pub added : Computation → Computation → Computation
added a b ks =
    let x = a ks in
    let y = b x.keys in
    record { keys = y.keys; form = sum_of x.form y.form; steps = x.steps ++ y.steps ++ plus_steps x.form y.form }

-- times top / bottom
abbrev pub scaled : ℤ → ℤ → Computation → Computation
scaled top bottom a ks =
    let x = a ks in
    record { keys = x.keys; form = multiple_of top bottom x.form; steps = x.steps ++ scale_steps top bottom x.form }

-- the first, and the second times -1
abbrev pub subtracted : Computation → Computation → Computation
subtracted a b = added a (scaled (neg_ℤ (pos 1)) (pos 1) b)

-- it has no opaque part
abbrev pub is_number : Lin → Bool
is_number f = elim f.parts [ [] ↦ true | p ∷ ps ↦ false ]

-- one computation after another, of which a form is made
abbrev pub after : List Step → Computed → Computed
after steps c = record c { steps = steps ++ c.steps }

-- a product: both factors are computed, then the second times the first where that is a number, the first times the second where that
-- is one, and otherwise the product is opaque
abbrev pub multiplied : Term → Computation → Computation → Computation
multiplied whole a b ks =
    let x = a ks in
    let y = b x.keys in
    after (x.steps ++ y.steps)
    (cond (is_number x.form) (scaled x.form.constant x.form.den (known y.form) y.keys)
    (cond (is_number y.form) (scaled y.form.constant y.form.den (known x.form) y.keys) (opaque whole y.keys)))

-- the inverse of a / b, other than 0, with a positive bottom
abbrev pub inverse_top : Lin → ℤ
inverse_top n = cond (int_lt n.constant (pos 0)) (neg_ℤ n.den) n.den

abbrev pub inverse_bottom : Lin → ℤ
inverse_bottom n = pos (unsigned_abs n.constant)

-- a quotient is computed where it is by a numeral other than 0
abbrev pub divided_by : Term → Computation → Term → Computation
divided_by whole a (Num n d real) =
    cond (int_eq n (pos 0)) (opaque whole) (scaled (inverse_top (numeral n d)) (inverse_bottom (numeral n d)) a)
divided_by whole a _ = opaque whole

-- the computation of an application, of arguments that each stand with theirs, by the one table of the arithmetic that is computed
abbrev pub ruled : Term → Rule (Term × Computation) → Computation
ruled whole opaque_term = opaque whole
ruled whole (sum_rule a b) = added a.1 b.1
ruled whole (difference_rule a b) = subtracted a.1 b.1
ruled whole (negation_rule a) = scaled (neg_ℤ (pos 1)) (pos 1) a.1
ruled whole (product_rule a b) = multiplied whole a.1 b.1
ruled whole (quotient_rule a b) = divided_by whole a.1 b.0

abbrev pub applied : Term → Head → List (Term × Computation) → Computation
applied whole h args = ruled whole (rule_of h args)

abbrev pub computed_step : Term-F (Term × Computation) → Computation
computed_step (layer.Bound n) = opaque (Bound n)
computed_step (layer.Num a b real) = known (numeral a b)
computed_step (layer.Fresh n s) = opaque (Fresh n s)
computed_step (layer.Apply h ss args) = applied (Apply h ss (map (λ a. a.0) args)) h args

-- a term's form is computed from its parts, the left one first
unfoldable pub computed : Term → Computation
computed = para-Term Computation computed_step

-- ---- lines
-- left minus right
abbrev pub forward : Fact → Computation
forward f = subtracted (computed f.left) (computed f.right)

-- right minus left
abbrev pub backward : Fact → Computation
backward f = subtracted (computed f.right) (computed f.left)

-- the scaled differences, added from the first to the last
abbrev pub added_up : (Fact → Computation) → Computation → List (ℤ × Fact) → Computation
added_up gap so_far [] = so_far
added_up gap so_far (f ∷ fs) = added_up gap (added so_far (scaled f.0 (pos 1) (gap f.1))) fs

-- a line's own difference times its factor, and then the sum of the others, which begins with 0
abbrev pub sum_steps : (Fact → Computation) → ℤ → Fact → List (ℤ × Fact) → List Step
sum_steps gap d fact fs =
    let own = scaled d (pos 1) (gap fact) [] in
    own.steps ++ (added_up gap (known nought) fs own.keys).steps

-- a strict inequality of integers, less 1
abbrev pub taken_down : Relation → Computation → Computation
taken_down Below c = added c (known minus_one)
taken_down _ c = c

-- the inequality that is rounded, and then the one that it gives
abbrev pub round_steps : Fact → Fact → List Step
round_steps from to =
    let x = taken_down from.relation (backward from) [] in
    x.steps ++ (backward to x.keys).steps

-- what the earlier lines of these numbers state, with the factors; all numbers are those of earlier lines
abbrev pub facts_at : List EqLine → List Scaled → Option (List (ℤ × Fact))
facts_at earlier ps = all_known (map (λ p. slice_get earlier p.line >>= λ l. Some (p.factor, states l)) ps)

abbrev pub fact_at : List EqLine → ℕ → Option Fact
fact_at earlier k = slice_get earlier k >>= λ l. Some (states l)

abbrev pub is_equation : Fact → Bool
is_equation f = elim f.relation [ Equal ↦ true | AtMost ↦ false | Below ↦ false ]

abbrev pub is_inequality : Fact → Bool
is_inequality f = elim f.relation [ Equal ↦ false | AtMost ↦ true | Below ↦ true ]

-- the terms of both facts are of one numeric sort
abbrev pub of_one_sort : Signature → Fact → Fact → Bool
of_one_sort sig f g =
    same_numeric (sort_of sig f.left) (sort_of sig f.right) && same_numeric (sort_of sig f.left) (sort_of sig g.left)
    && same_numeric (sort_of sig f.left) (sort_of sig g.right)

-- what is stated of a thing, where it is there
abbrev pub steps_of : {A : Type 0} → Option A → (A → List Step) → List Step
steps_of o steps = or_else (o >>= λ x. Some (steps x)) []

-- the facts of the parts, where each is of the kind and all terms, those of the line too, are of one numeric sort
abbrev pub fitting : Signature → List EqLine → (Fact → Bool) → Fact → List Scaled → Option (List (ℤ × Fact))
fitting sig earlier kind fact ps =
    facts_at earlier ps >>= λ fs. when (list_all (λ f. kind f.1) fs && of_one_sort sig fact fact && list_all (λ f. of_one_sort sig fact f.1) fs) fs

-- the fact of an earlier line, where it is of the kind and its terms and those of another fact are of one numeric sort
abbrev pub fitting_fact : Signature → List EqLine → (Fact → Bool) → Fact → ℕ → Option Fact
fitting_fact sig earlier kind fact k = fact_at earlier k >>= λ f. when (kind f && of_one_sort sig fact f) f

-- the fact of a line, where it is of the kind and its terms are of one numeric sort
abbrev pub numeric_fact : Signature → List EqLine → (Fact → Bool) → ℕ → Option Fact
numeric_fact sig lines kind k = fact_at lines k >>= λ f. when (kind f && of_one_sort sig f f) f

abbrev pub sum_line_steps : Signature → List EqLine → (Fact → Bool) → (Fact → Computation) → ℤ → Fact → List Scaled → List Step
sum_line_steps sig earlier kind gap d fact ps = steps_of (fitting sig earlier kind fact ps) (sum_steps gap d fact)

-- what a derived line states after the earlier ones: nothing but where its numbers are those of lines of the kind that it needs, and its terms are of one numeric sort
abbrev pub line_steps : Signature → List EqLine → EqLine → List Step
line_steps sig earlier (EqLin s t d ps) = sum_line_steps sig earlier is_equation forward d (equal s t) ps
line_steps sig earlier (LeSum s t d ps) = sum_line_steps sig earlier (λ f. true) backward d (at_most s t) ps
line_steps sig earlier (LtSum s t d ps) = sum_line_steps sig earlier (λ f. true) backward d (below s t) ps
line_steps sig earlier (LeRound s t k) = steps_of (fitting_fact sig earlier is_inequality (at_most s t) k) (λ f. round_steps f (at_most s t))
line_steps sig earlier _ = []

-- what an ending states: the difference that it speaks of
abbrev pub ending_steps : Signature → List EqLine → Ending → List Step
ending_steps sig lines (ending.Const k) = steps_of (numeric_fact sig lines is_equation k) (λ f. (forward f []).steps)
ending_steps sig lines (ending.Zero k) = steps_of (numeric_fact sig lines is_inequality k) (λ f. (backward f []).steps)
ending_steps sig lines (ending.Gcd k) = steps_of (numeric_fact sig lines is_equation k) (λ f. (forward f []).steps)
ending_steps sig lines _ = []
