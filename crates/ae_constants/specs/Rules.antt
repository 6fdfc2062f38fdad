-- The program's rules of computed arithmetic, as those of the calculus.
use Rattle.std.specs.Prelude.{ℕ, ◌<◌, ◌≡◌, Bool, List}
use Rattle.ae_core.specs.declared.terms.Sort.{Sort}
use Rattle.ae_core.specs.declared.terms.Term.{Term, Num, Fresh, Apply}
use Rattle.ae_rules.specs.Linear.{Rule}
use Rattle.ae_rules.specs.Linear.Rule.{opaque_term, sum_of, difference_of, negation_of, product_of, quotient_of}
use Rattle.ae_store.specs.declared.nodes.NodeHead.{NodeHead}
use Rattle.ae_store.specs.declared.nodes.NodeHead.TheVariants as node
use Rattle.ae_constants.specs.declared.rules.Computed.{Computed}
use Rattle.ae_constants.specs.declared.rules.Computed.TheVariants as computed

-- the rule, where each name stands for something
abbrev pub standing_for : {A : Type 0} → (ℕ → A) → Computed → Rule A
standing_for f computed.Opaque = opaque_term
standing_for f (computed.Sum a b) = sum_of (f a) (f b)
standing_for f (computed.Difference a b) = difference_of (f a) (f b)
standing_for f (computed.Negation a) = negation_of (f a)
standing_for f (computed.Product a b) = product_of (f a) (f b)
standing_for f (computed.Quotient a b) = quotient_of (f a) (f b)

-- the names of the rule are below a number
abbrev pub IsBelow : ℕ → Computed → Type 0
IsBelow n computed.Opaque = Unit {0}
IsBelow n (computed.Sum a b) = (a < n) × (b < n)
IsBelow n (computed.Difference a b) = (a < n) × (b < n)
IsBelow n (computed.Negation a) = a < n
IsBelow n (computed.Product a b) = (a < n) × (b < n)
IsBelow n (computed.Quotient a b) = (a < n) × (b < n)

-- the head is that of the term
abbrev pub IsHeadOf : NodeHead → Term → Type 0
IsHeadOf (node.Of h) t = (ss : List Sort) × (us : List Term) × (t ≡ Apply h ss us)
IsHeadOf (node.Num a b) t = (real : Bool) × (t ≡ Num a b real)
IsHeadOf (node.Fresh n) t = (s : Sort) × (t ≡ Fresh n s)
