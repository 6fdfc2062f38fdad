-- Equality of shapes as a test, and what a hash reads of a shape.
use Rattle.std.specs.Prelude.{ℕ, Bool, true, false, ◌++◌, ◌≡◌}
use Rattle.std.specs.Bool.{Decides}
use Rattle.std.specs.Cmp as cmp
use Rattle.std.specs.Hash as fed
use mathlib.Core.Path.{refl, ap}
use Rattle.ae_base.specs.Decided.{decide, decided}
use Rattle.ae_core.specs.declared.terms.Op.{Op}
use Rattle.ae_core.specs.declared.terms.Op.TheVariants as op
use Rattle.ae_core.specs.declared.terms.Head.TheVariants as head
use Rattle.ae_store.specs.declared.nodes.NodeHead.{NodeHead}
use Rattle.ae_store.specs.declared.nodes.NodeHead.TheVariants as node
use Rattle.ae_store.specs.declared.nodes.Shape.{Shape}
use Rattle.ae_store.specs.contracts.nodes.Shape as shape_contract

pub Shape_discrete : Discrete Shape
Shape_discrete = decide shape_contract.the_row.coded

test_decides : {P : Type 0} (d : Dec P) → Decides (decided d) P
test_decides (yes p) = ((λ e. p), (λ q. refl))
test_decides (no n) = ((λ e. absurd (let f : ◌≡◌ {A = Bool} false true = e in cc)), (λ q. absurd (n q)))

abbrev pub is_same : Shape → Shape → Bool
is_same x y = decided (Shape_discrete x y)

pub is_same_decides : (x y : Shape) → Decides (is_same x y) (x ≡ y)
is_same_decides x y = test_decides (Shape_discrete x y)

pub is_same_equiv : cmp.IsEquivalence is_same
is_same_equiv = cmp.decided is_same is_same_decides

abbrev pub op_code : Op → ℕ
op_code op.Add = 0
op_code op.Sub = 1
op_code op.Neg = 2
op_code op.Mul = 3
op_code op.Div = 4
op_code op.Mod = 5

abbrev pub head_written : NodeHead → fed.HashWrites
head_written (node.Of (head.Symbol n)) = fed.usize 0 ++ fed.usize n
head_written (node.Of (head.Build n)) = fed.usize 1 ++ fed.usize n
head_written (node.Of (head.Field n place)) = fed.usize n ++ fed.usize place
head_written (node.Of (head.Int o)) = fed.usize 2 ++ fed.usize (op_code o)
head_written (node.Of (head.Real o)) = fed.usize 3 ++ fed.usize (op_code o)
head_written (node.Of head.True) = fed.usize 4
head_written (node.Of head.False) = fed.usize 5
head_written (node.Of head.Void) = fed.usize 6
head_written (node.Num a b) = fed.i128 a ++ fed.i128 b
head_written (node.Fresh n) = fed.usize 7 ++ fed.usize n

abbrev pub written : Shape → fed.HashWrites
written s = head_written s.head ++ fed.slice fed.usize s.args

pub written_alike : (x y : Shape) → is_same x y ≡ true → written x ≡ written y
written_alike x y e = ap written ((is_same_decides x y).0 e)
