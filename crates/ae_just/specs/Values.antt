-- The equations of values, `den * name = sum` where the sum over den is the name's value, and the `lin` lines that carry them on. Each line's factors
-- are denominators, factors of the values, or signs: none is computed anew.
use Rattle.std.specs.Prelude.{ℤ, pos, neg_ℤ, ◌*ℤ◌, Bool, List, [], ◌∷◌, ◌≡◌}
use Rattle.ae_math.specs.Fractions.{ℚ, whole, ◌*ℚ◌}
use Rattle.ae_math.specs.Forms.{number, plus, minus, scale}
use Rattle.ae_core.specs.declared.terms.Term.{Term}
use Rattle.ae_rules.specs.Linear.{Linear, form, IsSame}
use Rattle.ae_rules.specs.Lines.{Fact, equal, gap, total}
use Rattle.ae_store.specs.Terms.{named}
use Rattle.ae_just.specs.declared.steps.Times.{Times}
use Rattle.ae_just.specs.declared.steps.Side.TheVariants as side
use Rattle.ae_just.specs.Sides.{side_term}

-- the sum of names times factors, and a number
abbrev pub combination : List Term → List Times → ℤ → Linear
combination ts [] c = number (whole c)
combination ts (p ∷ ps) c = plus (scale (whole p.factor) (form (named ts p.name))) (combination ts ps c)

-- the linear form of a value written out is that sum
abbrev pub WrittenOut : Type 0
WrittenOut = (ts : List Term) (ps : List Times) (c : ℤ) (real : Bool) → IsSame (form (side_term ts (side.Sum ps c real))) (combination ts ps c)

-- the fact says that d times the term is d times the value
pub record IsValueOf (d : ℤ) (t : Term) (value : Linear) (f : Fact) : Type 0 where
  pub is : IsSame (gap f) (scale (whole d) (minus value (form t)))

-- the equation of d times a name with the sum written out
abbrev pub value_equation : List Term → Bool → ℤ → List Times → ℤ → Times → Fact
value_equation ts real d ps c p = equal (side_term ts (side.Sum (p ∷ []) (pos 0) real)) (side_term ts (side.Sum ps c real))

abbrev pub ValueWritten : Type 0
ValueWritten = (ts : List Term) (real : Bool) (ps : List Times) (c : ℤ) (p : Times) (value : Linear) → IsSame (combination ts ps c) (scale (whole p.factor) value)
    → IsValueOf p.factor (named ts p.name) value (value_equation ts real p.factor ps c p)

-- D times what the fact says is the sum of what these say, each times its factor
abbrev pub IsCombined : ℤ → Fact → List (ℤ × Fact) → Type 0
IsCombined D f fs = IsSame (scale (whole D) (gap f)) (total fs)

-- n = a + b
abbrev pub SumLine : Type 0
SumLine = (D dn da db : ℤ) (n a b : Term) (vn va vb : Linear) (fn fa fb : Fact) → IsValueOf dn n vn fn → IsValueOf da a va fa → IsValueOf db b vb fb
    → IsSame (form n) (plus (form a) (form b)) → IsSame vn (plus va vb) → D *ℤ dn ≡ da *ℤ db → IsCombined D fn ((db, fa) ∷ (da, fb) ∷ [])

-- n = a - b
abbrev pub DifferenceLine : Type 0
DifferenceLine = (D dn da db : ℤ) (n a b : Term) (vn va vb : Linear) (fn fa fb : Fact) → IsValueOf dn n vn fn → IsValueOf da a va fa → IsValueOf db b vb fb
    → IsSame (form n) (minus (form a) (form b)) → IsSame vn (minus va vb) → D *ℤ dn ≡ da *ℤ db → IsCombined D fn ((db, fa) ∷ (neg_ℤ da, fb) ∷ [])

-- n = q * a for the fraction q = c / d
abbrev pub MultipleLine : Type 0
MultipleLine = (D dn da c d : ℤ) (q : ℚ) (n a : Term) (vn va : Linear) (fn fa : Fact) → IsValueOf dn n vn fn → IsValueOf da a va fa
    → IsSame (form n) (scale q (form a)) → IsSame vn (scale q va) → whole d *ℚ q ≡ whole c → D *ℤ dn ≡ da *ℤ d → IsCombined D fn ((c, fa) ∷ [])

-- n has the value of m, which it is equal to
abbrev pub CoveredLine : Type 0
CoveredLine = (d : ℤ) (n m : Term) (vn vm : Linear) (fn fm : Fact) → IsValueOf d n vn fn → IsValueOf d m vm fm → IsSame vn vm → IsCombined (pos 1) fn ((d, equal n m) ∷ (pos 1, fm) ∷ [])

-- what the equation p = q says of the values: d times their difference is zero
abbrev pub ApartLine : Type 0
ApartLine = (D d dp dq : ℤ) (p q : Term) (vp vq : Linear) (z fp fq : Fact) → IsSame (gap z) (scale (whole d) (minus vq vp)) → IsValueOf dp p vp fp → IsValueOf dq q vq fq
    → D *ℤ d ≡ dp *ℤ dq → IsCombined D z ((dp *ℤ dq, equal p q) ∷ (neg_ℤ dq, fp) ∷ (dp, fq) ∷ [])

-- that equation solved for a name x, which has the factor e in it
abbrev pub SolvedLine : Type 0
SolvedLine = (D d e sign : ℤ) (x : Term) (v : Linear) (z f : Fact) → IsSame (gap z) (scale (whole e) (minus v (form x))) → IsValueOf d x v f → D *ℤ d ≡ sign *ℤ e → IsCombined D f ((sign, z) ∷ [])

-- the value of x put for x, which has the factor c in the sum of n, c / dn = q in its value
abbrev pub PutLine : Type 0
PutLine = (D dn' dn dx c : ℤ) (q : ℚ) (n x : Term) (vn' vn vx : Linear) (fn' fn fx : Fact) → IsValueOf dn' n vn' fn' → IsValueOf dn n vn fn → IsValueOf dx x vx fx
    → IsSame vn' (plus vn (scale q (minus vx (form x)))) → whole dn *ℚ q ≡ whole c → D *ℤ dn' ≡ dn *ℤ dx → IsCombined D fn' ((dx, fn) ∷ (c, fx) ∷ [])

-- two names of one value
abbrev pub AlikeLine : Type 0
AlikeLine = (d : ℤ) (a b : Term) (va vb : Linear) (fa fb : Fact) → IsValueOf d a va fa → IsValueOf d b vb fb → IsSame va vb → IsCombined d (equal a b) ((pos 1, fa) ∷ (neg_ℤ (pos 1), fb) ∷ [])
