-- What the lines of an instance bring.
use Rattle.std.specs.Prelude.{ℕ, Bool, true, false, not, List, [], ◌∷◌, ◌≡◌, map, Option, Some, None}
use Rattle.std.specs.List.{Contains}
use Rattle.std.proofs.Common.{refl, sym, ap, ◌∙◌, subst, inl, inr}
use Rattle.std.proofs.lemmas.Option.{same_Some}
use Rattle.ae_base.specs.Options.{◌>>=◌}
use Rattle.ae_base.proofs.Options.{only_some, when_some}
use Rattle.ae_base.proofs.Tests.{false_true, not_not}
use Rattle.ae_core.specs.Putting.{put_formula}
use Rattle.ae_core.specs.declared.formulas.Formula.{Formula, Formula-F, out-Formula}
use Rattle.ae_core.specs.declared.formulas.Formula.TheOpen as layer
use Rattle.ae_core.specs.declared.formulas.Lit.{Lit}
use Rattle.ae_core.specs.declared.formulas.Quant.{Quant}
use Rattle.ae_core.specs.declared.problems.Signature.{Signature}
use Rattle.ae_core.specs.declared.proofs.ClauseLine.TheVariants as clause_line
use Rattle.ae_core.specs.declared.terms.Sort.{Sort}
use Rattle.ae_core.specs.declared.terms.Term.{Term}
use Rattle.ae_journal.proofs.Splits.{contains_cases, contains_here, contains_later, contains_one}
use Rattle.ae_journal.specs.InstanceLines.{IsInstance, of_type, of_terms, of_axiom_terms}
use Rattle.ae_journal.specs.Standing.{Setting}
use Rattle.ae_journal.specs.States.{Owner, of_literal, of_axiom, is_universal_by, quant_of, axiom_instances, instance_literals}
use Rattle.ae_journal.specs.declared.lines.Line.{Line}
use Rattle.ae_journal.specs.declared.lines.Line.TheVariants as line
use Rattle.ae_rules.specs.Clauses.{Clause, literal, yes_of, no_of, is_true, is_false}
use Rattle.ae_rules.specs.Derivations.{conclusion, clause_of, line_ok}
use Rattle.ae_rules.specs.Instances.{hypothesis, have_sorts, instance_clause}
use Rattle.ae_owed.specs.Instances.{Instance}
use Rattle.ae_owed.specs.Recorded.{IsBroughtBy, HasLines}
use Rattle.ae_instance_lines.specs.Laws.{LiteralHasLines, AxiomHasLines}

abbrev body_of : Bool → List Term → Option Quant → List (Bool × Formula)
body_of sign ts (Some q) = (sign, put_formula ts q.body) ∷ []
body_of sign ts None = []

abbrev lits_of : List (Bool × Formula) → List Lit
lits_of es = map (λ (e : Bool × Formula). literal e.0 e.1) es

second : (a b : Lit) (c : Clause) → a ∷ b ∷ [] ≡ c → Contains c b
second a b c e = subst (λ (w : Clause). Contains w b) e (contains_later a (b ∷ []) b (contains_here b []))

-- ---- of a universal literal
module _ (sig : Signature) (f : Formula) (ts : List Term) (c : Clause) (m : Lit) where
  all_body : (q : Quant) → instance_clause sig f ts (layer.All q) ≡ Some c → Contains c (yes_of (put_formula ts q.body))
  all_body q e = second (is_false f) (yes_of (put_formula ts q.body)) c (when_some (have_sorts sig ts q.sorts) (is_false f ∷ yes_of (put_formula ts q.body) ∷ []) c e).1

  ex_body : (q : Quant) → instance_clause sig f ts (layer.Ex q) ≡ Some c → Contains c (no_of (put_formula ts q.body))
  ex_body q e = second (is_true f) (no_of (put_formula ts q.body)) c (when_some (have_sorts sig ts q.sorts) (is_true f ∷ no_of (put_formula ts q.body) ∷ []) c e).1

  body_in : (sign : Bool) (y : Formula-F Formula Quant) → is_universal_by sign y ≡ true → instance_clause sig f ts y ≡ Some c → Contains (lits_of (body_of sign ts (quant_of y))) m → Contains c m
  body_in sign (layer.All q) u e i =
      subst (Contains c) (ap (λ (b : Bool). literal b (put_formula ts q.body)) (sym u) ∙ contains_one (literal sign (put_formula ts q.body)) m i) (all_body q e)
  body_in sign (layer.Ex q) u e i =
      let s : false ≡ sign = ap not (sym u) ∙ not_not sign in
      subst (Contains c) (ap (λ (b : Bool). literal b (put_formula ts q.body)) s ∙ contains_one (literal sign (put_formula ts q.body)) m i) (ex_body q e)
  body_in sign layer.True u e i = false_true u
  body_in sign layer.False u e i = false_true u
  body_in sign (layer.Eq a b) u e i = false_true u
  body_in sign (layer.Lt a b) u e i = false_true u
  body_in sign (layer.Le a b) u e i = false_true u
  body_in sign (layer.Pred p ss us) u e i = false_true u
  body_in sign (layer.Not a) u e i = false_true u
  body_in sign (layer.And a b) u e i = false_true u
  body_in sign (layer.Or a b) u e i = false_true u
  body_in sign (layer.Xor a b) u e i = false_true u
  body_in sign (layer.Iff a b) u e i = false_true u

-- the literals of a literal's instance
literals_by : (sign : Bool) (ts : List Term) (o : Option Quant) → map (λ (e : Bool × Formula). literal e.0 e.1) (elim o as (λ _. List (Bool × Formula)) [ Some q ↦ (sign, put_formula ts q.body) ∷ [] | None ↦ [] ]) ≡ lits_of (body_of sign ts o)
literals_by sign ts (Some q) = refl
literals_by sign ts None = refl

pub literal_has_lines : LiteralHasLines
literal_has_lines x js i l c owner sorts universal e there = λ m h.
    let os : List Lit = instance_literals x.problem x.goal (of_literal l) [] i.terms in
    let k : Contains os m = subst (λ (z : Owner × List Sort). Contains (instance_literals x.problem x.goal z.0 z.1 i.terms) m) (λ j. (owner j, sorts j)) h in
    let w : Contains (lits_of (body_of l.positive i.terms (quant_of (out-Formula l.formula)))) m = subst (λ (z : List Lit). Contains z m) (literals_by l.positive i.terms (quant_of (out-Formula l.formula))) k in
    let s = only_some (line_ok x.problem x.goal (clause_line.Inst l.formula i.terms)) (clause_of x.problem x.goal (clause_line.Inst l.formula i.terms)) c e in
    record {
      own = line.TermInstance l.formula i.terms;
      clause = c;
      noted = there;
      instance = subst (λ (z : Owner × List Sort). IsInstance x (line.TermInstance l.formula i.terms) c z.0 z.1 i.terms) (λ j. (sym owner j, sym sorts j)) (of_terms l.formula i.terms c l.positive e);
      has = body_in x.problem.signature l.formula i.terms c m l.positive (out-Formula l.formula) universal s.1 w;
    }

-- ---- of an axiom
module _ (x : Setting) (js : List Line) (i : Instance) (k : ℕ) (f : Formula) (c : Clause) (owner : i.owner ≡ of_axiom k) (formula : hypothesis x.problem x.goal k i.sorts ≡ Some f)
    (e : conclusion x.problem x.goal (clause_line.Hyp k i.sorts) ≡ Some c) (there : Contains js (line.TypeInstance k i.sorts))
    (body : (q : Quant) → out-Formula f ≡ layer.All q → (d : Clause) × (conclusion x.problem x.goal (clause_line.Inst f i.terms) ≡ Some d) × Contains js (line.TermInstance f i.terms)) where
  one : yes_of f ∷ [] ≡ c
  one =
      let s = only_some (line_ok x.problem x.goal (clause_line.Hyp k i.sorts)) (clause_of x.problem x.goal (clause_line.Hyp k i.sorts)) c e in
      same_Some (yes_of f ∷ []) c (ap (λ (o : Option Formula). o >>= λ f. Some (yes_of f ∷ [])) (sym formula) ∙ s.1)

  owned : (j : Line) (d : Clause) → IsInstance x j d (of_axiom k) i.sorts i.terms → IsInstance x j d i.owner i.sorts i.terms
  owned j d y = subst (λ (z : Owner). IsInstance x j d z i.sorts i.terms) (sym owner) y

  first : (m : Lit) → yes_of f ≡ m → IsBroughtBy x js i m
  first m s = record {
    own = line.TypeInstance k i.sorts;
    clause = c;
    noted = there;
    instance = owned (line.TypeInstance k i.sorts) c (of_type k i.sorts i.terms c e);
    has = subst (Contains c) s (subst (λ (w : Clause). Contains w (yes_of f)) one (contains_here (yes_of f) []));
  }

  only_first : (m : Lit) → Contains (yes_of f ∷ []) m → IsBroughtBy x js i m
  only_first m h = first m (contains_one (yes_of f) m h)

  of_body : (q : Quant) → out-Formula f ≡ layer.All q → (m : Lit) → yes_of (put_formula i.terms q.body) ≡ m → IsBroughtBy x js i m
  of_body q o m s =
      let b = body q o in
      let t = only_some (line_ok x.problem x.goal (clause_line.Inst f i.terms)) (clause_of x.problem x.goal (clause_line.Inst f i.terms)) b.0 b.1 in
      record {
        own = line.TermInstance f i.terms;
        clause = b.0;
        noted = b.2;
        instance = owned (line.TermInstance f i.terms) b.0 (of_axiom_terms k i.sorts f i.terms b.0 (e ∙ ap (λ (w : Clause). Some w) (sym one)) b.1);
        has = subst (Contains b.0) s (all_body x.problem.signature f i.terms b.0 m q (ap (instance_clause x.problem.signature f i.terms) (sym o) ∙ t.1));
      }

  by_layer : (y : Formula-F Formula Quant) → out-Formula f ≡ y → (m : Lit) → Contains (lits_of (axiom_instances i.terms f y)) m → IsBroughtBy x js i m
  by_layer (layer.All q) o m h =
      elim (contains_cases (yes_of f) (yes_of (put_formula i.terms q.body) ∷ []) m h) as (λ _. IsBroughtBy x js i m) [
        | inl s ↦ first m s
        | inr r ↦ of_body q o m (contains_one (yes_of (put_formula i.terms q.body)) m r)
      ]
  by_layer (layer.Ex q) o m h = only_first m h
  by_layer layer.True o m h = only_first m h
  by_layer layer.False o m h = only_first m h
  by_layer (layer.Eq a b) o m h = only_first m h
  by_layer (layer.Lt a b) o m h = only_first m h
  by_layer (layer.Le a b) o m h = only_first m h
  by_layer (layer.Pred p ss us) o m h = only_first m h
  by_layer (layer.Not a) o m h = only_first m h
  by_layer (layer.And a b) o m h = only_first m h
  by_layer (layer.Or a b) o m h = only_first m h
  by_layer (layer.Xor a b) o m h = only_first m h
  by_layer (layer.Iff a b) o m h = only_first m h

  has_lines : HasLines x js i
  has_lines m h =
      let a : Contains (instance_literals x.problem x.goal (of_axiom k) i.sorts i.terms) m = subst (λ (z : Owner). Contains (instance_literals x.problem x.goal z i.sorts i.terms) m) owner h in
      let b : Contains (lits_of (axiom_instances i.terms f (out-Formula f))) m =
      subst (λ (o : Option Formula). Contains (lits_of (elim o as (λ _. List (Bool × Formula)) [ Some f ↦ axiom_instances i.terms f (out-Formula f) | None ↦ [] ])) m) formula a in
      by_layer (out-Formula f) refl m b

pub axiom_has_lines : AxiomHasLines
axiom_has_lines x js i k f c owner formula e there body = has_lines x js i k f c owner formula e there body
