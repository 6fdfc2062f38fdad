-- Rules of typing that leave every most general typing as it is: those of the demo's goals, since each sort in them is known.
use Rattle.std.proofs.Common.{ℕ, Bool, true, IsTrue, List, [], ◌∷◌, ◌≡◌, suc, length, map, refl, sym, ap, ◌∙◌, subst, nat_eq, eq-eqb}
use Rattle.std.specs.Prelude.{ℤ}
use Rattle.std.proofs.lemmas.List.{length-map}
use Rattle.ae_core.specs.Putting.{put_sort}
use Rattle.ae_core.specs.declared.terms.Head.TheVariants as head
use Rattle.ae_core.specs.declared.terms.Op.TheVariants as op
use Rattle.ae_core.specs.declared.terms.Sort.{Sort, Real}
use Rattle.ae_core.specs.declared.terms.Sort.TheVariants.{outs-Real}
use Rattle.ae_core.specs.declared.problems.Signature.{Signature}
use Rattle.ae_core.specs.declared.problems.SymbolEntry.{SymbolEntry}
use Rattle.ae_syntax.specs.declared.spans.Span.{Span}
use Rattle.ae_syntax.specs.declared.exprs.BinaryOp.TheVariants as binary_op
use Rattle.ae_syntax.specs.declared.exprs.Expr.{Expr, fold-roll-Expr}
use Rattle.ae_syntax.specs.declared.exprs.ExprKind.{ExprKind}
use Rattle.ae_syntax.specs.declared.exprs.ExprKind as kind
use Rattle.ae_syntax.specs.declared.exprs.Number.TheVariants as number
use Rattle.ae_syntax.specs.Parts.{expression}
use Rattle.ae_elab.specs.declared.faults.TypeFault.{TypeFault}
use Rattle.ae_elab.specs.declared.numbers.Numbers.TheVariants.{IntOrReal}
use Rattle.ae_elab.specs.Conditions.{Meets, Same, Condition, demands, test, has_sort, has_operand_sort, may_be, becomes}
use Rattle.ae_elab.specs.Declarations.{scope_of}
use Rattle.ae_elab.specs.Expressions.{part_of, kind_part, set_of, trigger_of, part_step, expr_step, set_step, trigger_step, name_part, name_term}
use Rattle.ae_elab.specs.Rules.{Passed, Rule, give, ◌>>◌, ◌⇒◌, unknowns, Typed, typed, Part, Set, as_term, as_formula, wanted, all_wanted}
use Rattle.ae_elab.specs.Scope.{Scope, function, name_in, symbol_from}
use Rattle.ae_elab.specs.Steps.{IsMet, IsTaken, may_stand, is_open}
use Rattle.ae_types.specs.Substitutions.{put}
use Rattle.ae_elab.specs.Terms.{Applied, application_rule, function_rule, operands, operation_rule}
use Rattle.ae_elab.specs.Trees.{Tree, Trees, Claim, none, more, apply, operation, numeral, relation, equal, implication}
use Rattle.ae_elab.proofs.NumberLaws.{possible_met, first_met}
use Rattle.ae_elab.proofs.PartRules.{kind_apply, kind_binary, kind_numeral}
use Rattle.ae_elab.proofs.PutLaws.{put_real}
use Rattle.ae_elab.proofs.StepLaws.{met, kept, as_best}
use Rattle.ae_elab.proofs.WalkLaws.{give_walked, then_walked, demand_walked, test_met}

-- ---- rules one after another
pub give_taken : {A : Type 0} (x : A) (p : Passed) → IsTaken (give x) p p x
give_taken x p m = give_walked x m p

pub then_taken : {A B : Type 0} (r : Rule A) (f : A → Rule B) (p q s : Passed) (x : A) (y : B) → IsTaken r p q x → IsTaken (f x) q s y → IsTaken (r >> f) p s y
then_taken r f p q s x y a b m = then_walked r f m m m p q s x y (a m) (b m)

pub met_taken : {A : Type 0} (c : Condition) (r : Rule A) (p q : Passed) (x : A) → ((m : ℕ → Sort) → IsMet c m m) → IsTaken r p q x → IsTaken (c ⇒ r) p q x
met_taken c r p q x h a m = demand_walked c r m m m p q x (h m) (a m)

pub test_taken : {A : Type 0} (b : Bool) (e : TypeFault) (r : Rule A) (p q : Passed) (x : A) → IsTrue b → IsTaken r p q x → IsTaken (test b e ⇒ r) p q x
test_taken b e r p q x h a = met_taken (test b e) r p q x (λ m. test_met b e m h) a

-- two sorts that are one
same_met : (c : Condition) (s t : Sort) → c.demand ≡ Same s t → s ≡ t → (m : ℕ → Sort) → IsMet c m m
same_met c s t d e m = λ cs h.
    met cs c m (kept c.demand (demands cs) m (as_best cs m h)
    (subst (λ z. Meets (z ∷ demands cs) m) (sym d) (h.typing, ap (put m) e)))

-- ---- sorts that are `real`
real_met : (place : Span) (m : ℕ → Sort) → IsMet (may_be place IntOrReal Real) m m
real_met place m = possible_met place IntOrReal m Real Real (sym (put_real m)) (ap (may_stand IntOrReal) outs-Real)

real_becomes : (place : Span) (m : ℕ → Sort) → IsMet (becomes place IntOrReal Real) m m
real_becomes place m = first_met place IntOrReal m Real Real (sym (put_real m)) (ap (may_stand IntOrReal) outs-Real) (ap is_open outs-Real)

-- ---- expressions as the rules see them
rolled : (s : Span) (f : ExprKind) → part_of (expression s f) ≡ kind_part f s
unfolding part_of kind_part set_of trigger_of
rolled s f = fold-roll-Expr (Span → Part) Part Set (List Part) part_step expr_step set_step trigger_step (record { span = s; kind = f })

pub part_apply : (own name : Span) (es : List Expr) → part_of (expression own (kind.Apply name es)) ≡ name_part own name (map part_of es)
part_apply own name es = rolled own (kind.Apply name es) ∙ ap (λ k. k own) (kind_apply name es)

-- this part is this term, of this sort, or this formula
abbrev pub IsTerm : Scope → Part → Tree → Sort → Type 0
IsTerm sc e t s = (p : Passed) → IsTaken (as_term sc e) p p (typed t s)

abbrev pub IsFormula : Scope → Part → Claim → Type 0
IsFormula sc e f = (p : Passed) → IsTaken (as_formula sc e) p p f

pub wanted_taken : (sc : Scope) (e : Part) (t : Tree) (s u : Sort) (p : Passed) → u ≡ s → IsTerm sc e t s → IsTaken (wanted sc u e) p p t
wanted_taken sc e t s u p h a =
    then_taken (as_term sc e) (λ x. has_sort e.place u x.sort ⇒ give x.tree) p p p (typed t s) t (a p)
    (met_taken (has_sort e.place u s) (give t) p p t (same_met (has_sort e.place u s) u s refl h) (give_taken t p))

-- ---- arguments of a symbol
abbrev pub AreTerms : Scope → List Part → Trees → List Sort → Type 0
AreTerms sc [] none [] = Unit {0}
AreTerms sc (e ∷ es) (more t ts) (s ∷ ss) = IsTerm sc e t s × AreTerms sc es ts ss
AreTerms sc _ _ _ = ⊥

all_wanted_taken : (sc : Scope) (es : List Part) (ts : Trees) (ss : List Sort) (p : Passed) → AreTerms sc es ts ss → IsTaken (all_wanted sc ss es) p p ts
all_wanted_taken sc [] none [] p a = give_taken none p
all_wanted_taken sc (e ∷ es) (more t ts) (s ∷ ss) p a =
    then_taken (wanted sc s e) (λ x. all_wanted sc ss es >> λ xs. give (more x xs)) p p p t (more t ts) (wanted_taken sc e t s s p refl a.0)
    (then_taken (all_wanted sc ss es) (λ xs. give (more t xs)) p p p ts (more t ts) (all_wanted_taken sc es ts ss p a.1) (give_taken (more t ts) p))
all_wanted_taken sc [] none (s ∷ ss) p a = absurd a
all_wanted_taken sc [] (more t ts) ss p a = absurd a
all_wanted_taken sc (e ∷ es) none ss p a = absurd a
all_wanted_taken sc (e ∷ es) (more t ts) [] p a = absurd a

terms_many : (sc : Scope) (es : List Part) (ts : Trees) (ss : List Sort) → AreTerms sc es ts ss → length es ≡ length ss
terms_many sc [] none [] a = refl
terms_many sc (e ∷ es) (more t ts) (s ∷ ss) a = ap suc (terms_many sc es ts ss a.1)
terms_many sc [] none (s ∷ ss) a = absurd a
terms_many sc [] (more t ts) ss a = absurd a
terms_many sc (e ∷ es) none ss a = absurd a
terms_many sc (e ∷ es) (more t ts) [] a = absurd a

-- ---- symbols without type variables
pub record IsSymbol (sig : Signature) (w : List ℕ) (k : ℕ) (args : List Sort) (result : Sort) : Type 0 where
  pub entry : SymbolEntry
  pub value : Sort
  pub found : symbol_from 0 sig.symbols w ≡ function k entry value
  pub plain : entry.vars ≡ 0
  pub args_are : map (put_sort []) entry.args ≡ args
  pub result_is : put_sort [] value ≡ result

module _ (text : List ℕ) (sig : Signature) where
  abbrev pub here : Scope
  here = scope_of text sig

  module _ (own name : Span) (w : List ℕ) (k : ℕ) (args : List Sort) (result : Sort) (spelt : name_in text name ≡ w) (y : IsSymbol sig w k args result) (es : List Part) (ts : Trees) (a : AreTerms here es ts args) (p : Passed) where
    abbrev after : List Sort → Rule Applied
    after ss = all_wanted here (map (put_sort ss) y.entry.args) es >> λ us. give (record { sorts = ss; args = us })

    applied_taken : IsTaken (application_rule name y.entry es here) p p (record { sorts = []; args = ts })
    applied_taken =
        test_taken (nat_eq (length es) (length y.entry.args)) _ (unknowns y.entry.vars >> after) p p (record { sorts = []; args = ts })
        (eq-eqb _ _ (terms_many here es ts args a ∙ sym (ap length y.args_are) ∙ length-map y.entry.args (put_sort [])))
        (subst (λ n. IsTaken (unknowns n >> after) p p (record { sorts = []; args = ts })) (sym y.plain)
        (then_taken (unknowns 0) after p p p [] (record { sorts = []; args = ts }) (give_taken [] p)
        (then_taken (all_wanted here (map (put_sort []) y.entry.args) es) (λ us. give (record { sorts = []; args = us })) p p p ts (record { sorts = []; args = ts })
        (subst (λ ss. IsTaken (all_wanted here ss es) p p ts) (sym y.args_are) (all_wanted_taken here es ts args p a))
        (give_taken (record { sorts = []; args = ts }) p))))

    function_taken : IsTaken (function_rule name k y.entry y.value es here) p p (typed (apply (head.Symbol k) [] ts) result)
    function_taken =
        then_taken (application_rule name y.entry es here) (λ x. give (typed (apply (head.Symbol k) x.sorts x.args) (put_sort x.sorts y.value))) p p p (record { sorts = []; args = ts })
        (typed (apply (head.Symbol k) [] ts) result) applied_taken
        (subst (λ s. IsTaken (give (typed (apply (head.Symbol k) [] ts) s)) p p (typed (apply (head.Symbol k) [] ts) result)) (sym y.result_is) (give_taken (typed (apply (head.Symbol k) [] ts) result) p))

    pub name_taken : IsTaken (as_term here (name_part own name es)) p p (typed (apply (head.Symbol k) [] ts) result)
    name_taken =
        subst (λ n. IsTaken (name_term name es here own n) p p (typed (apply (head.Symbol k) [] ts) result)) (sym (ap (symbol_from 0 sig.symbols) spelt ∙ y.found)) function_taken

  pub apply_term : (own name : Span) (w : List ℕ) (k : ℕ) (args : List Sort) (result : Sort) (es : List Expr) (ts : Trees) → name_in text name ≡ w → IsSymbol sig w k args result → AreTerms here (map part_of es) ts args
      → IsTerm here (part_of (expression own (kind.Apply name es))) (apply (head.Symbol k) [] ts) result
  apply_term own name w k args result es ts spelt y a p =
      subst (λ e. IsTaken (as_term here e) p p (typed (apply (head.Symbol k) [] ts) result)) (sym (part_apply own name es)) (name_taken own name w k args result spelt y (map part_of es) ts a p)

-- ---- numerals, sums, equations and implications
pub numeral_term : (sc : Scope) (own : Span) (a b : ℤ) → IsTerm sc (part_of (expression own (kind.Numeral (number.Decimal a b)))) (numeral a b true) Real
numeral_term sc own a b p =
    subst (λ e. IsTaken (as_term sc e) p p (typed (numeral a b true) Real)) (sym (rolled own (kind.Numeral (number.Decimal a b)) ∙ ap (λ k. k own) (kind_numeral (number.Decimal a b))))
    (give_taken (typed (numeral a b true) Real) p)

abbrev added : Tree → Tree → Tree
added t u = operation op.Add Real (more t (more u none))

module _ (sc : Scope) (a b : Part) (t u : Tree) (f : IsTerm sc a t Real) (g : IsTerm sc b u Real) (p : Passed) where
  abbrev checked : Typed → Typed → Rule (Typed × Tree)
  checked x y = may_be a.place IntOrReal x.sort ⇒ has_operand_sort b.place x.sort y.sort ⇒ may_be b.place IntOrReal y.sort ⇒ becomes a.place IntOrReal x.sort ⇒ give (x, y.tree)

  checks : IsTaken (checked (typed t Real) (typed u Real)) p p (typed t Real, u)
  checks =
      met_taken (may_be a.place IntOrReal Real) _ p p (typed t Real, u) (real_met a.place)
      (met_taken (has_operand_sort b.place Real Real) _ p p (typed t Real, u) (same_met (has_operand_sort b.place Real Real) Real Real refl refl)
      (met_taken (may_be b.place IntOrReal Real) _ p p (typed t Real, u) (real_met b.place)
      (met_taken (becomes a.place IntOrReal Real) _ p p (typed t Real, u) (real_becomes a.place) (give_taken (typed t Real, u) p))))

  operands_taken : IsTaken (operands sc IntOrReal a b) p p (typed t Real, u)
  operands_taken =
      then_taken (as_term sc a) (λ x. may_be a.place IntOrReal x.sort ⇒ as_term sc b >> λ y. checked x y) p p p (typed t Real) (typed t Real, u) (f p)
      (met_taken (may_be a.place IntOrReal Real) _ p p (typed t Real, u) (real_met a.place)
      (then_taken (as_term sc b) (λ y. checked (typed t Real) y) p p p (typed u Real) (typed t Real, u) (g p) checks))

  sum_taken : IsTaken (operation_rule op.Add a b sc) p p (typed (added t u) Real)
  sum_taken =
      then_taken (operands sc IntOrReal a b) (λ x. give (typed (operation op.Add x.0.sort (more x.0.tree (more x.1 none))) x.0.sort)) p p p (typed t Real, u) (typed (added t u) Real) operands_taken
      (give_taken (typed (added t u) Real) p)

pub sum_term : (sc : Scope) (own : Span) (a b : Expr) (t u : Tree) → IsTerm sc (part_of a) t Real → IsTerm sc (part_of b) u Real
    → IsTerm sc (part_of (expression own (kind.Binary binary_op.Add a b))) (operation op.Add Real (more t (more u none))) Real
sum_term sc own a b t u f g p =
    subst (λ e. IsTaken (as_term sc e) p p (typed (added t u) Real)) (sym (rolled own (kind.Binary binary_op.Add a b) ∙ ap (λ k. k own) (kind_binary binary_op.Add a b)))
    (sum_taken sc (part_of a) (part_of b) t u f g p)

pub equation_formula : (sc : Scope) (own : Span) (a b : Expr) (t u : Tree) (s : Sort) → IsTerm sc (part_of a) t s → IsTerm sc (part_of b) u s
    → IsFormula sc (part_of (expression own (kind.Binary binary_op.Equal a b))) (relation equal t u)
equation_formula sc own a b t u s f g p =
    subst (λ e. IsTaken (as_formula sc e) p p (relation equal t u)) (sym (rolled own (kind.Binary binary_op.Equal a b) ∙ ap (λ k. k own) (kind_binary binary_op.Equal a b)))
    (then_taken (as_term sc (part_of a)) (λ x. wanted sc x.sort (part_of b) >> λ y. give (relation equal x.tree y)) p p p (typed t s) (relation equal t u) (f p)
    (then_taken (wanted sc s (part_of b)) (λ y. give (relation equal t y)) p p p u (relation equal t u) (wanted_taken sc (part_of b) u s s p refl g) (give_taken (relation equal t u) p)))

pub implication_formula : (sc : Scope) (own : Span) (a b : Expr) (f g : Claim) → IsFormula sc (part_of a) f → IsFormula sc (part_of b) g
    → IsFormula sc (part_of (expression own (kind.Binary binary_op.Implies a b))) (implication f g)
implication_formula sc own a b f g h k p =
    subst (λ e. IsTaken (as_formula sc e) p p (implication f g)) (sym (rolled own (kind.Binary binary_op.Implies a b) ∙ ap (λ k. k own) (kind_binary binary_op.Implies a b)))
    (then_taken (as_formula sc (part_of a)) (λ x. as_formula sc (part_of b) >> λ y. give (implication x y)) p p p f (implication f g) (h p)
    (then_taken (as_formula sc (part_of b)) (λ y. give (implication f y)) p p p g (implication f g) (k p) (give_taken (implication f g) p)))
