-- Where nothing is unmet, and all values of integers are whole, the literals are met.
use Rattle.std.specs.Prelude.{ℕ, Bool, true, List, ◌≡◌, slice_get, Option, Some, None, IfNone}
use Rattle.std.specs.List.{Contains}
use Rattle.std.proofs.Common.{refl, sym, ap, ◌∙◌, subst, arith}
use Rattle.std.proofs.lemmas.Option.{slice_get-get_or}
use Rattle.ae_core.specs.Sorts.{sort_of, formula_ok}
use Rattle.ae_core.specs.declared.formulas.Formula.{Eq, Pred}
use Rattle.ae_core.specs.declared.formulas.Lit.{Lit}
use Rattle.ae_core.specs.declared.problems.Signature.{Signature}
use Rattle.ae_core.specs.declared.terms.Head.TheVariants.{Symbol}
use Rattle.ae_core.specs.declared.terms.Sort.{Sort, Int}
use Rattle.ae_core.specs.declared.terms.Term.{Term, Apply}
use Rattle.ae_num.specs.declared.forms.Lin.{Lin}
use Rattle.ae_num.specs.declared.forms.Value.{Number}
use Rattle.ae_journal.specs.States.{outside}
use Rattle.ae_evaluation.proofs.Literals.{outside-Eq, outside-Pred}
use Rattle.ae_store.specs.Stores.{Stored, IsStore}
use Rattle.ae_settled.specs.Held.{Held, system_of}
use Rattle.ae_settled.specs.Met.{HasSides, AreNamesOf, AreMet}
use Rattle.ae_settled.proofs.Nodes.{IsApplication, application}
use Rattle.ae_theory.specs.Names.{AreNamed, terms_in}
use Rattle.ae_theory.specs.Noting.{literals}
use Rattle.ae_value_table.specs.Table.{Contents, held, values}
use Rattle.ae_value_fitting.specs.Fitting.{ArePatterns}
use Rattle.ae_literals.specs.declared.said.Said.{Said}
use Rattle.ae_literals.specs.declared.unmet.Unmet.{Unmet}
use Rattle.ae_literals.specs.Said.{IsAtom, AreSaid}
use Rattle.ae_literals.specs.Unmet.{AreAllMet}
use Rattle.ae_literals.specs.Had.{stored_of, HaveNames, AreWhole}
use Rattle.ae_whole_values.specs.Wholes.{IsWhole, AreAllWhole}
use Rattle.ae_state.specs.declared.holding.Holding.{Holding}
use Rattle.ae_state.specs.Names.{assumed_in}
use Rattle.ae_state.specs.Right.{IsRight}
use Rattle.ae_state.specs.Complete.{AreWellSorted}
use Rattle.ae_turns.specs.Ending.{seen}
use Rattle.ae_turns.specs.Representing.{IsTaken}
use Rattle.ae_unmet.specs.Inner.Ending.{IsWhyNothing}
use Rattle.ae_unmet.specs.Inner.Found.{IsNoneFound}
use Rattle.ae_unmet.proofs.TakenNames.{patterns}
use Rattle.ae_unmet.proofs.SaidPlaces.{place_of, are_said}
use Rattle.ae_unmet.proofs.SortedTerms.{sides_sorted, arguments_sorted}
use Rattle.ae_unmet.proofs.AtomArguments.{names_of}

-- values of integers that are whole, by the values that are shown
abbrev pub WholesAreShown : Type 0
WholesAreShown = (sig : Signature) (ts : List Term) (c : Contents) → ArePatterns sig ts (held c) → AreAllWhole c → (n : ℕ) (t : Term) (f : Lin) → slice_get ts n ≡ Some t → sort_of sig t ≡ Some Int
    → slice_get (values c) n ≡ Some (Number f) → IsWhole f

module _ (s : Stored) (o : Holding) (reps : List ℕ) (t : IsTaken o s) where
  abbrev x : Held
  x = seen o s reps

  pub are_whole : WholesAreShown → AreAllWhole o.values → AreWhole x
  are_whole law whole = record { each = law s.signature (terms_in s) o.values (patterns o s t) whole }

  module _ (well : AreWellSorted o) where
    right : IsRight o
    right = (t.fits).right

    -- a term of a literal has a name
    term_name : (l : Lit) → Contains (literals (assumed_in o)) l → (u : Term) → Contains (outside l.formula) u → (n : ℕ) × (slice_get (terms_in s) n ≡ Some u)
    term_name l c u d =
        let w = place_of o right l c in
        let r = right.read w.place w.entry w.at in
        let names : AreNamed s l.formula = subst (λ (z : Lit). AreNamed s z.formula) w.is (r.named s (t.fits).terms) in
        by_place (names u d)
      where
        by_place : Contains (terms_in s) u → (n : ℕ) × (slice_get (terms_in s) n ≡ Some u)
        by_place (k, i, e) = (k, slice_get-get_or (terms_in s) k _ i ∙ ap Some e)

    well_sorted : (l : Lit) → Contains (literals (assumed_in o)) l → formula_ok s.signature l.formula ≡ true
    well_sorted l c = ap (λ (sig : Signature). formula_ok sig l.formula) ((t.fits).terms).signature ∙ well l c

    sides : (b : Bool) (u v : Term) → Contains (literals (assumed_in o)) (record { positive = b; formula = Eq u v }) → HasSides s.signature (system_of x) u v
    sides b u v c =
        let l : Lit = record { positive = b; formula = Eq u v } in
        let z = sides_sorted s.signature u v (well_sorted l c) in
        let m = term_name l c u (subst (λ (us : List Term). Contains us u) (sym (outside-Eq u v)) (0, omega arith, refl)) in
        let n = term_name l c v (subst (λ (us : List Term). Contains us v) (sym (outside-Eq u v)) (1, omega arith, refl)) in
        record { sort = z.0; left_sorted = z.1; right_sorted = z.2; left = m.0; right = n.0; left_is = m.1; right_is = n.1 }

    atom_at : (b : Bool) (q : ℕ) (ss : List Sort) (us : List Term) → Contains (literals (assumed_in o)) (record { positive = b; formula = Pred q ss us }) → (n : ℕ) × IsApplication s.nodes n (Symbol q) ss us
    atom_at b q ss us c =
        let l : Lit = record { positive = b; formula = Pred q ss us } in
        let n = term_name l c (Apply (Symbol q) ss us) (subst (λ (vs : List Term). Contains vs (Apply (Symbol q) ss us)) (sym (outside-Pred q ss us)) (0, omega arith, refl)) in
        (n.0, application s.signature s.nodes t.store n.0 (Symbol q) ss us n.1)

    atoms : (b : Bool) (q : ℕ) (ss : List Sort) (us : List Term) → Contains (literals (assumed_in o)) (record { positive = b; formula = Pred q ss us })
        → (n : ℕ) × IsAtom (stored_of x) b (record { positive = b; formula = Pred q ss us }) n
    atoms b q ss us c =
        let a = atom_at b q ss us c in (
          a.0,
          record {
            predicate = q;
            sorts = ss;
            args = us;
            is = refl;
            of = record { node = (a.1).node; at = (a.1).at; head = ((a.1).shape).heads; sorts_are = ((a.1).shape).sorts; args_are = ((a.1).shape).args };
          },
        )

    arguments : (b : Bool) (q : ℕ) (ss : List Sort) (us : List Term) → Contains (literals (assumed_in o)) (record { positive = b; formula = Pred q ss us }) → (ns : List ℕ) × AreNamesOf s.signature (system_of x) ns us
    arguments b q ss us c =
        let l : Lit = record { positive = b; formula = Pred q ss us } in
        let a = atom_at b q ss us c in
        (((a.1).node).args, names_of s (system_of x) refl ((a.1).node).args us ((a.1).shape).args (arguments_sorted s.signature q ss us (well_sorted l c)) (a.1).within)

    pub have_names : HaveNames x (literals (assumed_in o))
    have_names = record { sides = sides; atoms = atoms; arguments = arguments }

-- where nothing happens for a reason, all literals are met
abbrev pub UnmetAreMet : Type 0
UnmetAreMet = (x : Held) (said : List Said) (ls : List Lit) → IsStore x.signature x.nodes → HaveNames x ls → AreSaid (stored_of x) said ls → AreAllMet x.signature x.nodes x.rep said → AreWhole x → AreMet x ls

pub met_by : UnmetAreMet → WholesAreShown → (s : Stored) (o : Holding) (reps : List ℕ) → IsTaken o s → (u : Option Unmet) → IfNone u (IsNoneFound s o reps) → IsWhyNothing o u → AreWellSorted o
    → AreMet (seen o s reps) (literals (assumed_in o))
met_by meeting shown s o reps t None n whole well =
    meeting (seen o s reps) n.said (literals (assumed_in o)) t.store (have_names s o reps t well) (are_said s o t n.said n.are) n.all (are_whole s o reps t shown whole)
met_by meeting shown s o reps t (Some u) n whole well = absurd (whole well)
