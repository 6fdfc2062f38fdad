-- The least name of a sort with a value is its representative by the lines.
use Rattle.std.specs.Prelude.{ℕ, List, ◌≡◌, length, slice_get, Option, Some}
use Rattle.std.proofs.Common.{sym, ap, ◌∙◌, subst, arith}
use Rattle.std.proofs.lemmas.Option.{same_Some, slice_get_within}
use Rattle.ae_base.specs.Options.{◌>>=◌}
use Rattle.ae_base.proofs.ListFacts.{value_at as there}
use Rattle.ae_base.proofs.Options.{bind_some}
use Rattle.ae_core.specs.Sorts.{sort_of}
use Rattle.ae_core.specs.declared.terms.Sort.{Sort}
use Rattle.ae_core.specs.declared.terms.Term.{Term}
use Rattle.ae_core.specs.declared.problems.Signature.{Signature}
use Rattle.ae_num.specs.declared.forms.Value.{Value}
use Rattle.ae_journal.specs.Values.{Val, meaning}
use Rattle.ae_journal.specs.Systems.{IsName, Has, Represents}
use Rattle.ae_journal.specs.Journals.{live}
use Rattle.ae_journal.specs.TermValues.{value_by, IsLeast}
use Rattle.ae_journal.proofs.Representatives.{one_representative_now, represents_itself}
use Rattle.ae_journal.specs.declared.lines.Line.{Line}
use Rattle.ae_journal.specs.declared.systems.System.{System}
use Rattle.ae_name_lines.specs.InStep.{AreLineValues}
use Rattle.ae_name_lines.specs.Laws.{LeastNamesRepresent, LeastNamesRepresentNow, OtherNamesRepresentNothing}
use Rattle.ae_name_lines.proofs.MoreNames.{least_names_stay}

module _ (sig : Signature) (y : System) (js : List Line) (one : length y.values ≡ length y.names) (step : AreLineValues sig y.names y.values js) where
  value_is : (s : Sort) (v : Val) (n : ℕ) (h : Has sig y s v n) → value_by sig y.names js h.term ≡ v
  value_is s v n h =
      let b = bind_some (slice_get y.values n) (λ w. Some (meaning w)) v h.value in
      sym (step n h.term b.0 h.is b.1) ∙ same_Some (meaning b.0) v b.2

  has_value : (s : Sort) (v : Val) (n : ℕ) (t : Term) → IsName y n t → sort_of sig t ≡ Some s → value_by sig y.names js t ≡ v → Has sig y s v n
  has_value s v n t e o is =
      let l = slice_get_within y.names n t e in
      let w = there y.values n (omega (arith, l, one)) in
      record { term = t; is = e; sort = o; value = ap (λ (q : Option Value). q >>= λ u. Some (meaning u)) w.1 ∙ ap (λ (u : Val). Some u) (step n t w.0 e w.1 ∙ is) }

  least_is : (s : Sort) (v : Val) (n r : ℕ) → Has sig y s v n → Represents sig y s v r → IsLeast sig y.names js n r
  least_is s v n r h p = record {
    term = h.term;
    other = p.has.term;
    sort = s;
    is = h.is;
    stands = p.has.is;
    sorted = (h.sort, p.has.sort);
    same = value_is s v r p.has ∙ sym (value_is s v n h);
    least = λ m t i o e. p.least m (has_value s v m t i o (e ∙ value_is s v n h));
  }

pub least_names_represent : LeastNamesRepresent
least_names_represent sig y js s v n r one step h p = least_is sig y js one step s v n r h p

pub least_names_represent_now : LeastNamesRepresentNow
least_names_represent_now x y more js s v n r names closed one step h p =
    subst (λ (ns : List Term). IsLeast x.problem.signature ns (live js) n r) (sym names)
    (least_names_stay x.problem.signature y.names more (live js) n r closed (least_is x.problem.signature y (live js) one step s v n r h p))

pub other_names_represent_nothing : OtherNamesRepresentNothing
other_names_represent_nothing x y more js s v n r names closed one step h p d m a =
    d (one_representative_now x js n r n (least_names_represent_now x y more js s v n r names closed one step h p) (represents_itself x js m n a))
