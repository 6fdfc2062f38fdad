-- The values that a journal gives names that are in step with it.
use Rattle.std.specs.Prelude.{ℕ, List, ◌++◌, ◌≡◌, slice_get, Some}
use Rattle.std.proofs.Common.{sym, ap, ◌∙◌, subst}
use Rattle.std.proofs.lemmas.List.Elements.{Contains-get_or}
use Rattle.std.proofs.lemmas.Option.{get_or_from_slice_get, slice_get_within}
use Rattle.std.specs.List.{Contains}
use Rattle.ae_core.specs.declared.terms.Term.{Term}
use Rattle.ae_core.specs.declared.problems.Signature.{Signature}
use Rattle.ae_num.specs.Forms.{meaning as form_of}
use Rattle.ae_num.specs.declared.forms.Lin.{Lin}
use Rattle.ae_num.specs.declared.forms.Value.{Value, Number}
use Rattle.ae_journal.specs.Values.{meaning}
use Rattle.ae_journal.specs.Systems.{IsName}
use Rattle.ae_journal.specs.Journals.{live}
use Rattle.ae_journal.specs.TermValues.{value_by}
use Rattle.ae_journal.specs.Standing.{Setting, value_now}
use Rattle.ae_journal.specs.declared.lines.Line.{Line}
use Rattle.ae_journal.specs.declared.systems.System.{System}
use Rattle.ae_settled.specs.Valued.{AreValues}
use Rattle.ae_theory.specs.Names.{terms_in}
use Rattle.ae_name_lines.specs.Closed.{AreClosed}
use Rattle.ae_name_lines.specs.InStep.{AreLineValues}
use Rattle.ae_name_lines.proofs.MoreNames.{terms_keep_values}
use Rattle.ae_name_lines.proofs.Spelled.{val_of}
use Rattle.ae_name_lines.proofs.Written.{number_means}
use Rattle.ae_name_licences.specs.Joining.{IsInStepWith}
use Rattle.ae_name_licences.specs.Laws.{StoresAreInStep}

pub value_is : (x : Setting) (js : List Line) (y : System) → IsInStepWith x js y → (n : ℕ) (t : Term) (v : Value) → IsName y n t → slice_get y.values n ≡ Some v → value_now x js t ≡ meaning v
value_is x js y now n t v e a =
    ap (λ (ns : List Term). value_by x.problem.signature ns (live js) t) now.names ∙ terms_keep_values x.problem.signature y.names now.more (live js) t now.closed (n, e) ∙ sym (now.step n t v e a)

pub number_is : (x : Setting) (js : List Line) (y : System) → IsInStepWith x js y → (n : ℕ) (t : Term) (f : Lin) → IsName y n t → slice_get y.values n ≡ Some (Number f) → value_now x js t ≡ val_of (form_of f)
number_is x js y now n t f e a = value_is x js y now n t (Number f) e a ∙ number_means f

contained : (ts : List Term) (n : ℕ) (t : Term) → slice_get ts n ≡ Some t → Contains ts t
contained ts n t e = subst (Contains ts) (get_or_from_slice_get ts n t t e) (Contains-get_or ts n t (slice_get_within ts n t e))

pub stores_are_in_step : StoresAreInStep
stores_are_in_step x js s y named names closed are step = record {
  more = named.more;
  names = named.names ∙ ap (λ (ts : List Term). ts ++ named.more) (sym names);
  entered = λ n t e. named.entered t (contained (terms_in s) n t (ap (λ (ts : List Term). slice_get ts n) (sym names) ∙ e));
  closed = subst (λ (sig : Signature). AreClosed sig y.names) (sym named.signature) closed;
  values = subst (λ (sig : Signature). AreValues sig y) (sym named.signature) are;
  step = subst (λ (sig : Signature). AreLineValues sig y.names y.values (live js)) (sym named.signature) step;
}
