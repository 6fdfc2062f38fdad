-- What was said stays said, where the same is held and steps come behind.
use Rattle.std.specs.Prelude.{ℕ, ◌≡◌, List, [], Some, Result, Ok, Err, OnOk, OnErr}
use Rattle.std.proofs.Common.{refl, sym, ap, ◌∙◌, subst, inr}
use Rattle.ae_core.specs.declared.terms.Term.{Term}
use Rattle.ae_core.specs.declared.problems.Signature.{Signature}
use Rattle.ae_linear.specs.declared.rows.Row.{Row}
use Rattle.ae_linear.specs.Rows.{row_at}
use Rattle.ae_pmap.specs.Forest.{present}
use Rattle.ae_pmap.specs.Pairs.{found}
use Rattle.ae_store.specs.Growing.{IsFront}
use Rattle.ae_just.specs.declared.steps.Step.{Step}
use Rattle.ae_just.specs.Steps.{Fits}
use Rattle.ae_value_steps.proofs.Added.{stated_kept, equal_kept}
use Rattle.ae_value_table.specs.Table.{Contents}
use Rattle.ae_value_table.specs.Versions.{IsAs}
use Rattle.ae_num.specs.declared.forms.Value.{Value}
use Rattle.ae_journal.specs.declared.answers.WideAt.{WideAt}
use Rattle.ae_settled.specs.Valued.{AreValues}
use Rattle.ae_value_table.proofs.Versioning.{values_as}
use Rattle.ae_value_fitting.specs.declared.refusals.Refused.{Refused}
use Rattle.ae_value_fitting.specs.declared.refusals.Refused.TheVariants.{Number, Memory}
use Rattle.ae_value_fitting.specs.Refusals.{IfNumber}
use Rattle.ae_value_fitting.specs.Fitting.{system_in, AreSaid, IsNumberSaid, IsLeafSaid}
use Rattle.ae_value_fitting.specs.Sources.{IsPutFor, by_number, by_leaf, SaysValue, RestsOnValues, AreFromValues}
use Rattle.ae_value_fitting.proofs.Resting.{rests_still, says_within}

-- by what holds after an answer, and after a refusal
pub by_result : {T E A B P : Type 0} (r : Result T E) → OnOk r A → OnErr r B → (A → P) → (B → P) → P
by_result (Ok x) a b f g = f a
by_result (Err e) a b f g = g b

pub if_number : {P Q : WideAt → Type 0} (r : Refused) → ((w : WideAt) → P w → Q w) → IfNumber r P → IfNumber r Q
if_number (Number w) f h = f w h
if_number (Memory m) f h = tt

-- the same is held
pub as_itself : (c : Contents) → IsAs c c
as_itself c = record { names = refl; rows = λ n. refl; leaves = refl; justs = refl; taken = refl }

pub values_back : (sig : Signature) (ts : List Term) (c d : Contents) → IsAs d c → AreValues sig (system_in ts c) → AreValues sig (system_in ts d)
values_back sig ts c d same are = subst (λ (vs : List Value). AreValues sig (record { names = ts; values = vs; rules = [] })) (sym (values_as d c same)) are

module _ (sig : Signature) (ts : List Term) (before after : List Step) (front : IsFront before after) (c d : Contents) (same : IsAs d c) (said : AreSaid sig ts before c) where
  leaf_same : (n m : ℕ) → found (present d.leaves) n ≡ Some m → found (present c.leaves) n ≡ Some m
  leaf_same n m at = ap (λ (ps : List (ℕ × ℕ)). found ps n) (sym same.leaves) ∙ at

  number_said : (n : ℕ) (row : Row) → row_at d.rows n ≡ Some row → IsNumberSaid sig ts after d n row
  number_said n row at =
      let w = said.numbers n row (sym (same.rows n) ∙ at) in
      record { real = w.real; step = w.step; just = ap (λ (ps : List (ℕ × ℕ)). found ps n) same.justs ∙ w.just; stated = stated_kept sig ts before after front w.real n row.value w.step w.stated }

  leaf_said : (n m : ℕ) → found (present d.leaves) n ≡ Some m → IsLeafSaid sig ts after d n m
  leaf_said n m at =
      let w = said.leaves n m (leaf_same n m at) in
      record {
        sort = w.sort;
        sorted = w.sorted;
        other = w.other;
        step = w.step;
        just = ap (λ (ps : List (ℕ × ℕ)). found ps n) same.justs ∙ w.just;
        equal = equal_kept before after front w.step n m w.equal;
      }

  pub said_as : AreSaid sig ts after d
  said_as = record { numbers = number_said; leaves = leaf_said }

  pub sources_as : Fits sig ts after → (more : List ℕ) → AreFromValues before after c d more
  sources_as fits more = record { each = each }
    where
      put_same : (n : ℕ) → IsPutFor d n → IsPutFor c n
      put_same n (by_number row at) = by_number row (sym (same.rows n) ∙ at)
      put_same n (by_leaf m at) = by_leaf m (leaf_same n m at)

      each : (id : ℕ) → SaysValue d id → RestsOnValues before after c more id
      each id s =
          let w : SaysValue c id = record { name = s.name; put = put_same s.name s.put; just = ap (λ (ps : List (ℕ × ℕ)). found ps s.name) (sym same.justs) ∙ s.just } in
          rests_still sig ts before after front fits c more id (says_within sig ts before c said id w) (inr w)
