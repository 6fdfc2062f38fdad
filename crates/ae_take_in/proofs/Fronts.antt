-- What is held over the first names, and where the same is held.
use Rattle.std.specs.Prelude.{ℕ, ◌<◌, ◌≤◌, ◌≡◌, Bool, List, [], length, take, slice_get, Option, Some, None}
use Rattle.std.proofs.Common.{refl, sym, ap, ◌∙◌, arith}
use Rattle.std.proofs.lemmas.List.{length-take-le}
use Rattle.std.proofs.lemmas.Option.{none-some}
use Rattle.ae_base.specs.Options.{or_else}
use Rattle.ae_base.proofs.AllOf.{all_weaker}
use Rattle.ae_base.proofs.ListFacts.{get_front}
use Rattle.ae_core.specs.Sorts.{sort_of, is_closed_sort}
use Rattle.ae_core.proofs.SortLaws.{sort_in_bound}
use Rattle.ae_core.specs.declared.terms.Sort.{Sort}
use Rattle.ae_core.specs.declared.terms.Term.{Term, Bound}
use Rattle.ae_core.specs.declared.problems.Signature.{Signature}
use Rattle.ae_num.specs.declared.forms.Part.{Part}
use Rattle.ae_num.specs.declared.forms.Lin.{Lin}
use Rattle.ae_linear.specs.declared.rows.Row.{Row}
use Rattle.ae_linear.specs.Rows.{row_at, value_of}
use Rattle.ae_pmap.specs.Forest.{present}
use Rattle.ae_pmap.specs.Pairs.{found}
use Rattle.ae_just.specs.declared.steps.Step.{Step}
use Rattle.ae_store.proofs.StoreLaws.{name_term}
use Rattle.ae_store.specs.Terms.{named}
use Rattle.ae_state_steps.specs.ValueSteps.{sort_for, IsNumberName}
use Rattle.ae_value_steps.specs.Stating.{IsStated}
use Rattle.ae_value_table.specs.declared.patterns.Entry.{Entry}
use Rattle.ae_value_table.specs.Table.{Contents, own, number_at, leaf_at, just_at}
use Rattle.ae_value_table.specs.Versions.{IsAs}
use Rattle.ae_value_fitting.specs.Fitting.{AreSaid}
use Rattle.ae_value_fitting.specs.Sources.{IsPutFor, by_number, by_leaf, SaysValue}
use Rattle.ae_patterns.specs.Patterns.{AreEntriesOf}
use Rattle.ae_take_in.specs.Inner.Next.{AreBelow}

-- ---- names of a front that have a sort are its names, and have it in the whole
module _ (sig : Signature) (ts : List Term) (t : ℕ) where
  abbrev front : List Term
  front = take t ts

  pub sorted_front : (n : ℕ) (s : Sort) → sort_of sig (named front n) ≡ Some s → (n < t) × (sort_of sig (named ts n) ≡ Some s)
  sorted_front n s e = by_term (slice_get front n) refl
    where
      by_term : (o : Option Term) → slice_get front n ≡ o → (n < t) × (sort_of sig (named ts n) ≡ Some s)
      by_term None h =
          absurd (none-some s (sym (sort_in_bound sig (is_closed_sort sig) [] 0) ∙ ap (sort_of sig) (sym (ap (λ (o : Option Term). or_else o (Bound 0)) h)) ∙ e))
      by_term (Some u) h =
          let g = get_front ts t n u h in
          (g.1, ap (sort_of sig) (name_term ts n u g.0 ∙ sym (name_term front n u h)) ∙ e)

  pub stated_front : (steps : List Step) (real : Bool) (n : ℕ) (l : Lin) (id : ℕ) → IsStated sig front steps real n l id → IsStated sig ts steps real n l id
  stated_front steps real n l id s = record {
    written = record {
      name = (sorted_front n (sort_for real) s.written.name).1;
      parts = all_weaker (λ (p : Part). IsNumberName sig front real p.key) (λ (p : Part). IsNumberName sig ts real p.key) (λ p i. (sorted_front p.key (sort_for real) i).1) l.parts s.written.parts;
      normal = s.written.normal;
    };
    stated = s.stated;
  }

  -- what is said of the values over the first names, for the same rows and leaves
  module _ (steps : List Step) (c : Contents) (said : AreSaid sig front steps c) (es : List Entry) where
    abbrev d : Contents
    d = record c { entries = es }

    pub below_entered : AreBelow t d
    below_entered = record {
      rows = λ k row at. (let w = said.numbers k row at in (sorted_front k (sort_for w.real) w.stated.written.name).0);
      leaves = λ k m at. (let w = said.leaves k m at in (sorted_front k w.sort w.sorted).0);
    }

    pub said_entered : AreSaid sig ts steps d
    said_entered = record {
      numbers = λ n row at. (let w = said.numbers n row at in record { real = w.real; step = w.step; just = w.just; stated = stated_front steps w.real n row.value w.step w.stated });
      leaves = λ n m at. (let w = said.leaves n m at in record { sort = w.sort; sorted = (sorted_front n w.sort w.sorted).1; other = w.other; step = w.step; just = w.just; equal = w.equal });
    }

pub entries_front : (sig : Signature) (ts : List Term) (es : List Entry) (t : ℕ) → t ≤ length es → AreEntriesOf sig ts es → AreEntriesOf sig ts (take t es)
entries_front sig ts es t l are = record {
  within = let e : length (take t es) ≡ t = length-take-le t es l in let w : length es ≤ length ts = are.within in omega (arith, e, w, l);
  each = λ n e at. are.each n e (get_front es t n e at).0;
}

-- ---- where the same rows, leaves and steps of them are held
pub record HaveSame (c d : Contents) : Type 0 where
  pub rows : (n : ℕ) → row_at d.rows n ≡ row_at c.rows n
  pub leaves : present d.leaves ≡ present c.leaves
  pub justs : present d.justs ≡ present c.justs

pub same_as : (c d : Contents) → IsAs d c → HaveSame c d
same_as c d i = record { rows = i.rows; leaves = i.leaves; justs = i.justs }

module _ (c d : Contents) (same : HaveSame c d) where
  pub numbers_same : (n : ℕ) → number_at d n ≡ number_at c n
  numbers_same n = ap (λ (o : Option Row). or_else (value_of o) (own n)) (same.rows n)

  pub leaves_same : (n : ℕ) → leaf_at d n ≡ leaf_at c n
  leaves_same n = ap (λ (ps : List (ℕ × ℕ)). or_else (found ps n) n) same.leaves

  leaf_there : (n m : ℕ) → found (present d.leaves) n ≡ Some m → found (present c.leaves) n ≡ Some m
  leaf_there n m at = ap (λ (ps : List (ℕ × ℕ)). found ps n) (sym same.leaves) ∙ at

  just_there : (n : ℕ) → just_at d n ≡ just_at c n
  just_there n = ap (λ (ps : List (ℕ × ℕ)). found ps n) same.justs

  pub below_same : (n : ℕ) → AreBelow n c → AreBelow n d
  below_same n b = record { rows = λ k row at. b.rows k row (sym (same.rows k) ∙ at); leaves = λ k m at. b.leaves k m (leaf_there k m at) }

  pub said_same : (sig : Signature) (ts : List Term) (steps : List Step) → AreSaid sig ts steps c → AreSaid sig ts steps d
  said_same sig ts steps said = record {
    numbers = λ n row at. (let w = said.numbers n row (sym (same.rows n) ∙ at) in record { real = w.real; step = w.step; just = just_there n ∙ w.just; stated = w.stated });
    leaves = λ n m at. (let w = said.leaves n m (leaf_there n m at) in record { sort = w.sort; sorted = w.sorted; other = w.other; step = w.step; just = just_there n ∙ w.just; equal = w.equal });
  }

  pub says_same : (id : ℕ) → SaysValue d id → SaysValue c id
  says_same id s = record { name = s.name; put = by_put s.put; just = sym (just_there s.name) ∙ s.just }
    where
      by_put : IsPutFor d s.name → IsPutFor c s.name
      by_put (by_number row at) = by_number row (sym (same.rows s.name) ∙ at)
      by_put (by_leaf m at) = by_leaf m (leaf_there s.name m at)

-- what is said over the first names is said over all
pub said_held : (c : Contents) (sig : Signature) (ts : List Term) (steps : List Step) → AreSaid sig (take c.taken ts) steps c → AreSaid sig ts steps c
said_held c sig ts steps said =
    let d : Contents = record c { entries = [] } in
    let same : HaveSame d c = record { rows = λ n. refl; leaves = refl; justs = refl } in
    said_same d c same sig ts steps (said_entered sig ts c.taken steps c said [])
