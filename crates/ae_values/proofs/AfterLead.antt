-- What holds where the followers of a name were led to another, and that name itself too.
use Rattle.std.specs.Prelude.{ℕ, ◌<◌, ◌≡◌, List, [], ◌∷◌, Some}
use Rattle.std.specs.List.{AllByRecursion}
use Rattle.std.proofs.Common.{ap, ◌∙◌}
use Rattle.ae_core.specs.declared.terms.Sort.{Sort}
use Rattle.ae_core.specs.declared.terms.Term.{Term}
use Rattle.ae_core.specs.declared.problems.Signature.{Signature}
use Rattle.ae_linear.specs.Rows.{row_at}
use Rattle.ae_pmap.specs.Forest.{present}
use Rattle.ae_pmap.specs.Pairs.{found, with_at}
use Rattle.ae_store.specs.Growing.{IsFront}
use Rattle.ae_store.specs.Shapes.{shapes}
use Rattle.ae_store.specs.Stores.{Stored}
use Rattle.ae_store.specs.Terms.{terms}
use Rattle.ae_just.specs.declared.steps.Step.{Step}
use Rattle.ae_just.specs.Steps.{Fits}
use Rattle.ae_settled.specs.Valued.{IsOwnLeaf}
use Rattle.ae_value_changes.specs.Put.{IsLeafPut}
use Rattle.ae_value_table.specs.Table.{Contents, just_at, held, values}
use Rattle.ae_value_fitting.specs.Fitting.{system_in, held_by, AreSaid}
use Rattle.ae_value_fitting.specs.Sources.{AreFromValues}
use Rattle.ae_values.specs.declared.occurrences.Follower.{Follower}
use Rattle.ae_values.specs.Inner.Before.{IsFollowing, IsFollower}
use Rattle.ae_values.specs.Inner.Leading.{AreLed, IsLeafPuttable}
use Rattle.ae_values.proofs.AfterPut.{OnlyJusts}
use Rattle.ae_values.proofs.Leadable.{all_follow, leaf_is_put, leaf_said, leaf_sources}

-- only the leaves differ, or the leaves and the steps
abbrev pub OnlyLeaves : Contents → Contents → Type 0
OnlyLeaves c d = d ≡ record { entries = c.entries; taken = c.taken; rows = c.rows; leaves = d.leaves; justs = c.justs }

abbrev pub OnlyLed : Contents → Contents → Type 0
OnlyLed c d = d ≡ record { entries = c.entries; taken = c.taken; rows = c.rows; leaves = d.leaves; justs = d.justs }

module _ (s : Stored) (steps : List Step) (c mid d e : Contents) (name leaf just : ℕ) (p : IsLeafPuttable s steps c name leaf just) (after : List Step) (front : IsFront steps after) (fits : Fits s.signature (terms (shapes s.nodes)) after)
    (followers : List Follower) (each : AllByRecursion (IsFollowing c name) followers)
    (all : (n k : ℕ) → n < c.taken → found (present c.leaves) n ≡ Some name → just_at c n ≡ Some k → IsFollower followers n) (led : AreLed steps after leaf (just ∷ []) c mid followers)
    (in_mid : OnlyLed c mid) (in_leaves : OnlyLeaves mid d) (in_justs : OnlyJusts d e)
    (put : (n : ℕ) → found (present d.leaves) n ≡ with_at (found (present mid.leaves)) name (Some leaf) n) (kept : (n : ℕ) → just_at e n ≡ with_at (found (present d.justs)) name (Some just) n) where
  abbrev sig : Signature
  sig = s.signature

  abbrev ts : List Term
  ts = terms (shapes s.nodes)

  pub names_after : held e ≡ held c
  names_after = ap (λ (x : Contents). held x) in_justs ∙ ap (λ (x : Contents). held x) in_leaves ∙ ap (λ (x : Contents). held x) in_mid

  rows_after : (n : ℕ) → row_at e.rows n ≡ row_at c.rows n
  rows_after n = ap (λ (x : Contents). row_at x.rows n) in_justs ∙ ap (λ (x : Contents). row_at x.rows n) in_leaves ∙ ap (λ (x : Contents). row_at x.rows n) in_mid

  put_after : (n : ℕ) → found (present e.leaves) n ≡ with_at (found (present mid.leaves)) name (Some leaf) n
  put_after n = ap (λ (x : Contents). found (present x.leaves) n) in_justs ∙ put n

  kept_after : (n : ℕ) → just_at e n ≡ with_at (found (present mid.justs)) name (Some just) n
  kept_after n = kept n ∙ ap (λ (x : Contents). with_at (found (present x.justs)) name (Some just) n) in_leaves

  followed : (n : ℕ) → found (present c.leaves) n ≡ Some name → IsFollower followers n
  followed = all_follow s steps c name leaf just p followers all

  pub is_put : (t : Sort) → IsOwnLeaf sig (system_in ts c) t name → IsLeafPut (held_by sig s.nodes c) t name leaf (values e)
  is_put = leaf_is_put s steps c name leaf just p after front fits mid e followers each followed led put_after kept_after names_after rows_after

  pub said_after : AreSaid sig ts after e
  said_after = leaf_said s steps c name leaf just p after front fits mid e followers each followed led put_after kept_after names_after rows_after

  pub sources_after : AreFromValues steps after c e (just ∷ [])
  sources_after = leaf_sources s steps c name leaf just p after front fits mid e followers each followed led put_after kept_after names_after rows_after
