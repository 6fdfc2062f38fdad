-- What contracts see of rows with their derivations, and when these are right over a store.
use Rattle.std.specs.Prelude.{ℕ, Bool, List, [], ◌∷◌, ◌++◌, ◌≡◌, length, slice_get, refl}
use Rattle.std.specs.List.{flat_map}
use Rattle.std.specs.Coded.{Coded, code_by, coded×, coded_list, coded_ℕ}
use Rattle.ae_base.specs.Options.{or_else}
use Rattle.ae_math.specs.Forms.{single}
use Rattle.ae_rules.specs.Linear.{form}
use Rattle.ae_store.specs.Stores.{Stored}
use Rattle.ae_store.specs.Terms.{named}
use Rattle.ae_theory.specs.Names.{terms_in, Extends}
use Rattle.ae_theory.specs.Noting.{IsBlockOf}
use Rattle.ae_theory.specs.Tagged.{Tagged}
use Rattle.ae_theory.specs.declared.theory.Explained.{Explained}
use Rattle.ae_bounds.specs.declared.rows.Row.{Row as Kept}
use Rattle.ae_bounds.specs.contracts.rows.Row as kept_contract
use Rattle.ae_bounds.specs.Rounding.{IsAssumed}
use Rattle.ae_bounds.specs.Findings.{IsRefutedAt}
use Rattle.ae_bound_blocks.specs.declared.given.Given.{Given}
use Rattle.ae_bound_blocks.specs.contracts.given.Given as given_contract
use Rattle.ae_bound_blocks.specs.Ancestors.{AreTagsOf, hyps_of}
use Rattle.ae_bound_solve.specs.Given.{AreAllGiven, IsWholeName}
use Rattle.ae_inequalities.specs.declared.rows.Row.{Row}
use Rattle.ae_inequalities.specs.Rows.{given_by}

-- the kept rows, of which the assumed ones are numbered from 0; by these numbers what gives each, and the tags of its derivation
pub record Held : Type 0 where
  pub rows : List Kept
  pub given : List Given
  pub tags : List (List ℕ)

abbrev pub held_code : Coded Held
held_code =
    code_by (List Kept × (List Given × List (List ℕ))) (coded× (coded_list kept_contract.the_row.coded) (coded× (coded_list given_contract.the_row.coded) (coded_list (coded_list coded_ℕ))))
    (λ b. (b.rows, (b.given, b.tags))) (λ p. record { rows = p.0; given = p.1.0; tags = p.1.1 }) (λ _. refl)

-- the tags of the derivation of a number
abbrev pub tags_at : {A : Type 0} → List (List A) → ℕ → List A
tags_at tags k = or_else (slice_get tags k) []

-- each derivation's hypotheses are the literals of its tags, one by one
abbrev pub AreOfTags : List Tagged → Held → Type 0
AreOfTags assumed b = (k : ℕ) → IsBlockOf assumed (hyps_of b.given k) (tags_at b.tags k)

-- each assumed row is given right over the store, and the names in one that is over integers are opaque terms
pub record Fits (s : Stored) (b : Held) : Type 0 where
  pub given : AreAllGiven s.signature (terms_in s) b.rows b.given
  pub opaque : (n : ℕ) → IsWholeName b.rows n → form (named (terms_in s) n) ≡ single (named (terms_in s) n)

-- the row was added under the next number, as one that counts or not
pub record IsAdded (old : Held) (r : Row) (counts : Bool) (new : Held) : Type 0 where
  pub kept : Kept
  pub marked : kept.counts ≡ counts
  pub assumed : IsAssumed r.lin r.strict r.integral (length old.given) kept
  pub rows : new.rows ≡ old.rows ++ kept ∷ []
  pub given : new.given ≡ old.given ++ given_by r ∷ []
  pub tags : new.tags ≡ old.tags ++ r.from.tags ∷ []

-- the hypotheses of the block and its tags are those of the derivations of exactly the assumed rows that a row which can't hold is made of, one after another
pub record IsMadeOfRows (b : Held) (e : Explained) : Type 0 where
  pub place : ℕ
  pub refuted : IsRefutedAt b.rows place
  pub used : List ℕ
  pub exactly : AreTagsOf b.rows place used
  pub hyps : e.block.deriv.hyps ≡ flat_map (hyps_of b.given) used
  pub tags : e.tags ≡ flat_map (tags_at b.tags) used

-- rows that fit a store fit each store with more terms
abbrev pub FitsMore : Type 0
FitsMore = (a b : Stored) (held : Held) → Extends a b → Fits a held → Fits b held
