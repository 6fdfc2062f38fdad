-- The first declaration that is too large, and the items, one declaration after another.
use Rattle.std.proofs.Common.{◌≡◌, ◌∙◌, ◌<◌, ◌≤◌, ◌+◌, ℕ, Bool, true, false, List, [], ◌∷◌, ◌++◌, length, take, drop, get_or, map, Option, Some, None, sym, ap}
use Rattle.std.specs.Option.{option_map}
use Rattle.std.proofs.lemmas.List.{drop_more, drop_all, map-append, take_all, take_more}
use Rattle.ae_core.specs.declared.problems.Item.{Item}
use Rattle.ae_core.specs.declared.terms.Sort.{Sort}
use Rattle.ae_declaration_typing.specs.declared.drafts.Draft as code
use Rattle.ae_declaration_typing.specs.Drafts.{draft_of}
use Rattle.ae_elab.specs.Conditions.{shown}
use Rattle.ae_elab.specs.Declarations.{Draft}
use Rattle.ae_elab.specs.Nodes.{Entry, claim_at}
use Rattle.ae_elab.specs.Problems.{first_large, is_small, item_of}
use Rattle.ae_elaborate.specs.Inner.Typed.{large_place}
use Rattle.ae_file_typing.specs.Files.{drafts_at}
use Rattle.ae_syntax.specs.declared.spans.Span.{Span}

module _ (text : List ℕ) (m : ℕ → Sort) (es : List Entry) (ds : List code.Draft) where
  abbrev told : code.Draft → Draft
  told d = draft_of text d (claim_at es d.claim)

  -- ---- the first that is too large
  abbrev large_among : List code.Draft → Option Span
  large_among zs = large_place (shown m) (drafts_at text es zs)

  module _ (i : ℕ) (d : code.Draft) (l : i < length ds) where
    abbrev here : code.Draft
    here = get_or ds i d

    abbrev by_size : Bool → Option Draft
    by_size b = elim b [ true ↦ first_large (shown m) (drafts_at text es (drop (i + 1) ds)) | false ↦ Some (told here) ]

    abbrev place_by_size : Bool → Option Span
    place_by_size b = option_map (λ (z : Draft). z.place) (by_size b)

    at_draft : large_among (drop i ds) ≡ place_by_size (is_small (shown m) (told here))
    at_draft = ap large_among (drop_more ds i d l)

    pub small_next : is_small (shown m) (told here) ≡ true → large_among (drop (i + 1) ds) ≡ large_among (drop i ds)
    small_next e = sym (at_draft ∙ ap place_by_size e)

    pub large_here : is_small (shown m) (told here) ≡ false → large_among (drop i ds) ≡ Some here.place
    large_here e = at_draft ∙ ap place_by_size e

  pub none_large : (i : ℕ) → length ds ≤ i → large_among (drop i ds) ≡ None
  none_large i l = ap large_among (drop_all i ds l)

  -- ---- items
  abbrev items_of : List code.Draft → List Item
  items_of zs = map (item_of m) (drafts_at text es zs)

  one_more : (zs : List code.Draft) (d : code.Draft) → items_of (zs ++ d ∷ []) ≡ items_of zs ++ item_of m (told d) ∷ []
  one_more zs d = ap (map (item_of m)) (map-append told zs (d ∷ [])) ∙ map-append (item_of m) (drafts_at text es zs) (told d ∷ [])

  pub item_next : (all longer : List Item) (x : Item) (i : ℕ) (d : code.Draft) → i < length ds → all ≡ items_of (take i ds)
      → x ≡ item_of m (told (get_or ds i d)) → longer ≡ all ++ x ∷ [] → longer ≡ items_of (take (i + 1) ds)
  item_next all longer x i d l h e p =
      p ∙ ap (λ (z : List Item). z ++ x ∷ []) h ∙ ap (λ (z : Item). items_of (take i ds) ++ z ∷ []) e
      ∙ sym (ap items_of (take_more ds i d l) ∙ one_more (take i ds) (get_or ds i d))

  pub items_end : (all : List Item) (i : ℕ) → length ds ≤ i → all ≡ items_of (take i ds) → all ≡ items_of ds
  items_end all i l h = h ∙ ap items_of (take_all i ds l)
