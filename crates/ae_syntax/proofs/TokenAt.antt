-- The token at a place of a list.
use Rattle.std.specs.Prelude.{ℕ, ◌+◌, ◌^◌, ◌<◌, List, [], ◌∷◌, ◌≡◌, length, drop, slice_get, Option, Some, None, IfSome, IfNone}
use Rattle.std.proofs.Common.{sym, ap, ◌∙◌, arith}
use Rattle.std.proofs.lemmas.List.{drop_more}
use Rattle.std.proofs.lemmas.Option.{none-some, slice_get-get_or, slice_get_within, get_or_from_slice_get}
use Rattle.ae_lex.specs.declared.kinds.Token.{Token}
use Rattle.ae_syntax.specs.Inner.Reading.{IsAt}

is_at : (tokens : List Token) (at : ℕ) (t : Token) → slice_get tokens at ≡ Some t → length tokens < 2 ^ 64 → IsAt tokens at t
is_at tokens at t e l =
    let w = slice_get_within tokens at t e in
    record { next = drop_more tokens at t w ∙ ap (λ u. u ∷ drop (at + 1) tokens) (get_or_from_slice_get tokens at t t e); within = w; room = l }

pub found_at : (tokens : List Token) (at : ℕ) (r : Option Token) → r ≡ slice_get tokens at → length tokens < 2 ^ 64 → IfSome r (λ t. IsAt tokens at t)
found_at tokens at (Some t) e l = is_at tokens at t (sym e) l
found_at tokens at None e l = tt

pub some_there : (tokens : List Token) (at : ℕ) (r : Option Token) → r ≡ slice_get tokens at → at < length tokens → IfNone r (drop at tokens ≡ [])
some_there tokens at (Some t) e w = tt
some_there [] at None e w = absurd (omega (arith, w))
some_there (u ∷ tokens) at None e w = absurd (none-some _ (e ∙ slice_get-get_or (u ∷ tokens) at u w))
