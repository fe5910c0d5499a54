-- Bytes in hexadecimal, written one by one.
use Rattle.std.proofs.Common.{◌≡◌, ℕ, ◌+◌, ◌-◌, ◌/◌, ◌%◌, ◌^◌, ◌<◌, true, false, List, [], ◌∷◌, ◌++◌, length, get_or, take, Some, refl, sym, ap, ◌∙◌}
use Rattle.std.specs.Fmt.{digits_output, radix_digits, styled_digits_output, padded_integral, format_spec}
use Rattle.std.specs.Option.{option_map}
use Rattle.std.proofs.lemmas.Fmt.{hex_byte}
use Rattle.std.proofs.lemmas.List.{take_more}
use Rattle.listing.specs.Lines.{hex_digit, hex_text}

hex_append : (xs ys : List ℕ) → hex_text (xs ++ ys) ≡ hex_text xs ++ hex_text ys
hex_append [] ys = refl
hex_append (x ∷ xs) ys = ap (λ zs. hex_digit (x / 16) ∷ hex_digit (x % 16) ∷ zs) (hex_append xs ys)

-- one byte more
pub hex_more : (xs : List ℕ) (i : ℕ) → i < length xs → hex_text (take i xs) ++ hex_text (get_or xs i 0 ∷ []) ≡ hex_text (take (i + 1) xs)
hex_more xs i h = sym (ap hex_text (take_more xs i 0 h) ∙ hex_append (take i xs) (get_or xs i 0 ∷ []))

-- what is printed of a byte in two hexadecimal digits
pub byte_shown :
    (d : _) (s : _) (b : ℕ) → b < 256 → digits_output d ≡ Some (radix_digits 16 true b) → s ≡ format_spec 32 0 4 2 (2 ^ 64 - 1) →
    styled_digits_output d s ≡ Some (hex_text (b ∷ []))
byte_shown d s b small numeral plain =
    ap (styled_digits_output d) plain ∙ ap (option_map (padded_integral (format_spec 32 0 4 2 (2 ^ 64 - 1)) false [])) numeral ∙ ap Some (hex_byte true b small)
