-- The format: the bytes of a day's call file.
use Rattle.std.specs.Prelude.{ℕ, ◌+◌, List, [], ◌∷◌, ◌++◌, length}
use Rattle.std.specs.List.{flat_map}
use Rattle.parts.specs.declared.calls.Call.{Call}
use Rattle.cards.specs.Words.{words_bytes}
use Rattle.callfile.specs.Limits.{head_length, card_from}
use Rattle.callfile.specs.Days.{Day}
use Rattle.callfile.specs.Letters.{Spelled, plain, carrying, spelled}

module _ {C : Type 0} (card_bytes : C → List ℕ) where
  -- the letter, the two numbers, and the card if there is one
  abbrev pub spelled_bytes : Spelled C → List ℕ
  spelled_bytes (plain l x y) = l ∷ x ∷ y ∷ []
  spelled_bytes (carrying l x y c) = l ∷ x ∷ y ∷ card_bytes c

  abbrev pub call_bytes : Call C → List ℕ
  call_bytes c = spelled_bytes (spelled c)

-- the header: kind of card, kind of book, terminals, founder, groups and their offset, offset of the first card, calls and their offset
abbrev pub head_bytes : (card_kind book_kind span terminals founder groups calls : ℕ) → List ℕ
head_bytes k b span n f g c = k ∷ b ∷ words_bytes (n ∷ f ∷ g ∷ head_length ∷ card_from g ∷ c ∷ (card_from g + span) ∷ [])

module _ {C G : Type 0} (card_kind book_kind span : ℕ) (card_bytes : C → List ℕ) (entry_bytes : G → List ℕ) where
  -- the file of a day: header, groups, first card and calls, without gaps
  abbrev pub render : Day C G → List ℕ
  render d =
      head_bytes card_kind book_kind span d.terminals d.founder.0 (length d.groups) (length d.calls)
      ++ (flat_map entry_bytes d.groups ++ (card_bytes d.first ++ flat_map (call_bytes card_bytes) d.calls))
