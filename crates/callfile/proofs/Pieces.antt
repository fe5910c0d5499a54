-- pieces written one behind the other
use Rattle.std.proofs.Common.{◌≡◌, ℕ, ◌+◌, ◌-◌, ◌<◌, ◌≤◌, Bool, true, false, cond, eqb, List, [], ◌∷◌, ◌++◌, length, get_or, take, drop, Some, Ok, Err, Option, Result, sym, ap, ◌∙◌, subst, arith, length-append}
use Rattle.std.specs.List.{flat_map, AllByRecursion, slice_get}
use Rattle.std.proofs.ByRecursion.{All-get_or}
use Rattle.std.proofs.lemmas.Option.{slice_get-get_or}
use borrow.Rule.Slice.PartMut.{put_mid}
use Rattle.std.proofs.lemmas.List.{take_more, take_all, drop_all, append-nil}
use Rattle.std.proofs.lemmas.Grind.{flat_map-append}
use Rattle.std.proofs.lemmas.List.Folds.{length-flat_map-take}
use Rattle.cards.specs.declared.kind.WrongWidth.{WrongWidth}
use Rattle.cards.specs.Written.{wrong_width, card_written}
use Rattle.cards.proofs.Puts.{put_next}
use Rattle.callfile.proofs.Results.{never}

module _ {X : Type 0} (bytes : X → List ℕ) (xs : List X) (before : List ℕ) where
  -- the pieces before place i stand in front
  abbrev pub Put : (byte i : ℕ) (out : List ℕ) → Type 0
  Put byte i out = (byte ≡ length (flat_map bytes (take i xs))) × (out ≡ flat_map bytes (take i xs) ++ drop byte before)

  module _ (byte i : ℕ) (out : List ℕ) (inv : Put byte i out) where
    module _ (h : i < length xs) (x : X) (e : x ≡ get_or xs i x) where
      more : flat_map bytes (take (i + 1) xs) ≡ flat_map bytes (take i xs) ++ bytes x
      more =
          let t : take (i + 1) xs ≡ take i xs ++ (x ∷ []) = take_more xs i x h ∙ ap (λ (y : X). take i xs ++ (y ∷ [])) (sym e) in
          ap (flat_map bytes) t ∙ (flat_map-append bytes (take i xs) (x ∷ []) ∙ ap (λ (ys : List ℕ). flat_map bytes (take i xs) ++ ys) (append-nil (bytes x)))

      -- there is room for the next piece
      pub put_room : length before ≡ length (flat_map bytes xs) → (size : ℕ) → length (bytes x) ≡ size → byte + size ≤ length before
      put_room l size s = let m = length-flat_map-take bytes xs i x h in let n = ap (λ (y : X). length (bytes y)) e in omega (arith, inv.0)

      pub put_again : (size : ℕ) → length (bytes x) ≡ size → (piece : List ℕ) → piece ≡ bytes x → Put (byte + size) (i + 1) (put_mid byte (byte + size - byte) out piece)
      put_again size s piece p = (
        (let l = ap length more ∙ length-append (flat_map bytes (take i xs)) (bytes x) in omega (arith, inv.0)),
        put_next (flat_map bytes (take i xs)) piece before out byte size (sym inv.0) inv.1
            ∙ ap (λ (ys : List ℕ). ys ++ drop (byte + size) before) (ap (λ (ys : List ℕ). flat_map bytes (take i xs) ++ ys) p ∙ sym more),
      )

    pub put_end : length xs ≤ i → length before ≡ length (flat_map bytes xs) → out ≡ flat_map bytes xs
    put_end h l =
        let t : flat_map bytes (take i xs) ≡ flat_map bytes xs = ap (flat_map bytes) (take_all i xs h) in
        let d : drop byte before ≡ [] = drop_all byte before (let m = ap length t in omega (arith, inv.0)) in
        inv.1 ∙ (ap (λ (ys : List ℕ). flat_map bytes (take i xs) ++ ys) d ∙ (append-nil (flat_map bytes (take i xs)) ∙ t))

-- an item that was looked up, and what all items keep
module _ {X : Type 0} (xs : List X) (i : ℕ) (h : i < length xs) (o : Option X) (l : o ≡ slice_get xs i) (x : X) (e : o ≡ Some x) where
  pub item_is : x ≡ get_or xs i x
  item_is = let n = slice_get-get_or xs i x h in cc

  pub item-keeps : (keeps : X → Bool) → AllByRecursion (λ y. keeps y ≡ true) xs → keeps x ≡ true
  item-keeps keeps a = subst (λ (y : X). keeps y ≡ true) (sym item_is) (All-get_or (λ y. keeps y ≡ true) xs i x h a)

-- a piece that was written whole
pub was-written :
    {X : Type 0} (width : ℕ) (shape : X → List ℕ) (x : X) (out after : List ℕ) (r : Result (Unit {0}) WrongWidth) (u : Unit {0}) → ◌≡◌ {A = Result (Unit {0}) WrongWidth × List ℕ} (r, after) (card_written width shape x out) → r ≡ Ok u → after ≡ shape x
was-written width shape x out after r u w e = by_test (eqb (length out) width) w where
  by_test : (b : Bool) → ◌≡◌ {A = Result (Unit {0}) WrongWidth × List ℕ} (r, after) (cond b (Ok tt, shape x) (Err wrong_width, out)) → after ≡ shape x
  by_test true q = ap (λ (p : Result (Unit {0}) WrongWidth × List ℕ). p.1) q
  by_test false q = let z = ap (λ (p : Result (Unit {0}) WrongWidth × List ℕ). p.0) q in never (cc)
