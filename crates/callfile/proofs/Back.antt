-- bytes that read as a day are the file of that day
use Rattle.std.proofs.Common.{◌≡◌, ℕ, zero, suc, ◌+◌, ◌*◌, ◌<◌, ◌≤◌, Bool, true, false, cond, ◌&&◌, eqb, ltb, leb, List, [], ◌∷◌, ◌++◌, length, get_or, take, drop, Some, None, Ok, Err, Option, Result, sym, refl, ap, ◌∙◌, subst, arith, length-drop}
use Rattle.std.specs.List.{flat_map, AllByRecursion}
use Rattle.std.proofs.lemmas.List.{append_assoc, take-append-drop, drop-drop, drop_more}
use Rattle.std.proofs.ByRecursion.{All-get_or, All-take, All-drop}
use Rattle.std.proofs.lemmas.Bool.{eqb-true, and_from, le-leb}
use Rattle.std.proofs.lemmas.Bool.Decides.{nat_tests}
use Rattle.parts.specs.declared.calls.Call.{Call}
use Rattle.parts.specs.declared.calls.Call.TheVariants.{Write}
use Rattle.cards.specs.Words.{low, high, word_at, Bytes}
use Rattle.cards.specs.Back.{low-back, high-back}
use Rattle.callfile.specs.declared.faults.Fault.{Fault}
use Rattle.callfile.specs.Limits.{head_length, entry_width, call_width, largest, terminals_at, founder_at, groups_at, card_offset_at, calls_at, calls_offset_at}
use Rattle.callfile.specs.Faults.{or_fault}
use Rattle.callfile.specs.Days.{Day}
use Rattle.callfile.specs.Letters.{letter_w, terminal, Spelled, plain, carrying, spelled, letters_of, narrow, short_of, spelled_size, size_of, short, long}
use Rattle.callfile.specs.Format.{spelled_bytes, call_bytes, head_bytes, render}
use Rattle.callfile.specs.Reading.{group_at, groups_of, call_of, call_at, calls_of, head_fault, body_of}
use Rattle.callfile.specs.Laws.{Valid, WritesBack}
use Rattle.callfile.proofs.Results.{never, ok-then, or_fault-ok, unless-ok}
use Rattle.callfile.proofs.Spelling.{short-spelled}
use Rattle.callfile.proofs.Headers.{Head, head-none}
use Rattle.callfile.proofs.EntryWalks.{groups-length}
use Rattle.callfile.proofs.CallWalks.{calls-length}

-- the groups

module _ {G : Type 0} (entry_bytes : G → List ℕ) (entry_of : List ℕ → Option G) (keeps : G → Bool)
    (kept : (xs : List ℕ) (g : G) → entry_of xs ≡ Some g → keeps g ≡ true) (back : (xs : List ℕ) (g : G) → Bytes xs → entry_of xs ≡ Some g → entry_bytes g ≡ xs) where
  pub groups-back :
      (b n : ℕ) (xs : List ℕ) (gs : List G) → Bytes xs → entry_width * n ≤ length xs → groups_of entry_of b n xs ≡ Ok gs →
      AllByRecursion (λ g. keeps g ≡ true) gs × (flat_map entry_bytes gs ++ drop (entry_width * n) xs ≡ xs)
  groups-back b zero xs gs h l e = let z : gs ≡ [] = cc in rw z (tt, refl)
  groups-back b (suc n) xs gs h l e =
      let p = ok-then (group_at entry_of b xs) _ gs e in
      let q = ok-then (groups_of entry_of (b + entry_width) n (drop entry_width xs)) (λ hs. Ok (p.0 ∷ hs)) gs p.2 in
      let z : gs ≡ p.0 ∷ q.0 = (let w = q.2 in cc) in
      let read : entry_of (take entry_width xs) ≡ Some p.0 = or_fault-ok (entry_of (take entry_width xs)) _ p.0 p.1 in
      let is : entry_bytes p.0 ≡ take entry_width xs = back (take entry_width xs) p.0 (All-take (λ x. x < 256) entry_width xs h) read in
      let ih = groups-back (b + entry_width) n (drop entry_width xs) q.0 (All-drop (λ x. x < 256) entry_width xs h) (simp length-drop (omega arith)) q.1 in
      let far : drop (entry_width * suc n) xs ≡ drop (entry_width * n) (drop entry_width xs)
      = (let s : entry_width * suc n ≡ entry_width + entry_width * n = omega arith in ap (λ (m : ℕ). drop m xs) s ∙ sym (drop-drop (entry_width * n) entry_width xs)) in
      rw z (
        (kept (take entry_width xs) p.0 read, ih.0),
        rw (append_assoc, far, ih.1, is) (take-append-drop entry_width xs),
      )

-- the calls

small : {C : Type 0} (c : Call C) (s : Spelled C) → spelled c ≡ s → (letters_of s).1 < 256 → (letters_of s).2 < 256 → narrow c ≡ true
small c s e x y =
    ap (λ t. leb (letters_of t).1 largest && leb (letters_of t).2 largest) e
    ∙ and_from _ _ (le-leb (letters_of s).1 largest (omega arith)) (le-leb (letters_of s).2 largest (omega arith))

module _ {C : Type 0} (span : ℕ) (card_bytes : C → List ℕ) (card_of : List ℕ → Option C)
    (wide : (c : C) → length (card_bytes c) ≡ span) (back : (xs : List ℕ) (c : C) → Bytes xs → card_of xs ≡ Some c → card_bytes c ≡ xs) where
  zero-second : (y : ℕ) (r : Result (Call C) Fault) (f : Fault) (c : Call C) → cond (eqb y 0) r (Err f) ≡ Ok c → (y ≡ 0) × (r ≡ Ok c)
  zero-second y r f c e = grind (arith, nat_tests)

  -- what a call was read from: its bytes and those behind it
  abbrev From : Call C → List ℕ → Type 0
  From c xs = (call_bytes card_bytes c ++ drop (size_of span c) xs ≡ xs) × (narrow c ≡ true)

  short_back : (l x y : ℕ) (rest : List ℕ) (c : Call C) → x < 256 → y < 256 → short_of l x y ≡ Some c → From c (l ∷ x ∷ y ∷ rest)
  short_back l x y rest c hx hy e =
      let s : spelled c ≡ plain l x y = short-spelled l x y c e in (
        ap (λ (t : Spelled C). spelled_bytes card_bytes t ++ drop (spelled_size span t) (l ∷ x ∷ y ∷ rest)) s,
        small c (plain l x y) s hx hy,
      )

  long-back : (x : ℕ) (rest : List ℕ) (c : Call C) (k : C) → x < 256 → Bytes rest → card_of (take span rest) ≡ Some k → c ≡ Write (terminal x) k → From c (letter_w ∷ x ∷ 0 ∷ rest)
  long-back x rest c k hx h e is =
      let card : card_bytes k ≡ take span rest = back (take span rest) k (All-take (λ n. n < 256) span rest h) e in
      let d : drop (call_width + span) (letter_w ∷ x ∷ 0 ∷ rest) ≡ drop span rest = sym (drop-drop span call_width (letter_w ∷ x ∷ 0 ∷ rest)) in
      let s : spelled c ≡ carrying letter_w x 0 k = ap spelled is in (
        ap (λ (t : Spelled C). spelled_bytes card_bytes t ++ drop (spelled_size span t) (letter_w ∷ x ∷ 0 ∷ rest)) s
            ∙ rw (card, d) (ap (λ (ys : List ℕ). letter_w ∷ x ∷ 0 ∷ ys) (take-append-drop span rest)),
        small c (carrying letter_w x 0 k) s hx (omega arith),
      )

  front-back : (b l x y : ℕ) (rest : List ℕ) (c : Call C) → x < 256 → y < 256 → Bytes rest → (t u : Bool) → eqb l letter_w ≡ t → ltb (length rest) span ≡ u →
      call_of span card_of b (cond t (cond u None (Some (long l x y (take span rest)))) (Some (short l x y))) ≡ Ok c → From c (l ∷ x ∷ y ∷ rest)
  front-back b l x y rest c hx hy h true true m n e = never (cc)
  front-back b l x y rest c hx hy h true false m n e =
      let q = zero-second y _ _ c e in
      let r = ok-then (or_fault (card_of (take span rest)) _) (λ k. Ok (Write (terminal x) k)) c q.1 in
      let k = or_fault-ok (card_of (take span rest)) _ r.0 r.1 in
      let is : c ≡ Write (terminal x) r.0 = (let w = r.2 in cc) in
      rw (eqb-true l letter_w m, q.0) (long-back x rest c r.0 hx h k is)
  front-back b l x y rest c hx hy h false true m n e = short_back l x y rest c hx hy (or_fault-ok (short_of l x y) _ c e)
  front-back b l x y rest c hx hy h false false m n e = short_back l x y rest c hx hy (or_fault-ok (short_of l x y) _ c e)

  call_back : (b : ℕ) (xs : List ℕ) (c : Call C) → Bytes xs → call_at span card_of b xs ≡ Ok c → From c xs
  call_back b [] c h e = never (cc)
  call_back b (l ∷ []) c h e = never (cc)
  call_back b (l ∷ (x ∷ [])) c h e = never (cc)
  call_back b (l ∷ (x ∷ (y ∷ rest))) c h e = front-back b l x y rest c h.1.0 h.1.1.0 h.1.1.1 (eqb l letter_w) (ltb (length rest) span) refl refl e

  pub calls_back : (b n : ℕ) (xs : List ℕ) (cs : List (Call C)) → Bytes xs → calls_of span card_of b n xs ≡ Ok cs → AllByRecursion (λ c. narrow c ≡ true) cs × (flat_map (call_bytes card_bytes) cs ≡ xs)
  calls_back b zero [] cs h e = let z : cs ≡ [] = cc in rw z (tt, refl)
  calls_back b zero (x ∷ xs) cs h e = never (cc)
  calls_back b (suc n) xs cs h e =
      let p = ok-then (call_at span card_of b xs) _ cs e in
      let s = size_of span p.0 in
      let q = ok-then (calls_of span card_of (b + s) n (drop s xs)) (λ ds. Ok (p.0 ∷ ds)) cs p.2 in
      let z : cs ≡ p.0 ∷ q.0 = (let w = q.2 in cc) in
      let one = call_back b xs p.0 h p.1 in
      let ih = calls_back (b + s) n (drop s xs) q.0 (All-drop (λ k. k < 256) s xs h) q.1 in
      rw z ((one.1, ih.0), ap (λ (ys : List ℕ). call_bytes card_bytes p.0 ++ ys) ih.1 ∙ one.0)

-- the header

pair-back : (xs : List ℕ) (k : ℕ) → Bytes xs → k + 2 ≤ length xs → drop k xs ≡ low (word_at xs k) ∷ high (word_at xs k) ∷ drop (k + 2) xs
pair-back xs k h l =
    let a : get_or xs k 0 < 256 = All-get_or (λ x. x < 256) xs k 0 (omega arith) h in
    let one = drop_more xs k 0 (omega arith) in
    let two = drop_more xs (k + 1) 0 (omega arith) in
    let sum : k + 1 + 1 ≡ k + 2 = omega arith in
    rw (low-back (get_or xs k 0) (get_or xs (k + 1) 0) a, high-back (get_or xs k 0) (get_or xs (k + 1) 0) a, ← sum) (one ∙ ap (λ (ys : List ℕ). get_or xs k 0 ∷ ys) two)

head-parts : (xs : List ℕ) → Bytes xs → head_length ≤ length xs →
    get_or xs 0 0 ∷ get_or xs 1 0 ∷ low (word_at xs 2) ∷ high (word_at xs 2) ∷ low (word_at xs 4) ∷ high (word_at xs 4) ∷ low (word_at xs 6) ∷ high (word_at xs 6)
    ∷ low (word_at xs 8) ∷ high (word_at xs 8) ∷ low (word_at xs 10) ∷ high (word_at xs 10) ∷ low (word_at xs 12) ∷ high (word_at xs 12)
    ∷ low (word_at xs 14) ∷ high (word_at xs 14) ∷ drop 16 xs ≡ xs
head-parts xs h l =
    let a₀ = drop_more xs 0 0 (omega arith) in
    let a₁ = drop_more xs 1 0 (omega arith) in
    rw (
      ← (pair-back xs 14 h (omega arith)),
      ← (pair-back xs 12 h (omega arith)),
      ← (pair-back xs 10 h (omega arith)),
      ← (pair-back xs 8 h (omega arith)),
      ← (pair-back xs 6 h (omega arith)),
      ← (pair-back xs 4 h (omega arith)),
      ← (pair-back xs 2 h (omega arith)),
      ← a₁,
      ← a₀,
    ) refl

head-back :
    (k b span : ℕ) (xs : List ℕ) → Bytes xs → Head k b span xs →
    head_bytes k b span (word_at xs terminals_at) (word_at xs founder_at) (word_at xs groups_at) (word_at xs calls_at) ++ drop head_length xs ≡ xs
head-back k b span xs h d =
    let p = head-parts xs h d.long in
    let l₈ = ap low d.groups-at in
    let h₈ = ap high d.groups-at in
    let l₁₀ = ap low d.card-at in
    let h₁₀ = ap high d.card-at in
    let l₁₄ = ap low d.calls-at in
    let h₁₄ = ap high d.calls-at in
    let e₀ = d.card-kind in
    let e₁ = d.book-kind in
    cc

-- the whole file

module _ {C G : Type 0} (k b span : ℕ) (card_bytes : C → List ℕ) (card_of : List ℕ → Option C)
    (wide : (c : C) → length (card_bytes c) ≡ span) (back : (xs : List ℕ) (c : C) → Bytes xs → card_of xs ≡ Some c → card_bytes c ≡ xs)
    (entry_bytes : G → List ℕ) (entry_of : List ℕ → Option G) (keeps : G → Bool)
    (kept : (xs : List ℕ) (g : G) → entry_of xs ≡ Some g → keeps g ≡ true) (entry-back : (xs : List ℕ) (g : G) → Bytes xs → entry_of xs ≡ Some g → entry_bytes g ≡ xs) where
  -- what the parts of a day are, once its file is read
  module _ (xs : List ℕ) (h : Bytes xs) (d : Head k b span xs) (gs : List G) (ig : groups_of entry_of head_length (word_at xs groups_at) (drop head_length xs) ≡ Ok gs)
      (c : C) (ic : card_of (take span (drop (word_at xs card_offset_at) xs)) ≡ Some c)
      (cs : List (Call C)) (is : calls_of span card_of (word_at xs calls_offset_at) (word_at xs calls_at) (drop (word_at xs calls_offset_at) xs) ≡ Ok cs) where
    abbrev day : Day C G
    day = record { terminals = word_at xs terminals_at; founder = terminal (word_at xs founder_at); groups = gs; first = c; calls = cs }

    room : entry_width * word_at xs groups_at ≤ length (drop head_length xs)
    room = let a = d.calls-at in let i = d.inside in simp length-drop (omega arith)

    calls_are : AllByRecursion (λ e. narrow e ≡ true) cs × (flat_map (call_bytes card_bytes) cs ≡ drop (word_at xs calls_offset_at) xs)
    calls_are = calls_back span card_bytes card_of wide back (word_at xs calls_offset_at) (word_at xs calls_at) (drop (word_at xs calls_offset_at) xs) cs (All-drop (λ x. x < 256) (word_at xs calls_offset_at) xs h) is

    card-is : card_bytes c ≡ take span (drop (word_at xs card_offset_at) xs)
    card-is = back (take span (drop (word_at xs card_offset_at) xs)) c (All-take (λ x. x < 256) span _ (All-drop (λ x. x < 256) (word_at xs card_offset_at) xs h)) ic

    far : drop (word_at xs calls_offset_at) xs ≡ drop span (drop (word_at xs card_offset_at) xs)
    far = let s : word_at xs calls_offset_at ≡ word_at xs card_offset_at + span = (let a = d.card-at in let i = d.calls-at in omega arith) in
        ap (λ (m : ℕ). drop m xs) s ∙ sym (drop-drop span (word_at xs card_offset_at) xs)

    cards-are : card_bytes c ++ flat_map (call_bytes card_bytes) cs ≡ drop (word_at xs card_offset_at) xs
    cards-are = rw (calls_are.1, card-is, far) (take-append-drop span (drop (word_at xs card_offset_at) xs))

    near : drop (word_at xs card_offset_at) xs ≡ drop (entry_width * word_at xs groups_at) (drop head_length xs)
    near = ap (λ (m : ℕ). drop m xs) d.card-at ∙ sym (drop-drop (entry_width * word_at xs groups_at) head_length xs)

    groups-are : AllByRecursion (λ g. keeps g ≡ true) gs × (flat_map entry_bytes gs ++ drop (entry_width * word_at xs groups_at) (drop head_length xs) ≡ drop head_length xs)
    groups-are = groups-back entry_bytes entry_of keeps kept entry-back head_length (word_at xs groups_at) (drop head_length xs) gs (All-drop (λ x. x < 256) head_length xs h) room ig

    groups-count : length gs ≡ word_at xs groups_at
    groups-count = groups-length entry_of head_length (word_at xs groups_at) (drop head_length xs) gs ig

    rendered : render k b span card_bytes entry_bytes day ≡ xs
    rendered =
        let n = calls-length span card_of (word_at xs calls_offset_at) (word_at xs calls_at) (drop (word_at xs calls_offset_at) xs) cs is in
        let body : flat_map entry_bytes gs ++ (card_bytes c ++ flat_map (call_bytes card_bytes) cs) ≡ drop head_length xs = rw (cards-are, near) groups-are.1 in
        let front : (g m : ℕ) → List ℕ = λ g m. head_bytes k b span (word_at xs terminals_at) (word_at xs founder_at) g m in
        ap (λ (ys : List ℕ). front (length gs) (length cs) ++ ys) body
        ∙ (ap (λ (m : ℕ). front m (length cs) ++ drop head_length xs) groups-count
        ∙ (ap (λ (m : ℕ). front (word_at xs groups_at) m ++ drop head_length xs) n
        ∙ head-back k b span xs h d))

    valid : Valid k b span card_bytes entry_bytes keeps day
    valid =
        let g = groups-count in
        let l : length (render k b span card_bytes entry_bytes day) ≡ length xs = ap length rendered in
        record {
          some = d.some;
          few = d.few;
          founded = d.founded;
          some-groups = omega (arith, d.some-groups);
          few-groups = omega (arith, d.few-groups);
          kept = groups-are.0;
          small = calls_are.0;
          short = omega (arith, d.short, l);
        }

  pub day-back : (xs : List ℕ) → Bytes xs → WritesBack k b span card_bytes entry_bytes keeps card_of entry_of xs
  day-back xs h d e =
      let u = unless-ok (head_fault k b span xs) (body_of span card_of entry_of xs) d e in
      let p = ok-then (groups_of entry_of head_length (word_at xs groups_at) (drop head_length xs)) _ d u.1 in
      let q = ok-then (or_fault (card_of (take span (drop (word_at xs card_offset_at) xs))) _) _ d p.2 in
      let r = ok-then (calls_of span card_of (word_at xs calls_offset_at) (word_at xs calls_at) (drop (word_at xs calls_offset_at) xs))
      (λ cs. Ok (record { terminals = word_at xs terminals_at; founder = terminal (word_at xs founder_at); groups = p.0; first = q.0; calls = cs })) d q.2 in
      let t = head-none k b span xs u.0 in
      let ic = or_fault-ok (card_of (take span (drop (word_at xs card_offset_at) xs))) _ q.0 q.1 in
      let z : day xs h t p.0 p.1 q.0 ic r.0 r.1 ≡ d = (let w = r.2 in cc) in
      subst (λ (x : Day C G). Valid k b span card_bytes entry_bytes keeps x × (render k b span card_bytes entry_bytes x ≡ xs)) z
      (valid xs h t p.0 p.1 q.0 ic r.0 r.1, rendered xs h t p.0 p.1 q.0 ic r.0 r.1)
