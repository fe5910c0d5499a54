-- a group of listed sets and its entry, there and back
use Rattle.std.specs.Prelude.{◌≡◌, ℕ, ◌+◌, ◌*◌, true, ◌&&◌, List, [], ◌∷◌, ◌++◌, length, get_or, Some, None, ◌==◌, nat_eq, slice_index, refl}
use Rattle.std.proofs.Common.{sym, ap, ◌∙◌, arith, length-append}
use Rattle.std.proofs.lemmas.List.{append_assoc, get_or_at}
use Rattle.std.proofs.lemmas.Bool.{eq-eqb, eqb-true, and_parts, and_from, cond-true}
use Rattle.parts.specs.declared.sets.TerminalSet.{TerminalSet}
use Rattle.parts.specs.Sets.{of_bits}
use Rattle.cards.specs.Words.{low, high, word_at, words_bytes, Bytes}
use Rattle.cards.specs.Back.{words_back}
use Rattle.std.proofs.lemmas.Option.{cond_some}
use Rattle.books.specs.declared.sets.SetsGroup.{SetsGroup}
use Rattle.books.specs.Books.{most_sets}
use Rattle.books.specs.Sets.{sound}
use Rattle.callfile.specs.Limits.{entry_width}
use Rattle.callfile.specs.Sets.{set_width, reads_at, writes_at, zeros_at, sets_kept, slot_bytes, sets_bytes, slots_from, sets_in, sets_form, sets_of}
use Rattle.callfile.specs.Words.{word-there}

pub length-slots : (sets : List TerminalSet) → length (slot_bytes sets) ≡ set_width * length sets
length-slots [] = refl
length-slots (s ∷ sets) = omega (arith, length-slots sets)

-- a number whose two bytes stand behind some others
word-behind : (front rest : List ℕ) (k n : ℕ) → length front ≡ k → word_at (front ++ (low n ∷ high n ∷ rest)) k ≡ n
word-behind front rest k n h =
    let xs = front ++ (low n ∷ high n ∷ rest) in
    let lo : get_or xs k 0 ≡ low n = get_or_at front (low n) (high n ∷ rest) 0 k h in
    let l : length (front ++ (low n ∷ [])) ≡ k + 1 = length-append front (low n ∷ []) ∙ omega arith in
    let hi : get_or xs (k + 1) 0 ≡ high n
    = ap (λ (ys : List ℕ). slice_index ys (k + 1)) (sym (append_assoc front (low n ∷ []) (high n ∷ rest))) ∙ get_or_at (front ++ (low n ∷ [])) (high n) rest 0 (k + 1) l in
    omega (arith, word-there n)

-- sets whose bytes stand behind some others are read as they were
slots-behind : (front : List ℕ) (sets : List TerminalSet) (rest : List ℕ) (k : ℕ) → length front ≡ k → slots_from (length sets) k (front ++ (slot_bytes sets ++ rest)) ≡ sets
slots-behind front [] rest k h = refl
slots-behind front (s ∷ sets) rest k h =
    let n = s.bits in
    let tail = slot_bytes sets ++ rest in
    let front' = front ++ (low n ∷ high n ∷ []) in
    let one : of_bits (word_at (front ++ (low n ∷ high n ∷ tail)) k) ≡ s = ap of_bits (word-behind front tail k n h) in
    let l : length front' ≡ k + set_width = length-append front (low n ∷ high n ∷ []) ∙ omega arith in
    let others : slots_from (length sets) (k + set_width) (front ++ (low n ∷ high n ∷ tail)) ≡ sets
    = ap (slots_from (length sets) (k + set_width)) (sym (append_assoc front (low n ∷ high n ∷ []) tail)) ∙ slots-behind front' sets rest (k + set_width) l in
    ap (λ (t : TerminalSet). t ∷ slots_from (length sets) (k + set_width) (front ++ (low n ∷ high n ∷ tail))) one ∙ ap (λ (ts : List TerminalSet). s ∷ ts) others

-- a group that keeps the rule has all its slots
record Whole (g : SetsGroup) : Type 0 where
  reads_whole : length g.reads ≡ most_sets
  writes-whole : length g.writes ≡ most_sets
  keeps : sound g ≡ true

whole : (g : SetsGroup) → sets_kept g ≡ true → Whole g
whole g k =
    let a = and_parts (length g.reads == most_sets && length g.writes == most_sets) (sound g) k in
    let b = and_parts (length g.reads == most_sets) (length g.writes == most_sets) a.0 in
    record { reads_whole = eqb-true _ _ b.0; writes-whole = eqb-true _ _ b.1; keeps = a.1 }

bytes-wide : (g : SetsGroup) → length g.reads ≡ most_sets → length g.writes ≡ most_sets → length (sets_bytes g) ≡ entry_width
bytes-wide g r w = let a = length-slots g.reads in let b = length-slots g.writes in simp length-append (omega arith)

pub sets-wide : (g : SetsGroup) → sets_kept g ≡ true → length (sets_bytes g) ≡ entry_width
sets-wide g k = bytes-wide g (whole g k).reads_whole (whole g k).writes-whole

abbrev group : TerminalSet → List TerminalSet → List TerminalSet → SetsGroup
group m r w = record { members = m; reads = r; writes = w }

same-group : (g h : SetsGroup) → g.members ≡ h.members → g.reads ≡ h.reads → g.writes ≡ h.writes → g ≡ h
same-group g h a b c =
    ap (λ (x : TerminalSet). group x g.reads g.writes) a
    ∙ (ap (λ (x : List TerminalSet). group h.members x g.writes) b ∙ ap (λ (x : List TerminalSet). group h.members h.reads x) c)

module _ (g : SetsGroup) (r : length g.reads ≡ most_sets) (w : length g.writes ≡ most_sets) where
  abbrev first : List ℕ
  first = slot_bytes (g.members ∷ [])

  abbrev second : List ℕ
  second = slot_bytes g.reads

  abbrev third : List ℕ
  third = slot_bytes g.writes

  up-to-writes : length (first ++ second) ≡ writes_at
  up-to-writes = let l = length-slots g.reads in simp length-append (omega arith)

  up-to-zeros : length ((first ++ second) ++ third) ≡ zeros_at
  up-to-zeros = let l = length-slots g.writes in let m = up-to-writes in length-append (first ++ second) third ∙ omega arith

  group-there : sets_in (sets_bytes g) ≡ g
  group-there =
      let reads : slots_from most_sets reads_at (sets_bytes g) ≡ g.reads
      = ap (λ (n : ℕ). slots_from n reads_at (sets_bytes g)) (sym r) ∙ slots-behind first g.reads (third ++ (0 ∷ 0 ∷ [])) reads_at refl in
      let writes : slots_from most_sets writes_at (sets_bytes g) ≡ g.writes
      = ap (λ (n : ℕ). slots_from n writes_at (sets_bytes g)) (sym w)
      ∙ (ap (slots_from (length g.writes) writes_at) (sym (append_assoc first second (third ++ (0 ∷ 0 ∷ [])))) ∙ slots-behind (first ++ second) g.writes (0 ∷ 0 ∷ []) writes_at up-to-writes) in
      same-group (sets_in (sets_bytes g)) g (ap of_bits (word-there g.members.bits)) reads writes

  -- the parts from the front on are the whole
  one-behind-other : ((first ++ second) ++ third) ++ (0 ∷ 0 ∷ []) ≡ sets_bytes g
  one-behind-other = append_assoc (first ++ second) third (0 ∷ 0 ∷ []) ∙ append_assoc first second (third ++ (0 ∷ 0 ∷ []))

  zeros-there : word_at (sets_bytes g) zeros_at ≡ 0
  zeros-there = ap (λ (ys : List ℕ). word_at ys zeros_at) (sym one-behind-other) ∙ word-behind ((first ++ second) ++ third) [] zeros_at 0 up-to-zeros

pub sets-round : (g : SetsGroup) → sets_kept g ≡ true → sets_of (sets_bytes g) ≡ Some g
sets-round g k =
    let ys = sets_bytes g in
    let v = whole g k in
    let is : sets_in ys ≡ g = group-there g v.reads_whole v.writes-whole in
    let fine : sound (sets_in ys) ≡ true = ap sound is ∙ v.keeps in
    let zeros : nat_eq (word_at ys zeros_at) 0 ≡ true = eq-eqb _ _ (zeros-there g v.reads_whole v.writes-whole) in
    let test : (sets_form ys && sound (sets_in ys)) ≡ true = and_from _ _ (and_from _ _ (eq-eqb _ _ (sets-wide g k)) zeros) fine in
    cond-true (sets_form ys && sound (sets_in ys)) (Some (sets_in ys)) None test ∙ ap Some is

pub sets-back : (xs : List ℕ) (g : SetsGroup) → Bytes xs → sets_of xs ≡ Some g → sets_bytes g ≡ xs
sets-back xs g h e =
    let both = cond_some (sets_form xs && sound (sets_in xs)) (sets_in xs) g e in
    let parts = and_parts (length xs == entry_width) (word_at xs zeros_at == 0) (and_parts (sets_form xs) (sound (sets_in xs)) both.0).0 in
    let long : length xs ≡ entry_width = eqb-true _ _ parts.0 in
    let zeros : word_at xs zeros_at ≡ 0 = eqb-true _ _ parts.1 in
    let s = sets_in xs in
    ap sets_bytes (sym both.1)
    ∙ (ap (λ (z : ℕ). slot_bytes (s.members ∷ []) ++ (slot_bytes s.reads ++ (slot_bytes s.writes ++ words_bytes (z ∷ [])))) (sym zeros) ∙ words_back 10 0 xs h long)

pub sets-kept : (xs : List ℕ) (g : SetsGroup) → sets_of xs ≡ Some g → sets_kept g ≡ true
sets-kept xs g e =
    let both = cond_some (sets_form xs && sound (sets_in xs)) (sets_in xs) g e in
    ap sets_kept (sym both.1) ∙ (and_parts (sets_form xs) (sound (sets_in xs)) both.0).1
