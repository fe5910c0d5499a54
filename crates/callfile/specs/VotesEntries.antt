-- a group of votes and its entry, there and back
use Rattle.std.specs.Prelude.{◌≡◌, ℕ, true, ◌&&◌, List, [], ◌∷◌, ◌++◌, length, take, drop, Some, None, ◌==◌}
use Rattle.std.proofs.Common.{sym, ap, ◌∙◌, arith, length-append}
use Rattle.std.proofs.lemmas.List.{take_at, take-append-drop, get_or-append_right}
use Rattle.std.proofs.lemmas.Bool.{eq-eqb, eqb-true, and_parts, and_from, cond-true}
use Rattle.parts.specs.Limits.{terminals}
use Rattle.cards.specs.Words.{word_at, words_bytes, Bytes}
use Rattle.cards.specs.Back.{words_back}
use Rattle.std.proofs.lemmas.Option.{cond_some}
use Rattle.books.specs.declared.votes.VotesGroup.{VotesGroup}
use Rattle.books.specs.Votes.{sound}
use Rattle.callfile.specs.Limits.{entry_width}
use Rattle.callfile.specs.Votes.{r_at, w_at, votes_kept, votes_bytes, votes_in, votes_of}
use Rattle.callfile.specs.Words.{word-there}

pub sixteen : (g : VotesGroup) → votes_kept g ≡ true → length g.votes ≡ terminals
sixteen g k = eqb-true _ _ (and_parts (length g.votes == terminals) (sound g) k).0

pub votes-wide : (g : VotesGroup) → votes_kept g ≡ true → length (votes_bytes g) ≡ entry_width
votes-wide g k = let l = sixteen g k in simp length-append (omega arith)

abbrev group : List ℕ → ℕ → ℕ → VotesGroup
group v r w = record { votes = v; r = r; w = w }

same-group : (g h : VotesGroup) → g.votes ≡ h.votes → g.r ≡ h.r → g.w ≡ h.w → g ≡ h
same-group g h a b c =
    ap (λ (x : List ℕ). group x g.r g.w) a ∙ (ap (λ (x : ℕ). group h.votes x g.w) b ∙ ap (λ (x : ℕ). group h.votes h.r x) c)

group-there : (g : VotesGroup) → length g.votes ≡ terminals → votes_in (votes_bytes g) ≡ g
group-there g h =
    let t = words_bytes (g.r ∷ g.w ∷ []) in
    let v : take terminals (votes_bytes g) ≡ g.votes = take_at g.votes t terminals h in
    let r₀ = get_or-append_right g.votes t 16 16 0 h (omega arith) in
    let r₁ = get_or-append_right g.votes t 16 17 0 h (omega arith) in
    let w₀ = get_or-append_right g.votes t 16 18 0 h (omega arith) in
    let w₁ = get_or-append_right g.votes t 16 19 0 h (omega arith) in
    let r : word_at (votes_bytes g) r_at ≡ g.r = rw (r₀, r₁) (word-there g.r) in
    let w : word_at (votes_bytes g) w_at ≡ g.w = rw (w₀, w₁) (word-there g.w) in
    same-group (votes_in (votes_bytes g)) g v r w

pub votes-round : (g : VotesGroup) → votes_kept g ≡ true → votes_of (votes_bytes g) ≡ Some g
votes-round g k =
    let ys = votes_bytes g in
    let is : votes_in ys ≡ g = group-there g (sixteen g k) in
    let fine : sound (votes_in ys) ≡ true = ap sound is ∙ (and_parts (length g.votes == terminals) (sound g) k).1 in
    let test : (length ys == entry_width && sound (votes_in ys)) ≡ true = and_from _ _ (eq-eqb _ _ (votes-wide g k)) fine in
    cond-true (length ys == entry_width && sound (votes_in ys)) (Some (votes_in ys)) None test ∙ ap Some is

pub votes-back : (xs : List ℕ) (g : VotesGroup) → Bytes xs → votes_of xs ≡ Some g → votes_bytes g ≡ xs
votes-back xs g h e =
    let both = cond_some (length xs == entry_width && sound (votes_in xs)) (votes_in xs) g e in
    let long : length xs ≡ entry_width = eqb-true _ _ (and_parts (length xs == entry_width) (sound (votes_in xs)) both.0).0 in
    let rest : words_bytes (word_at xs r_at ∷ word_at xs w_at ∷ []) ≡ drop terminals xs = words_back 2 terminals xs h long in
    ap votes_bytes (sym both.1) ∙ (ap (λ (ys : List ℕ). take terminals xs ++ ys) rest ∙ take-append-drop terminals xs)
