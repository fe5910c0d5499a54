-- a walk over the calls that fills a list
use Rattle.std.proofs.Common.{◌≡◌, ℕ, suc, ◌+◌, ◌-◌, ◌<◌, ◌≤◌, true, List, [], ◌∷◌, ◌++◌, length, take, drop, set, None, Ok, Err, Option, Result, sym, refl, ap, ◌∙◌, arith}
use Rattle.std.specs.Result.{is_ok}
use Rattle.std.proofs.lemmas.List.{take_more_set, append_assoc, append-nil, take_all, length-set}
use Rattle.parts.specs.declared.calls.Call.{Call}
use Rattle.callfile.specs.declared.faults.Fault.{Fault}
use Rattle.callfile.specs.Faults.{fault_in}
use Rattle.callfile.specs.Letters.{size_of}
use Rattle.callfile.specs.Reading.{call_at, calls_of, rest_of}
use Rattle.callfile.specs.Filling.{gained}
use Rattle.callfile.proofs.Results.{never, read_next}
use Rattle.callfile.proofs.CallWalks.{call_wrong}

module _ {C : Type 0} (span : ℕ) (card_of : List ℕ → Option C) where
  none_left : (b : ℕ) (rest : List ℕ) → gained (rest_of span card_of b rest) ≡ []
  none_left b [] = refl
  none_left b (x ∷ xs) = refl

  -- what is left is without fault, and goes behind the places filled so far
  abbrev pub FillLeft : (start count : ℕ) (bytes : List ℕ) (byte i : ℕ) (rest : List ℕ) (list : List (Call C)) → Type 0
  FillLeft start count bytes byte i rest list =
      (fault_in (calls_of span card_of byte (count - i) rest) ≡ None)
      × (take i list ++ gained (calls_of span card_of byte (count - i) rest) ≡ gained (calls_of span card_of start count bytes))
      × (length list ≡ count)

  module _ (start count : ℕ) (bytes : List ℕ) (byte i : ℕ) (rest : List ℕ) (list : List (Call C)) (inv : FillLeft start count bytes byte i rest list) where
    pub call_there : i < count → (r : Result (Call C) Fault) → r ≡ call_at span card_of byte rest → is_ok r ≡ true
    call_there h r e = by_call r e where
      by_call : (r : Result (Call C) Fault) → r ≡ call_at span card_of byte rest → is_ok r ≡ true
      by_call (Ok c) e = refl
      by_call (Err f) e = let w = call_wrong span card_of byte (count - i) rest f (omega arith) (sym e) in let n = inv.0 in never (cc)

    pub fill_again :
        i < count → (c : Call C) → call_at span card_of byte rest ≡ Ok c → (more : List ℕ) (next : ℕ) → more ≡ drop (size_of span c) rest → next ≡ byte + size_of span c →
        FillLeft start count bytes next (i + 1) more (set list i c)
    fill_again h c e more next m n =
        let s : count - i ≡ suc (count - (i + 1)) = omega arith in
        let left = calls_of span card_of (byte + size_of span c) (count - (i + 1)) (drop (size_of span c) rest) in
        let f = read_next (calls_of span card_of byte (suc (count - (i + 1))) rest) left c (rw e refl) (ap (λ (k : ℕ). fault_in (calls_of span card_of byte k rest)) (sym s) ∙ inv.0) in
        let t : take (i + 1) (set list i c) ≡ take i list ++ c ∷ [] = take_more_set list i c (omega (arith, inv.2)) in
        let g : gained (calls_of span card_of byte (count - i) rest) ≡ c ∷ gained left = ap (λ (k : ℕ). gained (calls_of span card_of byte k rest)) s ∙ f.1 in
        rw (m, n) (
          f.0,
          ap (λ (ys : List (Call C)). ys ++ gained left) t ∙ (append_assoc (take i list) (c ∷ []) (gained left) ∙ (ap (λ (ys : List (Call C)). take i list ++ ys) (sym g) ∙ inv.1)),
          length-set list i c ∙ inv.2,
        )

    pub fill_end : count ≤ i → list ≡ gained (calls_of span card_of start count bytes)
    fill_end h =
        let z : count - i ≡ 0 = omega arith in
        let g : gained (calls_of span card_of byte (count - i) rest) ≡ [] = ap (λ (k : ℕ). gained (calls_of span card_of byte k rest)) z ∙ none_left byte rest in
        let t : take i list ≡ list = take_all i list (omega (arith, inv.2)) in
        sym t ∙ (sym (append-nil (take i list)) ∙ (ap (λ (ys : List (Call C)). take i list ++ ys) (sym g) ∙ inv.1))
