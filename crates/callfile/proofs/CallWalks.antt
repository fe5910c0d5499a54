-- a walk over the calls
use Rattle.std.proofs.Common.{◌≡◌, ℕ, zero, suc, ◌+◌, ◌-◌, ◌<◌, List, [], ◌∷◌, length, drop, Some, Ok, Err, Option, sym, refl, ap, ◌∙◌, arith}
use Rattle.parts.specs.declared.calls.Call.{Call}
use Rattle.callfile.specs.declared.faults.Fault.{Fault}
use Rattle.callfile.specs.Faults.{ok_unless, fault_in}
use Rattle.callfile.specs.Letters.{size_of}
use Rattle.callfile.specs.Reading.{call_at, calls_of}
use Rattle.callfile.proofs.Results.{never, fault-then, ok-then}

module _ {C : Type 0} (span : ℕ) (card_of : List ℕ → Option C) where
  pub call_wrong : (b n : ℕ) (xs : List ℕ) (f : Fault) → 0 < n → call_at span card_of b xs ≡ Err f → fault_in (calls_of span card_of b n xs) ≡ Some f
  call_wrong b zero xs f h e = absurd (omega arith)
  call_wrong b (suc n) xs f h e = rw e refl

  call_next : (b n : ℕ) (xs : List ℕ) (c : Call C) → call_at span card_of b xs ≡ Ok c → fault_in (calls_of span card_of b (suc n) xs) ≡ fault_in (calls_of span card_of (b + size_of span c) n (drop (size_of span c) xs))
  call_next b n xs c e = rw e (fault-then (calls_of span card_of (b + size_of span c) n (drop (size_of span c) xs)) (λ cs. c ∷ cs))

  -- what is left behind the first i calls gives the fault of the whole
  abbrev pub CallsLeft : (start count : ℕ) (bytes : List ℕ) (byte i : ℕ) (rest : List ℕ) → Type 0
  CallsLeft start count bytes byte i rest = fault_in (calls_of span card_of byte (count - i) rest) ≡ fault_in (calls_of span card_of start count bytes)

  module _ (start count : ℕ) (bytes : List ℕ) (byte i : ℕ) (rest : List ℕ) (inv : CallsLeft start count bytes byte i rest) where
    pub calls_again :
        i < count → (c : Call C) → call_at span card_of byte rest ≡ Ok c → (more : List ℕ) (next : ℕ) → more ≡ drop (size_of span c) rest → next ≡ byte + size_of span c →
        CallsLeft start count bytes next (i + 1) more
    calls_again h c e more next m n =
        let s : count - i ≡ suc (count - (i + 1)) = omega arith in
        rw (m, n) (sym (call_next byte (count - (i + 1)) rest c e) ∙ (ap (λ (k : ℕ). fault_in (calls_of span card_of byte k rest)) (sym s) ∙ inv))

    pub calls_wrong : i < count → (f : Fault) → call_at span card_of byte rest ≡ Err f → Err f ≡ ok_unless (fault_in (calls_of span card_of start count bytes))
    calls_wrong h f e = ap ok_unless (sym (call_wrong byte (count - i) rest f (omega arith) e) ∙ inv)

  pub calls-length : (b n : ℕ) (xs : List ℕ) (cs : List (Call C)) → calls_of span card_of b n xs ≡ Ok cs → length cs ≡ n
  calls-length b zero [] cs e = let z : cs ≡ [] = cc in ap length z
  calls-length b zero (x ∷ xs) cs e = never (cc)
  calls-length b (suc n) xs cs e =
      let p = ok-then (call_at span card_of b xs) _ cs e in
      let s = size_of span p.0 in
      let q = ok-then (calls_of span card_of (b + s) n (drop s xs)) (λ ds. Ok (p.0 ∷ ds)) cs p.2 in
      let ih : length q.0 ≡ n = calls-length (b + s) n (drop s xs) q.0 q.1 in
      let z : cs ≡ p.0 ∷ q.0 = (let w = q.2 in cc) in ap length z ∙ ap suc ih
