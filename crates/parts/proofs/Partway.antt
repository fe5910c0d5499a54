-- A walk that puts two lists of entries together place by place, k places far.
use Rattle.std.proofs.Common.{◌≡◌, ℕ, zero, suc, ◌+◌, ◌<◌, ◌≤◌, min, List, [], ◌∷◌, length, get_or, set, refl, ap, add-one, arith}
use Rattle.parts.specs.declared.entries.Entry.{Entry}
use Rattle.parts.specs.Charts.{together}

module _ (f : Entry → Entry → Entry) where
  abbrev pub partway : ℕ → List Entry → List Entry → List Entry
  partway zero xs ys = xs
  partway (suc k) [] ys = []
  partway (suc k) (x ∷ xs) [] = x ∷ xs
  partway (suc k) (x ∷ xs) (y ∷ ys) = f x y ∷ partway k xs ys

  further : (xs ys : List Entry) (k : ℕ) (d : Entry) → k < length xs → k < length ys →
      set (partway k xs ys) k (f (get_or (partway k xs ys) k d) (get_or ys k d)) ≡ partway (suc k) xs ys
  further [] ys k d h l = absurd (omega arith)
  further (x ∷ xs) [] k d h l = absurd (omega arith)
  further (x ∷ xs) (y ∷ ys) zero d h l = refl
  further (x ∷ xs) (y ∷ ys) (suc k) d h l = ap (λ zs. f x y ∷ zs) (further xs ys k d (omega arith) (omega arith))

  past : (xs ys : List Entry) (k : ℕ) → length ys ≤ k → partway k xs ys ≡ partway (suc k) xs ys
  past [] ys zero h = refl
  past [] ys (suc k) h = refl
  past (x ∷ xs) [] zero h = refl
  past (x ∷ xs) [] (suc k) h = refl
  past (x ∷ xs) (y ∷ ys) zero h = absurd (omega arith)
  past (x ∷ xs) (y ∷ ys) (suc k) h = ap (λ zs. f x y ∷ zs) (past xs ys k (omega arith))

  -- one place more
  pub partway-more : (xs ys zs : List Entry) (k : ℕ) (d e : Entry) → k < length xs → k < length ys → zs ≡ partway k xs ys →
      e ≡ f (get_or zs k d) (get_or ys k d) → set zs k e ≡ partway (k + 1) xs ys
  partway-more xs ys zs k d e h l p q = rw (q, p, add-one) (further xs ys k d h l)

  -- a place that only the first has stays
  pub partway-past : (xs ys : List Entry) (k : ℕ) → length ys ≤ k → partway k xs ys ≡ partway (k + 1) xs ys
  partway-past xs ys k h = rw add-one (past xs ys k h)

  -- all places that both have
  pub partway-all : (xs ys : List Entry) (k : ℕ) → min (length xs) (length ys) ≤ k → partway k xs ys ≡ together f xs ys
  unfolding together
  partway-all [] ys zero h = refl
  partway-all [] ys (suc k) h = refl
  partway-all (x ∷ xs) [] zero h = refl
  partway-all (x ∷ xs) [] (suc k) h = refl
  partway-all (x ∷ xs) (y ∷ ys) zero h = absurd (omega arith)
  partway-all (x ∷ xs) (y ∷ ys) (suc k) h = ap (λ zs. f x y ∷ zs) (partway-all xs ys k (omega arith))
