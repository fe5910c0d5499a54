-- The parts of a retirement, with something where there is none.
use Rattle.std.proofs.Common.{◌≡◌, ℕ, Bool, true, false, sym, refl}
use Rattle.std.proofs.lemmas.Bool.{false≢true}
use Rattle.parts.specs.declared.sets.TerminalSet.{TerminalSet}
use Rattle.parts.specs.Sets.{nobody}
use Rattle.replica.specs.declared.retirements.Retirement.{Retirement}
use Rattle.replica.specs.declared.retirements.Retirement.TheVariants.{Free as NoRetirement, Prop as Telling, Query as Asking}

abbrev pub is_asking : Retirement → Bool
is_asking NoRetirement = false
is_asking (Asking k n h) = true
is_asking (Telling k n h) = false

abbrev pub is_telling : Retirement → Bool
is_telling NoRetirement = false
is_telling (Asking k n h) = false
is_telling (Telling k n h) = true

abbrev pub is_none : Retirement → Bool
is_none NoRetirement = true
is_none (Asking k n h) = false
is_none (Telling k n h) = false

-- the place that is handed over
abbrev pub r-place : Retirement → ℕ
r-place NoRetirement = 0
r-place (Asking k n h) = k.0
r-place (Telling k n h) = k.0

abbrev pub r-number : Retirement → ℕ
r-number NoRetirement = 0
r-number (Asking k n h) = n.0
r-number (Telling k n h) = n.0

abbrev pub r-heard : Retirement → TerminalSet
r-heard NoRetirement = nobody
r-heard (Asking k n h) = h
r-heard (Telling k n h) = h

-- the same retirement with other terminals heard
abbrev pub r-put : Retirement → TerminalSet → Retirement
r-put NoRetirement h' = NoRetirement
r-put (Asking k n h) h' = Asking k n h'
r-put (Telling k n h) h' = Telling k n h'

module _ (h : TerminalSet) where
  pub r-put-asking : (r : Retirement) → is_asking (r-put r h) ≡ is_asking r
  r-put-asking NoRetirement = refl
  r-put-asking (Asking k n g) = refl
  r-put-asking (Telling k n g) = refl

  pub r-put-telling : (r : Retirement) → is_telling (r-put r h) ≡ is_telling r
  r-put-telling NoRetirement = refl
  r-put-telling (Asking k n g) = refl
  r-put-telling (Telling k n g) = refl

  pub r-put-none : (r : Retirement) → is_none (r-put r h) ≡ is_none r
  r-put-none NoRetirement = refl
  r-put-none (Asking k n g) = refl
  r-put-none (Telling k n g) = refl

  pub r-put-place : (r : Retirement) → r-place (r-put r h) ≡ r-place r
  r-put-place NoRetirement = refl
  r-put-place (Asking k n g) = refl
  r-put-place (Telling k n g) = refl

  pub r-put-number : (r : Retirement) → r-number (r-put r h) ≡ r-number r
  r-put-number NoRetirement = refl
  r-put-number (Asking k n g) = refl
  r-put-number (Telling k n g) = refl

  pub r-put-heard : (r : Retirement) → is_asking r ≡ true → r-heard (r-put r h) ≡ h
  r-put-heard NoRetirement e = absurd (false≢true e)
  r-put-heard (Asking k n g) e = refl
  r-put-heard (Telling k n g) e = refl

pub asking-runs : (r : Retirement) → is_asking r ≡ true → is_none r ≡ false
asking-runs NoRetirement e = sym e
asking-runs (Asking k n g) e = refl
asking-runs (Telling k n g) e = refl

pub telling-runs : (r : Retirement) → is_telling r ≡ true → is_none r ≡ false
telling-runs NoRetirement e = sym e
telling-runs (Asking k n g) e = refl
telling-runs (Telling k n g) e = refl
