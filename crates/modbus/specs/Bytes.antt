-- Numbers as bytes (APP 4.2: a number wider than a byte is sent with its most significant byte first).
-- Assumes nothing.
use Rattle.std.specs.Prelude.{List, [], ◌∷◌, ℕ, suc, ◌+◌, ◌*◌, ◌/◌, ◌%◌, ◌<◌, get_or}

abbrev pub All : (ℕ → Type 0) → List ℕ → Type 0
All P [] = Unit {0}
All P (x ∷ l) = P x × All P l

-- every element is a byte
abbrev pub Bytes : List ℕ → Type 0
Bytes l = All (λ b. b < 256) l

-- a 16-bit number as two bytes, and read back at a place; a byte outside the list counts as 0
abbrev pub two : ℕ → List ℕ
two n = n / 256 ∷ n % 256 ∷ []

abbrev pub word_at : List ℕ → ℕ → ℕ
word_at l i = get_or l i 0 * 256 + get_or l (suc i) 0

-- registers, one after the other
unfoldable pub twos : List ℕ → List ℕ
twos [] = []
twos (v ∷ vs) = v / 256 ∷ v % 256 ∷ twos vs

-- coils, eight to a byte, the first lowest (APP 6.1); what does not fill a byte falls away
unfoldable pub pack : List ℕ → List ℕ
pack [] = []
pack (a ∷ []) = []
pack (a ∷ b ∷ []) = []
pack (a ∷ b ∷ c ∷ []) = []
pack (a ∷ b ∷ c ∷ d ∷ []) = []
pack (a ∷ b ∷ c ∷ d ∷ e ∷ []) = []
pack (a ∷ b ∷ c ∷ d ∷ e ∷ f ∷ []) = []
pack (a ∷ b ∷ c ∷ d ∷ e ∷ f ∷ g ∷ []) = []
pack (a ∷ b ∷ c ∷ d ∷ e ∷ f ∷ g ∷ h ∷ r) =
    (a + 2 * (b + 2 * (c + 2 * (d + 2 * (e + 2 * (f + 2 * (g + 2 * h))))))) ∷ pack r
