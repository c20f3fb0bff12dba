-- Document 01, module 2: ASCII text read into a frame buffer, and bytes written as ASCII text.
-- Assumes nothing.
use Rattle.std.specs.Prelude.{◌≡◌, ℕ, suc, ◌+◌, ◌*◌, Bool, true, false, ◌⊎◌, List, [], ◌∷◌, length, take, drop}
use Rattle.std.proofs.lemmas.List.Edits.{sets}
use Rattle.modbus.specs.Step.{Step, stop, go, ◌>>=◌, ◌>>◌, need, choose, ◌≤?◌, ◌≟◌, ◌or?◌, not?}
use Rattle.modbus.specs.Paper.{told}
use Rattle.modbus.specs.Hex.{undigit, spelt, text}
use Rattle.modbus.specs.Frame.{line}
use Rattle.modbus.specs.declared.ErrorKind.{ErrorKind}
use Rattle.modbus.specs.declared.ErrorKind.TheVariants.{OOB}

-- how a reading ends
pub data Ending : Type 0 where
  finished : Ending
  refused : ErrorKind → Ending

-- what a reading comes to: the bytes decoded before it ended stay, however it ended
pub record Decoded : Type 0 where
  pub bytes : List ℕ
  pub ending : Ending

abbrev pub ends : Ending → Decoded
ends e = record { bytes = []; ending = e }

unfoldable pub onward : Step Ending ℕ → Decoded → Decoded
onward (stop e) d = ends e
onward (go b) d = record { bytes = b ∷ d.bytes; ending = d.ending }

-- the stop bytes LF, CR, NUL
abbrev pub StopByte : ℕ → Type 0
StopByte c = (c ≡ 10) ⊎ (c ≡ 13) ⊎ (c ≡ 0)

abbrev pub stop_byte? : (c : ℕ) → Dec (StopByte c)
stop_byte? c = (c ≟ 10) or? (c ≟ 13) or? (c ≟ 0)

unfoldable pub or_refused : Step ErrorKind ℕ → Step Ending ℕ
or_refused (go v) = go v
or_refused (stop k) = stop (refused k)

-- the second digit of a pair: a digit alone at the end of the data is OOB
unfoldable pub second : List ℕ → Step ErrorKind ℕ
second [] = stop OOB
second (l ∷ t) = undigit l

-- two digits, where no stop byte stands
unfoldable pub pair : ℕ → List ℕ → Step Ending ℕ
pair h t = do
  need (not? (stop_byte? h)) finished
  a ← or_refused (undigit h)
  b ← or_refused (second t)
  go (a * 16 + b)

-- the byte for place `at` of a buffer of `room` bytes: the position is tested against 255 before the stop bytes
unfoldable pub placed : ℕ → ℕ → ℕ → List ℕ → Step Ending ℕ
placed room at h t = do
  need (not? (at ≟ 255)) (refused OOB)
  b ← pair h t
  need (suc at ≤? room) (refused OOB)
  go b

-- the bytes for the places from `at` on; `end` is how the end of the text ends the reading
unfoldable pub decode : ℕ → Ending → ℕ → List ℕ → Decoded
decode room end at [] = ends end
decode room end at (h ∷ []) = onward (placed room at h []) (ends end)
decode room end at (h ∷ l ∷ t) = onward (placed room at h (l ∷ [])) (decode room end (suc at) t)

-- the first n bytes of the data are the text, without a colon that they may start with; reading past the data is OOB, and so is
-- reading none
unfoldable pub text_parsed : List ℕ → ℕ → ℕ → ℕ → Decoded
text_parsed [] n room at = ends (refused OOB)
text_parsed (c ∷ l) n room at =
    decode room (choose (n ≤? length (c ∷ l)) finished (refused OOB)) at
    (drop (choose (c ≟ 58) 1 0) (take n (c ∷ l)))

-- the answer: how many bytes were decoded, or the refusal
abbrev pub counted : Decoded → Ending → Step ErrorKind ℕ
counted d finished = go (length d.bytes)
counted d (refused k) = stop k

-- the answer and the buffer: the decoded bytes stand from the position on, and nothing else of it changes
abbrev pub parsed_into : List ℕ → ℕ → List ℕ → ℕ → (ℕ × ℕ) × List ℕ
parsed_into l n buf at =
    let d = text_parsed l n (length buf) at in
    (told (counted d d.ending), sets buf at d.bytes)

-- under a switch (document 02, 2026-06), 0 strict or 1 lenient: another is OOB before all else, the buffer as lent
abbrev pub parsed_under : ℕ → List ℕ → ℕ → List ℕ → ℕ → (ℕ × ℕ) × List ℕ
parsed_under hex l n buf at = choose (hex ≤? 1) (parsed_into (spelt hex l) n buf at) (told (stop OOB), buf)

-- the text of bytes put at a place of a lent slice: whether it ends within the slice, and nothing is put where it does not
abbrev pub put_text : List ℕ → ℕ → List ℕ → Bool × List ℕ
put_text s at l = choose (at + length (text l) ≤? length s) (true, sets s at (text l)) (false, s)

-- a line written into a lent slice: its length, or OOB where the slice ends before it; what came before that end stands
abbrev pub generated_into : List ℕ → List ℕ → (ℕ × ℕ) × List ℕ
generated_into l buf =
    (told (need (length (line l) ≤? length buf) OOB >> go (length (line l))), sets buf 0 (line l))
