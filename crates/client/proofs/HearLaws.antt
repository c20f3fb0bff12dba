-- A reply held against its request: each way out of reading, and the request that its frame says.
-- Assumes nothing.
use mathlib.Core.Bool.{Bool, true, false, not}
use lib.Dec.{eqb}
use Rattle.std.specs.Cmp.Lexicographic.{pointwise}
use Rattle.transports.proofs.OpenedLaws.{differ}
use Rattle.transports.proofs.AnswerLaws.{first_two}
use mathlib.Core.Logic.{by_cases}
use mathlib.Core.Path.{◌≡◌, refl, sym, ap, ap₂, ◌∙◌}
use mathlib.Core.List.{List, [], ◌∷◌}
use Prim.Native.Nat.{ℕ, zero, suc, ◌-◌, ◌≤◌, ◌<◌}
use native.Mathlib.Omega.{arith}
use Rattle.std.specs.Prelude.{Some, None}
use lib.ListN.{length, get_or, take, drop, length-drop}
use lib.Seq.{sets, take-length}
use Rattle.modbus.specs.Step.{Step, stop, go, choose, ◌>>=◌, ◌≟◌, same?}
use Rattle.modbus.specs.Table.{Kind, bit, word, coils, discretes, holdings, inputs}
use Rattle.modbus.specs.Request.{code, Ask, read, write, writes, masks, swaps, fn_of, most_read, octets}
use Rattle.modbus.specs.Storage.{values}
use Rattle.modbus.specs.Paper.{proto_of}
use Rattle.modbus.specs.Frame.{tag_of}
use Rattle.modbus.specs.Decode.{Message, unit_of, Silent, no_room_quiet, IsRead, unwrap}
use Rattle.modbus.proofs.StepLaws.{pass, fail, follow, halt, pick_yes, pick_no, picked}
use Rattle.modbus.proofs.StorageLaws.{length_part}
use Rattle.client.specs.declared.Reading.{Reading}
use Rattle.client.specs.Asking.{Declined, bad_request, not_my_reply, silent, or_silent, sent_as, Reply, shows, excepted, shown_count, kind_shown, Excepts, Brings, Answers, held_in, answered, replied, understood, read_into}
use Rattle.client.specs.Hearing.{read_of, echoed, Showing, Asks, heard_from, replied_to}
use Rattle.client.proofs.BuildLaws.{or_go, or_stop}

-- ---- tags

pub tag_none : (n a b c d : ℕ) → n < 2 → tag_of (proto_of n) a b ≡ tag_of (proto_of n) c d
tag_none zero a b c d h = refl
tag_none (suc zero) a b c d h = refl
tag_none (suc (suc n)) a b c d h = absurd (omega arith)

pub tag_two : (n a b : ℕ) → 2 ≤ n → tag_of (proto_of n) a b ≡ a ∷ b ∷ []
tag_two zero a b h = absurd (omega arith)
tag_two (suc zero) a b h = absurd (omega arith)
tag_two (suc (suc n)) a b h = refl

pub tag_test : (n : ℕ) (f g : List ℕ) (r : Bool) → 2 ≤ n → 2 ≤ length f → 2 ≤ length g → r ≡ not (pointwise eqb (take 2 f) (take 2 g))
    → r ≡ choose (same? (tag_of (proto_of n) (get_or g 0 0) (get_or g 1 0)) (tag_of (proto_of n) (get_or f 0 0) (get_or f 1 0))) false true
tag_test n f g true h k l e =
    sym (pick_no _ _ _ (λ q. (differ _ _ true e).0 refl (first_two f k ∙ sym (tag_two n _ _ h) ∙ sym q ∙ tag_two n _ _ h ∙ sym (first_two g l))))
tag_test n f g false h k l e =
    sym (pick_yes _ _ _ (tag_two n _ _ h ∙ sym (first_two g l) ∙ sym ((differ _ _ false e).1 refl) ∙ first_two f k ∙ sym (tag_two n _ _ h)))

-- ---- numbers out

pub shown_into : (out : List ℕ) (s : Step Declined Reply) (vs after : List ℕ) (n : ℕ) → s ≡ go (shows vs) → n ≡ length vs → after ≡ sets out 0 vs
    → ◌≡◌ {A = Reading × List ℕ} (read_of n 0 0, after) (read_into out s)
shown_into out s vs after n e z w = ap₂ (λ (i : ℕ) (l : List ℕ). (read_of i 0 0, l)) z w ∙ sym (ap (read_into out) e)

-- ---- an exception's code

module _ {P : Type 0} (d : Dec P) (y : ℕ) where
  pub some_held : (x : ℕ) → Some x ≡ choose d (Some y) None → P × (x ≡ y)
  some_held x e =
      picked d _ _ (sym e) (λ p q. (p, let z : y ≡ x = cc in sym z)) (λ p q. let z : ◌≡◌ {A = ℕ} 0 1 = cc in absurd (omega arith))

  pub none_held : None ≡ choose d (Some y) None → ¬ P
  none_held e = picked d _ _ (sym e) (λ p q. let z : ◌≡◌ {A = ℕ} 0 1 = cc in absurd (omega arith)) (λ p q. p)

-- ---- an answer that brings cells

pub read_2000 : (k : Kind) (n : ℕ) → n ≤ most_read k → n ≤ 2000
read_2000 bit n h = h
read_2000 word n h = omega arith

module _ (sent b : List ℕ) where
  answers_brings : (a : Ask) → IsRead (fn_of a) → Answers a sent b → Brings (code (fn_of a)) (octets (kind_shown a) (shown_count a)) b
  answers_brings (read t s n) i h = h
  answers_brings (write k a v) i h = absurd i
  answers_brings (writes k s vs) i h = absurd i
  answers_brings (masks a x y) i h = absurd i
  answers_brings (swaps r n s vs) i h = h

  brings_answers : (a : Ask) → IsRead (fn_of a) → Brings (code (fn_of a)) (octets (kind_shown a) (shown_count a)) b → Answers a sent b
  brings_answers (read t s n) i h = h
  brings_answers (write k a v) i h = absurd i
  brings_answers (writes k s vs) i h = absurd i
  brings_answers (masks a x y) i h = absurd i
  brings_answers (swaps r n s vs) i h = h

  brings_held : (a : Ask) → IsRead (fn_of a) → held_in a b ≡ values (kind_shown a) (shown_count a) (drop 3 b)
  brings_held (read t s n) i = refl
  brings_held (write k a v) i = absurd i
  brings_held (writes k s vs) i = absurd i
  brings_held (masks a x y) i = absurd i
  brings_held (swaps r n s vs) i = refl

  module _ (a : Ask) (function count : ℕ) (w : Showing a function count) (k : Kind) (e : kind_shown a ≡ k) (n : ℕ) (o : n ≡ octets k count) where
    size : n ≡ octets (kind_shown a) (shown_count a)
    size = o ∙ ap₂ octets (sym e) w.counted

    pub read_unanswered : ¬ Brings function n b → answered a sent b ≡ stop not_my_reply
    read_unanswered h = fail _ _ _ (λ g. h (rw (w.numbered, size) (answers_brings a w.reads g)))

    pub read_answered : Brings function n b → answered a sent b ≡ go (shows (values k count (drop 3 b)))
    read_answered h =
        pass _ _ _ (brings_answers a w.reads (rw (w.numbered, size) at h))
        ∙ ap (λ (l : List ℕ). go (shows l))
        (brings_held a w.reads ∙ ap₂ (λ (j : Kind) (i : ℕ). values j i (drop 3 b)) e (sym w.counted))

-- the function's number tells the kind
module _ (function count : ℕ) where
  pub kind_bits : (a : Ask) → Showing a function count → function < 3 → kind_shown a ≡ bit
  kind_bits (read coils s n) w h = refl
  kind_bits (read discretes s n) w h = refl
  kind_bits (read holdings s n) w h = absurd (omega (arith, w.numbered))
  kind_bits (read inputs s n) w h = absurd (omega (arith, w.numbered))
  kind_bits (write k a v) w h = absurd w.reads
  kind_bits (writes k s vs) w h = absurd w.reads
  kind_bits (masks a x y) w h = absurd w.reads
  kind_bits (swaps r n s vs) w h = absurd (omega (arith, w.numbered))

  pub kind_words : (a : Ask) → Showing a function count → 3 ≤ function → kind_shown a ≡ word
  kind_words (read coils s n) w h = absurd (omega (arith, w.numbered))
  kind_words (read discretes s n) w h = absurd (omega (arith, w.numbered))
  kind_words (read holdings s n) w h = refl
  kind_words (read inputs s n) w h = refl
  kind_words (write k a v) w h = absurd w.reads
  kind_words (writes k s vs) w h = absurd w.reads
  kind_words (masks a x y) w h = absurd w.reads
  kind_words (swaps r n s vs) w h = refl

pub values_length : (k : Kind) (n : ℕ) (d : List ℕ) → n ≡ length (values k n d)
values_length bit n d = sym (length_part _ 0 n)
values_length word n d = sym (length_part _ 0 n)

-- ---- the body of a reply

module _ (count : ℕ) (sent : List ℕ) where
  pub shown_of : (a : Ask) → Asks a count sent → 0 < count → Showing a (get_or sent 1 0) count
  shown_of (read t s n) q h = record { reads = tt; numbered = q.numbered; counted = q.counted; most = q.most }
  shown_of (write k a v) q h = absurd (omega (arith, q.counted))
  shown_of (writes k s vs) q h = absurd (omega (arith, q.counted))
  shown_of (masks a x y) q h = absurd (omega (arith, q.counted))
  shown_of (swaps r n s vs) q h = record { reads = tt; numbered = q.numbered; counted = q.counted; most = q.most }

  pub weigh_echo : (a : Ask) (b : List ℕ) → Asks a count sent → ¬ (0 < count) → b ≡ take (echoed a) sent → answered a sent b ≡ go (shows [])
  weigh_echo (read t s n) b q h e = absurd (omega (arith, h, q.some tt))
  weigh_echo (write k a v) b q h e = pass _ _ _ e
  weigh_echo (writes k s vs) b q h e = pass _ _ _ e
  weigh_echo (masks a x y) b q h e = pass _ _ _ e
  weigh_echo (swaps r n s vs) b q h e = absurd (omega (arith, h, q.some tt))

  pub weigh_other : (a : Ask) (b : List ℕ) → Asks a count sent → ¬ (0 < count) → ¬ (b ≡ take (echoed a) sent) → answered a sent b ≡ stop not_my_reply
  weigh_other (read t s n) b q h e = absurd (omega (arith, h, q.some tt))
  weigh_other (write k a v) b q h e = fail _ _ _ e
  weigh_other (writes k s vs) b q h e = fail _ _ _ e
  weigh_other (masks a x y) b q h e = fail _ _ _ e
  weigh_other (swaps r n s vs) b q h e = absurd (omega (arith, h, q.some tt))

-- of the unit that was asked, and no exception
module _ (a : Ask) (sent b : List ℕ) where
  pub other_unit : ¬ (get_or b 0 0 ≡ get_or sent 0 0) → heard_from a sent b ≡ stop not_my_reply
  other_unit n = fail _ _ _ n

  pub own_excepted : get_or b 0 0 ≡ get_or sent 0 0 → Excepts a b → heard_from a sent b ≡ go (excepted (get_or b 2 0))
  own_excepted u h = pass _ _ _ u ∙ pick_yes _ _ _ h

  pub own_answered : get_or b 0 0 ≡ get_or sent 0 0 → ¬ Excepts a b → heard_from a sent b ≡ answered a sent b
  own_answered u h = pass _ _ _ u ∙ pick_no _ _ _ h

-- ---- the frame of a reply

pub silent_go : {A : Type 0} (s : Step Silent A) {a : A} → s ≡ go a → or_silent s ≡ go a
unfolding or_silent
silent_go s e = rw e

silent_stop : {A : Type 0} (s : Step Silent A) {o : Silent} → s ≡ stop o → or_silent s ≡ stop (silent o)
unfolding or_silent
silent_stop s e = rw e

module _ (n : ℕ) (m : Message) (a : Ask) (r : List ℕ) (room : ℕ) where
  pub replied_full : ¬ (shown_count a ≤ room) → replied n m a r room ≡ stop (silent no_room_quiet)
  replied_full h = fail _ _ _ h

  module _ (fits : shown_count a ≤ room) where
    pub replied_none : (o : Silent) → unwrap (proto_of n) r ≡ stop o → replied n m a r room ≡ stop (silent o)
    replied_none o e = pass _ _ _ fits ∙ halt _ _ (silent_stop _ e)

    module _ (reply : Message) (e : unwrap (proto_of n) r ≡ go reply) where
      pub replied_other : ¬ (reply.tag ≡ m.tag) → replied n m a r room ≡ stop not_my_reply
      replied_other h = pass _ _ _ fits ∙ follow _ _ (silent_go _ e) ∙ fail _ _ _ (λ q. h q.0)

      pub replied_body : reply.tag ≡ m.tag → replied n m a r room ≡ heard_from a m.body reply.body
      replied_body t =
          pass _ _ _ fits ∙ follow _ _ (silent_go _ e)
          ∙ by_cases (unit_of reply ≟ unit_of m)
          (λ u. pass _ _ _ (t, u) ∙ sym (pass _ _ _ u))
          (λ u. fail _ _ _ (λ q. u q.1) ∙ sym (fail _ _ _ u))

-- ---- the frame of a request

module _ (n : ℕ) (f r : List ℕ) (room : ℕ) where
  pub transport_high : ¬ (n ≤ 2) → understood n f r room ≡ stop bad_request
  unfolding understood
  transport_high h = fail _ _ _ h

  module _ (h : n ≤ 2) where
    pub unopened : (o : Silent) → unwrap (proto_of n) f ≡ stop o → understood n f r room ≡ stop bad_request
    unfolding understood sent_as
    unopened o e = pass _ _ _ h ∙ halt _ _ (halt _ _ (or_stop _ e))

    pub opened_to : (m : Message) → unwrap (proto_of n) f ≡ go m → understood n f r room ≡ replied_to n m r room
    unfolding understood sent_as
    opened_to m e =
        pass _ _ _ h ∙ ap (λ (s : Step Declined (Message × Ask)). s >>= λ q. replied n q.0 q.1 r room) (follow _ _ (or_go _ e))

-- all behind the head
pub behind_head : (b : List ℕ) → take (length b - 3) (drop 3 b) ≡ drop 3 b
behind_head b = ap (λ (n : ℕ). take n (drop 3 b)) (sym (length-drop 3 b)) ∙ take-length (drop 3 b)
