-- A built frame is the published encoding of its request, pad bits zero, and a server that it addresses serves it as exactly this request.
-- Assumes nothing.
use mathlib.Core.Path.{◌≡◌, refl, sym, ◌∙◌, subst}
use mathlib.Core.List.{List, [], ◌∷◌}
use Prim.Native.Nat.{ℕ, ◌≤◌, ◌<◌}
use native.Mathlib.Omega.{arith}
use lib.ListN.{length}
use Rattle.modbus.specs.Step.{Step, go}
use Rattle.modbus.specs.Bytes.{Bytes}
use Rattle.modbus.specs.Table.{Kind, bit, word, Tab, coils, discretes, holdings, inputs, kind_of}
use Rattle.modbus.specs.Request.{reads, many, code, Ask, read, write, writes, masks, swaps, most_read, most_written, Permitted, octets, Pads, pdu}
use Rattle.modbus.specs.Paper.{proto_of}
use Rattle.modbus.specs.Setup.{Setup, proto}
use Rattle.modbus.specs.Frame.{Framed, least, most}
use Rattle.modbus.specs.Drive.{Inside, spelled}
use Rattle.modbus.specs.declared.ModbusProto.{ModbusProto}
use Rattle.modbus.specs.declared.ModbusProto.TheVariants.{Rtu, Ascii, TcpUdp}
use Rattle.modbus.proofs.StepLaws.{bound, needed}
use Rattle.modbus.proofs.CargoLaws.{length_cargo, bytes_cargo}
use Rattle.modbus.proofs.FrameLaws.{framed_spelled}
use Rattle.demands.specs.Demand.{Request, Addressed, Serves}
use Rattle.client.specs.declared.ModbusRequest.{ModbusRequest}
use Rattle.client.specs.Asking.{Declined, every_cell, padding, frame_to, generated}
use Rattle.client.proofs.BuildLaws.{pads}
use Rattle.client.proofs.CloseLaws.{tag_length_law}
use Rattle.asking.specs.Belonging.{Says, request_to}

-- ---- an encoding is bytes, and within every transport's bounds

most_read_law : (k : Kind) → most_read k ≤ 2000
most_read_law bit = omega arith
most_read_law word = omega arith

most_octets : (k : Kind) (n : ℕ) → n ≤ most_written k → octets k n ≤ 246
most_octets bit n h = omega arith
most_octets word n h = omega arith

most_many : (k : Kind) → most_written k ≤ 1968
most_many bit = omega arith
most_many word = omega arith

read_code : (t : Tab) → code (reads t) < 256
read_code coils = omega arith
read_code discretes = omega arith
read_code holdings = omega arith
read_code inputs = omega arith

many_code : (k : Kind) → code (many k) < 256
many_code bit = omega arith
many_code word = omega arith

pub pdu_bytes : (n : ℕ) (a : Ask) (pad : List ℕ) → Permitted a → Inside (every_cell n) a → Pads a pad → Bytes (pdu a pad)
pdu_bytes n (read t s c) pad p i q =
    let m = most_read_law (kind_of t) in
    (read_code t, (omega (arith, i.0), (omega arith, (omega (arith, p.1), (omega arith, tt)))))
pdu_bytes n (write bit a v) pad p i q = (omega arith, (omega (arith, i.0), (omega arith, (omega arith, (omega arith, tt)))))
pdu_bytes n (write word a v) pad p i q = (omega arith, (omega (arith, i.0), (omega arith, (omega arith, (omega arith, tt)))))
pdu_bytes n (writes k s vs) pad p i q =
    let m = most_many k in (
      many_code k,
      (
        omega (arith, i.0, p.0),
        (
          omega arith,
          (
            omega (arith, p.1),
            (
              omega arith,
              (omega (arith, most_octets k (length vs) p.1), bytes_cargo k vs pad p.2 q),
            ),
          ),
        ),
      ),
    )
pdu_bytes n (masks a x y) pad p i q =
    (omega arith, (omega (arith, i.0), (omega arith, (omega (arith, p.0), (omega arith, (omega (arith, p.1), (omega arith, tt)))))))
pdu_bytes n (swaps r c s vs) pad p i q =
    let (one, most, some, few, fits) = p in
    (omega arith, (omega (arith, i.0), (omega arith, (omega arith, (omega arith, (omega (arith, i.1.0), (omega arith, (omega arith, (omega arith, (omega arith, bytes_cargo word vs [] fits refl))))))))))

pdu_long : (a : Ask) (pad : List ℕ) → Pads a pad → 5 ≤ length (pdu a pad)
pdu_long (read t s c) pad q = omega arith
pdu_long (write k a v) pad q = omega arith
pdu_long (writes k s vs) pad q = omega arith
pdu_long (masks a x y) pad q = omega arith
pdu_long (swaps r c s vs) pad q = omega arith

pdu_short : (a : Ask) (pad : List ℕ) → Permitted a → Pads a pad → length (pdu a pad) ≤ 252
pdu_short (read t s c) pad p q = omega arith
pdu_short (write k a v) pad p q = omega arith
pdu_short (writes k s vs) pad p q = omega (arith, most_octets k (length vs) p.1, length_cargo k vs pad q)
pdu_short (masks a x y) pad p q = omega arith
pdu_short (swaps r c s vs) pad p q = omega (arith, p.3, length_cargo word vs [] refl)

pub least_three : (p : ModbusProto) → least p ≤ 3
least_three Rtu = omega arith
least_three Ascii = omega arith
least_three TcpUdp = omega arith

pub most_253 : (p : ModbusProto) → 253 ≤ most p
most_253 Rtu = omega arith
most_253 Ascii = omega arith
most_253 TcpUdp = omega arith

-- ---- what is built

-- the request that was wanted, and its frame
pub record Built (to : ModbusRequest) (wanted : Step Declined Ask) (room : ℕ) (f : List ℕ) : Type 0 where
  pub ask : Ask
  pub asked : wanted ≡ go ask
  pub whole : f ≡ frame_to to ask
  pub fits : length f ≤ room
  pub says : Says to.proto f (request_to to ask)

module _ (to : ModbusRequest) (unit : to.unit_id < 256) (wanted : Step Declined Ask) (room : ℕ) (f : List ℕ) where
  pub built : generated to wanted room ≡ go f → Built to wanted room f
  unfolding generated
  built e =
      needed _ _ _ e λ transport e₁.
      bound _ _ e₁ λ a asked e₂.
      needed _ _ _ e₂ λ permitted e₃.
      needed _ _ _ e₃ λ inside e₄.
      needed _ _ _ e₄ λ fits e₅.
      let w : frame_to to a ≡ f = cc in
      let p = proto_of to.proto in
      let long = pdu_long a (padding a) (pads a) in
      let short = pdu_short a (padding a) permitted (pads a) in
      record {
        ask = a;
        asked = asked;
        whole = sym w;
        fits = subst (λ (l : List ℕ). length l ≤ room) w fits;
        says =
            record {
              transport = transport;
              permitted = permitted;
              inside = inside;
              encoded = (
                pdu a (padding a),
                (padding a, pads a, refl),
                record {
                  bytes = (unit, pdu_bytes to.proto a (padding a) permitted inside (pads a));
                  low = omega (arith, least_three p);
                  high = omega (arith, most_253 p);
                  tagged = tag_length_law p _ _;
                  whole = sym w;
                },
              );
            };
      }

-- what the client writes is in capitals, and so the same under every switch of a server
pub says_capital : (n : ℕ) (f : List ℕ) (q : Request) → Says n f q → (s : Setup) → s.transport ≡ n → spelled s f ≡ f
says_capital n f q h s e =
    let (l, encodes, framed) = h.encoded in
    framed_spelled (proto s) s.hex q.tag (q.unit ∷ l) f (subst (λ (k : ℕ). Framed (proto_of k) q.tag (q.unit ∷ l) f) (sym e) framed)

-- a server of that transport which has the cells, and which it addresses, serves it as exactly this request, strict or lenient
pub says_served : (n : ℕ) (f : List ℕ) (q : Request) → Says n f q → (s : Setup) → s.transport ≡ n → Inside s q.ask → Addressed s q → Serves s f q
says_served n f q h s e i a =
    let (l, encodes, framed) = h.encoded in
    record {
      permitted = h.permitted;
      encoded = (l, encodes, rw (says_capital n f q h s e) (subst (λ (k : ℕ). Framed (proto_of k) q.tag (q.unit ∷ l) f) (sym e) framed));
      inside = i;
      addressed = a;
    }

pub built_served : (to : ModbusRequest) → to.unit_id < 256 → (wanted : Step Declined Ask) (room : ℕ) (f : List ℕ) (e : generated to wanted room ≡ go f)
    → (a : Ask) → wanted ≡ go a → (s : Setup) → s.transport ≡ to.proto → Inside s a → Addressed s (request_to to a) → Serves s f (request_to to a)
built_served to unit wanted room f e a w s k i d =
    let b = built to unit wanted room f e in
    let z : go b.ask ≡ go a = sym b.asked ∙ w in
    let x : b.ask ≡ a = cc in
    says_served to.proto f (request_to to a) (subst (λ (c : Ask). Says to.proto f (request_to to c)) x b.says) s k i d
