-- Each contract leaves one possible result, and one possible content of the buffer that is lent.
-- Assumes nothing.
use mathlib.Core.Path.{refl, sym, ap, ◌∙◌}
use mathlib.Core.List.{List}
use Prim.Native.Nat.{ℕ}
use Rattle.modbus.specs.declared.Answer.{Answer}
use Rattle.modbus.proofs.Unique.{Unique}
use Rattle.client.specs.declared.Reading.{Reading}
use Rattle.client.proofs.ModbusRequest.new.Kinds as new-kinds
use Rattle.client.proofs.ModbusRequest.new.Reads as new-reads
use Rattle.client.proofs.ModbusRequest.new_tcp_udp.Kinds as new-tcp-udp-kinds
use Rattle.client.proofs.ModbusRequest.new_tcp_udp.Reads as new-tcp-udp-reads
use Rattle.client.proofs.ModbusRequest.generate_get.Kinds as generate-get-kinds
use Rattle.client.proofs.ModbusRequest.generate_get.Reads as generate-get-reads
use Rattle.client.proofs.ModbusRequest.generate_set.Kinds as generate-set-kinds
use Rattle.client.proofs.ModbusRequest.generate_set.Reads as generate-set-reads
use Rattle.client.proofs.ModbusRequest.generate_mask.Kinds as generate-mask-kinds
use Rattle.client.proofs.ModbusRequest.generate_mask.Reads as generate-mask-reads
use Rattle.client.proofs.ModbusRequest.generate_set_get.Kinds as generate-set-get-kinds
use Rattle.client.proofs.ModbusRequest.generate_set_get.Reads as generate-set-get-reads
use Rattle.client.proofs.parse_response.Kinds as parse-response-kinds
use Rattle.client.proofs.parse_response.Reads as parse-response-reads

pub new : Unique 0 new-kinds.ps new-kinds.r new-reads.Post
new κs a x y u v p q = (p ∙ sym q, refl)

pub new_tcp_udp : Unique 0 new-tcp-udp-kinds.ps new-tcp-udp-kinds.r new-tcp-udp-reads.Post
new_tcp_udp κs a x y u v p q = (p ∙ sym q, refl)

pub generate_get : Unique 1 generate-get-kinds.ps generate-get-kinds.r generate-get-reads.Post
generate_get κs a x y u v p q =
    let e = p ∙ sym q in (
      ap (λ (t : Answer × List ℕ). t.0) e,
      ap (λ (t : Answer × List ℕ). (u.0, (u.1.0, (u.1.1.0, (u.1.1.1.0, (t.1, u.1.1.1.1.1)))))) e,
    )

pub generate_set : Unique 2 generate-set-kinds.ps generate-set-kinds.r generate-set-reads.Post
generate_set κs a x y u v p q =
    let e = p ∙ sym q in (
      ap (λ (t : Answer × List ℕ). t.0) e,
      ap (λ (t : Answer × List ℕ). (u.0, (u.1.0, (u.1.1.0, (u.1.1.1.0, (t.1, u.1.1.1.1.1)))))) e,
    )

pub generate_mask : Unique 1 generate-mask-kinds.ps generate-mask-kinds.r generate-mask-reads.Post
generate_mask κs a x y u v p q =
    let e = p ∙ sym q in (
      ap (λ (t : Answer × List ℕ). t.0) e,
      ap (λ (t : Answer × List ℕ). (u.0, (u.1.0, (u.1.1.0, (u.1.1.1.0, (t.1, u.1.1.1.1.1)))))) e,
    )

pub generate_set_get : Unique 2 generate-set-get-kinds.ps generate-set-get-kinds.r generate-set-get-reads.Post
generate_set_get κs a x y u v p q =
    let e = p ∙ sym q in (
      ap (λ (t : Answer × List ℕ). t.0) e,
      ap (λ (t : Answer × List ℕ). (u.0, (u.1.0, (u.1.1.0, (u.1.1.1.0, (u.1.1.1.1.0, (t.1, u.1.1.1.1.1.1))))))) e,
    )

pub parse_response : Unique 3 parse-response-kinds.ps parse-response-kinds.r parse-response-reads.Post
parse_response κs a x y u v p q =
    let e = p ∙ sym q in (
      ap (λ (t : Reading × List ℕ). t.0) e,
      ap (λ (t : Reading × List ℕ). (u.0, (u.1.0, (u.1.1.0, (t.1, u.1.1.1.1))))) e,
    )
