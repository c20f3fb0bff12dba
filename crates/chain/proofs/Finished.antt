-- What finalize_response makes of a response, and what is then sent.
-- Assumes nothing.
use mathlib.Core.Bool.{Bool, true, false}
use mathlib.Core.Path.{◌≡◌, refl, sym, ap, ◌∙◌, subst}
use mathlib.Core.List.{List, [], ◌∷◌, ◌++◌, append_assoc}
use Prim.Native.Nat.{ℕ, ◌≤◌}
use native.Mathlib.Omega.{arith}
use lib.ListN.{length, length-append}
use Rattle.modbus.specs.Step.{Step}
use Rattle.modbus.specs.Ported.{Ported}
use Rattle.modbus.specs.Request.{exception}
use Rattle.modbus.specs.Frame.{tag_length}
use Rattle.modbus.specs.declared.ModbusProto.{ModbusProto}
use Rattle.modbus.specs.declared.ModbusProto.TheVariants.{Rtu, Ascii, TcpUdp}
use Rattle.modbus.proofs.StepLaws.{follow}
use Rattle.outgoing.specs.Grow.{Response, Short, growth, length_field}
use Rattle.frame.specs.State.{well}
use Rattle.frame.specs.declared.ModbusFrame.{ModbusFrame}
use Rattle.process.specs.Process.{adding, wrote, finalized}
use Rattle.chain.specs.Chain.{chained_to, from_processed, from_wrote, to_send, with_tables, fullest, spoken}
use Rattle.chain.proofs.Response.{Bears, except_bears, header, closed, seal_bears, copied, fullest_holds}
use Rattle.chain.proofs.Parsed.{ready, faulty}

-- a response is finalized and sent
pub response_ends : (p : ModbusProto) (unit : ℕ) (readonly : Bool) (fn : Ported) (start reg count n : ℕ) (tag body : List ℕ)
    (c h : List ℕ) (r : Response)
    → Bears n (header p tag ++ length_field p (length body) ++ body) r → length tag ≡ tag_length p → length body ≤ 253
    → fullest p ≤ n
    → from_wrote (wrote (well (ready p unit true readonly fn start reg count r.len) r.out) c h) ≡ chained_to 0
    (closed p tag body) c h
unfolding finalized
response_ends p unit readonly fn start reg count n tag body c h r s t b room =
    let (q, e, s₁) = seal_bears n p tag body r s t b room in
    let z = ready p unit true readonly fn start reg count in
    ap (λ (x : Step Short Response). with_tables (wrote (well (z r.len) r.out) c h)
    (to_send (adding (z r.len) (growth x))))
    (follow _ _ refl ∙ e)
    ∙ ap (λ (x : List ℕ). chained_to 0 x c h) s₁.front

header_length : (p : ModbusProto) (tag : List ℕ) → length tag ≡ tag_length p → length (header p tag) ≡ copied p
header_length Rtu tag e = refl
header_length Ascii tag e = refl
header_length TcpUdp tag e = length-append tag (0 ∷ 0 ∷ []) ∙ omega arith

-- an exception is added, finalized and sent, unless the request is a broadcast
pub fault_ends : (s : ModbusFrame) (code n : ℕ) (tag : List ℕ) (r : Response) → length tag ≡ tag_length s.proto
    → s.responding_to_fn ≤ 127
    → fullest s.proto ≤ n → (broadcast : Bool) → (broadcast ≡ false → Bears n (header s.proto tag) r)
    → from_processed (well (faulty code broadcast s r.len) r.out)
    ≡ (0, spoken broadcast (closed s.proto tag (s.unit_id ∷ exception s.responding_to_fn code)))
unfolding finalized
fault_ends s code n tag r t low room true bears = refl
fault_ends s code n tag r t low room false bears =
    let p = s.proto in
    let body = s.unit_id ∷ exception s.responding_to_fn code in
    let (r₁, e, s₁) =
    except_bears n (header p tag) p r (bears refl) s.unit_id s.responding_to_fn code low
    (omega (arith, header_length p tag t, fullest_holds p)) in
    let (q, f, s₂) =
    seal_bears n p tag body r₁
    (subst (λ (x : List ℕ). Bears n x r₁) (sym (append_assoc (header p tag) (length_field p 3) body)) s₁) t
    (omega arith) room in
    ap (λ (x : Step Short Response). to_send (adding (faulty code false s r.len) (growth x))) (follow _ _ e ∙ f)
    ∙ ap (λ (x : List ℕ). (0, x)) s₂.front
